-- The results of lines that a name can be bound to, and their numbers.
use Rattle.std.specs.Prelude.{ℕ, List, codes, Bool, true, false, Option, Some, None, if◌then◌else◌}
use Rattle.std.specs.Str.{bytes_eq}
use Rattle.hp_units.specs.declared.events.Event.{Event}
use Rattle.hp_units.specs.declared.events.Event.TheVariants.{Begin, KernelAlloc}
use Rattle.hp_units.specs.declared.replies.Reply.{Reply}
use Rattle.hp_units.specs.declared.replies.Reply.TheVariants as reply
use Rattle.hp_scripts.specs.declared.results.NameUse.{NameUse}
use Rattle.hp_scripts.specs.declared.results.NameUse.TheVariants.{Gives, Takes}
use Rattle.hp_scripts.specs.declared.results.ResultKind.{ResultKind}
use Rattle.hp_scripts.specs.declared.results.ResultKind.TheVariants.{Operation, Frame}

-- ---- the lines that may have names

-- the use of names in lines of this verb: either the result gets a name, or a name takes the place
-- of a result's number after the verb. None if the lines use no names
unfoldable pub use_of_verb : List ℕ → Option NameUse
use_of_verb verb =
    if bytes_eq verb (codes "begin") then Some (Gives Operation)
    else (if bytes_eq verb (codes "kalloc") then Some (Gives Frame)
    else (if bytes_eq verb (codes "drainfor") then Some (Takes Operation)
    else (if bytes_eq verb (codes "migrate") then Some (Takes Operation)
    else (if bytes_eq verb (codes "commit") then Some (Takes Operation)
    else (if bytes_eq verb (codes "cancel") then Some (Takes Operation)
    else (if bytes_eq verb (codes "kfree") then Some (Takes Frame)
    else None))))))

-- the two kinds are the same
abbrev pub same_kind : ResultKind → ResultKind → Bool
same_kind Operation Operation = true
same_kind Operation Frame = false
same_kind Frame Operation = false
same_kind Frame Frame = true

-- ---- numbers

-- a frame that no layout has
abbrev pub no_frame : ℕ
no_frame = 4294967295

-- an operation that no machine has
abbrev pub no_operation : ℕ
no_operation = 18446744073709551615

-- the frame in a reply, or `no_frame`
abbrev pub frame_number : Reply → ℕ
frame_number (reply.Frame frame) = frame
frame_number r = no_frame

-- the number of a call's result. A Begin's is its serial, which numbers the operation, even if it
-- was refused. A KernelAlloc's is its frame, or `no_frame` if it was refused. Any other call's is 0
abbrev pub result_number : Event → (serial : ℕ) → Reply → ℕ
result_number (Begin plan) serial r = serial
result_number (KernelAlloc order) serial r = frame_number r
result_number e serial r = 0

-- the number of the result of a call that made no record, because the history was full
abbrev pub missing_number : Event → ℕ
missing_number (Begin plan) = no_operation
missing_number (KernelAlloc order) = no_frame
missing_number e = 0
