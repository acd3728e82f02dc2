-- Schedules after which everything continues alike.
use Rattle.std.specs.Prelude.{◌≡◌, ℕ, ◌+◌, ◌<◌, Bool, true, false, if◌then◌else◌, List, ◌++◌, length, map, fold, option_map}
use Rattle.std.specs.List.{list_all}
use Rattle.hp_units.specs.History.{Effect, Looks, Undoes, Cancels, Acts, effect_of, is_refused, net_of, run}
use Rattle.hp_units.specs.LayoutParts.{LayoutParts}
use Rattle.hp_units.specs.Marks.{sole_at, tag_of}
use Rattle.hp_units.specs.Memory.{Memory}
use Rattle.hp_units.specs.Receipts.{receipts_of}
use Rattle.hp_units.specs.declared.events.Event.{Event}
use Rattle.hp_units.specs.declared.events.Event.TheVariants.{Read, Begin, DrainFor, Migrate, Cancel, UndoAfter}
use Rattle.hp_units.specs.declared.replies.Receipt.{Receipt}
use Rattle.hp_units.specs.declared.replies.Record.{Record}
use Rattle.hp_schedules.specs.Openings.{AreOpen, Opening}
use Rattle.hp_schedules.specs.Schedules.{Setting}
use Rattle.hp_schedules.specs.Scripts.{own_operation}
use Rattle.hp_schedules.specs.declared.scripts.OwnWork.TheVariants.{Latest, Nth, Free}
use Rattle.hp_schedules.specs.declared.scripts.Step.{Step}
use Rattle.hp_schedules.specs.declared.scripts.Step.TheVariants.{Ask, Own, Carry}

-- an event with this effect drops no earlier steps, except that a Cancel may drop the steps of its
-- own operation
abbrev pub leaves_steps : Effect → Bool
leaves_steps Looks = true
leaves_steps (Undoes serial) = false
leaves_steps (Cancels op) = true
leaves_steps Acts = true

-- the line neither undoes steps by their serials, nor works on the operation of its processor's
-- n-th Begin. It may name an operation by a number that is in the script
abbrev pub is_mergeable_line : Step → Bool
is_mergeable_line (Ask event) = leaves_steps (effect_of event)
is_mergeable_line (Own (Latest work)) = true
is_mergeable_line (Own (Nth nth work)) = false
is_mergeable_line (Own (Free nth)) = true
is_mergeable_line (Carry plan turns) = true

-- all lines of a script are mergeable
abbrev pub is_mergeable : List Step → Bool
is_mergeable lines = list_all is_mergeable_line lines

-- all lines of all scripts are mergeable. Then a search may treat two places that continue alike as
-- one
abbrev pub AreMergeable : List (List Step) → Type 0
AreMergeable scripts = list_all is_mergeable scripts ≡ true

-- the receipt with 0 for its serial
abbrev pub unnumbered : Receipt → Receipt
unnumbered r = record { serial = 0; event = r.event; reply = r.reply }

-- a processor's receipts without their serials
abbrev pub exchanges : (cpu : ℕ) → List Record → List Receipt
exchanges cpu news = map unnumbered (receipts_of cpu news)

-- no later Cancel can drop any of these steps. Whether an operation is sole (only its own drains
-- and migrations follow its Begin) depends only on later steps
abbrev pub IsClosed : List Record → Type 0
IsClosed steps =
    (op : ℕ) (tail : List Record)
    → sole_at op (map tag_of (steps ++ tail))
    ≡ option_map (λ place. length steps + place) (sole_at op (map tag_of tail))

-- two nets (lists of steps not undone) lead to the same state. After both, Cancels can undo the
-- same operations, and lead back to the same states
pub record AreJoined (l : LayoutParts) (base : Memory) (first second : List Record) : Type 0 where
  pub openings : List Opening
  pub first_open : AreOpen l base first openings
  pub second_open : AreOpen l base second openings
  pub state : run l base first ≡ run l base second

-- h and k have equally many records, and their nets (lists of steps not undone) lead to the same
-- state (AreJoined). Each processor made the same requests and got the same replies, and the last
-- operation that it began has the same number
pub record AreAlike (g : Setting) (h k : List Record) : Type 0 where
  pub calls : length h ≡ length k
  pub exchanged : (cpu : ℕ) → cpu < length g.scripts → exchanges cpu h ≡ exchanges cpu k
  pub begun : (cpu : ℕ) → cpu < length g.scripts
      → own_operation (receipts_of cpu h) ≡ own_operation (receipts_of cpu k)
  pub nets : AreJoined g.layout g.base (net_of (g.start ++ h)) (net_of (g.start ++ k))

-- whether no later Cancel can drop the steps so far, including this event; `was` is the answer
-- before the event. A Begin, a Cancel or an UndoAfter makes it false, a Read, a DrainFor or a
-- Migrate leaves it as it was, and any other event makes it true
abbrev pub closed_by : (was : Bool) → Event → Bool
closed_by was (Read owner page index) = was
closed_by was (DrainFor op cpu) = was
closed_by was (Migrate op) = was
closed_by was (Begin plan) = false
closed_by was (Cancel op) = false
closed_by was (UndoAfter serial) = false
closed_by was event = true

-- `closed_by` for a record: a refused event changes nothing
abbrev pub closed_after : (was : Bool) → Record → Bool
closed_after was r = if is_refused r.reply then was else closed_by was r.event

-- whether the events show that no later Cancel can drop any of the records
abbrev pub is_closed : List Record → Bool
is_closed history = fold closed_after true history
