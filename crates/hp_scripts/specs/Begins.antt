-- The operation that a processor began last before the scripts. The number 0 names it in the
-- processor's script, until the script itself begins an operation.
use Rattle.std.specs.Prelude.{ℕ, ◌==◌, Bool, true, false, if◌then◌else◌, List, [], ◌∷◌, ◌&&◌, fold}
use Rattle.std.specs.List.{flat_map}
use Rattle.hp_units.specs.Marks.{is_opening, mark_of}
use Rattle.hp_units.specs.declared.replies.Record.{Record}
use Rattle.hp_scenario.specs.Asked as asks
use Rattle.hp_scenario.specs.declared.lines.Line.{Line}
use Rattle.hp_scripts.specs.declared.begins.Begin.{Begin}

-- ---- the Begins in records

-- the Begin in a record, if there is one, refused or not
abbrev pub begin_of : Record → List Begin
begin_of r = if is_opening (mark_of r.event) then record { cpu = r.cpu; serial = r.serial } ∷ [] else []

-- the Begins in records, refused or not
abbrev pub begins_in : List Record → List Begin
begins_in records = flat_map begin_of records

-- the serial of a processor's last Begin, after one more Begin `b`: that of `b` if the processor made
-- it, and otherwise still `op`
abbrev pub later_begun : (cpu : ℕ) → (op : ℕ) → Begin → ℕ
later_begun cpu op b = if b.cpu == cpu then b.serial else op

-- the serial of a processor's last Begin, or 0 if it made none
abbrev pub last_begun : (cpu : ℕ) → List Begin → ℕ
last_begun cpu begins = fold (later_begun cpu) 0 begins

-- ---- the lines that begin an operation

-- the line's work begins an operation
abbrev pub asked_begins : asks.Meaning → Bool
asked_begins (asks.event e) = is_opening (mark_of e)
asked_begins (asks.plan items turns) = true
asked_begins (asks.not_taken fault) = false
asked_begins (asks.cat path) = false
asked_begins asks.seal = false

-- the line is one of the processor's lines, and it begins an operation
abbrev pub line_begins : (cpu : ℕ) → Line → Bool
line_begins cpu line = (line.cpu == cpu) && asked_begins (asks.asked_by line.work)
