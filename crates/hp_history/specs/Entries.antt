-- The journal's entries: their steps, where their deltas start on the tape, and what they show.
use Rattle.std.specs.Prelude.{ℕ, zero, suc, ◌≡◌, ◌+◌, ◌/◌, ◌%◌, ◌^◌, ◌<◌, ◌≤◌, List, [], ◌∷◌, ◌++◌, Some, length, map, slice_get, take}
use Rattle.std.specs.Option.{option_map_or}
use Rattle.hp_units.specs.History.{net_of, run}
use Rattle.hp_units.specs.declared.marks.Mark.{Mark}
use Rattle.hp_units.specs.declared.marks.Mark.TheVariants.{Opens, Works, Other}
use Rattle.hp_units.specs.declared.marks.Tag.{Tag}
use Rattle.hp_units.specs.declared.replies.Record.{Record}
use Rattle.hp_tape.specs.Bounds.{delta_bound}
use Rattle.hp_tape.specs.declared.deltas.Delta.{Delta}
use Rattle.hp_memory.specs.Memory.{LeadsBack}
use Rattle.hp_history.specs.Course.{CourseValue}
use Rattle.hp_history.specs.declared.entries.Entry.{Entry}

-- ---- their steps

-- the mark (what a step is to an operation) that an entry stores as `kind` and `op`. Any
-- `kind` above 1 is work
abbrev pub mark_coded : (kind op : ℕ) → Mark
mark_coded zero op = Other
mark_coded (suc zero) op = Opens
mark_coded (suc (suc n)) op = Works op

-- the tag of an entry's step: its serial and its mark; `before` records come before the base
abbrev pub tag_in : (before : ℕ) → Entry → Tag
tag_in before e = record { serial = before + e.code / 4 + 1; mark = mark_coded (e.code % 4) e.op }

-- the tags of the entries' steps, in order
abbrev pub tags_of : (before : ℕ) → List Entry → List Tag
tags_of before entries = map (tag_in before) entries

-- the entries' serials are all below 2^64
abbrev pub AreNumbered : (before : ℕ) → List Entry → Type 0
AreNumbered before entries = (j : ℕ) (e : Entry) → slice_get entries j ≡ Some e
    → before + e.code / 4 + 1 < 2 ^ 64

-- ---- where their deltas start

-- where the deltas of step `step` start on a tape of `deltas` deltas, or the end of the tape if there
-- is no such step
abbrev pub start_of : List Entry → (deltas step : ℕ) → ℕ
start_of entries deltas step = option_map_or (λ e. e.start) (slice_get entries step) deltas

-- ---- what they show

-- the deltas undo step `at`, and are no more than its bound. Latest first, they lead from the state
-- after the step back to the state before it, and each fits when its turn comes
pub record IsEntry (c : CourseValue) (at : ℕ) (deltas : List Delta) : Type 0 where
  pub made : Record
  pub here : slice_get (net_of c.history) at ≡ Some made
  pub few : length deltas ≤ delta_bound c.layout (run c.layout c.base (take at (net_of c.history))) made.event
  pub leads : LeadsBack c.layout deltas (run c.layout c.base (take (at + 1) (net_of c.history)))
      (run c.layout c.base (take at (net_of c.history)))

-- the deltas lead from the present state back to the state before step `at`; if there is no such step,
-- to the state after all steps
abbrev pub IsWayBack : CourseValue → (at : ℕ) → List Delta → Type 0
IsWayBack c at deltas = LeadsBack c.layout deltas c.state (run c.layout c.base (take at (net_of c.history)))

-- ---- what going back undoes

-- the deltas of several steps, joined in the order of the steps
abbrev pub joined : List (List Delta) → List Delta
joined [] = []
joined (deltas ∷ steps) = deltas ++ joined steps

-- the latest steps are undone, and the first `keep` are left. Latest first, the deltas of the undone
-- steps lead from the old state back to the new one, and each fits when its turn comes
pub record IsUndone (old new : CourseValue) : Type 0 where
  pub keep : ℕ
  pub entries : List (List Delta)
  pub dropped : keep + length entries ≡ length (net_of old.history)
  pub net : net_of new.history ≡ take keep (net_of old.history)
  pub each : (j : ℕ) (deltas : List Delta) → slice_get entries j ≡ Some deltas → IsEntry old (keep + j) deltas
  pub leads : LeadsBack old.layout (joined entries) old.state new.state
