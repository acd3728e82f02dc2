-- Interned lists of openings (operations that a Cancel can undo completely), and the meaning of a
-- list's number at a place.
use Rattle.std.specs.Prelude.{◌≡◌, ℕ, List, [], ◌∷◌, ◌++◌, Option, Some, None, map, slice_get}
use Rattle.hp_states.specs.Codes.{IsCoded}
use Rattle.hp_units.specs.History.{net_of, value_of}
use Rattle.hp_units.specs.LayoutParts.{LayoutParts}
use Rattle.hp_units.specs.declared.replies.Record.{Record}
use Rattle.hp_laws.specs.Renumbered.{renumbered}
use Rattle.hp_schedules.specs.Openings.{AreOpen, NumberedOpening, Opening, after_cancel, after_work, renumbered_opening}
use Rattle.hp_schedules.specs.Schedules.{Setting}
use Rattle.hp_schedules.specs.declared.changes.Change.{Change}
use Rattle.hp_schedules.specs.declared.changes.Change.TheVariants.{Stays, Begins, Works, Cancels, Ends}
use Rattle.hp_states.specs.declared.openings.OpeningEntry.{OpeningEntry}
use Rattle.hp_states.specs.Interned.{IsMadeOf, lists_from}

-- ---- lists of openings

-- the operation in an entry, with the number of the state before its Begin
abbrev pub opening_of : OpeningEntry → NumberedOpening
opening_of e = record { op = e.op; memory = e.state }

-- the list with the entry's operation in front
abbrev pub in_front : OpeningEntry → List NumberedOpening → List NumberedOpening
in_front e os = opening_of e ∷ os

-- the number of the list that an entry extends
abbrev pub entry_below : OpeningEntry → ℕ
entry_below e = e.below

-- the empty list, and one per entry: an entry puts its operation in front of an earlier list
abbrev pub openings_of : List OpeningEntry → List (List NumberedOpening)
openings_of entries = lists_from entry_below in_front entries

-- the entry made the list with this number
abbrev pub IsEntryOf : List (List NumberedOpening) → (number : ℕ) → OpeningEntry → Type 0
IsEntryOf lists number entry = IsMadeOf entry_below in_front lists number entry

-- list `number` of `new` is list `below` of `old` with the operation `op` in front; `state` is the
-- number of the state before its Begin
abbrev pub IsInFront : (old new : List (List NumberedOpening)) → (op state below number : ℕ) → Type 0
IsInFront old new op state below number =
    (os : List NumberedOpening) → slice_get old below ≡ Some os
    → slice_get new number ≡ Some (record { op = op; memory = state } ∷ os)

-- either `number` is None; or `was` and `from` are known, and `number` is that of list `was` with the
-- operation `op` in front. `from` is the number of the state before its Begin
abbrev pub IsBegun : (old new : List (List NumberedOpening)) → (op : ℕ)
    → (from was number : Option ℕ) → Type 0
IsBegun old new op from was None = Unit {0}
IsBegun old new op from was (Some n) =
    (below : ℕ) × (state : ℕ) × (was ≡ Some below) × (from ≡ Some state) × IsInFront old new op state below n

-- `number` is that of the list that `f` makes of list `was`; it is None if `was` is None
abbrev pub IsMadeBy : (List NumberedOpening → List NumberedOpening) → List (List NumberedOpening)
    → (was number : Option ℕ) → Type 0
IsMadeBy f lists None number = number ≡ None
IsMadeBy f lists (Some n) number =
    (os : List NumberedOpening) → slice_get lists n ≡ Some os
    → (m : ℕ) × (number ≡ Some m) × (slice_get lists m ≡ Some (f os))

-- ---- the meaning of numbers at a place

-- both lists have the same operations in the same order, and the numbers in the first are those of the
-- states in the second
abbrev pub AreNamed : LayoutParts → (codes : List (List ℕ)) → List NumberedOpening → List Opening → Type 0
AreNamed l codes [] [] = Unit {0}
AreNamed l codes [] (o ∷ os) = ⊥
AreNamed l codes (n ∷ ns) [] = ⊥
AreNamed l codes (n ∷ ns) (o ∷ os) =
    (n.op ≡ o.op) × IsCoded l codes n.memory o.memory × AreNamed l codes ns os

-- the number under which `codes` has the state after the new records, with its operations renumbered by
-- `p`. None means that the number is unknown
abbrev pub IsStateAt : (p : ℕ → ℕ) → Setting → (codes : List (List ℕ)) → (news : List Record) → Option ℕ
    → Type 0
IsStateAt p g codes news None = Unit {0}
IsStateAt p g codes news (Some n) =
    IsCoded g.layout codes n (renumbered p (value_of g.layout g.base (g.start ++ news)))

-- the number under which `lists` has the operations that a Cancel can undo after the new records, with
-- all operations renumbered by `p`. None means that the number is unknown
abbrev pub IsNumbered : (p : ℕ → ℕ) → Setting → (codes : List (List ℕ)) → List (List NumberedOpening)
    → (news : List Record) → Option ℕ → Type 0
IsNumbered p g codes lists news None = Unit {0}
IsNumbered p g codes lists news (Some n) =
    (ns : List NumberedOpening) × (os : List Opening) × (slice_get lists n ≡ Some ns)
    × AreNamed g.layout codes ns (map (renumbered_opening p) os)
    × AreOpen g.layout g.base (net_of (g.start ++ news)) os

-- `number` is that of the list after a change to list `was`. `from` is the number of the state before
-- the change, and `serial` the operation that the change begins
abbrev pub IsChanged : (old new : List (List NumberedOpening)) → (from : Option ℕ) → (serial : ℕ) → Change
    → (was number : Option ℕ) → Type 0
IsChanged old new from serial Stays was number = (new ≡ old) × (number ≡ was)
IsChanged old new from serial Begins was number = IsBegun old new serial from was number
IsChanged old new from serial (Works op) was number = (new ≡ old) × IsMadeBy (after_work op) old was number
IsChanged old new from serial (Cancels op) was number =
    (new ≡ old) × IsMadeBy (after_cancel op) old was number
IsChanged old new from serial Ends was number =
    (new ≡ old) × ((n : ℕ) → number ≡ Some n → slice_get old n ≡ Some [])
