-- The numbers of the places that a walk came through: one for each place's state, and one for its
-- list of openings (operations that a Cancel can undo).
use Rattle.std.specs.Prelude.{◌≡◌, ℕ, List, [], ◌∷◌, ◌++◌, Some, reverse}
use Rattle.hp_states.specs.Codes.{KeepCodes}
use Rattle.hp_units.specs.declared.replies.Record.{Record}
use Rattle.hp_states.specs.Interned.{KeepNumbers}
use Rattle.hp_states.specs.Numbered.{IsNumbered, IsStateAt}
use Rattle.hp_laws.specs.Renumbered.{IsOneToOne}
use Rattle.hp_schedules.specs.Openings.{NumberedOpening, change_of}
use Rattle.hp_schedules.specs.declared.changes.Change.TheVariants.{Ends}
use Rattle.hp_schedules.specs.Schedules.{Setting}
use Rattle.hp_states.specs.declared.stops.Stop.{Stop}

-- `codes` has the states' codes by number, and `lists` has the lists of operations that a Cancel can
-- undo, by number. `here` has the numbers of the current place, and `before` has those of the places
-- before it on the path
pub record StopsValue : Type 0 where
  pub codes : List (List ℕ)
  pub lists : List (List NumberedOpening)
  pub here : Stop
  pub before : List Stop

-- a numbering of operations at each place. It gives no two operations the same number, and changes
-- only after a record with the change `Ends`, which empties the list of operations that a Cancel
-- can undo
pub record IsNumbering (at : List Record → ℕ → ℕ) : Type 0 where
  pub differ : (news : List Record) → IsOneToOne (at news)
  pub steady : (news : List Record) (r : Record) → (change_of r ≡ Ends → ⊥) → at (news ++ r ∷ []) ≡ at news

-- the numbers, as far as they are known, of the places that the new records lead through, latest
-- place first
abbrev pub AreStops : (at : List Record → ℕ → ℕ) → Setting → (codes : List (List ℕ))
    → List (List NumberedOpening) → (news : List Record) → List Stop → Type 0
AreStops at g codes lists news [] = Unit {0}
AreStops at g codes lists news (stop ∷ stops) =
    IsNumbered (at news) g codes lists news stop.openings × IsStateAt (at news) g codes news stop.state
    × ((before : List Record) (r : Record) → news ≡ before ++ r ∷ []
    → AreStops at g codes lists before stops)

-- `s` has the numbers of the place after the new records, and of the places before it, as far as
-- they are known
abbrev pub AreStopsAt : (at : List Record → ℕ → ℕ) → Setting → (news : List Record) → StopsValue → Type 0
AreStopsAt at g news s = AreStops at g s.codes s.lists news (s.here ∷ reverse s.before)

-- `state` is the number of the state after the new records, and `openings` that of the list of
-- operations that a Cancel can undo there; `p` renumbers the operations
abbrev pub AreNumbersAt : (p : ℕ → ℕ) → Setting → (news : List Record) → StopsValue → (state openings : ℕ)
    → Type 0
AreNumbersAt p g news s state openings =
    IsStateAt p g s.codes news (Some state) × IsNumbered p g s.codes s.lists news (Some openings)

-- each number keeps its meaning
pub record KeepStops (old new : StopsValue) : Type 0 where
  pub codes : KeepCodes old.codes new.codes
  pub lists : KeepNumbers old.lists new.lists

-- all numbers keep their meaning; only the place may differ
abbrev pub AreSameStops : (old new : StopsValue) → Type 0
AreSameStops old new = (new.codes ≡ old.codes) × (new.lists ≡ old.lists)
