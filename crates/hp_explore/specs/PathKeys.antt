-- The keys of the places on a walk's path.
use Rattle.std.proofs.Common.{◌≡◌, ℕ, ◌≤◌, List, [], ◌∷◌, ◌++◌, Option, None, Some, get_or, length, take, arith, subst, sym}
use Rattle.std.proofs.lemmas.List.{length_push, take-append-le}
use Rattle.hp_units.specs.declared.replies.Record.{Record}
use Rattle.hp_schedules.specs.Schedules.{Setting}
use Rattle.hp_explore.specs.Aims.{AimValue}
use Rattle.hp_explore.specs.Visited.{IsPlaceKey, no_stops}

-- the key that is kept for the place after some calls means the same in each thread. The walk is at the
-- place after the new records
abbrev pub ArePathKeys : Setting → AimValue → (news : List Record) → (keys : List (Option (List ℕ))) → Type 0
ArePathKeys g aim news keys =
    (calls : ℕ) (key : List ℕ) → get_or keys calls None ≡ Some key
    → (calls ≤ length news) × IsPlaceKey g aim no_stops (take calls news) key

-- the path gets longer
pub keys_longer : (g : Setting) (aim : AimValue) (news : List Record) (r : Record)
    (keys : List (Option (List ℕ)))
    → ArePathKeys g aim news keys → ArePathKeys g aim (news ++ r ∷ []) keys
keys_longer g aim news r keys are calls key here =
    let was = are calls key here in (
      omega (arith, was.0, length_push news r),
      subst (λ (h : List Record). IsPlaceKey g aim no_stops h key)
          (sym (take-append-le calls news (r ∷ []) was.0)) was.1,
    )
