-- The steps that are not undone.
use Rattle.std.specs.Prelude.{ℕ, List, [], ◌∷◌, ◌++◌, length, nat_lt, take, if◌then◌else◌}

-- the serials of the steps after a call that leaves `count` steps: the first `count` of the steps
-- before it, and its own serial if there were fewer steps before
abbrev pub steps_after : List ℕ → (count serial : ℕ) → List ℕ
steps_after steps count serial =
    take count steps ++ (if nat_lt (length steps) count then serial ∷ [] else [])
