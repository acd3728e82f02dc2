-- The order of schedules in a walk, processor 0 first, and the number of schedules with a property.
use Rattle.std.specs.Prelude.{◌≡◌, ℕ, ◌+◌, ◌<◌, ◌⊎◌, List, [], ◌∷◌, ◌++◌, Some, length, slice_get}

-- one schedule, which is a list of processors' numbers, comes before another if it has the lower number
-- at the first difference
abbrev pub IsBefore : List ℕ → List ℕ → Type 0
IsBefore s [] = ⊥
IsBefore [] (c ∷ t) = ⊥
IsBefore (d ∷ s) (c ∷ t) = (d < c) ⊎ ((d ≡ c) × IsBefore s t)

-- the schedule begins with `start`
abbrev pub Extends : List ℕ → List ℕ → Type 0
Extends s start = (rest : List ℕ) × (s ≡ start ++ rest)

-- the list has each schedule with the property P exactly once, and no others
pub record Lists (P : List ℕ → Type 0) (all : List (List ℕ)) : Type 0 where
  pub each : (i : ℕ) (s : List ℕ) → slice_get all i ≡ Some s → P s
  pub every : (s : List ℕ) → P s → (i : ℕ) × (slice_get all i ≡ Some s)
  pub once : (i j : ℕ) (s : List ℕ) → slice_get all i ≡ Some s → slice_get all j ≡ Some s → i ≡ j

-- exactly `n` schedules have the property P
abbrev pub HasCount : (List ℕ → Type 0) → ℕ → Type 0
HasCount P n = (all : List (List ℕ)) × Lists P all × (length all ≡ n)

-- at most one number counts the schedules with the property P
abbrev pub HasOneCount : (List ℕ → Type 0) → Type 0
HasOneCount P = (m n : ℕ) → HasCount P m → HasCount P n → m ≡ n

-- the list has schedules with the property P, each at most once
pub record AreSome (P : List ℕ → Type 0) (all : List (List ℕ)) : Type 0 where
  pub each : (i : ℕ) (s : List ℕ) → slice_get all i ≡ Some s → P s
  pub once : (i j : ℕ) (s : List ℕ) → slice_get all i ≡ Some s → slice_get all j ≡ Some s → i ≡ j

-- more than `n` schedules have the property P
abbrev pub HasMoreThan : (List ℕ → Type 0) → ℕ → Type 0
HasMoreThan P n = (all : List (List ℕ)) × AreSome P all × (length all ≡ n + 1)

-- the schedule is the first one with the property P
pub record IsFirst (P : List ℕ → Type 0) (s : List ℕ) : Type 0 where
  pub holds : P s
  pub earliest : (t : List ℕ) → P t → (t ≡ s) ⊎ IsBefore s t
