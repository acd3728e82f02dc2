-- The parts in the order of their numbers, and the first part that is missing or comes twice.
use Rattle.std.specs.Prelude.{◌≡◌, ℕ, ◌+◌, ◌-◌, ◌≤◌, ◌<◌, List, length, map, slice_index_or}
use Rattle.std.specs.Global.{Vec}
use Rattle.std.specs.List.{All}
use Rattle.std.specs.List.Sorted.{IsNonDecreasingBy, IsPermutation}
use Rattle.hp_schedules.specs.declared.tally.Ending.{Ending}
use Rattle.hp_parts.specs.Gathering.{PartEndsValue}
use Rattle.hp_parts.specs.declared.ordering.OrderFault.{OrderFault}
use Rattle.hp_parts.specs.declared.ordering.OrderFault.TheVariants.{Missing, Twice, OutOfMemory}

-- the items of each list
abbrev pub lists_of : List (Vec Ending) → List (List Ending)
lists_of lists = map (λ l. l.items) lists

-- all numbers are between 1 and `of`
abbrev pub AreWithin : (of : ℕ) → List PartEndsValue → Type 0
AreWithin of parts = All (λ p. (1 ≤ p.number) × (p.number ≤ of)) parts

-- the numbers do not decrease
abbrev pub AreRising : List PartEndsValue → Type 0
AreRising parts = IsNonDecreasingBy (λ p. p.number) parts

-- the first `below` parts have the numbers 1, 2 and so on
abbrev pub ArePlacedBelow : (below : ℕ) → List PartEndsValue → Type 0
ArePlacedBelow below parts =
    (k : ℕ) (d : PartEndsValue) → k < below → (slice_index_or parts k d).number ≡ k + 1

-- each part comes once: the parts in this order have the numbers 1 to `of`
pub record AreInPlace (of : ℕ) (ordered : List PartEndsValue) : Type 0 where
  pub count : length ordered ≡ of
  pub numbers : ArePlacedBelow of ordered

-- each part comes once, and the lists have the ends of the parts in the order of their numbers
pub record AreAll (parts : List PartEndsValue) (of : ℕ) (lists : List (List Ending)) : Type 0 where
  pub ordered : List PartEndsValue
  pub moved : IsPermutation parts ordered
  pub placed : AreInPlace of ordered
  pub are : lists ≡ map (λ p. p.ends) ordered

-- ---- a part that is missing or comes twice

-- `number` is the lowest missing number: each lower number comes once, and all other parts have higher
-- numbers
pub record IsMissing (parts : List PartEndsValue) (of number : ℕ) : Type 0 where
  pub some : 1 ≤ number
  pub within : number ≤ of
  pub before : ArePlacedBelow (number - 1) parts
  pub beyond : (k : ℕ) (d : PartEndsValue) → number ≤ k + 1 → k < length parts
      → number < (slice_index_or parts k d).number

-- `number` is the lowest number that comes twice: each lower number comes once, and all other parts
-- have this number or a higher one
pub record IsTwice (parts : List PartEndsValue) (number : ℕ) : Type 0 where
  pub some : 1 ≤ number
  pub before : ArePlacedBelow number parts
  pub within : number < length parts
  pub again : (d : PartEndsValue) → (slice_index_or parts number d).number ≡ number
  pub beyond : (k : ℕ) (d : PartEndsValue) → number ≤ k → k < length parts
      → number ≤ (slice_index_or parts k d).number

-- a part is missing from the sorted list or comes twice in it, as the fault reports
abbrev pub IsMisplaced : List PartEndsValue → (of : ℕ) → OrderFault → Type 0
IsMisplaced parts of (Missing number) = IsMissing parts of number
IsMisplaced parts of (Twice number) = IsTwice parts number
IsMisplaced parts of OutOfMemory = ⊥

-- a part is missing from the list or comes twice in it, as the fault reports, or memory ran out;
-- the list need not be sorted
abbrev pub IsOrderFault : List PartEndsValue → (of : ℕ) → OrderFault → Type 0
IsOrderFault parts of OutOfMemory = Unit {0}
IsOrderFault parts of fault =
    (ordered : List PartEndsValue) × IsPermutation parts ordered × IsMisplaced ordered of fault
