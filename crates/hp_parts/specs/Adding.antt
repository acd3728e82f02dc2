-- How ends are added to a list of ends.
use Rattle.std.specs.Prelude.{◌≡◌, ℕ, ◌+◌, ◌⊎◌, List, [], ◌∷◌, ◌++◌, Some, if◌then◌else◌, slice_get, slice_set, sum_by}
use Rattle.std.specs.Cmp.Lexicographic.{slice_cmp}
use Rattle.std.specs.List.Sorted.{IsPermutation, IsSortedBy}
use Rattle.std.specs.Ordering.{is_lt, nat_cmp}
use Rattle.hp_schedules.specs.Notes.{HasNoEnd}
use Rattle.hp_schedules.specs.declared.tally.Ending.{Ending}

-- the earlier of two schedules in lexicographic order; `t` if they are equal
abbrev pub earlier : List ℕ → List ℕ → List ℕ
earlier s t = if is_lt (slice_cmp nat_cmp s t) then s else t

-- the list already has the end's outcome: the counts are added, and the earlier of the two first
-- schedules is kept
pub record AddsMore (old : List Ending) (e : Ending) (new : List Ending) : Type 0 where
  pub at : ℕ
  pub entry : Ending
  pub more : Ending
  pub here : slice_get old at ≡ Some entry
  pub same : entry.outcome ≡ e.outcome
  pub outcome_is : more.outcome ≡ entry.outcome
  pub count : more.count ≡ entry.count + e.count
  pub first : more.first.items ≡ earlier e.first.items entry.first.items
  pub new_is : new ≡ slice_set old at more

-- the list does not have the end's outcome: the end is appended
pub record AddsOther (old : List Ending) (e : Ending) (new : List Ending) : Type 0 where
  pub entry : Ending
  pub none : HasNoEnd old e.outcome
  pub outcome_is : entry.outcome ≡ e.outcome
  pub count : entry.count ≡ e.count
  pub first : entry.first.items ≡ e.first.items
  pub new_is : new ≡ old ++ entry ∷ []

-- an end is added to a list
abbrev pub AddsEnd : List Ending → Ending → List Ending → Type 0
AddsEnd old e new = AddsMore old e new ⊎ AddsOther old e new

-- all ends of one list are added
abbrev pub AddsEnds : List Ending → List Ending → List Ending → Type 0
AddsEnds old [] new = new ≡ old
AddsEnds old (e ∷ ends) new = (next : List Ending) × AddsEnd old e next × AddsEnds next ends new

-- all ends of several lists are added
abbrev pub AddsLists : List Ending → List (List Ending) → List Ending → Type 0
AddsLists old [] new = new ≡ old
AddsLists old (ends ∷ lists) new = (next : List Ending) × AddsEnds old ends next × AddsLists next lists new

-- the number of schedules that the lists count
abbrev pub counted_by : List (List Ending) → ℕ
counted_by lists = sum_by (λ ends. sum_by (λ e. e.count) ends) lists

-- the list has the same ends, sorted by their first schedules
pub record AreSorted (old new : List Ending) : Type 0 where
  pub moved : IsPermutation old new
  pub sorted : IsSortedBy (λ e f. is_lt (slice_cmp nat_cmp e.first.items f.first.items)) new

-- the list has the ends of all the lists, added one after another and then sorted
abbrev pub AreAdded : List (List Ending) → List Ending → Type 0
AreAdded lists ends = (added : List Ending) × AddsLists [] lists added × AreSorted added ends
