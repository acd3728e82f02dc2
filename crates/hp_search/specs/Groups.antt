-- Ends grouped by a part of their outcome.
use Rattle.std.specs.Prelude.{◌≡◌, ◌⊎◌, ℕ, ◌+◌, ◌≤◌, true, List, [], ◌∷◌, ◌++◌, Option, Some, None, codes, fold, nat_eq, slice_get, sum_by}
use Rattle.indexmap.specs.IndexMap.{ContainsKey, IndexMap}
use Rattle.hp_text.specs.Separated.{separated}
use Rattle.hp_schedules.specs.Digests.{mixed}
use Rattle.hp_schedules.specs.Ends.{AreInOrder}
use Rattle.hp_schedules.specs.Outcomes.{OutcomeValue}
use Rattle.hp_schedules.specs.Shares.{AddsAt}
use Rattle.hp_schedules.specs.Schedules.{Setting}
use Rattle.hp_schedules.specs.declared.scripts.Step.{Step}
use Rattle.hp_schedules.specs.declared.tally.Ending.{Ending}
use Rattle.hp_questions.specs.Likeness.{plans_digest}
use Rattle.hp_questions.specs.PlanEnds.{all_plan_ends}
use Rattle.hp_search.specs.Objects.{answer_list, block_string}
use Rattle.hp_search.specs.declared.groups.GroupBy.{GroupBy}
use Rattle.hp_search.specs.declared.groups.GroupBy.TheVariants.{Answers, Blocks, Plans}

-- the part of an outcome by which ends are grouped, for these scripts on a layout with `cpus`
-- processors
pub record GroupingValue : Type 0 where
  pub by : GroupBy
  pub cpus : ℕ
  pub scripts : List (List Step)

-- the grouping in a setting
abbrev pub grouping_of : Setting → GroupBy → GroupingValue
grouping_of g by = record { by = by; cpus = g.layout.cpus; scripts = g.scripts }

-- two outcomes agree in the part by which ends are grouped
abbrev pub AgreeIn : GroupBy → (cpus : ℕ) → (scripts : List (List Step)) → OutcomeValue → OutcomeValue
    → Type 0
AgreeIn Blocks cpus scripts x y = x.blocks ≡ y.blocks
AgreeIn Answers cpus scripts x y = x.replies ≡ y.replies
AgreeIn Plans cpus scripts x y = all_plan_ends cpus scripts x.replies ≡ all_plan_ends cpus scripts y.replies

-- two outcomes agree in the part that the grouping names
abbrev pub Agree : GroupingValue → OutcomeValue → OutcomeValue → Type 0
Agree by x y = AgreeIn by.by by.cpus by.scripts x y

-- the counts of the ends that agree with an outcome add up to `count`
abbrev pub AddUp : GroupingValue → OutcomeValue → List Ending → (count : ℕ) → Type 0
AddUp by x [] count = count ≡ 0
AddUp by x (e ∷ ends) count =
    ((rest : ℕ) × Agree by e.outcome x × (count ≡ e.count + rest) × AddUp by x ends rest)
    ⊎ ((Agree by e.outcome x → ⊥) × AddUp by x ends count)

-- `e` is the first of the ends that agree with an outcome
pub record IsFirstOf (by : GroupingValue) (x : OutcomeValue) (ends : List Ending) (e : Ending) : Type 0 where
  pub place : ℕ
  pub here : slice_get ends place ≡ Some e
  pub agrees : Agree by e.outcome x
  pub earliest : (k : ℕ) (d : Ending) → slice_get ends k ≡ Some d → Agree by d.outcome x → place ≤ k

-- `g` is a group of ends. Its outcome and its first schedule are those of the first end that agrees
-- with it, and it counts the schedules of all ends that agree with it
pub record IsGroup (by : GroupingValue) (ends : List Ending) (g : Ending) : Type 0 where
  pub leader : Ending
  pub leads : IsFirstOf by g.outcome ends leader
  pub outcome : g.outcome ≡ leader.outcome
  pub first : g.first.items ≡ leader.first.items
  pub count : AddUp by g.outcome ends g.count

-- the groups of the ends. Each end belongs to exactly one group, and the groups count as many schedules
-- as the ends. If the ends are in the order of their first schedules, so are the groups
pub record AreGroups (by : GroupingValue) (ends groups : List Ending) : Type 0 where
  pub each : (j : ℕ) (g : Ending) → slice_get groups j ≡ Some g → IsGroup by ends g
  pub every : (k : ℕ) (e : Ending) → slice_get ends k ≡ Some e
      → (j : ℕ) × (g : Ending) × (slice_get groups j ≡ Some g) × Agree by g.outcome e.outcome
  pub apart : (i j : ℕ) (f g : Ending) → slice_get groups i ≡ Some f → slice_get groups j ≡ Some g
      → Agree by f.outcome g.outcome → i ≡ j
  pub total : sum_by (λ e. e.count) groups ≡ sum_by (λ e. e.count) ends
  pub ordered : AreInOrder ends → AreInOrder groups

-- what is shown: the groups of the ends, or without a grouping the ends themselves
abbrev pub AreShown : Option GroupingValue → (ends shown : List Ending) → Type 0
AreShown None ends shown = shown ≡ ends
AreShown (Some by) ends shown = AreGroups by ends shown

-- ---- adding one end after another

-- a grouping, and the groups so far
pub record GroupsValue : Type 0 where
  pub by : GroupingValue
  pub ends : List Ending

-- the group at index `place` agrees with the outcome
abbrev pub HasGroupAt : GroupingValue → List Ending → OutcomeValue → (place : ℕ) → Type 0
HasGroupAt by groups x place =
    (g : Ending) × (slice_get groups place ≡ Some g) × Agree by g.outcome x

-- no group agrees with the outcome
abbrev pub HasNoGroup : GroupingValue → List Ending → OutcomeValue → Type 0
HasNoGroup by groups x = (j : ℕ) (g : Ending) → slice_get groups j ≡ Some g → Agree by g.outcome x → ⊥

-- the end `e` joins its group, which now counts the schedules of `e` too
pub record Joins (by : GroupingValue) (old : List Ending) (e : Ending) (new : List Ending) : Type 0 where
  pub place : ℕ
  pub has : HasGroupAt by old e.outcome place
  pub counted : AddsAt old place e.count new

-- no group agrees with the end `e`, so a new group begins with it
pub record Begins (by : GroupingValue) (old : List Ending) (e : Ending) (new : List Ending) : Type 0 where
  pub group : Ending
  pub none : HasNoGroup by old e.outcome
  pub outcome : group.outcome ≡ e.outcome
  pub count : group.count ≡ e.count
  pub first : group.first.items ≡ e.first.items
  pub new_is : new ≡ old ++ group ∷ []

-- either the end joins its group, or a new group begins with it
abbrev pub AddsEnd : GroupingValue → List Ending → Ending → List Ending → Type 0
AddsEnd by old e new = Joins by old e new ⊎ Begins by old e new

-- ---- hashes

-- the hash of the part of an outcome by which ends are grouped
abbrev pub digest_in : GroupBy → (cpus : ℕ) → (scripts : List (List Step)) → OutcomeValue → ℕ
digest_in Blocks cpus scripts x = fold mixed 0 (separated (codes ", ") block_string true x.blocks)
digest_in Answers cpus scripts x = fold mixed 0 (separated (codes ", ") answer_list true x.replies)
digest_in Plans cpus scripts x = plans_digest (all_plan_ends cpus scripts x.replies)

-- the hash of the part of an outcome that the grouping names
abbrev pub part_digest : GroupingValue → OutcomeValue → ℕ
part_digest by x = digest_in by.by by.cpus by.scripts x

-- the map has the hash of each group, taken from the part of its outcome that the grouping names
abbrev pub AreKnown : {S : Type 0} → GroupingValue → List Ending → IndexMap ℕ ℕ S → Type 0
AreKnown by groups latest =
    (j : ℕ) (g : Ending) → slice_get groups j ≡ Some g → ContainsKey nat_eq latest (part_digest by g.outcome)
