-- The group of an outcome: which outcomes agree, and the hashes that are known.
use Rattle.std.proofs.Common.{◌≡◌, ℕ, ◌+◌, ◌≤◌, List, length, Some, None, slice_get, take, refl, sym, ◌∙◌, inl, inr}
use Rattle.std.specs.Prelude.{nat_eq}
use Rattle.std.proofs.lemmas.Bool.{false≢true}
use Rattle.std.proofs.lemmas.List.{take_all}
use Rattle.indexmap.specs.IndexMap.{IndexMap, get}
use Rattle.hp_laws.proofs.Lists.{get_push_cases}
use Rattle.hp_laws.proofs.Replays.{take_one}
use Rattle.hp_schedules.specs.Outcomes.{OutcomeValue}
use Rattle.hp_schedules.specs.declared.scripts.Step.{Step}
use Rattle.hp_schedules.specs.declared.tally.Ending.{Ending}
use Rattle.hp_search.specs.Groups.{Agree, AgreeIn, AreKnown, GroupingValue, HasNoGroup, digest_in, part_digest}
use Rattle.hp_search.specs.declared.groups.GroupBy.{GroupBy}
use Rattle.hp_search.specs.declared.groups.GroupBy.TheVariants.{Blocks}

-- ---- outcomes that agree

in_self : (by : GroupBy) (cpus : ℕ) (scripts : List (List Step)) (x : OutcomeValue)
    → AgreeIn by cpus scripts x x
in_self Blocks cpus scripts x = refl
in_self by cpus scripts x = refl

in_back : (by : GroupBy) (cpus : ℕ) (scripts : List (List Step)) (x y : OutcomeValue)
    → AgreeIn by cpus scripts x y → AgreeIn by cpus scripts y x
in_back Blocks cpus scripts x y h = sym h
in_back by cpus scripts x y h = sym h

in_turn : (by : GroupBy) (cpus : ℕ) (scripts : List (List Step)) (x y z : OutcomeValue)
    → AgreeIn by cpus scripts x y → AgreeIn by cpus scripts y z → AgreeIn by cpus scripts x z
in_turn Blocks cpus scripts x y z h k = h ∙ k
in_turn by cpus scripts x y z h k = h ∙ k

pub agree_self : (by : GroupingValue) (x : OutcomeValue) → Agree by x x
agree_self by x = in_self by.by by.cpus by.scripts x

pub agree_back : (by : GroupingValue) (x y : OutcomeValue) → Agree by x y → Agree by y x
agree_back by x y h = in_back by.by by.cpus by.scripts x y h

pub agree_on : (by : GroupingValue) (x y z : OutcomeValue) → Agree by x y → Agree by y z → Agree by x z
agree_on by x y z h k = in_turn by.by by.cpus by.scripts x y z h k

-- have one hash
same_in : (by : GroupBy) (cpus : ℕ) (scripts : List (List Step)) (x y : OutcomeValue)
    → AgreeIn by cpus scripts x y → digest_in by cpus scripts x ≡ digest_in by cpus scripts y
same_in Blocks cpus scripts x y h = rw h
same_in by cpus scripts x y h = rw h

-- ---- the hashes that are known

-- where a hash has no place, no group has it
pub unknown : {S : Type 0} (by : GroupingValue) (groups : List Ending) (x : OutcomeValue)
    (latest : IndexMap ℕ ℕ S) (digest : ℕ)
    → AreKnown by groups latest → digest ≡ part_digest by x → None ≡ get nat_eq latest digest
    → HasNoGroup by groups x
unknown by groups x latest digest known is none j g here agrees =
    let same = same_in by.by by.cpus by.scripts g.outcome x agrees in
    false≢true (rw (same, ← is, ← none) at (known j g here))

-- ---- the group at a place

-- no group up to the next place has the outcome; no group at all
pub none_more : (by : GroupingValue) (groups : List Ending) (x : OutcomeValue) (at : ℕ) (g : Ending)
    → HasNoGroup by (take at groups) x → slice_get groups at ≡ Some g → (Agree by g.outcome x → ⊥)
    → HasNoGroup by (take (at + 1) groups) x
none_more by groups x at g none here differs k f h agrees =
    elim (get_push_cases (take at groups) g f k (rw (take_one groups at g here) at h)) [
      | inl old ↦ none k f old agrees
      | inr new ↦ differs (rw new.1 agrees)
    ]

pub none_all : (by : GroupingValue) (groups : List Ending) (x : OutcomeValue) (at : ℕ) → length groups ≤ at
    → HasNoGroup by (take at groups) x → HasNoGroup by groups x
none_all by groups x at le none = rw (take_all at groups le) at none
