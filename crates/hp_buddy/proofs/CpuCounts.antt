-- How often frames are on the processors' lists.
use Rattle.std.proofs.Common.{◌≡◌, ℕ, ◌+◌, ◌*◌, ◌<◌, ◌≤◌, List, [], ◌∷◌, ◌++◌, length, true, cond, refl, arith, inl, inr, ◌==◌, eq-eqb}
use Rattle.std.specs.Prelude.{count_by}
use Rattle.std.proofs.lemmas.Bool.{false_from_ne_true, cond-true}
use Rattle.std.proofs.lemmas.List.{get_or-set_same, length-set}
use Rattle.std.proofs.lemmas.List.Sums.{sum_by-cons, sum_by_push, sum_by-set, get_or-le-sum_by}
use Rattle.hp_units.specs.declared.rows.Pool.{Pool}
use Rattle.hp_units.specs.Memory.{pool_index}
use Rattle.hp_units.specs.FreeAreas.{is_on}
use Rattle.hp_units.proofs.ListEdits.{on_cases}
use Rattle.hp_units.proofs.Pools.{pool_index-lt}
use Rattle.hp_buddy.proofs.Linked.{AreDistinct}
use Rattle.hp_buddy.specs.Cpus.{CpusValue, list_of, with_list_of, places_in, one_at}

-- how often a frame is on a list
abbrev pub times : ℕ → List ℕ → ℕ
times f xs = count_by (λ other. other == f) xs

-- ---- one list

-- one more frame in front
pub times-cons : (f x : ℕ) (xs : List ℕ) → times f (x ∷ xs) ≡ one_at x f + times f xs
times-cons f x xs = sum_by-cons (λ o. cond (o == f) 1 0) x xs

-- one more frame at the back
pub times-push : (f x : ℕ) (xs : List ℕ) → times f (xs ++ x ∷ []) ≡ times f xs + one_at x f
times-push f x xs = sum_by_push (λ o. cond (o == f) 1 0) xs x

-- a frame is itself
pub one-self : (x f : ℕ) → x ≡ f → one_at x f ≡ 1
one-self x f e = cond-true (x == f) 1 0 (eq-eqb x f e)

-- a frame on a list is there at least once
pub times-on : (f : ℕ) (xs : List ℕ) → is_on f xs ≡ true → 1 ≤ times f xs
times-on f [] e = cc
times-on f (x ∷ xs) e = elim (on_cases f x xs e) [
  | inl same ↦ omega (arith, times-cons f x xs, one-self x f same)
  | inr on ↦ omega (arith, times-cons f x xs, times-on f xs on)
]

-- a list on which each frame is at most once
pub distinct : (xs : List ℕ) → ((f : ℕ) → times f xs ≤ 1) → AreDistinct xs
distinct [] few = tt
distinct (x ∷ xs) few = (
  false_from_ne_true (is_on x xs)
      (λ on. absurd (omega (arith, few x, times-cons x x xs, one-self x x refl, times-on x xs on))),
  distinct xs (λ f. omega (arith, few f, times-cons f x xs)),
)

-- ---- all lists

-- a processor's list is one of the lists
pub list_in : (cpus cpu count : ℕ) (pool : Pool) → cpu < cpus → count ≡ 3 * cpus
    → 3 * cpu + pool_index pool < count
list_in cpus cpu count pool low size = omega (arith, pool_index-lt pool)

-- there are lists for each processor
abbrev pub HasLists : CpusValue → Type 0
HasLists c = length c.cached ≡ 3 * c.layout.cpus

-- another list
pub with_list_of-places : (c : CpusValue) (cpu : ℕ) (pool : Pool) (xs : List ℕ) (f : ℕ) → cpu < c.layout.cpus
    → HasLists c
    → places_in (with_list_of c cpu pool xs) f + times f (list_of c cpu pool) ≡ places_in c f + times f xs
with_list_of-places c cpu pool xs f low size = grind (arith, sum_by-set, list_in)

-- a frame is on one list at most as often as on all lists
pub list_of-le : (c : CpusValue) (cpu : ℕ) (pool : Pool) (f : ℕ) → cpu < c.layout.cpus → HasLists c
    → times f (list_of c cpu pool) ≤ places_in c f
list_of-le c cpu pool f low size = grind (arith, get_or-le-sum_by, list_in)

-- the list that was set
pub list_of-same : (c : CpusValue) (cpu : ℕ) (pool : Pool) (xs : List ℕ) → cpu < c.layout.cpus → HasLists c
    → list_of (with_list_of c cpu pool xs) cpu pool ≡ xs
list_of-same c cpu pool xs low size = grind (arith, get_or-set_same, list_in)

-- there are as many lists
pub with_list_of-size : (c : CpusValue) (cpu : ℕ) (pool : Pool) (xs : List ℕ) → HasLists c
    → HasLists (with_list_of c cpu pool xs)
with_list_of-size c cpu pool xs size = omega (arith, size, length-set c.cached (3 * cpu + pool_index pool) xs)
