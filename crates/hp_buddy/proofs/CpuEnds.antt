-- The first and the last frame of a processor's list.
use Rattle.std.proofs.Common.{◌≡◌, ℕ, ◌+◌, ◌*◌, ◌<◌, ◌≤◌, List, [], ◌∷◌, ◌++◌, true, false, Some, None, refl, ap, subst, arith, eq-eqb}
use Rattle.std.proofs.lemmas.Bool.{or_left, false_from_ne_true}
use Rattle.hp_units.specs.declared.rows.Pool.{Pool}
use Rattle.hp_units.specs.LayoutParts.{LayoutParts}
use Rattle.hp_units.specs.Memory.{pool_index}
use Rattle.hp_units.specs.FreeAreas.{is_on, without}
use Rattle.hp_buddy.specs.LinkedLists.{LinkedLists, list_at, first, last, last_from}
use Rattle.hp_units.proofs.ListEdits.{on_tail}
use Rattle.hp_buddy.proofs.Linked.{without-front, without-back}
use Rattle.hp_buddy.specs.Cpus.{CpusValue, IsCpusOf, list_of, with_list_of, places_in}
use Rattle.hp_buddy.proofs.CpuCounts.{HasLists, times, times-on, times-cons, times-push, one-self, list_of-same, list_of-le}
use Rattle.hp_buddy.proofs.CpuEdits.{Seen, cpus_of}

-- a list with a frame at its end, and the others
pub record IsFirst (f : ℕ) (xs : List ℕ) : Type 0 where
  pub rest : List ℕ
  pub is : xs ≡ f ∷ rest
  pub on : is_on f xs ≡ true

pub record IsLast (f : ℕ) (xs : List ℕ) : Type 0 where
  pub rest : List ℕ
  pub is : xs ≡ rest ++ f ∷ []
  pub on : is_on f xs ≡ true

-- ---- of a list

-- a list's first frame, and the others
first_is : (f : ℕ) (xs : List ℕ) → Some f ≡ first xs → IsFirst f xs
first_is f xs e = grind (arith, or_left, eq-eqb)

-- a list's last frame, and the others
last_from-is : (f x : ℕ) (xs : List ℕ) → Some f ≡ last_from (Some x) xs → IsLast f (x ∷ xs)
last_from-is f x [] e = grind (arith, or_left, eq-eqb)
last_from-is f x (y ∷ ys) e =
    let r = last_from-is f y ys e in
    record { rest = x ∷ r.rest; is = ap (λ (zs : List ℕ). x ∷ zs) r.is; on = on_tail f x (y ∷ ys) r.on }

last_is : (f : ℕ) (xs : List ℕ) → Some f ≡ last xs → IsLast f xs
last_is f [] e = cc
last_is f (x ∷ xs) e = last_from-is f x xs e

-- a list with no last frame has no frames
last_from-none : (x : ℕ) (xs : List ℕ) → None ≡ last_from (Some x) xs → x ∷ xs ≡ []
last_from-none x [] e = cc
last_from-none x (y ∷ ys) e = grind (arith, last_from-none y ys e)

last-none : (xs : List ℕ) → None ≡ last xs → xs ≡ []
last-none [] e = refl
last-none (x ∷ xs) e = last_from-none x xs e

-- ---- of the value that contracts see

-- there are lists for each processor
pub lists-there : {v : CpusValue} {l : LayoutParts} {links : LinkedLists} → IsCpusOf l links
    → cpus_of l links ≡ v → HasLists v
lists-there kept is = subst (λ (w : CpusValue). HasLists w) is kept.list_count

-- the first frame that the table shows, and the last one
pub seen-first : (v : CpusValue) (l : LayoutParts) (links : LinkedLists) (cpu : ℕ) (pool : Pool) (n f : ℕ)
    → Seen v l links → n ≡ 3 * cpu + pool_index pool
    → Some f ≡ first (list_at links n) → IsFirst f (list_of v cpu pool)
seen-first v l links cpu pool n f s place e = rw (← s.is, ← place) (first_is f (list_at links n) e)

pub seen-last : (v : CpusValue) (l : LayoutParts) (links : LinkedLists) (cpu : ℕ) (pool : Pool) (n f : ℕ)
    → Seen v l links → n ≡ 3 * cpu + pool_index pool
    → Some f ≡ last (list_at links n) → IsLast f (list_of v cpu pool)
seen-last v l links cpu pool n f s place e = rw (← s.is, ← place) (last_is f (list_at links n) e)

pub seen-no_last : (v : CpusValue) (l : LayoutParts) (links : LinkedLists) (cpu : ℕ) (pool : Pool) (n : ℕ)
    → Seen v l links → n ≡ 3 * cpu + pool_index pool
    → None ≡ last (list_at links n) → list_of v cpu pool ≡ []
seen-no_last v l links cpu pool n s place e = rw (← s.is, ← place) (last-none (list_at links n) e)

-- ---- the end left

-- the first frame is nowhere else on the list
off_rest : (f : ℕ) (xs rest : List ℕ) → times f xs ≤ 1 → xs ≡ f ∷ rest → is_on f rest ≡ false
off_rest f xs rest few is =
    false_from_ne_true (is_on f rest)
    (λ on. omega (arith, ap (times f) is, times-cons f f rest, times-on f rest on, one-self f f refl))

-- nor does the last one
off_back : (f : ℕ) (xs rest : List ℕ) → times f xs ≤ 1 → xs ≡ rest ++ f ∷ [] → is_on f rest ≡ false
off_back f xs rest few is =
    false_from_ne_true (is_on f rest)
    (λ on. omega (arith, ap (times f) is, times-push f f rest, times-on f rest on, one-self f f refl))

-- the list that a frame left
left : (v new : CpusValue) (cpu : ℕ) (pool : Pool) (f : ℕ) → HasLists v → cpu < v.layout.cpus
    → new ≡ with_list_of v cpu pool (without f (list_of v cpu pool))
    → list_of new cpu pool ≡ without f (list_of v cpu pool)
left v new cpu pool f size low is = rw is (list_of-same v cpu pool (without f (list_of v cpu pool)) low size)

-- the others come after the first one
pub first-left : (v new : CpusValue) (cpu : ℕ) (pool : Pool) (f : ℕ) → HasLists v → cpu < v.layout.cpus
    → ((o : ℕ) → places_in v o ≤ 1) → IsFirst f (list_of v cpu pool)
    → new ≡ with_list_of v cpu pool (without f (list_of v cpu pool))
    → list_of v cpu pool ≡ f ∷ list_of new cpu pool
first-left v new cpu pool f size low once end is =
    let few : times f (list_of v cpu pool) ≤ 1 = omega (arith, once f, list_of-le v cpu pool f low size) in
    grind (arith, left, without-front, off_rest)

-- and before the last one
pub last-left : (v new : CpusValue) (cpu : ℕ) (pool : Pool) (f : ℕ) → HasLists v → cpu < v.layout.cpus
    → ((o : ℕ) → places_in v o ≤ 1) → IsLast f (list_of v cpu pool)
    → new ≡ with_list_of v cpu pool (without f (list_of v cpu pool))
    → list_of v cpu pool ≡ list_of new cpu pool ++ f ∷ []
last-left v new cpu pool f size low once end is =
    let few : times f (list_of v cpu pool) ≤ 1 = omega (arith, once f, list_of-le v cpu pool f low size) in
    grind (arith, left, without-back, off_back)
