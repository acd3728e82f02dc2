-- One more list in a walk over the free blocks, or over the processors' lists.
use Rattle.std.proofs.Common.{◌≡◌, ℕ, suc, ◌+◌, ◌*◌, ◌/◌, ◌%◌, ◌<◌, List, [], length, get_or, refl, ◌∙◌, ap, subst, arith, true, ◌==◌, inl, inr}
use Rattle.std.specs.List.{count_by}
use Rattle.std.proofs.lemmas.Bool.{cases_lt, false≢true}
use Rattle.std.proofs.lemmas.List.{get_or_past}
use Rattle.hp_units.specs.LayoutParts.{LayoutParts}
use Rattle.hp_units.specs.Memory.{FreeAreas, FreeFrames, cached_list, class_index, class_numbered, free_list, pool_index}
use Rattle.hp_units.specs.FreeAreas.{is_on}
use Rattle.hp_units.specs.Placement.{IsBlockOf, cached_places, class_at, free_places, list_places}
use Rattle.hp_units.proofs.ListEdits.{class_numbered-index}
use Rattle.hp_units.proofs.Places.{class_index-lt}
use Rattle.hp_units.proofs.Pools.{pool_index-lt}
use Rattle.hp_plain.specs.Names.{Class, Pool, NuPool, NmPool, MmPool, Row}
use Rattle.hp_units.specs.declared.rows.Kind.{Kind}
use Rattle.hp_plain.specs.Placing.{AreListsPlaced, AreMarked, ArePoolsPlaced, IsListPlaced, IsPoolPlaced, IsTwice, pool_numbered}
use Rattle.hp_plain.proofs.Counting.{SoFar, marked_as, so_far_all, so_far_more, so_far_twice, total-lists, total-sum, twice_as}

-- ---- the lists of classes and orders, by number

-- the class numbered `n` has the index `n`, if `n` is below five
class_of_low : (n : ℕ) → n < 5 → class_index (class_numbered n) ≡ n
class_of_low (suc (suc (suc (suc (suc n))))) h = absurd (omega arith)
class_of_low _ h = refl

-- the list of a number
pub list_numbered : (a : FreeAreas) (number : ℕ)
    → get_or a.lists number [] ≡ free_list a (class_numbered (number % 5)) (number / 5)
list_numbered a number =
    let low : number % 5 < 5 = omega arith in
    let class : class_index (class_numbered (number % 5)) ≡ number % 5 = class_of_low (number % 5) low in
    let whole : number ≡ 5 * (number / 5) + class_index (class_numbered (number % 5)) = omega arith in
    ap (λ (n : ℕ). get_or a.lists n []) whole

-- the number of a list
pub record IsNumberOf (class : Class) (order number : ℕ) : Type 0 where
  pub order_is : number / 5 ≡ order
  pub class_is : class_numbered (number % 5) ≡ class

pub number_of : (class : Class) (order : ℕ) → IsNumberOf class order (5 * order + class_index class)
number_of class order =
    let low : class_index class < 5 = class_index-lt class in
    let rest : (5 * order + class_index class) % 5 ≡ class_index class = omega arith in
    record {
      order_is = omega arith;
      class_is = ap class_numbered rest ∙ class_numbered-index class;
    }

-- what holds for the list of each number holds for the list of each class and order
pub each_list : (P : Class → ℕ → List ℕ → Type 0) (a : FreeAreas)
    → ((k : ℕ) → k < length a.lists → P (class_numbered (k % 5)) (k / 5) (get_or a.lists k []))
    → ((class : Class) (order : ℕ) → P class order []) → (class : Class) (order : ℕ)
    → P class order (free_list a class order)
each_list P a each none class order = elim (cases_lt (5 * order + class_index class) (length a.lists)) [
  | inl low ↦
      let is = number_of class order in
      let here = each (5 * order + class_index class) low in
      subst (λ (c : Class). P c order (free_list a class order)) is.class_is
      (subst (λ (n : ℕ). P (class_numbered ((5 * order + class_index class) % 5)) n
      (free_list a class order)) is.order_is here)
  | inr past ↦ rw (get_or_past a.lists (5 * order + class_index class) [] past) (none class order)
]

-- ---- the free blocks

-- what holds after a walk over the lists below `number`
abbrev pub FreeSoFar : LayoutParts → FreeAreas → List Row → (number : ℕ) → (old new : List ℕ) → Type 0
FreeSoFar l a rows number old new =
    SoFar (λ frame n frames. list_places frame (n / 5) frames)
    (λ n frames. (first : ℕ) → is_on first frames ≡ true
    → IsBlockOf l (class_at l a.kinds rows) (class_numbered (n % 5)) (n / 5) first) a.lists [] number old new

pub free_more : (l : LayoutParts) (a : FreeAreas) (rows : List Row) (number order : ℕ) (class : Class)
    (old mid new : List ℕ)
    → FreeSoFar l a rows number old mid → number < length a.lists → class ≡ class_numbered (number % 5)
    → order ≡ number / 5
    → IsListPlaced l a.kinds rows class order (free_list a class order)
    × AreMarked mid new (λ frame. list_places frame order (free_list a class order))
    → FreeSoFar l a rows (number + 1) old new
free_more l a rows number order class old mid new h low class_is order_is placed =
    let here = rw (order_is, class_is) at placed in
    so_far_more h (free_list a (class_numbered (number % 5)) (number / 5)) low (list_numbered a number) here.0
    here.1

pub free_twice : (l : LayoutParts) (a : FreeAreas) (rows : List Row) (number order : ℕ) (class : Class)
    (old mid : List ℕ)
    → FreeSoFar l a rows number old mid → number < length a.lists → class ≡ class_numbered (number % 5)
    → order ≡ number / 5
    → (IsListPlaced l a.kinds rows class order (free_list a class order)
    → IsTwice mid (λ frame. list_places frame order (free_list a class order)))
    → AreListsPlaced l a rows → IsTwice old (free_places a)
free_twice l a rows number order class old mid h low class_is order_is twice placed =
    let here = rw (order_is, class_is) at (twice (placed class order)) in
    twice_as (free_places a) (λ frame. total-lists frame 0 a.lists)
    (so_far_twice h (free_list a (class_numbered (number % 5)) (number / 5)) low
    (list_numbered a number) here)

pub free_all : (l : LayoutParts) (a : FreeAreas) (rows : List Row) (number : ℕ) (old new : List ℕ)
    → FreeSoFar l a rows number old new → number ≡ length a.lists
    → AreListsPlaced l a rows × AreMarked old new (free_places a)
free_all l a rows number old new h all = (
  each_list (λ class order frames. (first : ℕ) → is_on first frames ≡ true
      → IsBlockOf l (class_at l a.kinds rows) class order first) a
      (λ k low. h.each k (omega arith)) (λ class order first on. absurd (false≢true on)),
  marked_as (free_places a) (λ frame. total-lists frame 0 a.lists) (so_far_all h all),
)

-- ---- the processors' lists

pool_of_low : (n : ℕ) → n < 3 → pool_index (pool_numbered n) ≡ n
pool_of_low (suc (suc (suc n))) h = absurd (omega arith)
pool_of_low _ h = refl

pool_numbered-index : (pool : Pool) → pool_numbered (pool_index pool) ≡ pool
pool_numbered-index NuPool = refl
pool_numbered-index NmPool = refl
pool_numbered-index MmPool = refl

-- the list of a number
cached_numbered : (fs : FreeFrames) (number : ℕ)
    → get_or fs.cached number [] ≡ cached_list fs (number / 3) (pool_numbered (number % 3))
cached_numbered fs number =
    let low : number % 3 < 3 = omega arith in
    let pool : pool_index (pool_numbered (number % 3)) ≡ number % 3 = pool_of_low (number % 3) low in
    let whole : number ≡ 3 * (number / 3) + pool_index (pool_numbered (number % 3)) = omega arith in
    ap (λ (n : ℕ). get_or fs.cached n []) whole

-- what holds after a walk over the lists below `number`
abbrev pub CachedSoFar : LayoutParts → FreeFrames → List Row → (number : ℕ) → (old new : List ℕ) → Type 0
CachedSoFar l fs rows number old new =
    SoFar (λ frame n frames. count_by (λ other. other == frame) frames)
    (λ n frames. IsPoolPlaced l fs.areas.kinds rows (pool_numbered (n % 3)) frames)
    fs.cached [] number old new

pub cached_more : (l : LayoutParts) (fs : FreeFrames) (rows : List Row) (number : ℕ) (pool : Pool)
    (kinds : List Kind) (frames : List ℕ) (old mid new : List ℕ)
    → CachedSoFar l fs rows number old mid → number < length fs.cached → pool ≡ pool_numbered (number % 3)
    → kinds ≡ fs.areas.kinds → frames ≡ cached_list fs (number / 3) pool
    → IsPoolPlaced l kinds rows pool frames
    × AreMarked mid new (λ frame. count_by (λ other. other == frame) frames)
    → CachedSoFar l fs rows (number + 1) old new
cached_more l fs rows number pool kinds frames old mid new h low pool_is kinds_is frames_is placed =
    let list : get_or fs.cached number [] ≡ frames = rw (cached_numbered fs number, ← pool_is, ← frames_is) in
    so_far_more h frames low list
    (rw (← pool_is, ← kinds_is) placed.0) placed.1

pub cached_twice : (l : LayoutParts) (fs : FreeFrames) (rows : List Row) (number : ℕ) (pool : Pool)
    (kinds : List Kind) (frames : List ℕ) (old mid : List ℕ)
    → CachedSoFar l fs rows number old mid → number < length fs.cached → pool ≡ pool_numbered (number % 3)
    → kinds ≡ fs.areas.kinds → frames ≡ cached_list fs (number / 3) pool
    → (IsPoolPlaced l kinds rows pool frames
    → IsTwice mid (λ frame. count_by (λ other. other == frame) frames))
    → ArePoolsPlaced l fs rows → IsTwice old (cached_places fs)
cached_twice l fs rows number pool kinds frames old mid h low pool_is kinds_is frames_is twice placed =
    let list : get_or fs.cached number [] ≡ frames = rw (cached_numbered fs number, ← pool_is, ← frames_is) in
    let here : IsPoolPlaced l kinds rows pool frames = rw (kinds_is, frames_is) (placed (number / 3) pool) in
    twice_as (cached_places fs)
    (λ frame. total-sum (λ (xs : List ℕ). count_by (λ other. other == frame) xs) 0 fs.cached)
    (so_far_twice h frames low list (twice here))

pub cached_all : (l : LayoutParts) (fs : FreeFrames) (rows : List Row) (number : ℕ) (old new : List ℕ)
    → CachedSoFar l fs rows number old new → number ≡ length fs.cached
    → ArePoolsPlaced l fs rows × AreMarked old new (cached_places fs)
cached_all l fs rows number old new h all = (
  λ cpu pool. elim (cases_lt (3 * cpu + pool_index pool) (length fs.cached)) [
    | inl low ↦
        let lower : pool_index pool < 3 = pool_index-lt pool in
        let rest : (3 * cpu + pool_index pool) % 3 ≡ pool_index pool = omega arith in
        subst (λ (p : Pool). IsPoolPlaced l fs.areas.kinds rows p (cached_list fs cpu pool))
        (ap pool_numbered rest ∙ pool_numbered-index pool)
        (h.each (3 * cpu + pool_index pool) (omega arith))
    | inr past ↦
        rw (get_or_past fs.cached (3 * cpu + pool_index pool) [] past) (λ frame on. absurd (false≢true on))
  ],
  marked_as (cached_places fs)
      (λ frame. total-sum (λ (xs : List ℕ). count_by (λ other. other == frame) xs) 0 fs.cached)
      (so_far_all h all),
)
