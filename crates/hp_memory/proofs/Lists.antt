-- A list that is filled from its back.
use Rattle.std.proofs.Common.{ℕ, zero, suc, ◌≡◌, ◌+◌, ◌-◌, ◌*◌, ◌/◌, ◌%◌, ◌<◌, ◌≤◌, List, [], ◌∷◌, true, false, None, length, get_or, set, drop, refl, sym, ◌∙◌, ap, subst, arith, inl, inr, eq-eqb}
use Rattle.std.proofs.lemmas.Bool.{cases_eq, cases_lt}
use Rattle.std.proofs.lemmas.List.{drop_more, get_or_past, get_or-set_other, get_or-set_same, length-set, set-set}
use Rattle.std.proofs.lemmas.List.Sums.{get_or-le-sum_by, sum_by-set}
use Rattle.std.specs.Prelude.{sum_by}
use Rattle.hp_units.specs.declared.rows.Class.{Class}
use Rattle.hp_units.specs.declared.rows.Pool.{Pool}
use Rattle.hp_units.specs.LayoutParts.{LayoutParts}
use Rattle.hp_units.specs.Memory.{FreeAreas, Memory, cached_list, class_index, class_numbered, free_list, pool_index, with_free_list}
use Rattle.hp_units.specs.FreeAreas.{is_on}
use Rattle.hp_units.specs.Placement.{IsWellPlaced, covered, free_places, list_places}
use Rattle.hp_tape.specs.Deltas.{may_go_behind}
use Rattle.hp_units.proofs.ListEdits.{covered-self, off-free, on_tail}
use Rattle.hp_units.proofs.Places.{HasOrder, class_index-lt, list_places-cons, with_free_list-places}
use Rattle.hp_units.proofs.Pools.{pool_index-lt}
use Rattle.hp_buddy.proofs.Standing.{number_back}
use Rattle.hp_buddy.proofs.CpuCounts.{one-self, times, times-cons, times-on}
use Rattle.std.proofs.lemmas.Bool.{false_from_ne_true}
use Rattle.hp_buddy.specs.Cpus.{CpusValue, list_of, with_list_of}
use Rattle.hp_memory.specs.Tables.{ArePartly}
use Rattle.hp_buddy.proofs.Linked.{off_all}

-- ---- the entries of a list from its back

-- one entry more
pub longer : (xs : List ℕ) (number at : ℕ) → number < length xs → at ≡ length xs - 1 - number
    → get_or xs at 0 ∷ drop (length xs - number) xs ≡ drop (length xs - (number + 1)) xs
longer xs number at low is = grind (arith, drop_more)

-- a list that has one entry more
pub filled-more : (lists : List (List ℕ)) (n : ℕ) (xs : List ℕ) (number at frame : ℕ) → n < length lists
    → number < length xs → at ≡ length xs - 1 - number → frame ≡ get_or xs at 0
    → set (set lists n (drop (length xs - number) xs)) n (frame ∷ get_or
    (set lists n (drop (length xs - number) xs)) n []) ≡ set lists n (drop (length xs - (number + 1)) xs)
filled-more lists n xs number at frame inside low is e =
    let rest = drop (length xs - number) xs in
    set-set lists n rest (frame ∷ get_or (set lists n rest) n [])
    ∙ ap (λ (ys : List ℕ). set lists n ys)
    (rw (get_or-set_same lists n rest [] inside, e) (longer xs number at low is))

-- ---- a frame that stands on none of the lists

-- the lists of which each is one that is wanted or empty
partly-off : {wanted now : List (List ℕ)} (f n : ℕ) (rest frames : List ℕ) → n < length wanted
    → ArePartly wanted now → ((j : ℕ) → is_on f (get_or (set wanted n rest) j []) ≡ false)
    → may_go_behind (set now n rest) None f frames ≡ true
partly-off {wanted = wanted} {now = now} f n rest frames low partly off = rw (off_all f (set now n rest) each)
  where
    at_other : (j : ℕ) → (j ≡ n → ⊥) → is_on f (get_or now j []) ≡ false
    at_other j apart = elim (partly.each j) [
      | inl same ↦
          ap (λ (xs : List ℕ). is_on f xs) (same ∙ sym (get_or-set_other wanted n j rest [] apart)) ∙ off j
      | inr none ↦ ap (λ (xs : List ℕ). is_on f xs) none
    ]

    each : (j : ℕ) → is_on f (get_or (set now n rest) j []) ≡ false
    each j = elim (cases_eq j n) [
      | inl same ↦
          rw same (ap (λ (xs : List ℕ). is_on f xs) (get_or-set_same now n rest []
          (omega (arith, low, partly.size)) ∙ sym (get_or-set_same wanted n rest [] low)) ∙ off n)
      | inr apart ↦
          ap (λ (xs : List ℕ). is_on f xs) (get_or-set_other now n j rest [] apart) ∙ at_other j apart
    ]

-- ---- the free blocks

-- the blocks after one on a list are fewer
later-places : (f order at : ℕ) (xs : List ℕ) → at < length xs → get_or xs at 0 ≡ f
    → 1 + list_places f order (drop (suc at) xs) ≤ list_places f order xs
later-places f order at [] low is = absurd (omega arith)
later-places f order zero (x ∷ xs) low is =
    let self : covered f order x ≡ 1 = rw is (covered-self order f) in
    omega (arith, list_places-cons f order x xs, self)
later-places f order (suc at) (x ∷ xs) low is =
    omega (arith, list_places-cons f order x xs, later-places f order at xs (omega arith) is)

-- a frame in no free block is on none of the lists
off_areas : (a : FreeAreas) (f n : ℕ) → length a.lists ≡ 5 * n → free_places a f ≡ 0 → (j : ℕ)
    → is_on f (get_or a.lists j []) ≡ false
off_areas a f n size none j = elim (cases_lt j (length a.lists)) [
  | inl low ↦
      rw (← number_back j) (off-free a (class_numbered (j % 5)) (j / 5) f (omega (arith, low, size)) none)
  | inr past ↦ ap (λ (xs : List ℕ). is_on f xs) (get_or_past a.lists j [] past)
]

-- a free block may come in front of those after it
pub fits-free : (l : LayoutParts) (s : Memory) (class : Class) (order number at frame : ℕ)
    (lists : List (List ℕ)) (frames : List ℕ)
    → IsWellPlaced l s → order ≤ l.order
    → number < length (free_list s.free.areas class order)
    → at ≡ length (free_list s.free.areas class order) - 1 - number
    → frame ≡ get_or (free_list s.free.areas class order) at 0
    → ArePartly s.free.areas.lists lists
    → may_go_behind (set lists (5 * order + class_index class) (drop
    (length (free_list s.free.areas class order) - number)
    (free_list s.free.areas class order))) None frame frames ≡ true
fits-free l s class order number at frame lists frames p in_order low is e partly =
    let a = s.free.areas in
    let xs = free_list a class order in
    let rest = drop (length xs - number) xs in
    let has : HasOrder a order = omega (arith, p.in_order.shape.lists, in_order) in
    let n : ℕ = 5 * order + class_index class in
    let inside : n < length a.lists = omega (arith, has, class_index-lt class) in
    let next : length xs - number ≡ suc at = omega arith in
    let fewer : 1 + list_places frame order rest ≤ list_places frame order xs =
    rw next (later-places frame order at xs (omega arith) (sym e)) in
    let none : free_places (with_free_list a class order rest) frame ≡ 0 =
    omega (arith, with_free_list-places a class order frame rest has, fewer, p.once frame) in
    partly-off frame n rest frames inside partly (off_areas (with_free_list a class order rest) frame
    (l.order + 1) (length-set a.lists n rest ∙ p.in_order.shape.lists) none)

-- ---- the single frames

later-times : (f at : ℕ) (xs : List ℕ) → at < length xs → get_or xs at 0 ≡ f
    → 1 + times f (drop (suc at) xs) ≤ times f xs
later-times f at [] low is = absurd (omega arith)
later-times f zero (x ∷ xs) low is = omega (arith, times-cons f x xs, one-self x f is)
later-times f (suc at) (x ∷ xs) low is =
    omega (arith, times-cons f x xs, later-times f at xs (omega arith) is)

off_cached : (lists : List (List ℕ)) (f : ℕ) → sum_by (λ (xs : List ℕ). times f xs) lists ≡ 0 → (j : ℕ)
    → is_on f (get_or lists j []) ≡ false
off_cached lists f none j = grind (arith, false_from_ne_true, times-on, get_or-le-sum_by, get_or_past)

-- a frame may come in front of those after it
pub fits-cached : (l : LayoutParts) (s : Memory) (cpu : ℕ) (pool : Pool) (number at frame : ℕ)
    (lists : List (List ℕ)) (frames : List ℕ)
    → IsWellPlaced l s → cpu < l.cpus
    → number < length (cached_list s.free cpu pool) → at ≡ length (cached_list s.free cpu pool) - 1 - number
    → frame ≡ get_or (cached_list s.free cpu pool) at 0 → ArePartly s.free.cached lists
    → may_go_behind (set lists (3 * cpu + pool_index pool) (drop
    (length (cached_list s.free cpu pool) - number) (cached_list s.free cpu pool))) None frame frames ≡ true
fits-cached l s cpu pool number at frame lists frames p in_cpus low is e partly =
    let wanted = s.free.cached in
    let xs = cached_list s.free cpu pool in
    let rest = drop (length xs - number) xs in
    let n : ℕ = 3 * cpu + pool_index pool in
    let inside : n < length wanted = omega (arith, p.in_order.shape.cached, in_cpus, pool_index-lt pool) in
    let next : length xs - number ≡ suc at = omega arith in
    let fewer : 1 + times frame rest ≤ times frame xs =
    rw next (later-times frame at xs (omega arith) (sym e)) in
    let none : sum_by (λ (ys : List ℕ). times frame ys) (set wanted n rest) ≡ 0 =
    omega
    (arith, sum_by-set (λ (ys : List ℕ). times frame ys) wanted n rest [] inside, fewer, p.once frame) in
    partly-off frame n rest frames inside partly (off_cached (set wanted n rest) frame none)

-- ---- the lists of the free areas and of the processors, as they are filled

-- an entry of a list is on it
pub on-at : (xs : List ℕ) (at : ℕ) → at < length xs → is_on (get_or xs at 0) xs ≡ true
on-at [] at low = absurd (omega arith)
on-at (x ∷ xs) zero low = rw (eq-eqb x x refl) refl
on-at (x ∷ xs) (suc at) low = on_tail (get_or xs at 0) x xs (on-at xs at (omega arith))

-- which entry of a list comes next, from its back
pub record IsNext (xs : List ℕ) (number at frame : ℕ) : Type 0 where
  pub low : number < length xs
  pub at_is : at ≡ length xs - 1 - number
  pub frame_is : frame ≡ get_or xs at 0

-- it is on the list
pub next-on : (xs ys : List ℕ) (number at frame : ℕ) → xs ≡ ys → IsNext xs number at frame
    → is_on frame ys ≡ true
next-on xs ys number at frame same n = grind (arith, on-at)

-- a free block may come in front
pub area-fits : (l : LayoutParts) (s : Memory) (class : Class) (order number at frame : ℕ) (xs : List ℕ)
    (a now : FreeAreas)
    → IsWellPlaced l s → order ≤ l.order → xs ≡ free_list s.free.areas class order
    → IsNext xs number at frame → ArePartly s.free.areas.lists a.lists
    → now ≡ with_free_list a class order (drop (length xs - number) xs)
    → may_go_behind now.lists None frame (free_list now class order) ≡ true
area-fits l s class order number at frame xs a now p in_order same n partly filled =
    let frames = free_list now class order in
    let P : List ℕ → Type 0 =
    λ ys. IsNext ys number at frame
    → may_go_behind (set a.lists (5 * order + class_index class) (drop (length ys - number) ys)) None
    frame frames ≡ true in
    rw filled (subst P (sym same) (λ m. fits-free l s class order number at frame a.lists frames p in_order
    m.low m.at_is m.frame_is partly) n)

-- and then it stands there
pub area-next : (class : Class) (order number at frame : ℕ) (xs : List ℕ) (a now new : FreeAreas)
    → HasOrder a order → IsNext xs number at frame
    → now ≡ with_free_list a class order (drop (length xs - number) xs)
    → new ≡ with_free_list now class order (frame ∷ free_list now class order)
    → new ≡ with_free_list a class order (drop (length xs - (number + 1)) xs)
area-next class order number at frame xs a now new has n filled e = grind (arith, class_index-lt, filled-more)

-- a single frame may come in front
pub cached-fits : (l : LayoutParts) (s : Memory) (cpu : ℕ) (pool : Pool) (number at frame : ℕ) (xs : List ℕ)
    (c now : CpusValue)
    → IsWellPlaced l s → cpu < l.cpus → xs ≡ cached_list s.free cpu pool
    → IsNext xs number at frame → ArePartly s.free.cached c.cached
    → now ≡ with_list_of c cpu pool (drop (length xs - number) xs)
    → may_go_behind now.cached None frame (list_of now cpu pool) ≡ true
cached-fits l s cpu pool number at frame xs c now p in_cpus same n partly filled =
    let frames = list_of now cpu pool in
    let P : List ℕ → Type 0 =
    λ ys. IsNext ys number at frame
    → may_go_behind (set c.cached (3 * cpu + pool_index pool) (drop (length ys - number) ys)) None frame
    frames ≡ true in
    rw filled (subst P (sym same) (λ m. fits-cached l s cpu pool number at frame c.cached frames p in_cpus
    m.low m.at_is m.frame_is partly) n)

-- values of one layout and the same lists
pub same_lists : (v w : CpusValue) → v.layout ≡ w.layout → v.cached ≡ w.cached → v ≡ w
same_lists v w layout cached = rw (layout, cached)

-- and then it stands there
pub cached-next : (cpu : ℕ) (pool : Pool) (number at frame : ℕ) (xs : List ℕ) (c now new : CpusValue)
    → 3 * cpu + pool_index pool < length c.cached → IsNext xs number at frame
    → now ≡ with_list_of c cpu pool (drop (length xs - number) xs) → new.layout ≡ now.layout
    → new.cached ≡ set now.cached (3 * cpu + pool_index pool) (frame ∷ list_of now cpu pool)
    → new ≡ with_list_of c cpu pool (drop (length xs - (number + 1)) xs)
cached-next cpu pool number at frame xs c now new inside n filled layout e =
    grind (arith, filled-more, same_lists)
