-- The lists of the free areas and of the processors, as they are filled from an Image.
use Rattle.std.proofs.Common.{ℕ, ◌≡◌, ◌+◌, ◌-◌, ◌*◌, ◌<◌, ◌≤◌, List, [], ◌∷◌, true, length, get_or, set, take, ◌++◌, ◌^◌, refl, sym, subst, arith, inl, inr}
use Rattle.std.proofs.lemmas.Bool.{cases_lt}
use Rattle.std.proofs.lemmas.List.{get_or_read, take_more, get_or-set_same, set-set}
use Rattle.std.proofs.lemmas.List.Sums.{get_or-le-sum_by}
use Rattle.hp_units.specs.declared.rows.Class.{Class}
use Rattle.hp_units.specs.Arithmetic.{IsFrame, frame_count}
use Rattle.std.proofs.lemmas.Nat.{pow_pos}
use Rattle.hp_units.proofs.Placed.{free-within, past-offline}
use Rattle.hp_units.specs.declared.rows.Pool.{Pool}
use Rattle.hp_units.specs.LayoutParts.{LayoutParts, IsLayout}
use Rattle.hp_units.specs.Memory.{FreeAreas, Memory, cached_list, free_list, pool_index}
use Rattle.hp_units.specs.FreeAreas.{is_on}
use Rattle.hp_units.specs.Placement.{IsWellPlaced}
use Rattle.hp_units.proofs.Pools.{pool_index-lt}
use Rattle.hp_buddy.proofs.CpuCounts.{times, times-on}
use Rattle.hp_memory.proofs.Lists.{on-at, IsNext, next-on}

-- ---- a list of many

-- ---- the numbers of what comes onto a list

-- the next entry from the back
pub next-of : {frame : ℕ} (xs : List ℕ) (number : ℕ) → number < length xs
    → frame ≡ get_or xs (length xs - 1 - number) frame → IsNext xs number (length xs - 1 - number) frame
next-of {frame = frame} xs number low is =
    record {
      low = low;
      at_is = refl;
      frame_is = get_or_read xs (length xs - 1 - number) frame (omega (arith, low)) is 0;
    }

pub area-numbers : (l k : LayoutParts) (s : Memory) (class : Class) (order number at frame : ℕ) (xs : List ℕ)
    → IsLayout l → IsWellPlaced l s → k ≡ l → order ≤ l.order → xs ≡ free_list s.free.areas class order
    → IsNext xs number at frame → (order ≤ k.order) × IsFrame k frame
area-numbers l k s class order number at frame xs limits p same in_order is n =
    let within =
    free-within l s class order frame limits p
    (next-on xs (free_list s.free.areas class order) number at frame is n) in
    let some : 0 < 2 ^ order = pow_pos order in
    let inside : frame < frame_count l = omega (arith, within, some) in
    subst (λ (m : LayoutParts). (order ≤ m.order) × IsFrame m frame) (sym same) (in_order, inside)

cached-within : {l : LayoutParts} {s : Memory} (cpu : ℕ) (pool : Pool) (frame : ℕ) → IsLayout l
    → IsWellPlaced l s → cpu < l.cpus → is_on frame (cached_list s.free cpu pool) ≡ true
    → frame < frame_count l
cached-within {l = l} {s = s} cpu pool frame limits p in_cpus on = elim (cases_lt frame (frame_count l)) [
  | inl inside ↦ inside
  | inr past ↦
      let place : 3 * cpu + pool_index pool < length s.free.cached =
      omega (arith, p.in_order.shape.cached, in_cpus, pool_index-lt pool) in
      let among =
      get_or-le-sum_by (λ (ys : List ℕ). times frame ys) s.free.cached (3 * cpu + pool_index pool) []
      place in
      absurd (omega (
        arith,
        p.once frame,
        past-offline l s frame limits p.in_order.shape.rows past,
        times-on frame (cached_list s.free cpu pool) on,
        among,
      ))
]

pub cached-numbers : (l k : LayoutParts) (s : Memory) (cpu : ℕ) (pool : Pool) (number at frame : ℕ)
    (xs : List ℕ)
    → IsLayout l → IsWellPlaced l s → k ≡ l → cpu < l.cpus → xs ≡ cached_list s.free cpu pool
    → IsNext xs number at frame → (cpu < k.cpus) × IsFrame k frame
cached-numbers l k s cpu pool number at frame xs limits p same in_cpus is n =
    subst (λ (m : LayoutParts). (cpu < m.cpus) × IsFrame m frame) (sym same) (
      in_cpus,
      cached-within cpu pool frame limits p in_cpus
          (next-on xs (cached_list s.free cpu pool) number at frame is n),
    )

-- areas of the same lists and kinds
pub same_areas : (v w : FreeAreas) → v.lists ≡ w.lists → v.kinds ≡ w.kinds → v ≡ w
same_areas v w lists kinds = rw (lists, kinds)

-- ---- a list that is filled from its front

pub appended-more : {frame : ℕ} (lists : List (List ℕ)) (n : ℕ) (xs : List ℕ) (number : ℕ) → n < length lists
    → number < length xs → frame ≡ get_or xs number frame
    → set (set lists n (take number xs)) n (get_or (set lists n (take number xs)) n [] ++ frame ∷ [])
    ≡ set lists n (take (number + 1) xs)
appended-more {frame = frame} lists n xs number inside low is =
    grind (arith, set-set, get_or-set_same, get_or_read, take_more)

-- an entry of a list is on it
pub item-on : {xs ys : List ℕ} {frame : ℕ} (number : ℕ) → xs ≡ ys → number < length xs
    → frame ≡ get_or xs number frame → is_on frame ys ≡ true
item-on {xs = xs} {ys = ys} {frame = frame} number same low is =
    subst (λ (f : ℕ). is_on f ys ≡ true) (sym (get_or_read xs number frame low is 0))
    (subst (λ (zs : List ℕ). is_on (get_or xs number 0) zs ≡ true) same (on-at xs number low))
