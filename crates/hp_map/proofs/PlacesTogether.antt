-- All marks together give each frame its place.
use Rattle.std.proofs.Common.{◌≡◌, ℕ, suc, ◌+◌, ◌*◌, ◌/◌, ◌%◌, ◌^◌, ◌<◌, ◌≤◌, inl, inr, Bool, false, cond, List, [], ◌∷◌, length, Option, Some, None, IfSome, option_map, slice_get, unwrap_or, refl, sym, ap, subst, ◌∙◌, arith}
use Rattle.std.proofs.lemmas.Bool.{cases_lt, cases_Bool, cond_both}
use Rattle.std.proofs.lemmas.List.{get_or_past}
use Rattle.std.proofs.lemmas.Nat.{div-mul-add, mod_below, mul-le, pow_pos, shr_split}
use Rattle.std.proofs.lemmas.Option.{none-some, slice_get_within, unwrap_or-slice_get}
use Rattle.hp_units.specs.Arithmetic.{block_of, frame_count, pageblock_count, pageblock_of, pageblock_size}
use Rattle.hp_units.specs.LayoutParts.{IsLayout, LayoutParts}
use Rattle.hp_units.specs.Memory.{Memory, kernel_order, kind_of, offline_row, plain_kind, row_of}
use Rattle.hp_map.specs.Names.{Row, Kind, State, AbsentState, OfflineState, OnlineState, GoingState}
use Rattle.hp_units.specs.Pages.{frame_at, holds}
use Rattle.hp_units.specs.Placement.{IsWellPlaced, cached_places, free_places, is_unplugged, kernel_places, mapped_places, offline_places}
use Rattle.hp_units.specs.Rows.{is_offline}
use Rattle.hp_map.specs.declared.places.Place.{Place}
use Rattle.hp_map.specs.declared.places.Place.TheVariants.{Free, Isolated, Kernel, Cached, Page}
use Rattle.hp_map.specs.Marks.{AreMarked, Mark, at_frame, marks_below, on_cpu, on_kernel, on_owner, on_unused, free_in, unused_at, unused_in, unused_place}
use Rattle.hp_map.specs.Places.{ArePlacesOf, IsPlaceOf}
use Rattle.hp_laws.proofs.States.{block_of-pageblock}
use Rattle.hp_units.proofs.Geometry.{pageblock_in}
use Rattle.hp_units.proofs.Placed.{kernel-in_use}
use Rattle.hp_units.proofs.Tables.{entry_within, table_of}
use Rattle.hp_map.proofs.Walks.{Has, walk}
use Rattle.hp_map.proofs.PlaceLemmas.{cached_none, mapped_none, kernel_none, IsNot, at_has, IsCachedBy, IsNotCachedBy, cpu_has, holds_is, IsPageOf, IsNoPageOf, owner_has, IsKernelFrom, IsNotKernelFrom, kernel_has}

-- ---- where nothing has the frame

pages_none : (l : LayoutParts) (s : Memory) (k : ℕ) → IsWellPlaced l s
    → ((owner : ℕ) → owner < l.owners → IsNoPageOf l s.pages k owner) → mapped_places s.pages k ≡ 0
pages_none l s k placed none =
    mapped_none s.pages k (λ owner page. elim (cases_Bool (holds k (frame_at s.pages owner page))) [
      | inl held ↦
          let within =
          entry_within l.owners l.pages s.pages.table owner page k (table_of l s placed.in_order)
          (holds_is k (frame_at s.pages owner page) held) in
          none owner within.owner_in page within.page_in
      | inr other ↦ other
    ])

blocks_none : (l : LayoutParts) (s : Memory) (k : ℕ) → IsWellPlaced l s
    → ((first : ℕ) → first < frame_count l → IsNotKernelFrom s k first) → kernel_places s k ≡ 0
blocks_none l s k placed none =
    kernel_none s k (λ first order is. elim (cases_lt first (frame_count l)) [
      | inl low ↦ none first low order is
      | inr past ↦
          absurd (none-some order
          (sym (get_or_past s.kernel first None (omega (arith, placed.in_order.shape.kernel, past))) ∙ is))
    ])

-- the frame of a block that is offline, absent or neither: then it is free

unused_right : (l : LayoutParts) (s : Memory) (k : ℕ) → IsWellPlaced l s → cached_places s.free k ≡ 0
    → mapped_places s.pages k ≡ 0 → kernel_places s k ≡ 0 → IsPlaceOf l s k (unused_place l s k)
unused_right l s k placed no_list no_page no_block =
    by_row (slice_get s.blocks.rows (block_of l k)) (slice_get s.free.areas.kinds (pageblock_of l k))
    (sym (unwrap_or-slice_get s.blocks.rows (block_of l k) offline_row))
    (sym (unwrap_or-slice_get s.free.areas.kinds (pageblock_of l k) plain_kind))
  where
    free : is_unplugged (row_of s.blocks (block_of l k)) ≡ false → free_places s.free.areas k ≡ 1
    free plugged =
        let nowhere : offline_places l s k ≡ 0 = ap (λ (b : Bool). cond b 1 0) plugged in
        omega (arith, placed.once k, no_list, no_page, no_block, nowhere)

    by_kind : (kind : Option Kind) → is_unplugged (row_of s.blocks (block_of l k)) ≡ false
        → kind_of s.free.areas (pageblock_of l k) ≡ unwrap_or kind plain_kind → IsPlaceOf l s k (free_in kind)
    by_kind None plugged is = (free plugged, ap (λ x. x.isolated) is)
    by_kind (Some kind) plugged is =
        let flag = ap (λ (x : Kind). x.isolated) is in
        cond_both kind.isolated Isolated Free (IsPlaceOf l s k) (λ e. (free plugged, flag ∙ e))
        (λ e. (free plugged, flag ∙ e))

    by_state : (row : Row) (state : State) (kind : Option Kind) → row_of s.blocks (block_of l k) ≡ row
        → row.state ≡ state
        → kind_of s.free.areas (pageblock_of l k) ≡ unwrap_or kind plain_kind
        → IsPlaceOf l s k (unused_at state kind)
    by_state row AbsentState kind is state of = rw (is, state)
    by_state row OfflineState kind is state of = rw (is, state)
    by_state row OnlineState kind is state of = by_kind kind (rw (is, state)) of
    by_state row GoingState kind is state of = by_kind kind (rw (is, state)) of

    by_row : (row : Option Row) (kind : Option Kind)
        → row_of s.blocks (block_of l k) ≡ unwrap_or row offline_row
        → kind_of s.free.areas (pageblock_of l k) ≡ unwrap_or kind plain_kind
        → IsPlaceOf l s k (unused_in row kind)
    by_row None kind is of = ap is_offline is
    by_row (Some row) kind is of = by_state row row.state kind is refl of

-- a frame of a pageblock
abbrev pub IsOf : LayoutParts → (k pageblock : ℕ) → Type 0
IsOf l k pageblock = (offset : ℕ) × (offset < pageblock_size l) × (pageblock * pageblock_size l + offset ≡ k)

abbrev pub IsNotOf : LayoutParts → (k pageblock : ℕ) → Type 0
IsNotOf l k pageblock =
    (offset : ℕ) → offset < pageblock_size l → IsNot k (pageblock * pageblock_size l + offset)

abbrev pub first_place : LayoutParts → Memory → (pageblock : ℕ) → Place
first_place l s pageblock = unused_place l s (pageblock * pageblock_size l)

pageblock_has : (l : LayoutParts) (s : Memory) (k n : ℕ)
    → Has (on_unused l s) k (first_place l s) (IsOf l k) (IsNotOf l k) n
pageblock_has l s k n =
    let first : ℕ = n * pageblock_size l in
    elim (walk (λ offset. at_frame (first + offset) (first_place l s n)) k (λ i. first_place l s n)
    (λ i. first + i ≡ k) (λ i. IsNot k (first + i)) (at_has (λ i. first_place l s n) (λ i. first + i) k)
    (pageblock_size l)) [
      | inl hit ↦ inl ((hit.0, hit.1, hit.2), hit.3)
      | inr miss ↦ inr (miss.0, miss.1)
    ]

-- the frames of a pageblock have the place of its first
first_is : (l : LayoutParts) (s : Memory) (k n offset : ℕ) → offset < pageblock_size l
    → n * pageblock_size l + offset ≡ k → first_place l s n ≡ unused_place l s k
first_is l s k n offset low e =
    let here : pageblock_of l k ≡ n = rw (← e) (div-mul-add n (pageblock_size l) offset low) in
    let there : pageblock_of l (n * pageblock_size l) ≡ n =
    subst (λ (x : ℕ). pageblock_of l x ≡ n) (omega arith)
    (div-mul-add n (pageblock_size l) 0 (pow_pos l.order)) in
    let same : pageblock_of l (n * pageblock_size l) ≡ pageblock_of l k = there ∙ sym here in
    rw (block_of-pageblock l (n * pageblock_size l), block_of-pageblock l k, same)

unused_is : (l : LayoutParts) (s : Memory) (k : ℕ) → k < frame_count l → (p : Place)
    → marks_below (on_unused l s) (pageblock_count l) k p ≡ unused_place l s k
unused_is l s k low p =
    elim (walk (on_unused l s) k (first_place l s) (IsOf l k) (IsNotOf l k) (pageblock_has l s k)
    (pageblock_count l)) [
      | inl hit ↦ hit.3 p ∙ first_is l s k hit.0 hit.2.0 hit.2.1 hit.2.2
      | inr miss ↦
          let parts : k / pageblock_size l * pageblock_size l + k % pageblock_size l ≡ k =
          shr_split k l.order in
          absurd (miss.0 (pageblock_of l k) (pageblock_in l k low) (k % pageblock_size l)
          (mod_below k (pageblock_size l) (pow_pos l.order)) parts)
    ]

-- ---- all marks together

abbrev pub marked : LayoutParts → Memory → Mark
marked l s k p =
    marks_below (on_kernel s) (frame_count l) k
    (marks_below (on_owner l s.pages) l.owners k
    (marks_below (on_cpu s.free) l.cpus k (marks_below (on_unused l s) (pageblock_count l) k p)))

marked_right : (l : LayoutParts) (s : Memory) (k : ℕ) → IsWellPlaced l s → k < frame_count l → (p : Place)
    → IsPlaceOf l s k (marked l s k p)
marked_right l s k placed low p =
    let unused = unused_is l s k low p in
    elim (walk (on_kernel s) k (λ n. Kernel) (IsKernelFrom s k) (IsNotKernelFrom s k) (kernel_has s k)
    (frame_count l)) [
      | inl hit ↦ subst (IsPlaceOf l s k) (sym (hit.3 _)) (hit.0, hit.2.0, hit.2.1, hit.2.2)
      | inr no_block ↦
          elim (walk (on_owner l s.pages) k (λ n. Page n) (IsPageOf s.pages k) (IsNoPageOf l s.pages k)
          (owner_has l s.pages k) l.owners) [
            | inl hit ↦ subst (IsPlaceOf l s k) (sym (no_block.1 _ ∙ hit.3 _)) hit.2
            | inr no_page ↦
                elim (walk (on_cpu s.free) k (λ n. Cached n) (IsCachedBy s.free k) (IsNotCachedBy s.free k)
                (cpu_has s.free k) l.cpus) [
                  | inl hit ↦ subst (IsPlaceOf l s k) (sym (no_block.1 _ ∙ (no_page.1 _ ∙ hit.3 _))) hit.2
                  | inr no_list ↦
                      subst (IsPlaceOf l s k) (sym (no_block.1 _ ∙ (no_page.1 _ ∙ (no_list.1 _ ∙ unused))))
                      (unused_right l s k placed
                      (cached_none s.free l.cpus k placed.in_order.shape.cached no_list.0)
                      (pages_none l s k placed no_page.0)
                      (blocks_none l s k placed no_block.0))
                ]
          ]
    ]

-- marks keep the count of places
marked_length : (f : Mark) (old new : List Place) → AreMarked f old new → length new ≡ length old
marked_length f [] [] are = refl
marked_length f [] (y ∷ ys) are = absurd (none-some y (sym (are 0)))
marked_length f (x ∷ xs) [] are = absurd (none-some (f 0 x) (are 0))
marked_length f (x ∷ xs) (y ∷ ys) are = rw (marked_length (λ k. f (suc k)) xs ys (λ k. are (suc k)))

if_mapped : (Q : Place → Type 0) (f : Place → Place) (o : Option Place) → ((p : Place) → o ≡ Some p → Q (f p))
    → IfSome (option_map f o) Q
if_mapped Q f o h = grind arith

four_marks : (f g h i : Mark) (a b c d e : List Place) → AreMarked f a b → AreMarked g b c → AreMarked h c d
    → AreMarked i d e → AreMarked (λ k p. i k (h k (g k (f k p)))) a e
four_marks f g h i a b c d e one two three four = grind arith

-- the places of a state, marked from any others
pub places_are : (l : LayoutParts) (s : Memory) (old unused cached mapped new : List Place) → IsWellPlaced l s
    → length old ≡ frame_count l
    → AreMarked (marks_below (on_unused l s) (pageblock_count l)) old unused
    → AreMarked (marks_below (on_cpu s.free) l.cpus) unused cached
    → AreMarked (marks_below (on_owner l s.pages) l.owners) cached mapped
    → AreMarked (marks_below (on_kernel s) (frame_count l)) mapped new
    → ArePlacesOf l s new
places_are l s old unused cached mapped new placed size first second third fourth =
    let all : AreMarked (marked l s) old new =
    four_marks (marks_below (on_unused l s) (pageblock_count l)) (marks_below (on_cpu s.free) l.cpus)
    (marks_below (on_owner l s.pages) l.owners) (marks_below (on_kernel s) (frame_count l)) old unused cached
    mapped new first second third fourth in
    record {
      count = marked_length (marked l s) old new all ∙ size;
      each = λ k. rw (all k) (if_mapped (IsPlaceOf l s k) (marked l s k) (slice_get old k) (λ p is.
          marked_right l s k placed (rw (← size) (slice_get_within old k p is)) p));
    }

-- a kernel's block lies within the frames
pub block_within : (l : LayoutParts) (s : Memory) (first : ℕ) (entry : Option ℕ) → IsLayout l
    → IsWellPlaced l s → entry ≡ kernel_order s first
    → IfSome entry (λ order. (order ≤ 10) × (first + 2 ^ order ≤ 2 ^ 20))
block_within l s first entry limits placed is = grind (arith, kernel-in_use)

-- a pageblock lies within the frames
pub pageblock_within : (l : LayoutParts) (n : ℕ) → IsLayout l → n < pageblock_count l
    → n * pageblock_size l + pageblock_size l ≤ 2 ^ 20
pageblock_within l n limits low =
    let all : (n + 1) * 2 ^ l.order ≤ l.blocks * l.pageblocks * 2 ^ l.order =
    mul-le (n + 1) (2 ^ l.order) (l.blocks * l.pageblocks) (2 ^ l.order) (omega (arith, low))
    (omega arith) in
    let turned : l.blocks * (l.pageblocks * 2 ^ l.order) ≡ l.blocks * l.pageblocks * 2 ^ l.order =
    grind arith in
    let one : (n + 1) * 2 ^ l.order ≡ n * 2 ^ l.order + 2 ^ l.order = grind arith in
    omega (arith, all, turned, one, limits.frames)
