-- An operation commits: its isolated pageblocks leave the areas, and a block goes offline.
use Rattle.std.proofs.Common.{◌≡◌, ◌≢◌, ℕ, zero, suc, ◌+◌, ◌*◌, ◌^◌, ◌<◌, ◌≤◌, List, [], ◌∷◌, length, get_or, set, true, false, not, Option, refl, sym, ◌∙◌, ap, subst, arith, ◌⊎◌, inl, inr, length-set, eqb-true, ne_eqb, ◌==◌}
use Rattle.std.specs.Prelude.{fold}
use Rattle.std.specs.List.{range_with_len}
use Rattle.std.proofs.lemmas.Bool.Decides.{nat_tests}
use Rattle.std.proofs.lemmas.Bool.{cases_eq, cases_lt, or_cases, or_left, cond_both, or_right}
use Rattle.std.proofs.lemmas.List.{get_or-set_other, get_or-set_same}
use Rattle.std.proofs.lemmas.Nat.{mul-le, pow_pos, shl-shr}
use Rattle.hp_units.specs.declared.rows.Class.{Class}
use Rattle.hp_units.specs.declared.rows.Kind.{Kind}
use Rattle.hp_units.specs.declared.rows.Row.{Row}
use Rattle.hp_units.specs.declared.rows.Zone.{Zone}
use Rattle.hp_units.specs.LayoutParts.{LayoutParts, IsLayout}
use Rattle.hp_units.specs.Arithmetic.{block_of, block_of_pageblock, pageblock_of}
use Rattle.hp_units.specs.Memory.{FreeAreas, Memory, free_list, offline_row, plain_kind, row_of, isolated_class}
use Rattle.hp_units.specs.FreeAreas.{is_on, without, without_free}
use Rattle.hp_units.specs.Isolation.{remove_block, remove_pageblock}
use Rattle.hp_units.specs.Rows.{is_going, with_areas, with_block_row}
use Rattle.hp_units.specs.Placement.{IsInOrder, IsRow, IsWellPlaced, cached_places, class_at, free_places, is_unplugged, kernel_places, kind_at, offline_places, row_at}
use Rattle.hp_units.proofs.Joins.{without_free-places}
use Rattle.hp_laws.specs.Commits.{IsAllFree, IsInRange}
use Rattle.hp_laws.proofs.Ordered.{AreOrdered}
use Rattle.hp_units.proofs.ListEdits.{free_list-cases}
use Rattle.hp_laws.proofs.Areas.{has_order, other-ordered, part-ordered}
use Rattle.hp_units.proofs.ListParts.{without-part}
use Rattle.hp_laws.proofs.States.{areas_of, block_of-pageblock, get_or-cases, reshaped}
use Rattle.hp_laws.proofs.Rows.{kernel_some, on_cached, row_at-other, kernel_kept}
use Rattle.hp_laws.proofs.Onlines.{inside, outside, within, within-split}
use Rattle.hp_laws.proofs.Isolations.{pageblock_elsewhere, pageblock_range, some_pageblocks}

-- ---- what stays on a list

pub on_without-other : (first block : ℕ) (frames : List ℕ) → first ≢ block → is_on first frames ≡ true
    → is_on first (without block frames) ≡ true
on_without-other first block [] ne on = cc
on_without-other first block (x ∷ xs) ne on = elim (or_cases (x == first) (is_on first xs) on) [
  | inl same ↦ rw (ne_eqb x block (λ e. ne (sym (eqb-true x first same) ∙ e))) (or_left _ _ same)
  | inr there ↦
      let rest = on_without-other first block xs ne there in
      cond_both (not (x == block)) _ _ (λ ys. is_on first ys ≡ true) (λ _. or_right _ _ rest) (λ _. rest)
]

-- ---- isolated pageblocks leave the areas

abbrev pub IsOutside : (from count pageblock : ℕ) → Type 0
IsOutside from count pageblock = (pageblock < from) ⊎ (from + count ≤ pageblock)

pub record RemovesRange (l : LayoutParts) (class_at : ℕ → Option Class) (from count : ℕ)
    (a b : FreeAreas) : Type 0 where
  pub ordered : AreOrdered l class_at b
  pub places : (frame : ℕ)
      → free_places b frame + within frame (from * 2 ^ l.order) ((from + count) * 2 ^ l.order)
      ≡ free_places a frame
  pub size : length b.kinds ≡ length a.kinds
  pub inside : (pageblock : ℕ) → IsInRange from count pageblock → kind_at b.kinds pageblock ≡ plain_kind
  pub outside : (pageblock : ℕ) → IsOutside from count pageblock
      → kind_at b.kinds pageblock ≡ kind_at a.kinds pageblock
  pub stays : (class : Class) (order first : ℕ) → IsOutside from count (pageblock_of l first)
      → is_on first (free_list a class order) ≡ true → is_on first (free_list b class order) ≡ true

pub remove_one : (l : LayoutParts) (class_at : ℕ → Option Class) (zone : Zone) (a : FreeAreas) (pageblock : ℕ)
    → pageblock < length a.kinds → AreOrdered l class_at a
    → is_on (pageblock * 2 ^ l.order) (free_list a (isolated_class zone) l.order) ≡ true
    → RemovesRange l class_at pageblock 1 a (remove_pageblock l zone a pageblock)
remove_one l class_at zone a pageblock short h on =
    let class : Class = isolated_class zone in
    let first : ℕ = pageblock * 2 ^ l.order in
    let has = has_order l _ a l.order h (omega arith) in
    let ordered : AreOrdered l class_at (without_free a class l.order first) =
    part-ordered l _ a class _ _ (omega arith) (without-part _ first _) h in
    let next : (pageblock + 1) * 2 ^ l.order ≡ pageblock * 2 ^ l.order + 2 ^ l.order = grind arith in
    record {
      ordered =
          record {
            lists = ordered.lists;
            few = ordered.few;
            blocks = ordered.blocks;
            joined = ordered.joined;
          };
      places = λ frame. rw next (without_free-places a class _ first frame has (h.few first) on);
      size = length-set a.kinds pageblock plain_kind;
      inside = λ other among. (let same : other ≡ pageblock = omega (arith, among.low, among.high) in
          rw same (get_or-set_same a.kinds pageblock plain_kind plain_kind short));
      outside =
          λ other away. get_or-set_other a.kinds pageblock other plain_kind plain_kind (apart other away);
      stays =
          λ c o frame away there. free_list-cases (λ (d : Class) (n : ℕ) (xs : List ℕ). is_on frame
          (free_list a d n) ≡ true → is_on frame xs ≡ true) a class _ _ has
          (on_without-other frame first _ (λ same. apart _ away
          (rw (same, shl-shr pageblock l.order)))) (λ d n e. e) c o there;
    }
  where
    apart : (other : ℕ) → IsOutside pageblock 1 other → other ≡ pageblock → ⊥
    apart other (inl low) same = absurd (omega arith)
    apart other (inr high) same = absurd (omega arith)

remove_all : (l : LayoutParts) (class_at : ℕ → Option Class) (zone : Zone) (a : FreeAreas) (from count : ℕ)
    → from + count ≤ length a.kinds → AreOrdered l class_at a
    → ((pageblock : ℕ) → IsInRange from count pageblock
    → is_on (pageblock * 2 ^ l.order) (free_list a (isolated_class zone) l.order) ≡ true)
    → RemovesRange l class_at from count a (fold (remove_pageblock l zone) a (range_with_len from count))
remove_all l class_at zone a from zero short h on = record {
  ordered = h;
  places =
      λ frame.
      (let same : from + 0 ≡ from = omega arith in rw same (omega (arith, none frame (from * 2 ^ l.order))));
  size = refl;
  inside = λ pageblock among. absurd (omega (arith, among.low, among.high));
  outside = λ pageblock away. refl;
  stays = λ class order first away there. there;
}
  where
    none : (frame low : ℕ) → within frame low low ≡ 0
    none frame low = grind (arith, nat_tests)
remove_all l class_at zone a from (suc count) short h on =
    let b : FreeAreas = remove_pageblock l zone a from in
    let first =
    remove_one l _ zone a from (omega arith) h (on from (record { low = omega arith; high = omega arith })) in
    let rest = remove_all l _ zone b _ count (omega (arith, first.size)) first.ordered
    (λ pageblock among. first.stays (isolated_class zone) l.order (pageblock * 2 ^ l.order)
    (inr (rw (shl-shr pageblock l.order) among.low))
    (on pageblock (record { low = omega (arith, among.low); high = omega (arith, among.high) }))) in
    let sum : from + 1 + count ≡ from + suc count = omega arith in
    let near : from * 2 ^ l.order ≤ (from + 1) * 2 ^ l.order =
    mul-le from (2 ^ l.order) (from + 1) (2 ^ l.order) (omega arith) (omega arith) in
    let far : (from + 1) * 2 ^ l.order ≤ (from + suc count) * 2 ^ l.order =
    mul-le (from + 1) (2 ^ l.order) (from + suc count) (2 ^ l.order) (omega arith) (omega arith) in
    record {
      ordered = rest.ordered;
      places =
          λ frame. omega (
            arith,
            rw sum at (rest.places frame),
            first.places frame,
            within-split frame
                _ _ _ near far,
          );
      size = rest.size ∙ first.size;
      inside = λ pageblock among. elim (cases_lt pageblock (from + 1)) [
        | inl low ↦
            rest.outside pageblock (inl low) ∙ first.inside pageblock (record { low = among.low; high = low })
        | inr high ↦ rest.inside pageblock (record { low = high; high = omega (arith, among.high) })
      ];
      outside =
          λ pageblock away.
          rest.outside pageblock (after _ away) ∙ first.outside pageblock (before _ away);
      stays =
          λ class order frame away there. rest.stays class order frame (after _ away)
          (first.stays class order frame (before _ away) there);
    }
  where
    after : (pageblock : ℕ) → IsOutside from (suc count) pageblock → IsOutside (from + 1) count pageblock
    after pageblock (inl low) = inl (omega arith)
    after pageblock (inr high) = inr (omega arith)

    before : (pageblock : ℕ) → IsOutside from (suc count) pageblock → IsOutside from 1 pageblock
    before pageblock (inl low) = inl low
    before pageblock (inr high) = inr (omega arith)

-- ---- a block goes offline

pub remove_block-range : (l : LayoutParts) (s : Memory) (block : ℕ) (zone : Zone) → IsWellPlaced l s
    → block < l.blocks → IsAllFree l s.free.areas zone block
    → RemovesRange l (class_at l s.free.areas.kinds s.blocks.rows) (block * l.pageblocks) l.pageblocks
    s.free.areas (remove_block l zone s.free.areas block)
remove_block-range l s block zone p low all =
    let far : (block + 1) * l.pageblocks ≤ l.blocks * l.pageblocks =
    mul-le (block + 1) l.pageblocks l.blocks l.pageblocks (omega arith) (omega arith) in
    let next : (block + 1) * l.pageblocks ≡ block * l.pageblocks + l.pageblocks = grind arith in
    remove_all l _ zone _ _ _ (omega (arith, p.in_order.shape.kinds)) (areas_of l s p) all

pub offlined-placed : (l : LayoutParts) (s : Memory) (block : ℕ) (zone : Zone) → IsLayout l → IsWellPlaced l s
    → block < l.blocks → is_unplugged (row_of s.blocks block) ≡ false → IsAllFree l s.free.areas zone block
    → IsWellPlaced l
    (with_areas (with_block_row s block offline_row) (remove_block l zone s.free.areas block))
offlined-placed l s block zone layout p low plugged all =
    let h : IsInOrder l s = p.in_order in
    let rows : List Row = set s.blocks.rows block offline_row in
    let b : FreeAreas = remove_block l zone s.free.areas block in
    let range = remove_block-range l s block zone p low all in
    let some : 0 < l.pageblocks = some_pageblocks l layout in
    let short : block < length s.blocks.rows = omega (arith, h.shape.rows) in
    let now : get_or rows block offline_row ≡ offline_row =
    get_or-set_same s.blocks.rows block offline_row offline_row short in
    let start : block * l.pageblocks * 2 ^ l.order ≡ block * (l.pageblocks * 2 ^ l.order) = grind arith in
    let end : (block * l.pageblocks + l.pageblocks) * 2 ^ l.order
    ≡ block * (l.pageblocks * 2 ^ l.order) + l.pageblocks * 2 ^ l.order =
    grind arith in
    let pos : 0 < 2 ^ l.order = pow_pos l.order in
    let size : 0 < l.pageblocks * 2 ^ l.order =
    omega (arith, mul-le 1 1 l.pageblocks (2 ^ l.order) some pos) in
    let places : (frame : ℕ)
    → free_places b frame + within frame (block * (l.pageblocks * 2 ^ l.order))
    (block * (l.pageblocks * 2 ^ l.order) + l.pageblocks * 2 ^ l.order) ≡ free_places s.free.areas frame =
    λ frame. rw (start, end) at (range.places frame) in
    let away_free : (frame : ℕ) → 1 ≤ free_places b frame → block_of l frame ≢ block =
    λ frame there same. absurd (omega
    (arith, places frame, inside frame (l.pageblocks * 2 ^ l.order) block size same, p.once frame)) in
    let away : (frame : ℕ) → 1 ≤ cached_places s.free frame + kernel_places s frame
    → block_of l frame ≢ block =
    λ frame there same. absurd (omega
    (arith, places frame, inside frame (l.pageblocks * 2 ^ l.order) block size same, p.once frame)) in
    let row_same : (frame : ℕ) → block_of l frame ≢ block
    → row_at l rows (pageblock_of l frame) ≡ row_at l s.blocks.rows (pageblock_of l frame) =
    λ frame ne. row_at-other l s.blocks.rows block frame offline_row ne in
    let kind_same : (frame : ℕ) → block_of l frame ≢ block
    → kind_at b.kinds (pageblock_of l frame) ≡ kind_at s.free.areas.kinds (pageblock_of l frame) =
    λ frame ne. range.outside (pageblock_of l frame)
    (pageblock_elsewhere l block _ (λ same. ne (block_of-pageblock l frame ∙ same))) in
    let ordered : AreOrdered l (class_at l b.kinds rows) b =
    other-ordered l _ _ b (λ first there.
    rw (row_same first (away_free first there), kind_same first (away_free first there))) range.ordered in
    record {
      in_order = record {
        shape =
            reshaped l s _ _ _ h.shape ordered.lists (range.size ∙ h.shape.kinds) h.shape.cached
            h.shape.kernel (length-set s.blocks.rows block offline_row ∙ h.shape.rows);
        blocks = ordered.blocks;
        joined = ordered.joined;
        cached = λ cpu pool frame on.
            let some : 1 ≤ cached_places s.free frame = on_cached s.free cpu pool frame on in
            let ne : block_of l frame ≢ block = away frame (omega arith) in
            rw (row_same frame ne, kind_same frame ne) (h.cached cpu pool frame on);
        kernel =
            λ first. kernel_kept l _ rows first _
            (λ order e. row_same first (away first (omega (arith, kernel_some s first order e))))
            (h.kernel first);
        mobility = λ pageblock unmovable. elim (cases_eq (block_of_pageblock l pageblock) block) [
          | inl same ↦ cc (rw (range.inside pageblock (pageblock_range l block _ some same)) at unmovable)
          | inr ne ↦
              rw (get_or-set_other s.blocks.rows block (block_of_pageblock l pageblock) offline_row
              offline_row ne) (h.mobility pageblock (ap (λ (k : Kind). k.mobility)
              (sym (range.outside pageblock (pageblock_elsewhere l block _ ne))) ∙ unmovable))
        ];
        isolated = λ pageblock. elim (cases_eq (block_of_pageblock l pageblock) block) [
          | inl same ↦
              rw (range.inside pageblock (pageblock_range l block _ some same)) (rw (←
              (subst (λ (n : ℕ). is_going (get_or rows n offline_row) ≡ false) (sym same) (ap is_going now))))
          | inr ne ↦
              rw (range.outside pageblock (pageblock_elsewhere l block _ ne), h.isolated pageblock)
              (rw (← get_or-set_other s.blocks.rows block (block_of_pageblock l pageblock) offline_row
              offline_row ne))
        ];
        rows =
            get_or-cases (λ (n : ℕ) (r : Row). IsRow r) _ block _ _ short
            (refl, refl) h.rows;
        words = h.words;
      };
      once = λ frame. elim (cases_eq (block_of l frame) block) [
        | inl same ↦
            let old : offline_places l s frame ≡ 0 = rw same (rw plugged) in
            let new : offline_places l (with_block_row s block offline_row) frame ≡ 1 = rw same (rw now) in
            omega
            (arith, p.once frame, places frame, inside frame (l.pageblocks * 2 ^ l.order) block size same)
        | inr ne ↦
            let new : offline_places l (with_block_row s block offline_row) frame ≡ offline_places l s frame =
            rw (get_or-set_other s.blocks.rows block (block_of l frame) offline_row offline_row ne) in
            omega (arith, p.once frame, places frame, outside frame (l.pageblocks * 2 ^ l.order) block ne)
      ];
    }
