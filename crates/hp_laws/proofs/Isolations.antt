-- A block's pageblocks become isolated, or are so no more, and its row changes with them.
use Rattle.std.proofs.Common.{◌≡◌, ◌≢◌, ℕ, zero, suc, ◌+◌, ◌*◌, ◌/◌, ◌^◌, ◌<◌, ◌≤◌, List, length, get_or, set, Bool, false, Option, Some, refl, sym, ◌∙◌, ap, arith, ◌⊎◌, inl, inr, length-set}
use Rattle.std.specs.Prelude.{fold}
use Rattle.std.specs.List.{range_with_len}
use Rattle.std.proofs.lemmas.Bool.{cases_eq, cases_lt, both_ways, false_from_ne_true}
use Rattle.std.proofs.lemmas.List.{get_or-set_other, get_or-set_same}
use Rattle.std.proofs.lemmas.Nat.{pow_pos, mul-le, div-add-mod'}
use Rattle.std.proofs.lemmas.Option.{same_Some}
use Rattle.std.proofs.Math.Nat.{lt-div-mul-add}
use Rattle.hp_units.specs.declared.rows.Class.{Class}
use Rattle.hp_units.specs.declared.rows.Kind.{Kind}
use Rattle.hp_units.specs.declared.rows.Row.{Row}
use Rattle.hp_units.specs.declared.rows.Zone.{Zone}
use Rattle.hp_units.specs.LayoutParts.{LayoutParts, IsLayout}
use Rattle.hp_units.specs.Arithmetic.{block_of, block_of_pageblock, buddy, pageblock_of}
use Rattle.hp_units.specs.Memory.{FreeAreas, Memory, free_list, kernel_order, offline_row, plain_kind, row_of}
use Rattle.hp_units.specs.FreeAreas.{is_on, class_of_kind}
use Rattle.hp_units.specs.Isolation.{move_block, move_free_below, move_pageblock}
use Rattle.hp_units.specs.Rows.{is_going, with_areas, with_block_row}
use Rattle.hp_units.specs.Placement.{IsBlockOf, IsInOrder, IsKernelAt, IsRow, IsWellPlaced, class_at, free_places, is_unplugged, kind_at, offline_places, row_at}
use Rattle.hp_laws.proofs.Ordered.{AreOrdered}
use Rattle.hp_laws.proofs.Options.{some_weaker}
use Rattle.hp_units.proofs.Geometry.{buddy_above}
use Rattle.hp_laws.proofs.Areas.{on_free, other-ordered}
use Rattle.hp_laws.proofs.States.{areas_of, get_or-cases, reshaped}
use Rattle.hp_laws.proofs.Rows.{unplugged_zone}
use Rattle.hp_laws.proofs.Onlines.{quotient}
use Rattle.hp_laws.specs.Commits.{IsInRange}
use Rattle.hp_laws.proofs.Pageblocks.{IsKeptBlock, MovesBelow, WasBlock, moves_below}
use Rattle.hp_laws.proofs.Lists.{one_if}

-- ---- one pageblock's free blocks

pub record MovesOrdered (l : LayoutParts) (now : ℕ → Option Class) (a b : FreeAreas) : Type 0 where
  pub ordered : AreOrdered l now b
  pub places : (frame : ℕ) → free_places b frame ≡ free_places a frame
  pub kinds : b.kinds ≡ a.kinds

module _ (l : LayoutParts) (at now : ℕ → Option Class) (a : FreeAreas) (from to : Class) (pageblock : ℕ)
    (is : at pageblock ≡ Some from) (becomes : now pageblock ≡ Some to)
    (others : (other : ℕ) → other ≢ pageblock → now other ≡ at other) (h : AreOrdered l at a) where
  -- a block that was kept is of another pageblock
  kept_away : (class : Class) (order first : ℕ)
      → IsKeptBlock l a from pageblock (l.order + 1) class order first → pageblock_of l first ≢ pageblock
  kept_away class order first kept here =
      let same : class ≡ from =
      same_Some class from (sym (h.blocks class order first kept.was).class_agrees ∙ ap at here ∙ is) in
      kept.away (omega (arith, (on_free l at a class order first h kept.was).low)) same here

  moves-block : (class : Class) (order first : ℕ)
      → WasBlock l a from to pageblock (l.order + 1) class order first → IsBlockOf l now class order first
  moves-block class order first (inl m) =
      record {
        aligned = (h.blocks from order first m.was).aligned;
        class_agrees = rw (m.here, becomes, ← m.class_is);
      }
  moves-block class order first (inr k) =
      let block = h.blocks class order first k.was in
      record {
        aligned = block.aligned;
        class_agrees = others (pageblock_of l first) (kept_away class order first k) ∙ block.class_agrees;
      }

  moves-joined : (class : Class) (order first : ℕ) → order < l.order
      → WasBlock l a from to pageblock (l.order + 1) class order first
      → WasBlock l a from to pageblock (l.order + 1) class order (buddy first order) → ⊥
  moves-joined class order first below (inl m) (inl n) =
      both_ways _ (h.joined from order first below m.was) n.was
  moves-joined class order first below (inl m) (inr n) =
      kept_away class order (buddy first order) n
      (buddy_above first order _ (h.blocks from order first m.was).aligned below ∙ m.here)
  moves-joined class order first below (inr k) (inl n) =
      kept_away class order first k
      (sym (buddy_above first order _ (h.blocks class order first k.was).aligned below) ∙ n.here)
  moves-joined class order first below (inr k) (inr n) =
      both_ways _ (h.joined class order first below k.was) n.was

  pub moves-ordered : MovesOrdered l now a (move_free_below l a from to pageblock (l.order + 1))
  moves-ordered =
      let b : FreeAreas = move_free_below l a from to pageblock (l.order + 1) in
      let moved : MovesBelow l a from to pageblock (l.order + 1) b =
      moves_below l a from to pageblock (l.order + 1) (omega (arith, h.lists)) h.few in
      record {
        ordered = record {
          lists = moved.lists ∙ h.lists;
          few = λ frame. omega (arith, moved.places frame, h.few frame);
          blocks = λ class order first on. moves-block class order first (moved.blocks class order first on);
          joined =
              λ class order first below on.
              false_from_ne_true (is_on (buddy first order) (free_list b class order)) (λ there.
              moves-joined class order first below (moved.blocks class order first on)
              (moved.blocks class order (buddy first order) there));
        };
        places = moved.places;
        kinds = moved.kinds;
      }

-- ---- one pageblock after another

pub record MovesRange (l : LayoutParts) (rows : List Row) (isolated : Bool) (from count : ℕ)
    (a b : FreeAreas) : Type 0 where
  pub ordered : AreOrdered l (class_at l b.kinds rows) b
  pub places : (frame : ℕ) → free_places b frame ≡ free_places a frame
  pub size : length b.kinds ≡ length a.kinds
  pub mobility : (pageblock : ℕ) → (kind_at b.kinds pageblock).mobility ≡ (kind_at a.kinds pageblock).mobility
  pub inside : (pageblock : ℕ) → IsInRange from count pageblock
      → (kind_at b.kinds pageblock).isolated ≡ isolated
  pub outside : (pageblock : ℕ) → (pageblock < from) ⊎ (from + count ≤ pageblock)
      → (kind_at b.kinds pageblock).isolated ≡ (kind_at a.kinds pageblock).isolated

move_pageblock-range : (l : LayoutParts) (rows : List Row) (zone : Zone) (isolated : Bool) (a : FreeAreas)
    (pageblock : ℕ)
    → pageblock < length a.kinds → (row_at l rows pageblock).zone ≡ Some zone
    → AreOrdered l (class_at l a.kinds rows) a
    → MovesRange l rows isolated pageblock 1 a (move_pageblock l zone isolated a pageblock)
unfolding move_pageblock
move_pageblock-range l rows zone isolated a pageblock short zone_is h =
    let ks : List Kind = a.kinds in
    let kind : Kind = kind_at ks pageblock in
    let moved : Kind = record kind { isolated = isolated } in
    let from : Class = class_of_kind zone kind in
    let to : Class = class_of_kind zone moved in
    let b : FreeAreas = move_free_below l a from to pageblock (l.order + 1) in
    let now : get_or (set ks pageblock moved) pageblock plain_kind ≡ moved =
    get_or-set_same ks pageblock moved plain_kind short in
    let others : (other : ℕ) → other ≢ pageblock
    → get_or (set ks pageblock moved) other plain_kind ≡ get_or ks other plain_kind =
    λ other ne. get_or-set_other ks pageblock other moved plain_kind ne in
    let moves : MovesOrdered l (class_at l (set ks pageblock moved) rows) a b =
    moves-ordered l _ _ a from to _ (rw zone_is) (rw (now, zone_is)) (λ other ne. rw (others other ne)) h in
    let whole : MovesRange l rows isolated pageblock 1 a (record b { kinds = set ks pageblock moved }) =
    record {
      ordered =
          record {
            lists = moves.ordered.lists;
            few = moves.ordered.few;
            blocks = moves.ordered.blocks;
            joined = moves.ordered.joined;
          };
      places = moves.places;
      size = length-set ks pageblock moved;
      mobility = λ other. elim (cases_eq other pageblock) [
        | inl same ↦ rw same (rw now)
        | inr ne ↦ rw (others other ne)
      ];
      inside = λ other among. (let same : other ≡ pageblock = omega (arith, among.low, among.high) in
          rw same (rw now));
      outside = λ other away. rw (others other (λ same. apart other same away));
    } in
    rw moves.kinds whole
  where
    apart : (other : ℕ) → other ≡ pageblock → (other < pageblock) ⊎ (pageblock + 1 ≤ other) → ⊥
    apart other same (inl low) = absurd (omega arith)
    apart other same (inr high) = absurd (omega arith)

pub move_all-range : (l : LayoutParts) (rows : List Row) (zone : Zone) (isolated : Bool) (a : FreeAreas)
    (from count : ℕ)
    → from + count ≤ length a.kinds
    → ((pageblock : ℕ) → IsInRange from count pageblock → (row_at l rows pageblock).zone ≡ Some zone)
    → AreOrdered l (class_at l a.kinds rows) a
    → MovesRange l rows isolated from count a
    (fold (move_pageblock l zone isolated) a (range_with_len from count))
move_all-range l rows zone isolated a from zero short zones h = record {
  ordered = h;
  places = λ frame. refl;
  size = refl;
  mobility = λ pageblock. refl;
  inside = λ pageblock among. absurd (omega (arith, among.low, among.high));
  outside = λ pageblock away. refl;
}
move_all-range l rows zone isolated a from (suc count) short zones h =
    let first =
    move_pageblock-range l rows zone _ a from (omega arith)
    (zones from (record { low = omega arith; high = omega arith })) h in
    let rest =
    move_all-range l rows zone isolated (move_pageblock l zone isolated a from) (from + 1) count (omega
    (arith, first.size)) (λ pageblock among. zones pageblock
    (record { low = omega (arith, among.low); high = omega (arith, among.high) })) first.ordered in
    record {
      ordered = rest.ordered;
      places = λ frame. rest.places frame ∙ first.places frame;
      size = rest.size ∙ first.size;
      mobility = λ pageblock. rest.mobility pageblock ∙ first.mobility pageblock;
      inside = λ pageblock among. elim (cases_lt pageblock (from + 1)) [
        | inl low ↦
            rest.outside pageblock (inl low) ∙ first.inside pageblock (record { low = among.low; high = low })
        | inr high ↦ rest.inside pageblock (record { low = high; high = omega (arith, among.high) })
      ];
      outside = λ pageblock away. before_after _ away (rest.outside pageblock) (first.outside pageblock);
    }
  where
    before_after : (pageblock : ℕ) {x y z : Bool} → (pageblock < from) ⊎ (from + suc count ≤ pageblock)
        → ((pageblock < from + 1) ⊎ (from + 1 + count ≤ pageblock) → x ≡ y)
        → ((pageblock < from) ⊎ (from + 1 ≤ pageblock) → y ≡ z) → x ≡ z
    before_after pageblock (inl low) f g = f (inl (omega arith)) ∙ g (inl low)
    before_after pageblock (inr high) f g = f (inr (omega arith)) ∙ g (inr (omega arith))

-- ---- a block and its row

-- the pageblocks of a block
pub pageblock_range : (l : LayoutParts) (block pageblock : ℕ) → 0 < l.pageblocks
    → block_of_pageblock l pageblock ≡ block → IsInRange (block * l.pageblocks) l.pageblocks pageblock
pageblock_range l block pageblock some e =
    let high : pageblock < pageblock / l.pageblocks * l.pageblocks + l.pageblocks = lt-div-mul-add some in
    let low : pageblock / l.pageblocks * l.pageblocks ≤ pageblock =
    omega (arith, div-add-mod' pageblock l.pageblocks) in
    rw (← e) (record { low = low; high = high })

pub pageblock_elsewhere : (l : LayoutParts) (block pageblock : ℕ) → block_of_pageblock l pageblock ≢ block
    → (pageblock < block * l.pageblocks) ⊎ (block * l.pageblocks + l.pageblocks ≤ pageblock)
pageblock_elsewhere l block pageblock ne = elim (cases_lt pageblock (block * l.pageblocks)) [
  | inl low ↦ inl low
  | inr from ↦ elim (cases_lt pageblock (block * l.pageblocks + l.pageblocks)) [
    | inl to ↦ absurd (ne (quotient _ _ block from to))
    | inr high ↦ inr high
  ]
]

pub some_pageblocks : (l : LayoutParts) → IsLayout l → 0 < l.pageblocks
some_pageblocks l layout =
    let some : 0 < 2 ^ layout.pageblocks.0 = pow_pos layout.pageblocks.0 in
    omega (arith, layout.pageblocks.2)

pub moved_block-placed : (l : LayoutParts) (s : Memory) (block : ℕ) (zone : Zone) (isolated : Bool)
    (row : Row)
    → IsLayout l → IsWellPlaced l s → block < l.blocks
    → (row_of s.blocks block).zone ≡ Some zone → row.zone ≡ Some zone → IsRow row → is_going row ≡ isolated
    → is_unplugged row ≡ false
    → IsWellPlaced l (with_areas (with_block_row s block row) (move_block l zone isolated s.free.areas block))
moved_block-placed l s block zone isolated row layout p low was is is_row going plugged =
    let h : IsInOrder l s = p.in_order in
    let rows : List Row = set s.blocks.rows block row in
    let b : FreeAreas = move_block l zone isolated s.free.areas block in
    let some : 0 < l.pageblocks = some_pageblocks l layout in
    let short : block < length s.blocks.rows = omega (arith, h.shape.rows) in
    let far : (block + 1) * l.pageblocks ≤ l.blocks * l.pageblocks =
    mul-le (block + 1) l.pageblocks l.blocks l.pageblocks (omega arith) (omega arith) in
    let next : (block + 1) * l.pageblocks ≡ block * l.pageblocks + l.pageblocks = grind arith in
    let range : MovesRange l s.blocks.rows isolated (block * l.pageblocks) l.pageblocks s.free.areas b =
    move_all-range l _ zone _ _ _ _ (omega (arith, h.shape.kinds))
    (λ pageblock among. rw (quotient _ _ block among.low among.high) was) (areas_of l s p) in
    let now : get_or rows block offline_row ≡ row =
    get_or-set_same s.blocks.rows block row offline_row short in
    let zones : (pageblock : ℕ) → (row_at l rows pageblock).zone ≡ (row_at l s.blocks.rows pageblock).zone =
    λ pageblock. elim (cases_eq (block_of_pageblock l pageblock) block) [
      | inl same ↦ rw same (rw (now, is, ← was))
      | inr ne ↦ rw (get_or-set_other s.blocks.rows block (block_of_pageblock l pageblock) row offline_row ne)
    ] in
    let ordered : AreOrdered l (class_at l b.kinds rows) b =
    other-ordered l _ _ b (λ first there. rw (zones (pageblock_of l first))) range.ordered in
    record {
      in_order = record {
        shape =
            reshaped l s _ _ _ h.shape ordered.lists (range.size ∙ h.shape.kinds) h.shape.cached
            h.shape.kernel (length-set s.blocks.rows block row ∙ h.shape.rows);
        blocks = ordered.blocks;
        joined = ordered.joined;
        cached = λ cpu pool frame on.
            rw (zones (pageblock_of l frame), range.mobility (pageblock_of l frame))
            (h.cached cpu pool frame on);
        kernel = λ first. some_weaker (IsKernelAt l s.blocks.rows first) (IsKernelAt l rows first)
            (λ order k. record {
              in_order = k.in_order;
              aligned = k.aligned;
              normal = zones (pageblock_of l first) ∙ k.normal;
            }) (kernel_order s first) (h.kernel first);
        mobility =
            λ pageblock unmovable.
            zones pageblock ∙ h.mobility pageblock (sym (range.mobility pageblock) ∙ unmovable);
        isolated = λ pageblock. elim (cases_eq (block_of_pageblock l pageblock) block) [
          | inl same ↦ range.inside pageblock (pageblock_range l block _ some same)
              ∙ sym (rw same (rw (now, going)))
          | inr ne ↦ range.outside pageblock (pageblock_elsewhere l block _ ne) ∙ h.isolated pageblock
              ∙ sym (ap is_going
              (get_or-set_other s.blocks.rows block (block_of_pageblock l pageblock) row offline_row ne))
        ];
        rows =
            get_or-cases (λ (n : ℕ) (r : Row). IsRow r) _ block row _ short is_row
            h.rows;
        words = h.words;
      };
      once =
          λ frame. omega (
            arith,
            p.once frame,
            range.places frame,
            same_offline frame (old_plugged _ refl (h.rows block)) now short,
          );
    }
  where
    old_plugged : (r : Row) → r ≡ row_of s.blocks block → IsRow r → is_unplugged r ≡ false
    old_plugged r e is_r =
        false_from_ne_true (is_unplugged r) (λ off.
        cc (rw e at (unplugged_zone r.state r.zone r.claim off is_r), was))

    same_offline : (frame : ℕ) → is_unplugged (row_of s.blocks block) ≡ false
        → get_or (set s.blocks.rows block row) block offline_row ≡ row → block < length s.blocks.rows
        → offline_places l (with_block_row s block row) frame ≡ offline_places l s frame
    same_offline frame old now short = elim (cases_eq (block_of l frame) block) [
      | inl same ↦ rw same (ap (λ (r : Row). one_if (is_unplugged r)) now ∙ ap one_if (plugged ∙ sym old))
      | inr ne ↦ rw (get_or-set_other s.blocks.rows block (block_of l frame) row offline_row ne)
    ]
