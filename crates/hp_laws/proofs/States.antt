-- Events on whole states.
use Rattle.std.proofs.Common.{◌≡◌, ℕ, ◌+◌, ◌*◌, ◌/◌, ◌^◌, ◌<◌, ◌≤◌, List, length, get_or, set, Option, Some, None, refl, sym, ◌∙◌, subst, arith, inl, inr, IfSome, length-set}
use Rattle.std.proofs.lemmas.Bool.{cases_eq, cases_lt}
use Rattle.std.proofs.lemmas.List.{get_or-set_other, get_or-set_same, get_or_past}
use Rattle.std.proofs.lemmas.Nat.{pow_pos}
use Rattle.std.proofs.Math.Nat.{div-div-eq-div-mul}
use Rattle.hp_units.specs.declared.rows.Auto.{Auto}
use Rattle.hp_units.specs.declared.rows.Zone.{Zone}
use Rattle.hp_units.specs.declared.rows.Row.{Row}
use Rattle.hp_units.specs.Rows.{with_areas, zone_of}
use Rattle.hp_units.specs.LayoutParts.{LayoutParts, IsLayout}
use Rattle.hp_units.specs.Arithmetic.{pageblock_of, block_of, block_of_pageblock, frame_count, pageblock_count}
use Rattle.hp_units.specs.Memory.{FreeAreas, Memory, kernel_order, with_kernel_order, offline_row, FreeFrames, Blocks}
use Rattle.hp_units.specs.FreeAreas.{give_block, class_of}
use Rattle.hp_units.specs.Placement.{free_places, kernel_places, IsInOrder, IsWellPlaced, IsKernelAt, class_at, row_at, covered, IsShaped}
use Rattle.hp_units.proofs.ListEdits.{covered-self}
use Rattle.hp_units.proofs.Joins.{give_block-places}
use Rattle.hp_laws.proofs.Ordered.{AreOrdered}
use Rattle.hp_units.proofs.Geometry.{aligned_ancestor}
use Rattle.hp_laws.proofs.Gives.{give_block-ordered, give_block-kinds}
use Rattle.hp_units.proofs.KernelBlockFrames.{kernel-places}

-- a list written at one index: whatever holds there of what is written, and of all before, holds of
-- all
pub get_or-cases : {X : Type 0} (P : ℕ → X → Type 0) (xs : List X) (i : ℕ) (x d : X) → i < length xs → P i x
    → ((k : ℕ) → P k (get_or xs k d)) → (k : ℕ) → P k (get_or (set xs i x) k d)
get_or-cases P xs i x d h new old k = elim (cases_eq k i) [
  | inl same ↦ rw (same, get_or-set_same xs i x d h) new
  | inr apart ↦ subst (P k) (sym (get_or-set_other xs i k x d apart)) (old k)
]

-- ---- the areas of a state

pub areas_of : (l : LayoutParts) (s : Memory) → IsWellPlaced l s
    → AreOrdered l (class_at l s.free.areas.kinds s.blocks.rows) s.free.areas
areas_of l s h =
    record {
      lists = h.in_order.shape.lists;
      few = λ frame. omega (arith, h.once frame);
      blocks = h.in_order.blocks;
      joined = h.in_order.joined;
    }

-- other parts of the same lengths beside the same pages
pub reshaped : (l : LayoutParts) (s : Memory) (fs : FreeFrames) (kernel : List (Option ℕ)) (bs : Blocks)
    → IsShaped l s → length fs.areas.lists ≡ 5 * (l.order + 1) → length fs.areas.kinds ≡ pageblock_count l
    → length fs.cached ≡ 3 * l.cpus → length kernel ≡ frame_count l → length bs.rows ≡ l.blocks
    → IsShaped l (record { free = fs; pages = s.pages; kernel = kernel; blocks = bs })
reshaped l s fs kernel bs h a b c d e = record {
  lists = a;
  kinds = b;
  cached = c;
  owners = h.owners;
  pages = h.pages;
  content_owners = h.content_owners;
  content_pages = h.content_pages;
  kernel = d;
  rows = e;
}

-- other areas with the same kinds
pub areas-in_order : (l : LayoutParts) (s : Memory) (b : FreeAreas) → IsInOrder l s
    → AreOrdered l (class_at l s.free.areas.kinds s.blocks.rows) b → b.kinds ≡ s.free.areas.kinds
    → IsInOrder l (with_areas s b)
areas-in_order l s b h ordered same = record {
  shape =
      reshaped l s _ _ _ h.shape ordered.lists (rw (same, h.shape.kinds)) h.shape.cached h.shape.kernel
      h.shape.rows;
  blocks = rw same ordered.blocks;
  joined = ordered.joined;
  cached = rw same h.cached;
  kernel = h.kernel;
  mobility = rw same h.mobility;
  isolated = rw same h.isolated;
  rows = h.rows;
  words = h.words;
}

-- another entry among the kernel's
pub kernel-in_order : (l : LayoutParts) (s : Memory) (first : ℕ) (entry : Option ℕ) → IsInOrder l s
    → first < frame_count l → IfSome entry (IsKernelAt l s.blocks.rows first)
    → IsInOrder l (with_kernel_order s first entry)
kernel-in_order l s first entry h low block = record {
  shape =
      reshaped l s _ _ _ h.shape h.shape.lists h.shape.kinds h.shape.cached
      (length-set s.kernel first entry ∙ h.shape.kernel) h.shape.rows;
  blocks = h.blocks;
  joined = h.joined;
  cached = h.cached;
  kernel =
      get_or-cases (λ (k : ℕ) (o : Option ℕ). IfSome o (IsKernelAt l s.blocks.rows k)) _ first entry None
      (omega (arith, h.shape.kernel)) block h.kernel;
  mobility = h.mobility;
  isolated = h.isolated;
  rows = h.rows;
  words = h.words;
}

pub set_auto-placed : (l : LayoutParts) (s : Memory) (auto : Auto) → IsWellPlaced l s
    → IsWellPlaced l (record s { blocks = record s.blocks { auto = auto } })
set_auto-placed l s auto p =
    let h = p.in_order in
    record {
      in_order = record {
        shape =
            reshaped l s _ _ _ h.shape h.shape.lists h.shape.kinds h.shape.cached h.shape.kernel h.shape.rows;
        blocks = h.blocks;
        joined = h.joined;
        cached = h.cached;
        kernel = h.kernel;
        mobility = h.mobility;
        isolated = h.isolated;
        rows = h.rows;
        words = h.words;
      };
      once = p.once;
    }

-- ---- the kernel's blocks

-- ---- blocks of the kernel of an order above zero, straight from the areas and back

pub block_of-pageblock : (l : LayoutParts) (frame : ℕ)
    → block_of l frame ≡ block_of_pageblock l (pageblock_of l frame)
block_of-pageblock l frame =
    let turned : l.pageblocks * 2 ^ l.order ≡ 2 ^ l.order * l.pageblocks = omega arith in
    rw turned (sym (div-div-eq-div-mul frame (2 ^ l.order) l.pageblocks))

div_lt : (n k m : ℕ) → 0 < k → n / k < m → n < m * k
div_lt n k m some low =
    grind arith

in_rows : (rows : List Row) (block : ℕ) (zone : Zone) → (get_or rows block offline_row).zone ≡ Some zone
    → block < length rows
in_rows rows block zone e = elim (cases_lt block (length rows)) [
  | inl low ↦ low
  | inr high ↦
      let past : get_or rows block offline_row ≡ offline_row = get_or_past rows block offline_row high in
      cc
]

pub in_layout : (l : LayoutParts) (s : Memory) (frame : ℕ) (zone : Zone) → IsLayout l
    → length s.blocks.rows ≡ l.blocks → (row_at l s.blocks.rows (pageblock_of l frame)).zone ≡ Some zone
    → frame < frame_count l
in_layout l s frame zone layout size e =
    let k : ℕ = layout.pageblocks.0 in
    let some : 0 < 2 ^ k = pow_pos k in
    let is : l.pageblocks ≡ 2 ^ k = layout.pageblocks.2 in
    let some' : 0 < l.pageblocks = omega arith in
    let low : pageblock_of l frame / l.pageblocks < l.blocks =
    omega (arith, in_rows s.blocks.rows (block_of_pageblock l (pageblock_of l frame)) zone e) in
    let middle : pageblock_of l frame < l.blocks * l.pageblocks = div_lt _ _ _ some' low in
    let all : frame < l.blocks * l.pageblocks * 2 ^ l.order = div_lt frame _ _ (pow_pos l.order) middle in
    omega arith

-- a frame in a free block has no kernel's block at it
pub kernel_free : (l : LayoutParts) (s : Memory) (first : ℕ) (entry : Option ℕ) → kernel_order s first ≡ entry
    → first < length s.kernel → kernel_places s first ≡ 0 → entry ≡ None
kernel_free l s first None e low none = refl
kernel_free l s first (Some order) e low none =
    let places = rw e at (kernel-places s first first None low) in
    let self : covered first order first ≡ 1 = covered-self order first in
    absurd (omega arith)

-- the zone of a frame that has one
pub zone_known : (l : LayoutParts) (s : Memory) (frame : ℕ) (zone : Zone)
    → (row_at l s.blocks.rows (pageblock_of l frame)).zone ≡ Some zone → zone_of l s frame ≡ zone
zone_known l s frame zone e = rw (block_of-pageblock l frame) (rw e)

pub class_known : (l : LayoutParts) (s : Memory) (frame : ℕ) (zone : Zone)
    → (row_at l s.blocks.rows (pageblock_of l frame)).zone ≡ Some zone
    → class_at l s.free.areas.kinds s.blocks.rows (pageblock_of l frame)
    ≡ Some (class_of l s.free.areas (zone_of l s frame) frame)
class_known l s frame zone e = rw (zone_known l s frame zone e) (rw e)

pub kernel_give-placed : (l : LayoutParts) (s : Memory) (first order : ℕ) → IsLayout l → IsWellPlaced l s
    → kernel_order s first ≡ Some order
    → IsWellPlaced l (with_areas (with_kernel_order s first None)
    (give_block l s.free.areas (zone_of l s first) first order))
kernel_give-placed l s first order layout p e =
    let block : IsKernelAt l s.blocks.rows first order =
    subst (λ (o : Option ℕ). IfSome o (IsKernelAt l s.blocks.rows first)) e (p.in_order.kernel first) in
    let within : first < frame_count l = in_layout l s first _ layout p.in_order.shape.rows block.normal in
    let short : first < length s.kernel = omega (arith, p.in_order.shape.kernel) in
    let left : (frame : ℕ)
    → kernel_places (with_kernel_order s first None) frame + covered frame order first
    ≡ kernel_places s frame =
    λ frame. omega (arith, rw e at (kernel-places s first frame None short)) in
    let room : (frame : ℕ) → free_places s.free.areas frame + covered frame order first ≤ 1 =
    λ frame. omega (arith, left frame, p.once frame) in
    let ordered = areas_of l s p in
    let given =
    give_block-ordered l _ _ _
    first order block.in_order block.aligned (class_known l s first _ block.normal) room ordered in
    record {
      in_order =
          areas-in_order l _ _ (kernel-in_order l s first None p.in_order within tt) given
          (give_block-kinds l _ _ first order);
      once = λ frame.
          let places =
          give_block-places l s.free.areas (zone_of l s first) first order frame ordered.lists
          block.in_order (aligned_ancestor first order block.aligned) ordered.few in
          omega (arith, places, left frame, p.once frame);
    }
