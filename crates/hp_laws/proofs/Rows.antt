-- Rows of blocks that are offline or absent change, and a block goes online.
use Rattle.std.proofs.Common.{◌≡◌, ◌≢◌, ℕ, ◌+◌, ◌*◌, ◌<◌, ◌≤◌, List, [], ◌∷◌, length, get_or, set, Bool, true, false, cond, Option, Some, None, refl, sym, ◌∙◌, ap, subst, arith, inl, inr, IfSome, length-set, ◌==◌, ◌||◌}
use Rattle.std.specs.List.{count_by}
use Rattle.std.proofs.lemmas.Bool.{cases_eq, cases_lt, both_ways, or_cases}
use Rattle.std.proofs.lemmas.List.{get_or-set_other, get_or-set_same, get_or_past}
use Rattle.std.proofs.lemmas.List.Sums.{sum_by-cons, get_or-le-sum_by}
use Rattle.hp_units.specs.declared.rows.Pool.{Pool}
use Rattle.hp_units.specs.declared.rows.Row.{Row}
use Rattle.hp_units.specs.declared.rows.Kind.{Kind}
use Rattle.hp_units.specs.declared.rows.Claim.{Claim}
use Rattle.hp_units.specs.declared.rows.State.{State}
use Rattle.hp_units.specs.declared.rows.State.TheVariants.{Online as OnlineState, Going as GoingState}
use Rattle.hp_units.specs.declared.rows.Zone.{Zone}
use Rattle.hp_units.specs.declared.rows.Zone.TheVariants.{Normal as NormalZone}
use Rattle.hp_units.specs.declared.rows.Mobility.{Mobility}
use Rattle.hp_units.specs.declared.rows.Mobility.TheVariants.{Unmovable, Movable}
use Rattle.hp_units.specs.LayoutParts.{LayoutParts}
use Rattle.hp_units.specs.Arithmetic.{pageblock_of, block_of, block_of_pageblock}
use Rattle.hp_units.specs.Memory.{FreeFrames, Memory, cached_list, kernel_order, row_of, offline_row, pool_index}
use Rattle.hp_units.specs.FreeAreas.{is_on}
use Rattle.hp_units.specs.Rows.{with_block_row, is_going, is_offline_state, is_absent_state, is_going_state}
use Rattle.hp_units.specs.Placement.{is_unplugged, IsRow, IsRowOf, free_places, cached_places, kernel_places, mapped_places, offline_places, IsInOrder, IsWellPlaced, IsKernelAt, class_at, pool_at, row_at, kind_at}
use Rattle.hp_units.proofs.ListEdits.{covered-self}
use Rattle.hp_laws.proofs.Areas.{other-ordered}
use Rattle.hp_laws.proofs.States.{get_or-cases, areas_of, block_of-pageblock, reshaped}
use Rattle.hp_units.proofs.KernelBlockFrames.{kernel-places}

-- ---- what is in a place isn't in an unplugged block

on_count : (frame : ℕ) (frames : List ℕ) → is_on frame frames ≡ true
    → 1 ≤ count_by (λ other. other == frame) frames
on_count frame [] on = cc
on_count frame (x ∷ xs) on = elim (or_cases (x == frame) (is_on frame xs) on) [
  | inl same ↦ rw (sum_by-cons (λ y. cond (y == frame) 1 0) x xs, same) (omega arith)
  | inr there ↦ omega (arith, sum_by-cons (λ y. cond (y == frame) 1 0) x xs, on_count frame xs there)
]

pub on_cached : (fs : FreeFrames) (cpu : ℕ) (pool : Pool) (frame : ℕ)
    → is_on frame (cached_list fs cpu pool) ≡ true → 1 ≤ cached_places fs frame
on_cached fs cpu pool frame on = elim (cases_lt (3 * cpu + pool_index pool) (length fs.cached)) [
  | inl low ↦
      let some : 1 ≤ count_by (λ other. other == frame) (cached_list fs cpu pool) = on_count frame _ on in
      omega (
        arith,
        get_or-le-sum_by (λ (frames : List ℕ). count_by (λ other. other == frame) frames)
            fs.cached (3 * cpu + pool_index pool) [] low,
      )
  | inr high ↦
      let past : cached_list fs cpu pool ≡ [] = get_or_past _ _ [] high in
      absurd (both_ways (is_on frame []) refl (subst (λ (xs : List ℕ). is_on frame xs ≡ true) past on))
]

pub kernel_some : (s : Memory) (first order : ℕ) → kernel_order s first ≡ Some order
    → 1 ≤ kernel_places s first
kernel_some s first order e = elim (cases_lt first (length s.kernel)) [
  | inl low ↦ omega (arith, rw e at (kernel-places s first first None low), covered-self order first)
  | inr high ↦
      let past : None ≡ Some order = sym (get_or_past _ first None high) ∙ e in
      cc
]

pub away : (l : LayoutParts) (s : Memory) (block frame : ℕ) → IsWellPlaced l s
    → is_unplugged (row_of s.blocks block) ≡ true
    → 1 ≤ free_places s.free.areas frame + cached_places s.free frame + mapped_places s.pages frame
    + kernel_places s frame
    → block_of l frame ≢ block
away l s block frame p off some same =
    let here : is_unplugged (row_of s.blocks (block_of l frame)) ≡ true = rw same off in
    let one : offline_places l s frame ≡ 1 = rw here in
    omega (arith, p.once frame)

-- ---- another row

-- a kernel's block stays where the rows of blocks in use do
pub kernel_kept : (l : LayoutParts) (rows now : List Row) (first : ℕ) (entry : Option ℕ)
    → ((order : ℕ) → entry ≡ Some order
    → row_at l now (pageblock_of l first) ≡ row_at l rows (pageblock_of l first))
    → IfSome entry (IsKernelAt l rows first) → IfSome entry (IsKernelAt l now first)
kernel_kept l rows now first None same k = tt
kernel_kept l rows now first (Some order) same k =
    record { in_order = k.in_order; aligned = k.aligned; normal = rw (same order refl) k.normal }

pub row_at-other : (l : LayoutParts) (rows : List Row) (block frame : ℕ) (row : Row)
    → block_of l frame ≢ block
    → row_at l (set rows block row) (pageblock_of l frame) ≡ row_at l rows (pageblock_of l frame)
row_at-other l rows block frame row ne =
    get_or-set_other rows block (block_of_pageblock l (pageblock_of l frame)) row offline_row
    (λ same. ne (block_of-pageblock l frame ∙ same))

pool_at-other : (l : LayoutParts) (kinds : List Kind) (rows : List Row) (block frame : ℕ) (row : Row)
    → block_of l frame ≢ block
    → pool_at l kinds (set rows block row) (pageblock_of l frame)
    ≡ pool_at l kinds rows (pageblock_of l frame)
pool_at-other l kinds rows block frame row ne = rw (row_at-other l rows block frame row ne)

-- an unplugged row has no zone and isn't going
pub unplugged_zone : (state : State) (zone : Option Zone) (claim : Option Claim)
    → (is_offline_state state || is_absent_state state) ≡ true → IsRowOf state zone claim → zone ≡ None
unplugged_zone OnlineState zone claim e h = cc
unplugged_zone GoingState zone claim e h = cc
unplugged_zone _ zone claim e h = h.0

pub unplugged_stays : (state : State) → (is_offline_state state || is_absent_state state) ≡ true
    → is_going_state state ≡ false
unplugged_stays GoingState e = cc
unplugged_stays _ e = refl

pub record HasPlainKinds (l : LayoutParts) (s : Memory) (block : ℕ) : Type 0 where
  pub mobility : (pageblock : ℕ) → block_of_pageblock l pageblock ≡ block
      → (kind_at s.free.areas.kinds pageblock).mobility ≡ Movable
  pub isolated : (pageblock : ℕ) → block_of_pageblock l pageblock ≡ block
      → (kind_at s.free.areas.kinds pageblock).isolated ≡ false

movable : (mobility : Mobility) (zone : Option Zone) → (mobility ≡ Unmovable → zone ≡ Some NormalZone)
    → zone ≡ None → mobility ≡ Movable
movable Movable zone h e = refl
movable Unmovable zone h e =
    let normal : zone ≡ Some NormalZone = h refl in
    cc

pub plain_kinds : (l : LayoutParts) (s : Memory) (block : ℕ) → IsWellPlaced l s
    → is_unplugged (row_of s.blocks block) ≡ true → HasPlainKinds l s block
plain_kinds l s block p off =
    let row : Row = row_of s.blocks block in
    let none : row.zone ≡ None = unplugged_zone _ _ _ off (p.in_order.rows block) in
    record {
      mobility =
          λ pageblock e. movable _ (row_at l s.blocks.rows pageblock).zone (p.in_order.mobility pageblock)
          (rw e none);
      isolated = λ pageblock e. rw (p.in_order.isolated pageblock, e) (unplugged_stays _ off);
    }

-- the row of an unplugged block changes to any other that isn't going
pub row-in_order : (l : LayoutParts) (s : Memory) (block : ℕ) (row : Row) → IsWellPlaced l s
    → is_unplugged (row_of s.blocks block) ≡ true → block < l.blocks
    → IsRow row → is_going row ≡ false → IsInOrder l (with_block_row s block row)
row-in_order l s block row p off low is still =
    let h = p.in_order in
    let plain : HasPlainKinds l s block = plain_kinds l s block p off in
    let short : block < length s.blocks.rows = omega (arith, h.shape.rows) in
    let ordered =
    other-ordered l (class_at l s.free.areas.kinds s.blocks.rows)
    (class_at l s.free.areas.kinds (set s.blocks.rows block row)) s.free.areas
    (λ first some. rw (row_at-other l s.blocks.rows block first row
    (away l s block first p off (omega arith)))) (areas_of l s p) in
    record {
      shape =
          reshaped l s _ _ _ h.shape h.shape.lists h.shape.kinds h.shape.cached h.shape.kernel
          (length-set s.blocks.rows block row ∙ h.shape.rows);
      blocks = ordered.blocks;
      joined = h.joined;
      cached = λ cpu pool frame on.
          let some : 1 ≤ cached_places s.free frame = on_cached s.free cpu pool frame on in
          pool_at-other l _ _ block frame row
          (away l s block frame p off (omega arith)) ∙ h.cached cpu pool frame on;
      kernel =
          λ first. kernel_kept l s.blocks.rows _ first (kernel_order s first)
          (λ order e. row_at-other l _ block first row
          (away l s block first p off (omega (arith, kernel_some s first order e)))) (h.kernel first);
      mobility = λ pageblock unmovable. elim (cases_eq (block_of_pageblock l pageblock) block) [
        | inl same ↦ cc (unmovable, plain.mobility pageblock same)
        | inr ne ↦
            ap (λ (r : Row). r.zone) (get_or-set_other s.blocks.rows block (block_of_pageblock l pageblock)
            row offline_row ne) ∙ h.mobility pageblock unmovable
      ];
      isolated = λ pageblock. elim (cases_eq (block_of_pageblock l pageblock) block) [
        | inl same ↦
            plain.isolated pageblock same ∙ sym
            (rw (same, get_or-set_same s.blocks.rows block row offline_row short) still)
        | inr ne ↦
            h.isolated pageblock ∙ sym (ap is_going
            (get_or-set_other s.blocks.rows block (block_of_pageblock l pageblock) row offline_row ne))
      ];
      rows = get_or-cases (λ (b : ℕ) (r : Row). IsRow r) _ block row _ short is h.rows;
      words = h.words;
    }

-- ---- Remove, and Probe of a block that stays offline

pub unplugged-placed : (l : LayoutParts) (s : Memory) (block : ℕ) (row : Row) → IsWellPlaced l s
    → is_unplugged (row_of s.blocks block) ≡ true → block < l.blocks
    → IsRow row → is_going row ≡ false → is_unplugged row ≡ true → IsWellPlaced l (with_block_row s block row)
unplugged-placed l s block row p off low is still gone = record {
  in_order = row-in_order l s block row p off low is still;
  once =
      λ frame. rw (same_places frame) (p.once frame);
}
  where
    same_places : (frame : ℕ) → offline_places l (with_block_row s block row) frame ≡ offline_places l s frame
    same_places frame = elim (cases_eq (block_of l frame) block) [
      | inl same ↦
          ap (λ (b : ℕ). cond (is_unplugged (get_or (set s.blocks.rows block row) b offline_row)) 1 0) same
          ∙ ap (λ (r : Row). cond (is_unplugged r) 1 0)
          (get_or-set_same s.blocks.rows block row offline_row (omega (arith, p.in_order.shape.rows)))
          ∙ ap (λ (t : Bool). cond t 1 0) (gone ∙ sym off)
          ∙ sym (ap (λ (b : ℕ). cond (is_unplugged (get_or s.blocks.rows b offline_row)) 1 0) same)
      | inr ne ↦ rw (get_or-set_other s.blocks.rows block (block_of l frame) row offline_row ne)
    ]
