-- Worked states that the consequences of placement exclude: each breaks one of them, so none is
-- well placed.
use Rattle.std.proofs.Common.{◌≡◌, ◌≤◌, [], ◌∷◌, true, false, Some, None, refl, arith}
use Rattle.std.specs.List.{list_all}
use Rattle.hp_units.specs.declared.rows.Class.TheVariants.{Nm, IsoM}
use Rattle.hp_units.specs.declared.rows.Pool.TheVariants.{Nu as NuPool}
use Rattle.hp_units.specs.declared.rows.State.TheVariants.{Going as GoingState}
use Rattle.hp_units.specs.declared.rows.Wish.TheVariants.{Off as OffWish}
use Rattle.hp_units.specs.declared.rows.Zone.{Zone}
use Rattle.hp_units.specs.declared.rows.Zone.TheVariants.{Normal as NormalZone, Movable as MovableZone}
use Rattle.hp_units.specs.LayoutParts.{IsLayout}
use Rattle.hp_units.specs.Boot.{boot_memory}
use Rattle.hp_units.specs.Memory.{Memory, plain_kind, with_cached_list, with_free_list, with_kernel_order, with_kind}
use Rattle.hp_units.specs.Pages.{map_page}
use Rattle.hp_units.specs.Placement.{IsWellPlaced}
use Rattle.hp_units.specs.Refusals.{frame_in_use, is_all_free}
use Rattle.hp_units.specs.Rows.{going_blocks, online_block, with_areas, with_block_row}
use Rattle.hp_units.specs.Step.{with_free, with_pages}
use Rattle.hp_laws.proofs.ConsequencesCommits.{all_free-none}
use Rattle.hp_laws.proofs.ConsequencesPlaces.{cached_zone, free_length, kernel_zone, page_plugged, plugged}
use Rattle.hp_laws.proofs.SmallLayout.{small}

-- opens every definition
unfoldable everything : Unit {0}
unfolding online_block boot_memory
everything = tt

-- the layout is within its limits
small_layout : IsLayout small
small_layout = record {
  order = omega arith;
  pageblocks = (0, omega arith, refl);
  some_blocks = omega arith;
  blocks = omega arith;
  frames = omega arith;
  some_cpus = omega arith;
  cpus = omega arith;
  some_batch = omega arith;
  batch = omega arith;
  high = omega arith;
  some_owners = omega arith;
  owners = omega arith;
  some_pages = omega arith;
  pages = omega arith;
  some_words = omega arith;
  words = omega arith;
  some_history = omega arith;
  history = omega arith;
  boot = refl;
}

-- no zone is another, and none is nothing
two_zones : Some MovableZone ≡ Some NormalZone → ⊥
two_zones e = cc

no_zone : {zone : Zone} → None ≡ Some zone → ⊥
no_zone e = cc

-- a frame of zone Movable on a list of zone Normal
abbrev wrong_pool : Memory
wrong_pool = (let s : Memory = boot_memory small in with_free s (with_cached_list s.free 0 NuPool (8 ∷ [])))

wrong_pool_excluded : IsWellPlaced small wrong_pool → ⊥
unfolding everything
wrong_pool_excluded p = two_zones (cached_zone small _ 0 NuPool 8 p refl)

-- a kernel's block in zone Movable
abbrev wrong_kernel : Memory
wrong_kernel = with_kernel_order (boot_memory small) 8 (Some 1)

wrong_kernel_excluded : IsWellPlaced small wrong_kernel → ⊥
unfolding everything
wrong_kernel_excluded p =
    two_zones (kernel_zone small _ 8 1 9 p refl (record { low = omega arith; high = omega arith }))

-- a page at a frame of an offline block
abbrev wrong_page : Memory
wrong_page = (let s : Memory = boot_memory small in with_pages s (map_page s.pages 0 0 12 (0 ∷ 0 ∷ [])))

wrong_page_excluded : IsWellPlaced small wrong_page → ⊥
unfolding everything
wrong_page_excluded p = no_zone (plugged small wrong_page 12 p (page_plugged small _ 0 0 12 p refl)).zone.1

-- a list with more blocks than there are frames
abbrev long_list : Memory
long_list =
    let s : Memory = boot_memory small in
    with_areas s (with_free_list s.free.areas Nm 0
    (0 ∷ 1 ∷ 2 ∷ 3 ∷ 4 ∷ 5 ∷ 6 ∷ 7 ∷ 0 ∷ 1 ∷ 2 ∷ 3 ∷ 4 ∷ 5 ∷ 6 ∷ 7 ∷ 0 ∷ []))

long_list_excluded : IsWellPlaced small long_list → ⊥
unfolding everything
long_list_excluded p = (let short : 17 ≤ 16 = free_length small _ Nm 0 small_layout p in absurd (omega arith))

-- a going block of which each frame is free, in two halves that are not joined: a Commit would name
-- no frame
abbrev in_halves : Memory
in_halves =
    let s : Memory = boot_memory small in
    let areas =
    with_kind (with_free_list s.free.areas IsoM 1 (8 ∷ 10 ∷ [])) 2
    (record plain_kind { isolated = true }) in
    with_block_row (with_areas s areas) 2 (record {
      state = GoingState;
      zone = Some MovableZone;
      claim = Some (record { op = 1; wish = OffWish });
    })

none_found : frame_in_use small in_halves 1 ≡ None
unfolding everything
none_found = refl

not_all_free : list_all (is_all_free small in_halves) (going_blocks small in_halves.blocks 1) ≡ false
unfolding everything
not_all_free = refl

in_halves_excluded : IsWellPlaced small in_halves → ⊥
unfolding everything
in_halves_excluded p = (let whole : false ≡ true = all_free-none small _ 1 small_layout p in cc)
