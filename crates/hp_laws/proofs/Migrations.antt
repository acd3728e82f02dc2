-- A page moves to another frame.
use Rattle.std.proofs.Common.{◌≡◌, ℕ, suc, ◌+◌, ◌≤◌, List, [], ◌∷◌, true, Option, Some, None, refl, ap, arith, IfSome, eqb-true}
use Rattle.std.specs.Prelude.{is_some, position}
use Rattle.std.specs.Option.{option_map, option_map_or, option_or}
use Rattle.std.proofs.lemmas.List.Quantifiers.{position-Some}
use Rattle.hp_units.specs.declared.rows.Class.TheVariants.{Nm, Mm}
use Rattle.hp_units.specs.declared.rows.Mobility.TheVariants.{Movable}
use Rattle.hp_units.specs.declared.rows.Pool.{Pool}
use Rattle.hp_units.specs.declared.rows.Pool.TheVariants.{Nm as NmPool, Mm as MmPool}
use Rattle.hp_units.specs.declared.rows.Zone.{Zone}
use Rattle.hp_units.specs.declared.rows.Zone.TheVariants.{Normal as NormalZone}
use Rattle.hp_units.specs.LayoutParts.{LayoutParts, IsLayout}
use Rattle.hp_units.specs.Memory.{Memory, Pages, entry_of, with_entry, class_of_pool, zone_of_pool}
use Rattle.hp_units.specs.FreeAreas.{Taken, give_block, steal_block, take_block}
use Rattle.hp_units.specs.Pages.{frame_at, holds, page_at, page_from, words_at}
use Rattle.hp_units.specs.Migrations.{migration_source, migration_target}
use Rattle.hp_units.specs.Rows.{with_areas, zone_of}
use Rattle.hp_units.specs.Step.{migrate_step, with_pages, Answered}
use Rattle.hp_units.specs.Placement.{IsInOrder, IsPage, IsWellPlaced, class_at, free_places, mapped_places, covered}
use Rattle.hp_units.proofs.Joins.{give_block-places}
use Rattle.hp_laws.proofs.Ordered.{AreOrdered}
use Rattle.hp_laws.proofs.Options.{found_passes, some_weaker, option_cases}
use Rattle.hp_units.proofs.Geometry.{aligned_ancestor}
use Rattle.hp_laws.proofs.Takes.{TakesOrdered, take_block-ordered}
use Rattle.hp_laws.proofs.Gives.{give_block-ordered, give_block-kinds}
use Rattle.hp_laws.proofs.States.{areas_of, areas-in_order}
use Rattle.hp_laws.proofs.Steals.{TakesPlaced, or_some, steal_block-placed}
use Rattle.hp_laws.proofs.Drains.{single, pool_zone}
use Rattle.hp_laws.proofs.Hands.{class_pool, class_shown}
use Rattle.hp_laws.proofs.Tables.{pages-in_order}
use Rattle.hp_units.proofs.Tables.{entry-cases, entry_within, held-some, mapped-places, table_of, contents_of, with_entry-table}
use Rattle.hp_laws.proofs.PageSteps.{mapped_zone}

-- ---- the page at a frame

-- its entry is the frame
pub record IsPageAt (rows : List (List (Option ℕ))) (first frame owner page : ℕ) : Type 0 where
  pub row : ℕ
  pub sum : owner ≡ first + row
  pub entry : entry_of rows row page ≡ Some frame

held_entry : (frame : ℕ) (e : Option ℕ) → holds frame e ≡ true → e ≡ Some frame
held_entry frame None h = cc
held_entry frame (Some other) h = rw (eqb-true other frame h)

pub page_from-at : (first frame owner page : ℕ) (rows : List (List (Option ℕ)))
    → page_from first rows frame ≡ Some (owner, page) → IsPageAt rows first frame owner page
page_from-at first frame owner page [] e = cc
page_from-at first frame owner page (row ∷ rows) e =
    by_position _ refl e (page_from-at (first + 1) frame owner page rows)
  where
    by_position : (o : Option ℕ) → position (holds frame) row ≡ o
        → option_or (option_map (λ p. (first, p)) o) (page_from (first + 1) rows frame) ≡ Some (owner, page)
        → (page_from (first + 1) rows frame ≡ Some (owner, page) → IsPageAt rows (first + 1) frame owner page)
        → IsPageAt (row ∷ rows) first frame owner page
    by_position None is f later =
        let rest = later f in
        record { row = suc rest.row; sum = omega (arith, rest.sum); entry = rest.entry }
    by_position (Some p) is f later =
        let owner_is : first ≡ owner =
        ap (λ (o : Option (ℕ × ℕ)). (option_map_or (λ (x : ℕ × ℕ). x.0) o 0)) f in
        let page_is : p ≡ page = ap (λ (o : Option (ℕ × ℕ)). (option_map_or (λ (x : ℕ × ℕ). x.1) o 0)) f in
        record {
          row = 0;
          sum = omega (arith, owner_is);
          entry = rw (← page_is) (held_entry frame _ (position-Some (holds frame) row p None is).1);
        }

-- so the page that is found at a frame has it
pub page_found : (s : Memory) (from : ℕ) (page : ℕ × ℕ) → page_at s.pages from ≡ Some page
    → frame_at s.pages page.0 page.1 ≡ Some from
page_found s from page e =
    let at = page_from-at 0 from page.0 page.1 _ e in
    let same : at.row ≡ page.0 = omega (arith, at.sum) in
    rw (← same) at.entry

-- ---- the frame that it moves to

abbrev pub TakesSome : LayoutParts → Memory → Taken → Type 0
TakesSome l s taken = (zone : Zone) × TakesPlaced l s zone 0 taken

pool_taken : (l : LayoutParts) (s : Memory) (pool : Pool) → IsWellPlaced l s
    → IfSome (take_block l s.free.areas (class_of_pool pool) 0) (TakesSome l s)
pool_taken l s pool p =
    some_weaker (TakesOrdered l (class_at l s.free.areas.kinds s.blocks.rows) s.free.areas
    (class_of_pool pool) 0) (TakesSome l s)
    (λ taken t. (
      zone_of_pool pool,
      record {
        in_order = areas-in_order l s _ p.in_order t.ordered t.kinds;
        places = t.places;
        aligned = t.block.aligned;
        zone_is =
            pool_zone _ _ pool (class_pool _
            _ pool t.block.class_agrees);
        shown =
            class_shown _
            _ pool t.block.class_agrees;
      },
    )) (take_block l s.free.areas (class_of_pool pool) 0) (take_block-ordered l _ _ _ 0 (areas_of l s p))

pub target-placed : (l : LayoutParts) (s : Memory) → IsLayout l → IsWellPlaced l s
    → IfSome (migration_target l s.free.areas) (TakesSome l s)
target-placed l s layout p =
    or_some (TakesSome l s) (take_block l s.free.areas Mm 0) (option_or (take_block l s.free.areas Nm 0)
    (steal_block l s.free.areas Movable 0)) (pool_taken l s MmPool p)
    (or_some (TakesSome l s) (take_block l s.free.areas Nm 0) (steal_block l s.free.areas Movable 0)
    (pool_taken l s NmPool p)
    (some_weaker (TakesPlaced l s NormalZone 0) (TakesSome l s) (λ taken t. (NormalZone, t))
    (steal_block l s.free.areas Movable 0) (steal_block-placed l s _ 0 layout p)))

-- ---- it moves, and its old frame goes back

moved_page : (l : LayoutParts) (from to : ℕ) (f : Option ℕ) (w : Option (List ℕ)) → f ≡ Some from
    → IsPage l f w → IsPage l (Some to) w
moved_page l from to None w e h = cc
moved_page l from to (Some frame) None e h = absurd h
moved_page l from to (Some frame) (Some words) e h = h

moved-placed : (l : LayoutParts) (s : Memory) (from owner page : ℕ) (taken : Taken) → IsWellPlaced l s
    → frame_at s.pages owner page ≡ Some from → TakesSome l s taken
    → IsWellPlaced l (with_areas
    (with_pages s (record s.pages { table = with_entry s.pages.table owner page (Some taken.frame) }))
    (give_block l taken.areas (zone_of l s from) from 0))
moved-placed l s from owner page taken p e t =
    let table = table_of l s p.in_order in
    let within = entry_within l.owners l.pages s.pages.table owner page from table e in
    let ps : Pages = record s.pages { table = with_entry s.pages.table owner page (Some taken.frame) } in
    let h : IsInOrder l (with_pages (with_areas s taken.areas) ps) =
    pages-in_order l (with_areas s taken.areas) ps t.1.in_order
    (with_entry-table _ _ _ owner page _ within.owner_in table) (contents_of l s p.in_order)
    (entry-cases (λ (o q : ℕ) (x : Option ℕ). IsPage l x (entry_of s.pages.contents o q)) _ _
    _ owner page _ within.owner_in within.page_in table
    (moved_page l from taken.frame (frame_at s.pages owner page) (words_at s.pages owner page) e
    (p.in_order.words owner page)) (λ o q elsewhere. p.in_order.words o q)) in
    let moved : (frame : ℕ)
    → mapped_places ps frame + covered frame 0 from
    ≡ mapped_places s.pages frame + covered frame 0 taken.frame =
    λ frame. omega (
      arith,
      rw e at (mapped-places l.owners l.pages s.pages.table owner page (Some taken.frame)
          frame within.owner_in within.page_in table),
      held-some frame from,
      held-some frame taken.frame,
    ) in
    let zone_is = mapped_zone l s owner page from p e in
    let ordered : AreOrdered l (class_at l taken.areas.kinds s.blocks.rows) taken.areas =
    record {
      lists = h.shape.lists;
      few = λ frame. omega (arith, p.once frame, t.1.places frame);
      blocks = h.blocks;
      joined = h.joined;
    } in
    let room : (frame : ℕ) → free_places taken.areas frame + covered frame 0 from ≤ 1 =
    λ frame. omega (arith, p.once frame, t.1.places frame, moved frame) in
    let given =
    give_block-ordered l (class_at l taken.areas.kinds s.blocks.rows) taken.areas (zone_of l s from) from 0
    (omega arith) (single from) (rw zone_is) room ordered in
    record {
      in_order = areas-in_order l _ _ h given (give_block-kinds l _ _ from 0);
      once = λ frame.
          let places =
          give_block-places l taken.areas (zone_of l s from) from 0 frame ordered.lists (omega arith)
          (aligned_ancestor from 0 (single from)) ordered.few in
          omega (arith, p.once frame, t.1.places frame, moved frame, places);
    }

pub migrate-placed : (l : LayoutParts) (s : Memory) (op : ℕ) → IsLayout l → IsWellPlaced l s
    → IsWellPlaced l (migrate_step l s op).memory
unfolding migrate_step
migrate-placed l s op layout p =
    option_cases (λ (a : Answered). IsWellPlaced l a.memory) _ (migration_source l s op) _ (λ from source.
    option_cases (λ (a : Answered). IsWellPlaced l a.memory) _ (migration_target l s.free.areas) _
    (λ taken target. option_cases (λ (ps : Pages). IsWellPlaced l
    (with_areas (with_pages s ps) (give_block l taken.areas (zone_of l s from) from 0))) _
    (page_at s.pages from) _
    (λ page found. moved-placed l s from page.0 page.1 taken p (page_found s from page found)
    (rw target at (target-placed l s layout p)))
    (λ none. cc (rw none at (found_passes (λ frame. is_some (page_at s.pages frame)) _ from source))))
    (λ none. p)) (λ none. p)
