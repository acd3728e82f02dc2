-- Isolating whole pageblocks and putting them back, adding and removing them.
use Rattle.std.specs.Prelude.{zero, suc, ◌+◌, ◌*◌, Bool, not, ◌++◌, filter, fold, ◌==◌}
use Rattle.hp_units.specs.Numbers.{Order, Pageblock, Block}
use Rattle.hp_units.specs.Names.{Zone, Movable, Class}
use Rattle.hp_units.specs.LayoutParts.{LayoutParts}
use Rattle.hp_units.specs.Arithmetic.{pageblock_size, pageblock_of, pageblocks_of, frames_of_pageblock}
use Rattle.hp_units.specs.Memory.{FreeAreas, free_list, with_free_list, kind_of, with_kind, plain_kind, usable_class, isolated_class}
use Rattle.hp_units.specs.FreeAreas.{is_on, class_of_kind, with_back, without_free}

-- a pageblock's free blocks of one order move, lowest frame first, to the back of another class's
-- list
abbrev pub move_free : LayoutParts → FreeAreas → (from to : Class) → (pageblock : Pageblock) (order : Order)
    → FreeAreas
move_free l a from to pageblock order =
    let frames = free_list a from order in
    let left =
    with_free_list a from order (filter (λ frame. not (pageblock_of l frame == pageblock)) frames) in
    with_free_list left to order
    (free_list left to order ++ filter (λ frame. is_on frame frames) (frames_of_pageblock l pageblock))

-- a pageblock's free blocks of each order below this one move to the lists of another class
abbrev pub move_free_below : LayoutParts → FreeAreas → (from to : Class)
    → (pageblock : Pageblock) (order : Order) → FreeAreas
move_free_below l a from to pageblock zero = a
move_free_below l a from to pageblock (suc order) =
    move_free l (move_free_below l a from to pageblock order) from to pageblock order

-- a pageblock becomes isolated or usable again, and its free blocks change their class (Linux,
-- memory hotplug: offlining; the order is this model's choice)
unfoldable pub move_pageblock : LayoutParts → Zone → Bool → FreeAreas → Pageblock → FreeAreas
move_pageblock l zone isolated a pageblock =
    let kind = kind_of a pageblock in
    let moved = record kind { isolated = isolated } in
    with_kind (move_free_below l a (class_of_kind zone kind) (class_of_kind zone moved) pageblock
    (l.order + 1)) pageblock moved

-- each pageblock of a memory block, in rising order, becomes isolated or usable again
abbrev pub move_block : LayoutParts → Zone → Bool → FreeAreas → Block → FreeAreas
move_block l zone isolated a block = fold (move_pageblock l zone isolated) a (pageblocks_of l block)

-- a whole pageblock becomes a free block at the back of its zone's list of movable blocks
abbrev pub add_pageblock : LayoutParts → Zone → FreeAreas → Pageblock → FreeAreas
add_pageblock l zone a pageblock =
    with_back a (usable_class zone Movable) l.order (pageblock * pageblock_size l)

abbrev pub add_block : LayoutParts → Zone → FreeAreas → Block → FreeAreas
add_block l zone a block = fold (add_pageblock l zone) a (pageblocks_of l block)

-- an isolated pageblock that is one free block leaves the areas, and gets the kind of a pageblock
-- in an offline block (Linux, memory hotplug: offlining removes the free pages from the allocator)
abbrev pub remove_pageblock : LayoutParts → Zone → FreeAreas → Pageblock → FreeAreas
remove_pageblock l zone a pageblock =
    with_kind (without_free a (isolated_class zone) l.order (pageblock * pageblock_size l)) pageblock
    plain_kind

abbrev pub remove_block : LayoutParts → Zone → FreeAreas → Block → FreeAreas
remove_block l zone a block = fold (remove_pageblock l zone) a (pageblocks_of l block)
