-- Taking free blocks from the free areas, and giving them back: the buddy system.
use Rattle.std.specs.Prelude.{ℕ, zero, suc, ◌+◌, ◌-◌, ◌^◌, Bool, not, List, [], ◌∷◌, ◌++◌, Option, Some, None, ◌==◌, filter, if◌then◌else◌}
use Rattle.std.specs.List.{list_any}
use Rattle.std.specs.Option.{option_map, option_and_then}
use Rattle.hp_units.specs.Numbers.{Frame, Order}
use Rattle.hp_units.specs.Names.{Zone, NormalZone, Mobility, Unmovable, Movable, Class, Kind}
use Rattle.hp_units.specs.LayoutParts.{LayoutParts}
use Rattle.hp_units.specs.Numbers.{ancestor}
use Rattle.hp_units.specs.Arithmetic.{buddy, pageblock_of}
use Rattle.hp_units.specs.Memory.{FreeAreas, free_list, with_free_list, kind_of, with_kind, usable_class, isolated_class}

-- the areas after a block was taken or stolen, and the block's first frame
pub record Taken : Type 0 where
  pub areas : FreeAreas
  pub frame : Frame

-- whether a list contains a frame, and the list without it
abbrev pub is_on : Frame → List Frame → Bool
is_on frame frames = list_any (λ other. other == frame) frames

abbrev pub without : Frame → List Frame → List Frame
without frame frames = filter (λ other. not (other == frame)) frames

-- the class of a pageblock's free blocks, by its zone and its kind
abbrev pub class_of_kind : Zone → Kind → Class
class_of_kind zone kind = if kind.isolated then isolated_class zone else usable_class zone kind.mobility

abbrev pub class_of : LayoutParts → FreeAreas → Zone → Frame → Class
class_of l a zone frame = class_of_kind zone (kind_of a (pageblock_of l frame))

-- the areas after a free block is put at the front of a list, after one is put at its back, and
-- after one is taken off it
abbrev pub with_front : FreeAreas → Class → Order → Frame → FreeAreas
with_front a class order frame = with_free_list a class order (frame ∷ free_list a class order)

abbrev pub with_back : FreeAreas → Class → Order → Frame → FreeAreas
with_back a class order frame = with_free_list a class order (free_list a class order ++ frame ∷ [])

abbrev pub without_free : FreeAreas → Class → Order → Frame → FreeAreas
without_free a class order frame = with_free_list a class order (without frame (free_list a class order))

-- this order if the list has a block, otherwise `other`
abbrev pub order_or : List Frame → Order → Option Order → Option Order
order_or [] order other = other
order_or (frame ∷ frames) order other = Some order

-- the least of `count` orders from `first` on at which a class has a free block (Knuth, volume 1,
-- section 2.5, reservation)
abbrev pub least_order : FreeAreas → Class → (first : Order) (count : ℕ) → Option Order
least_order a class first zero = None
least_order a class first (suc count) =
    order_or (free_list a class first) first (least_order a class (suc first) count)

-- the greatest of `count` orders from `first` on at which a class has a free block (Gorman, chapter
-- 6: fallback takes the largest block)
abbrev pub greatest_order : FreeAreas → Class → (first : Order) (count : ℕ) → Option Order
greatest_order a class first zero = None
greatest_order a class first (suc count) =
    order_or (free_list a class (first + count)) (first + count) (greatest_order a class first count)

-- the areas with the upper halves that are left when a block is split by `count` orders, down to
-- the order `last`. There is one half at each order, at the front of its list (Knuth, volume 1,
-- section 2.5, reservation)
abbrev pub with_halves : FreeAreas → Class → (frame : Frame) (last : Order) (count : ℕ) → FreeAreas
with_halves a class frame last zero = a
with_halves a class frame last (suc count) =
    with_front (with_halves a class frame (suc last) count) class last (frame + 2 ^ last)

-- the first of these frames leaves the list of its class, and its block is split down to the wanted
-- order. The halves that are left go to the lists of the class `rest`. None if there is no frame
abbrev pub take_first : FreeAreas → (class rest : Class) → (order wanted : Order) → List Frame → Option Taken
take_first a class rest order wanted [] = None
take_first a class rest order wanted (frame ∷ frames) =
    Some (record {
      areas =
          with_halves (with_free_list a class order frames) rest frame wanted (order - wanted);
      frame = frame;
    })

abbrev pub take_front : FreeAreas → (class rest : Class) → (order wanted : Order) → Option Taken
take_front a class rest order wanted = take_first a class rest order wanted (free_list a class order)

-- the front block of the least order, from `wanted` up, at which the class has a block. It is split
-- down to `wanted`. None if the class has no such block (Knuth, volume 1, section 2.5, reservation;
-- which end of the list is this model's choice)
unfoldable pub take_block : LayoutParts → FreeAreas → Class → Order → Option Taken
take_block l a class wanted =
    option_and_then (λ order. take_front a class class order wanted)
    (least_order a class wanted (l.order + 1 - wanted))

-- the order up to which a free block joins, if `count` orders from `order` on are looked at: the
-- least of them at which its buddy is not free in this class, or else `order + count` (Knuth,
-- volume 1, section 2.5, liberation)
abbrev pub join_order : FreeAreas → Class → (frame : Frame) (order : Order) (count : ℕ) → Order
join_order a class frame order zero = order
join_order a class frame order (suc count) =
    let joined = join_order a class frame (suc order) count in
    if is_on (buddy (ancestor frame order) order) (free_list a class order) then joined else order

-- the areas without the frame's buddies of the `count` orders from `order` on (Knuth, volume 1,
-- section 2.5, liberation)
abbrev pub without_buddies : FreeAreas → Class → (frame : Frame) (order : Order) (count : ℕ) → FreeAreas
without_buddies a class frame order zero = a
without_buddies a class frame order (suc count) =
    without_free (without_buddies a class frame order count) class (order + count)
    (buddy (ancestor frame (order + count)) (order + count))

-- a block comes back: it joins with its buddies while they are free in its pageblock's class, and
-- goes to the front of its list (Knuth, volume 1, section 2.5, liberation; that it never joins
-- across pageblocks is this model's choice)
unfoldable pub give_block : LayoutParts → FreeAreas → Zone → (frame : Frame) (order : Order) → FreeAreas
give_block l a zone frame order =
    let class = class_of l a zone frame in
    let joined = join_order a class frame order (l.order - order) in
    with_front (without_buddies a class frame order (joined - order)) class joined (ancestor frame joined)

-- the mobility to steal from
abbrev pub other_mobility : Mobility → Mobility
other_mobility Unmovable = Movable
other_mobility Movable = Unmovable

-- what was taken, with the mobility of its pageblock changed
abbrev pub with_mobility : LayoutParts → Mobility → Taken → Taken
with_mobility l mobility taken =
    record taken {
      areas = with_kind taken.areas (pageblock_of l taken.frame)
          (record (kind_of taken.areas (pageblock_of l taken.frame)) { mobility = mobility });
    }

-- steals the front block of this order from the other mobility. A whole pageblock changes to the
-- wanted mobility, and the halves that are left go to its lists; the halves of a smaller block keep
-- their mobility
abbrev pub steal_front : LayoutParts → FreeAreas → Mobility → (order wanted : Order) → Option Taken
steal_front l a mobility order wanted =
    let from = usable_class NormalZone (other_mobility mobility) in
    if order == l.order
    then option_map (with_mobility l mobility)
    (take_front a from (usable_class NormalZone mobility) order wanted)
    else take_front a from from order wanted

-- a block for a mobility of zone Normal. It is stolen at the greatest order, from `wanted` up, at
-- which the other mobility has a block; None if there is none (Gorman, chapter 6: fallback; the
-- exact rule is this model's)
unfoldable pub steal_block : LayoutParts → FreeAreas → Mobility → Order → Option Taken
steal_block l a mobility wanted =
    option_and_then (λ order. steal_front l a mobility order wanted)
    (greatest_order a (usable_class NormalZone (other_mobility mobility)) wanted (l.order + 1 - wanted))
