-- Empty areas, with the lists of the Image and then its kinds.
use Rattle.std.proofs.Common.{[], ◌∙◌, ap}
use Rattle.hp_units.specs.Boot.{empty_areas}
use Rattle.hp_units.specs.Memory.{FreeAreas, plain_kind}
use Rattle.hp_memory.proofs.Tables.{copied-none}
use Rattle.hp_memory.proofs.loads.areas.buddy_of.Goals as goal

pub load_lists-requires : goal.load_lists-requires
load_lists-requires c =
    let new = c.in_ok-buddy.ensures.value ∙ ap (λ l. record { layout = l; areas = empty_areas l })
    c.layout.ensures in
    record {
      placed = c.requires.placed;
      layout = ap (λ b. b.layout) new;
      none = copied-none [] [] _ _ _ (ap (λ b. b.areas.lists) new) c.requires.placed.in_order.shape.lists;
    }

pub load_kinds-requires : goal.load_kinds-requires
load_kinds-requires c =
    let new = c.in_ok-buddy.ensures.value ∙ ap (λ l. record { layout = l; areas = empty_areas l })
    c.layout.ensures in
    record {
      placed = c.requires.placed;
      layout = c.load_lists.ensures.layout ∙ ap (λ b. b.layout) new;
      none =
          copied-none plain_kind plain_kind _ _ _ (ap (λ a. a.kinds) c.load_lists.ensures.lists
          ∙ ap (λ b. b.areas.kinds) new) c.requires.placed.in_order.shape.kinds;
    }

pub returns : goal.returns
returns c =
    let wanted = c.args.image.now.memory.free.areas in
    let new = c.in_ok-buddy.ensures.value ∙ ap (λ l. record { layout = l; areas = empty_areas l })
    c.layout.ensures in
    ap (λ l. record { layout = l; areas = c.load_kinds.new.buddy.areas })
    (c.load_kinds.ensures.layout ∙ (c.load_lists.ensures.layout ∙ ap (λ b. b.layout) new))
    ∙ ap (λ a. record { layout = c.args.image.now.layout; areas = a })
    (c.load_kinds.ensures.kinds
    ∙ ap (λ (a : FreeAreas). record a { kinds = wanted.kinds }) c.load_lists.ensures.lists)
