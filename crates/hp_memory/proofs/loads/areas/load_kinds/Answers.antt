-- One kind further.
use Rattle.std.proofs.Common.{◌∙◌, ap, refl, subst}
use Rattle.hp_units.specs.LayoutParts.{IsLayout}
use Rattle.hp_memory.proofs.FilledLists.{same_areas}
use Rattle.hp_memory.proofs.Tables.{copied-all, copied-next, pageblocks-fit, product-end, product-low}
use Rattle.hp_memory.proofs.loads.areas.load_kinds.Goals as goal

pub overflow_mul-number-end : goal.overflow_mul-number-end
overflow_mul-number-end c =
    pageblocks-fit (subst IsLayout c.layout.ensures c.blocks-2.ensures.layout) (c.blocks-2.ensures.is ∙ ap
    (λ k. k.blocks) c.layout.ensures) (c.pageblocks.ensures.is ∙ ap (λ k. k.pageblocks) c.layout-2.ensures)

pub loop-number-init : goal.loop-number-init
loop-number-init c = record { kinds = c.requires.none; lists = refl; layout = refl }

pub load_kind-requires : goal.load_kind-requires
load_kind-requires c =
    let low =
    product-low c.loop-number.number (rw (c.blocks-2.ensures.is, c.layout.ensures))
    (rw (c.pageblocks.ensures.is, c.layout-2.ensures)) c.loop-number-test.true in
    record {
      pageblock = rw (c.loop-number.invariant.layout ∙ c.requires.layout) low;
      size = rw (c.loop-number.invariant.kinds.size ∙ c.requires.placed.in_order.shape.kinds) low;
    }

pub loop-number-preserved : goal.loop-number-preserved
loop-number-preserved c =
    let low =
    product-low c.loop-number.number (rw (c.blocks-2.ensures.is, c.layout.ensures))
    (rw (c.pageblocks.ensures.is, c.layout-2.ensures)) c.loop-number-test.true in
    record {
      kinds =
          copied-next (rw c.requires.placed.in_order.shape.kinds low) c.loop-number.invariant.kinds
          (rw c.load_kind.ensures.kind);
      lists = rw (c.load_kind.ensures.kind, c.loop-number.invariant.lists);
      layout = c.load_kind.ensures.layout ∙ c.loop-number.invariant.layout;
    }

pub returns-clause-layout : goal.returns-clause-layout
returns-clause-layout c = c.loop-number.invariant.layout

pub returns-clause-kinds : goal.returns-clause-kinds
returns-clause-kinds c =
    same_areas c.loop-number.buddy.areas (record c.args.buddy.now.areas
    { kinds = c.args.image.now.memory.free.areas.kinds }) c.loop-number.invariant.lists
    (copied-all (product-end c.loop-number.number (c.blocks-2.ensures.is ∙ ap (λ k. k.blocks)
    c.layout.ensures) (c.pageblocks.ensures.is ∙ ap (λ k. k.pageblocks) c.layout-2.ensures)
    c.requires.placed.in_order.shape.kinds c.loop-number-test.false) c.loop-number.invariant.kinds)
