-- One kind further.
use Rattle.std.proofs.Common.{◌<◌, ℕ, sym, ◌∙◌, ap, refl, subst, arith}
use Rattle.hp_units.specs.LayoutParts.{IsLayout}
use Rattle.hp_memory.proofs.Conversions.{kinds-kept}
use Rattle.hp_memory.proofs.Tables.{copied-all, copied-next, pageblocks-fit, product-end, product-low}
use Rattle.hp_memory.proofs.pictures.areas.put_kinds.Goals as goal

pub overflow_mul-number-end : goal.overflow_mul-number-end
overflow_mul-number-end c =
    pageblocks-fit (subst IsLayout (c.layout.ensures ∙ c.requires.layout) c.blocks-2.ensures.layout)
    (c.blocks-2.ensures.is ∙ ap (λ k. k.blocks) (c.layout.ensures ∙ c.requires.layout))
    (c.pageblocks.ensures.is ∙ ap (λ k. k.pageblocks) (c.layout-2.ensures ∙ c.requires.layout))

pub loop-number-init : goal.loop-number-init
loop-number-init c = record { kinds = c.requires.kinds; same = refl }

pub put_kind-requires : goal.put_kind-requires
put_kind-requires c =
    record {
      layout = rw (c.loop-number.invariant.same, c.requires.layout);
      pageblock =
          product-low c.loop-number.number (rw (c.blocks-2.ensures.is, c.layout.ensures ∙ c.requires.layout))
          (rw (c.pageblocks.ensures.is, c.layout-2.ensures ∙ c.requires.layout)) c.loop-number-test.true;
    }

pub loop-number-preserved : goal.loop-number-preserved
loop-number-preserved c =
    let put = c.in_ok-put_kind.ensures in
    record {
      kinds =
          copied-next (subst (λ (n : ℕ). c.loop-number.number < n) (sym c.requires.within.kinds) (product-low
          c.loop-number.number (c.blocks-2.ensures.is ∙ ap (λ k. k.blocks)
          (c.layout.ensures ∙ c.requires.layout)) (c.pageblocks.ensures.is ∙ ap (λ k. k.pageblocks)
          (c.layout-2.ensures ∙ c.requires.layout)) c.loop-number-test.true)) c.loop-number.invariant.kinds
          (ap (λ i. i.memory.free.areas.kinds) put);
      same = kinds-kept c.args.image.now _ c.loop-number.invariant.same put;
    }

pub returns : goal.returns
returns c =
    rw (
      c.loop-number.invariant.same,
      copied-all (product-end c.loop-number.number (c.blocks-2.ensures.is ∙ ap
          (λ k. k.blocks) (c.layout.ensures ∙ c.requires.layout))
          (c.pageblocks.ensures.is ∙ ap (λ k. k.pageblocks)
          (c.layout-2.ensures ∙ c.requires.layout)) c.requires.within.kinds
          (omega (arith, c.loop-number-test.false))) c.loop-number.invariant.kinds,
    )
