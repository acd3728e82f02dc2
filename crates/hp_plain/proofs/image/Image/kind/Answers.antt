use Rattle.std.specs.Prelude.{slice_get}
use Rattle.std.proofs.Common.{Bor, List, ◌∙◌, ap}
use Rattle.hp_units.specs.Memory.{FreeAreas}
use Rattle.hp_units.specs.declared.rows.Kind.{Kind}
use Rattle.hp_plain.specs.Image.{Pictured}
use Rattle.hp_units.proofs.Lists.{item_read}
use Rattle.hp_plain.proofs.image.Image.kind.Goals as goal

pub returns : goal.returns
returns c =
    let kinds = c.kinds.result.now in
    rw c.copied.ensures (rw (item_read (λ (x : Bor Kind). x.now) kinds c.pageblock.inside.0 c.get.result
    c.get.ensures.lookup.0 c.get.ensures.lookup.1) (rw c.pageblock.view_is
    (ap (λ (xs : List Kind). slice_get xs c.args.pageblock) (c.kinds.ensures ∙ ap (λ (a : FreeAreas). a.kinds)
    c.areas.ensures ∙ ap (λ (i : Pictured). i.memory.free.areas.kinds) c.self.view_is))))
