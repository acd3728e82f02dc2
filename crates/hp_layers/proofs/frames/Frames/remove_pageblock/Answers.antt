use Rattle.std.proofs.Common.{◌∙◌, ap, arith}
use Rattle.hp_units.specs.LayoutParts.{LayoutParts}
use Rattle.hp_units.specs.Isolation.{remove_pageblock}
use Rattle.hp_layers.proofs.Given.{area-moved}
use Rattle.hp_layers.proofs.Removed.{removed-stays}
use Rattle.hp_layers.proofs.frames.Frames.remove_pageblock.Goals as goal

pub remove_pageblock-requires-clause-free : goal.remove_pageblock-requires-clause-free
remove_pageblock-requires-clause-free c =
    rw (c.requires.tidy.layout, c.requires.same) c.requires.free

pub returns-clause-given : goal.returns-clause-given
returns-clause-given c =
    let f = c.args.self.now in
    area-moved (λ l. remove_pageblock l c.args.zone f.buddy.areas c.args.pageblock) (λ l. 2) f
    c.remove_pageblock.new.self c.args.tape.now c.remove_pageblock.new.tape c.requires.tidy
    (record {
      moved_is = c.remove_pageblock.ensures.removed;
      layout = c.remove_pageblock.ensures.layout;
      notes = c.remove_pageblock.ensures.notes;
      apart = c.remove_pageblock.ensures.apart;
      places = λ frame. (let more = c.remove_pageblock.ensures.places frame in omega (arith, more));
    })

pub returns-clause-stays : goal.returns-clause-stays
returns-clause-stays c =
    let f = c.args.self.now in
    let order = ap (λ (l : LayoutParts). l.order) c.requires.same in
    λ other ne on. removed-stays c.args.layout.now f.buddy.layout c.args.zone f.buddy.areas
    c.remove_pageblock.new.self.areas c.args.pageblock other (c.requires.tidy.layout ∙ c.requires.same)
    c.remove_pageblock.ensures.removed (omega (arith, c.requires.tidy.areas.areas.lists, order)) ne on
