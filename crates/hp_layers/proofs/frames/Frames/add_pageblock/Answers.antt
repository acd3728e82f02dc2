use Rattle.std.proofs.Common.{◌*◌, ◌^◌, sym, ◌∙◌, subst}
use Rattle.hp_units.specs.LayoutParts.{LayoutParts}
use Rattle.hp_units.specs.Isolation.{add_pageblock}
use Rattle.hp_buddy.specs.Buddy.{MayBeGiven}
use Rattle.hp_layers.proofs.Given.{area-added, may-give, pageblock-returns}
use Rattle.hp_layers.proofs.frames.Frames.add_pageblock.Goals as goal

pub add_pageblock-requires-clause-block : goal.add_pageblock-requires-clause-block
add_pageblock-requires-clause-block c =
    let f = c.args.self.now in
    let l = c.args.layout.now in
    subst (λ (k : LayoutParts). MayBeGiven f.buddy.layout f.buddy.areas k.order
    (c.args.pageblock * 2 ^ k.order)) (sym (c.requires.tidy.layout ∙ c.requires.same))
    (may-give f l.order (c.args.pageblock * 2 ^ l.order) c.requires.tidy
    (pageblock-returns l f c.args.pageblock c.requires.same c.requires.pageblock c.requires.nowhere))

pub returns-clause-given : goal.returns-clause-given
returns-clause-given c =
    let f = c.args.self.now in
    let l = c.args.layout.now in
    let e = c.add_pageblock.new.self in
    area-added l (λ k. add_pageblock k c.args.zone f.buddy.areas c.args.pageblock) f e c.args.pageblock
    c.args.tape.now c.add_pageblock.new.tape c.requires.tidy c.requires.same c.requires.pageblock
    c.requires.nowhere
    (record {
      given_is = c.add_pageblock.ensures.added;
      layout = c.add_pageblock.ensures.layout;
      notes = c.add_pageblock.ensures.notes;
      apart = c.add_pageblock.ensures.apart;
      places = rw (← c.requires.same, ← c.requires.tidy.layout) c.add_pageblock.ensures.places;
    })
