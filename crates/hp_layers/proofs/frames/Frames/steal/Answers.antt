use Rattle.hp_units.specs.FreeAreas.{steal_block}
use Rattle.hp_tape.specs.Bounds.{steal_bound}
use Rattle.hp_layers.proofs.Taken.{area-taken}
use Rattle.hp_layers.proofs.frames.Frames.steal.Goals as goal

pub returns : goal.returns
returns c =
    let f = c.args.self.now in
    area-taken (λ l. steal_block l f.buddy.areas c.args.wanted c.args.order) steal_bound f c.steal.new.self
    c.args.order c.args.tape.now c.steal.new.tape c.steal.result c.requires.tidy
    (record {
      taken = c.steal.ensures.stolen;
      none = c.steal.ensures.none;
      layout = c.steal.ensures.layout;
      notes = c.steal.ensures.notes;
      apart = c.steal.ensures.apart;
      block = c.steal.ensures.block;
      places = c.steal.ensures.places;
    })
