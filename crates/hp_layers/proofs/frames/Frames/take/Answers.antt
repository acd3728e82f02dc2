use Rattle.hp_units.specs.FreeAreas.{take_block}
use Rattle.hp_tape.specs.Bounds.{take_bound}
use Rattle.hp_layers.proofs.Taken.{area-taken}
use Rattle.hp_layers.proofs.frames.Frames.take.Goals as goal

pub returns : goal.returns
returns c =
    let f = c.args.self.now in
    area-taken (λ l. take_block l f.buddy.areas c.args.class c.args.order) take_bound f c.take.new.self
    c.args.order c.args.tape.now c.take.new.tape c.take.result c.requires.tidy
    (record {
      taken = c.take.ensures.taken;
      none = c.take.ensures.none;
      layout = c.take.ensures.layout;
      notes = c.take.ensures.notes;
      apart = c.take.ensures.apart;
      block = c.take.ensures.block;
      places = c.take.ensures.places;
    })
