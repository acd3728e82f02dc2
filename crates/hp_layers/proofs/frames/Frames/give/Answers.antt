use Rattle.hp_units.specs.FreeAreas.{give_block}
use Rattle.hp_tape.specs.Bounds.{give_bound}
use Rattle.hp_layers.proofs.Given.{area-given, may-give}
use Rattle.hp_layers.proofs.frames.Frames.give.Goals as goal

pub give-requires-clause-block : goal.give-requires-clause-block
give-requires-clause-block c =
    may-give c.args.self.now c.args.order c.args.frame c.requires.tidy c.requires.block

pub returns : goal.returns
returns c =
    let f = c.args.self.now in
    area-given (λ l. give_block l f.buddy.areas c.args.zone c.args.frame c.args.order) give_bound f
    c.give.new.self c.args.order c.args.frame c.args.tape.now c.give.new.tape c.requires.tidy
    c.requires.block
    (record {
      given_is = c.give.ensures.given;
      layout = c.give.ensures.layout;
      notes = c.give.ensures.notes;
      apart = c.give.ensures.apart;
      places = c.give.ensures.places;
    })
