use Rattle.std.proofs.Common.{arith}
use Rattle.hp_units.specs.Isolation.{move_pageblock}
use Rattle.hp_tape.specs.Bounds.{move_bound}
use Rattle.hp_layers.proofs.Given.{area-moved}
use Rattle.hp_layers.proofs.frames.Frames.move_pageblock.Goals as goal

pub returns : goal.returns
returns c =
    let f = c.args.self.now in
    area-moved (λ l. move_pageblock l c.args.zone c.args.isolated f.buddy.areas c.args.pageblock) move_bound f
    c.move_pageblock.new.self c.args.tape.now c.move_pageblock.new.tape c.requires.tidy
    (record {
      moved_is = c.move_pageblock.ensures.moved;
      layout = c.move_pageblock.ensures.layout;
      notes = c.move_pageblock.ensures.notes;
      apart = c.move_pageblock.ensures.apart;
      places = λ frame. (let same = c.move_pageblock.ensures.places frame in omega (arith, same));
    })
