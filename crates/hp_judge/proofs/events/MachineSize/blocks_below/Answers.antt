use Rattle.std.proofs.Common.{ap, arith, sym, ◌∙◌}
use Rattle.hp_judge.specs.Events.{is_well_formed}
use Rattle.hp_judge.proofs.Pieces.{move_below}
use Rattle.hp_judge.proofs.events.MachineSize.blocks_below.Goals as goal

pub returns-in-Move-clause-within : goal.returns-in-Move-clause-within
returns-in-Move-clause-within c =
    let low =
    move_below c.args.self.now c.in-Move.from c.in-Move.to
    (sym (ap (is_well_formed c.args.self.now) c.in-Move.is) ∙ c.requires.formed) in
    omega (arith, low.0, low.1, c.max.ensures, c.block_of-in-Move.ensures, c.block_of-in-Move-2.ensures)
