use Rattle.hp_parts.proofs.Lines.{line_stands}
use Rattle.hp_parts.proofs.cuts.line_at.Goals as goal

pub returns-in-Some-clause-is : goal.returns-in-Some-clause-is
returns-in-Some-clause-is c =
    line_stands c.args.input.now c.args.place c.in-Some.end c.requires c.in-Some.ensures
