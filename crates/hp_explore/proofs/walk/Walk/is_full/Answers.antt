-- The schedule that ends here is a further one.
use Rattle.std.proofs.Common.{arith, inl, inr}
use Rattle.std.proofs.lemmas.Bool.{eqb-true}
use Rattle.hp_explore.proofs.Machines.{halted_here}
use Rattle.hp_explore.proofs.walk.Walk.is_full.Goals as goal

pub returns-clause-full : goal.returns-clause-full
returns-clause-full c =
    let w = c.args.self.now in
    λ told. halted_here w c.args.is_end c.requires.processors c.if-not-is_end.false c.is_played.ensures
    c.requires.walked c.requires.end
    (inl (omega (arith, c.room.ensures, eqb-true c.room.result 0 told)))

pub returns-then-self-clause-full : goal.returns-then-self-clause-full
returns-then-self-clause-full c =
    let w = c.args.self.now in
    λ told. halted_here w c.args.is_end c.requires.processors c.if-not-is_end.false c.is_played.ensures
    c.requires.walked c.requires.end (inr c.if-self.true)
