-- The lines of a processor are not over; or those of all are.
use Rattle.std.proofs.Common.{arith, refl}
use Rattle.std.proofs.lemmas.Bool.{iff_false}
use Rattle.hp_laws.proofs.Lists.{get_some}
use Rattle.hp_explain.proofs.Runs.{over_all}
use Rattle.hp_explain.proofs.explainer.Explainer.are_all_over.Goals as goal

pub returns-then-not-are_over : goal.returns-then-not-are_over
returns-then-not-are_over c = (
  λ told. absurd cc,
  λ all.
      let lines = get_some c.args.self.now.seen.now c.loop-cpu.cpu
      (omega (arith, c.loop-cpu-test.true, c.processors-cpu-end.ensures)) in
      absurd (iff_false (c.are_over.ensures lines.0 lines.1) c.if-not-are_over.true
      (rw c.finished.ensures (all c.loop-cpu.cpu lines.0 lines.1))),
)

pub returns : goal.returns
returns c = (
  λ told. over_all _ _ _ _ c.loop-cpu.cpu
      (omega (arith, c.loop-cpu-test.false, c.processors-cpu-end.ensures)) c.loop-cpu.invariant,
  λ all. refl,
)
