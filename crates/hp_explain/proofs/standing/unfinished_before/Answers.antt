-- A processor has lines that are not over, or none has.
use Rattle.std.proofs.Common.{[], get_or, sym, ◌∙◌, arith}
use Rattle.std.proofs.lemmas.Bool.{false≢true}
use Rattle.std.proofs.lemmas.Option.{slice_get-get_or}
use Rattle.hp_explain.proofs.Runs.{over_all}
use Rattle.hp_explain.proofs.standing.unfinished_before.Goals as goal

pub returns-then-not-are_over-clause-some : goal.returns-then-not-are_over-clause-some
returns-then-not-are_over-clause-some c =
    let lines = get_or c.args.seen.now c.loop-cpu.cpu [] in
    let here =
    slice_get-get_or c.args.seen.now c.loop-cpu.cpu []
    (omega (arith, c.loop-cpu-test.true, c.processors-cpu-end.ensures)) in (
      lines,
      here,
      c.finished-line.ensures,
      λ over. absurd (false≢true (sym c.if-not-are_over.true ∙ (c.are_over.ensures lines here).1 over)),
    )

pub returns-clause-none : goal.returns-clause-none
returns-clause-none c =
    over_all _ _ _ _ c.loop-cpu.cpu (omega (arith, c.loop-cpu-test.false, c.processors-cpu-end.ensures))
    c.loop-cpu.invariant
