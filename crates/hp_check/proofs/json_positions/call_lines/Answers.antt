use Rattle.std.proofs.Common.{arith, refl}
use Rattle.hp_check.proofs.JsonPositions.{bound_more, line_counted, signs_more}
use Rattle.hp_check.proofs.json_positions.call_lines.Goals as goal

pub loop-place-preserved : goal.loop-place-preserved
loop-place-preserved c =
    let i = c.loop-place.invariant in
    let place = c.loop-place.place in
    let lt = c.loop-place-test.true in (
      omega (arith, i.0, c.in_ok-pass.ensures.depth),
      bound_more c.loop-place.line _ place _ i.1 c.line_after-line.ensures,
      signs_more _ _ _ _ place _ _ lt refl i.3 i.2 c.lexeme_at-lexeme.ensures c.in_ok-pass.ensures.lines,
      line_counted _ place _ _ _ lt refl i.3 c.line_after-line.ensures,
    )
