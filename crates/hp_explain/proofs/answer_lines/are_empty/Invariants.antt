use Rattle.std.proofs.Common.{◌≡◌, drop, map}
use Rattle.hp_explain.specs.Answers.{are_empty}
use Rattle.hp_explain.proofs.answer_lines.are_empty.Given as goal

abbrev pub invariant-loop-line : goal.invariant-loop-line
invariant-loop-line l =
    are_empty (map (λ x. x.now) l.lines) ≡ are_empty (map (λ x. x.now) (drop l.line-index l.lines))
