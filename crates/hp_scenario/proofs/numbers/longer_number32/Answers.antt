use Rattle.std.proofs.Common.{ℕ, List, subst, arith}
use Rattle.hp_scenario.specs.Words.{IsPlainNumber}
use Rattle.hp_scenario.proofs.PlainNumbers.{plain_exceeds}
use Rattle.hp_scenario.proofs.numbers.longer_number32.Goals as goal

pub returns-then-number : goal.returns-then-number
returns-then-number c =
    plain_exceeds 32 c.args.word.now c.in-Some.number
    (subst (λ (w : List ℕ). IsPlainNumber w c.in-Some.number) c.as_bytes.ensures.value c.in-Some.ensures)
    (omega arith)
