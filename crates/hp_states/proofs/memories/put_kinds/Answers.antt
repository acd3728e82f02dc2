use Rattle.std.proofs.Common.{ℕ, ◌+◌, ◌/◌, [], ◌∷◌, ◌++◌, ap, arith, length, ◌∙◌}
use Rattle.hp_states.specs.Parts.{kinds_code}
use Rattle.hp_states.proofs.Loops.{range_all, range_more}
use Rattle.hp_states.proofs.memories.put_kinds.Goals as goal

pub loop-four-preserved : goal.loop-four-preserved
loop-four-preserved c =
    range_more (kinds_code c.args.kinds.now) _ _ _ ((length c.args.kinds.now + 3) / 4) c.loop-four.four
    (omega (arith, c.loop-four-test.true)) c.loop-four.invariant
    (c.in_ok-byte.ensures ∙ ap (λ (n : ℕ). c.loop-four.code ++ n ∷ []) c.kinds_byte.ensures)

pub returns : goal.returns
returns c =
    range_all (kinds_code c.args.kinds.now) _ _ ((length c.args.kinds.now + 3) / 4) c.loop-four.four
    (omega (arith, c.loop-four-test.false)) c.loop-four.invariant
