use Rattle.std.proofs.Common.{ap, arith}
use Rattle.hp_states.specs.Parts.{owner_code}
use Rattle.hp_states.proofs.Loops.{range_all, range_more}
use Rattle.hp_states.proofs.memories.put_pages.Goals as goal

pub loop-number-preserved : goal.loop-number-preserved
loop-number-preserved c =
    range_more (owner_code c.args.memory.now.layout c.args.memory.now.state.pages) _ _ _
    c.args.memory.now.layout.owners c.loop-number.number
    (omega (
      arith,
      c.loop-number-test.true,
      c.owners-number-end.ensures.is,
      ap (λ l. l.owners) c.layout.ensures,
    ))
    c.loop-number.invariant c.in_ok-put_owner.ensures

pub returns : goal.returns
returns c =
    range_all (owner_code c.args.memory.now.layout c.args.memory.now.state.pages) _ _
    c.args.memory.now.layout.owners c.loop-number.number
    (omega (
      arith,
      c.loop-number-test.false,
      c.owners-number-end.ensures.is,
      ap (λ l. l.owners) c.layout.ensures,
    ))
    c.loop-number.invariant
