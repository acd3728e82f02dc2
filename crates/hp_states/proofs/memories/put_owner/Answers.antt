use Rattle.std.proofs.Common.{ap, arith}
use Rattle.hp_states.specs.Parts.{page_code_at}
use Rattle.hp_states.proofs.Loops.{range_all, range_more}
use Rattle.hp_states.proofs.memories.put_owner.Goals as goal

pub loop-number-preserved : goal.loop-number-preserved
loop-number-preserved c =
    range_more (page_code_at c.args.memory.now.layout c.args.memory.now.state.pages c.args.owner) _ _ _
    c.args.memory.now.layout.pages c.loop-number.number
    (omega (
      arith,
      c.loop-number-test.true,
      c.pages-number-end.ensures.is,
      ap (λ l. l.pages) c.layout.ensures,
    ))
    c.loop-number.invariant c.in_ok-put_page.ensures

pub returns : goal.returns
returns c =
    range_all (page_code_at c.args.memory.now.layout c.args.memory.now.state.pages c.args.owner) _ _
    c.args.memory.now.layout.pages c.loop-number.number
    (omega (
      arith,
      c.loop-number-test.false,
      c.pages-number-end.ensures.is,
      ap (λ l. l.pages) c.layout.ensures,
    ))
    c.loop-number.invariant
