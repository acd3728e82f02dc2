use Rattle.std.proofs.Common.{subst}
use Rattle.hp_scenario.specs.Calls.{Goes}
use Rattle.hp_scenario.specs.declared.calls.Next.{Next}
use Rattle.hp_scenario.proofs.CallsPassed.{none_passed, one_passed, passes_shorter}
use Rattle.hp_scenario.proofs.calls.take_all.Goals as goal

pub loop-line-init : goal.loop-line-init
loop-line-init c = rw c.requires (none_passed c.args.calls.now)

pub loop-line-preserved : goal.loop-line-preserved
loop-line-preserved c =
    let one = rw c.in-Another.is at c.in_ok-line.ensures in
    rw c.in_ok-push-in-Another.ensures.items (one_passed c.args.calls.now c.loop-line.calls c.next.new.self
    c.loop-line.lines.items c.in-Another.line c.loop-line.invariant one)

pub loop-line-smaller : goal.loop-line-smaller
loop-line-smaller c =
    let one = rw c.in-Another.is at c.in_ok-line.ensures in
    passes_shorter c.loop-line.calls c.next.new.self c.in-Another.line one

pub returns-in-End : goal.returns-in-End
returns-in-End c sure = (
  c.loop-line.calls,
  c.loop-line.invariant,
  subst (λ (n : Next). Goes c.loop-line.calls n c.next.new.self) c.in-End.is c.in_ok-line.ensures,
)
