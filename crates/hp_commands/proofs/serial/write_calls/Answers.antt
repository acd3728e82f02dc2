use Rattle.std.proofs.Common.{◌≡◌, false, true, string_bytes}
use Rattle.hp_scenario.proofs.CallsPassed.{passes_shorter}
use Rattle.hp_commands.proofs.Called.{called_more, called_none}
use Rattle.hp_commands.proofs.serial.write_calls.Goals as goal

pub loop-line-init : goal.loop-line-init
loop-line-init c = called_none c.args.calls.now (string_bytes c.args.out.now) c.args.machine.now

pub loop-line-preserved : goal.loop-line-preserved
loop-line-preserved c =
    let one = rw c.in-Another.is at c.in_ok-line.ensures in
    called_more c.args.calls.now c.loop-line.calls c.next.new.self c.in-Another.line _ _ _ _ _ _
    c.loop-line.invariant one c.in_ok-write_taken-in-Another.ensures

pub loop-line-smaller : goal.loop-line-smaller
loop-line-smaller c =
    let one = rw c.in-Another.is at c.in_ok-line.ensures in
    passes_shorter c.loop-line.calls c.next.new.self c.in-Another.line one

pub returns-in-End : goal.returns-in-End
returns-in-End c sure =
    let i = c.loop-line.invariant in
    (i.0, (c.loop-line.calls, i.1, rw c.in-End.is at c.in_ok-line.ensures), i.2)

pub returns-in-Unsure : goal.returns-in-Unsure
returns-in-Unsure c sure = let bad : false ≡ true = sure in absurd cc
