-- The line is that of the scenario that was read, or the bytes are none.
use Rattle.std.proofs.Common.{string_bytes}
use Rattle.std.proofs.lemmas.Result.{IfOk-weaker}
use Rattle.hp_scripts.specs.Seen.{named_seen}
use Rattle.hp_lab_shell.proofs.Counted.{counted_none, read_count}
use Rattle.hp_lab_shell.proofs.checks.count_in.Goals as goal

pub returns-in-Ok : goal.returns-in-Ok
returns-in-Ok c =
    IfOk-weaker c.interleavings_line.result _ _
    (λ text h. read_count c.args.setup c.cpus-cpus.result c.args.input.now _ (named_seen c.in-Ok.named)
    c.as_slice.result.now c.in-Ok.ensures c.cpus-cpus.ensures.is c.as_slice.ensures h)
    c.interleavings_line.ensures

pub returns-in-Err : goal.returns-in-Err
returns-in-Err c =
    counted_none (λ text. string_bytes text) c.no_count.result c.args.setup c.args.input.now c.in-Err.fault
    c.in-Err.ensures c.no_count.ensures.none c.no_count.ensures.read
