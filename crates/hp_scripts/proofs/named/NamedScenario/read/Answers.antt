use Rattle.std.proofs.Common.{◌∙◌, Ok, sym, ap}
use Rattle.hp_scripts.proofs.NamedReads.{fails_alike, reads_plainly}
use Rattle.hp_scripts.proofs.named.NamedScenario.read.Goals as goal

pub returns-in_ok-without_names-in-Ok : goal.returns-in_ok-without_names-in-Ok
returns-in_ok-without_names-in-Ok c =
    reads_plainly c.args.bytes.now _ c.in-Ok.ensures ∙ ap Ok (sym c.in_ok-without_names-in-Ok.ensures)

pub returns-in_default : goal.returns-in_default
returns-in_default c =
    fails_alike c.args.bytes.now c.in-Err.fault c.in-Err.ensures
    (λ line. c.in_default.not-BadLine line.0 line.1)
