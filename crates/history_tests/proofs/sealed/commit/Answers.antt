-- The operation's number is above those in the base, as its Begin stands in the machine's records.
use Rattle.std.proofs.Common.{subst}
use Rattle.hp_units.specs.History.{net_of}
use Rattle.hp_units.specs.Memory.{Memory}
use Rattle.hp_laws.specs.Offline.{IsUndisturbed}
use Rattle.history_tests.proofs.SealedMachines.{commit_done}
use Rattle.history_tests.proofs.sealed.commit.Goals as goal

pub returns : goal.returns
returns c undisturbed low =
    let m = c.args.machine.now in
    let sound = c.stays_sound.ensures in
    let kept = c.history.ensures.kept in
    commit_done m c.answer.new.self c.args.cpu c.args.op c.answer.result
    (λ r legal event low. c.undisturbed_offline_commits.ensures.numbered m.layout m.base m.before c.args.op
    m.history r sound.limits sound.base_placed sound.base_numbered legal event low (subst
    (λ (s : Memory). IsUndisturbed m.layout s c.args.op (net_of m.history)) kept.state undisturbed)) low
    c.answer.ensures.ok
