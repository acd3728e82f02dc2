use Rattle.std.proofs.Common.{◌≡◌, true, false, rules}
use Rattle.hp_judge.specs.Turns.{phase_seen}
use Rattle.hp_judge.proofs.StepShown.{stays_by, stays_not}
use Rattle.hp_judge.proofs.step_logs.stays.Goals as goal

pub returns-then-not-has_same_piece : goal.returns-then-not-has_same_piece
returns-then-not-has_same_piece c = λ s t p q.
    let differs : c.has_same_piece.result ≡ false = search rules in
    stays_not c.args.layout.now s t c.args.before.now c.args.after.now c.args.frame c.holder.result
    c.holder-2.result c.has_same_piece.result p q c.requires c.holder.ensures c.holder-2.ensures
    c.has_same_piece.ensures differs

pub returns : goal.returns
returns c = λ s t p q.
    let agrees : c.has_same_piece.result ≡ true = search rules in
    stays_by c.args.layout.now s t c.args.before.now c.args.after.now c.args.frame c.block_of-block.result
    c.holder.result c.holder-2.result c.has_same_piece.result c.goes_offline.result
    (phase_seen c.phase.result) (phase_seen c.phase-2.result) p q c.requires c.holder.ensures
    c.holder-2.ensures c.has_same_piece.ensures agrees c.block_of-block.ensures c.phase.ensures
    c.phase-2.ensures (c.goes_offline.ensures c.block_of-block.result)
