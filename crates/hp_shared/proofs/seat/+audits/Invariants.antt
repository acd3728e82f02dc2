use Rattle.std.specs.Prelude.{◌+◌, ◌*◌, vec_len}
use Rattle.hp_shared.proofs.seat.+audits.Given as goal

abbrev pub decreases-audit_beside : goal.decreases-audit_beside
decreases-audit_beside g l = 2 * vec_len l.others.now + 1

abbrev pub decreases-audit_others : goal.decreases-audit_others
decreases-audit_others g l = 2 * vec_len l.seats.now
