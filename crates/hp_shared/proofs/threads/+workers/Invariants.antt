use Rattle.std.specs.Prelude.{◌+◌, ◌*◌, vec_len}
use Rattle.hp_shared.proofs.threads.+workers.Given as goal

abbrev pub decreases-run_rest : goal.decreases-run_rest
decreases-run_rest g l = 3 * vec_len l.seats

abbrev pub decreases-run_beside-scope : goal.decreases-run_beside-scope
decreases-run_beside-scope g l = 3 * vec_len l.others + 1

abbrev pub decreases-run_beside : goal.decreases-run_beside
decreases-run_beside g l = 3 * vec_len l.others + 2
