use Rattle.std.specs.Prelude.{◌≡◌, ◌≤◌, length, vec_len, vec_capacity}
use Rattle.hp_shared.specs.Lines.{IsWorked}
use Rattle.hp_shared.proofs.worker.run_script.Given as goal

abbrev pub invariant-loop-at : goal.invariant-loop-at
invariant-loop-at g l =
    (vec_len l.ends ≡ l.at) × (length l.fn.script ≤ vec_capacity l.ends)
    × IsWorked g.L.Job.layout l.fn.seat l.fn.script l.seat l.volumes.items l.ends.items
