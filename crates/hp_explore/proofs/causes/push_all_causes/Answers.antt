-- The numbers of one processor more.
use Rattle.hp_explore.proofs.causes.push_all_causes.Goals as goal
use Rattle.std.proofs.Common.{◌≡◌, ◌+◌, suc, ◌++◌, arith, refl}
use Rattle.std.proofs.lemmas.List.{append_assoc}

pub loop-cpu-preserved : goal.loop-cpu-preserved
loop-cpu-preserved c =
    let so_far = c.loop-cpu.invariant in
    let more = c.in_ok-push_causes.ensures in
    let next : suc c.loop-cpu.cpu ≡ c.loop-cpu.cpu + 1 = omega arith in (
      so_far.0 ++ more.0,
      rw (more.1, so_far.1, append_assoc),
      rw (← next) (so_far.0, more.0, refl, more.2, more.3, so_far.2),
    )
