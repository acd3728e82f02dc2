use Rattle.std.proofs.Common.{[], arith}
use Rattle.std.proofs.lemmas.List.FromFn.{map-range_with_len_more}
use Rattle.hp_scenario.specs.Scripts.{script_of}
use Rattle.hp_scenario.proofs.scripts.no_scripts.Goals as goal

pub loop-cpu-preserved : goal.loop-cpu-preserved
loop-cpu-preserved c =
    let i = c.loop-cpu.invariant in (
      rw (c.push_reserved.ensures.items, i.0, c.new-in-loop-cpu.ensures, c.new.ensures.items)
          (rw (← map-range_with_len_more (script_of []) 0 c.loop-cpu._cpu c.loop-cpu._cpu (omega arith))),
      omega (arith, i.1, c.push_reserved.ensures.len),
      omega (arith, i.2, c.push_reserved.ensures.capacity),
    )
