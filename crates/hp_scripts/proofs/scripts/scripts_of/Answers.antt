use Rattle.std.proofs.Common.{arith}
use Rattle.std.proofs.lemmas.List.FromFn.{map-range_with_len_more}
use Rattle.hp_scripts.specs.Scripts.{script_of}
use Rattle.hp_scripts.proofs.scripts.scripts_of.Goals as goal

pub loop-cpu-preserved : goal.loop-cpu-preserved
loop-cpu-preserved c =
    let cpu = c.loop-cpu.cpu in
    rw (
      c.push_reserved.ensures.items,
      c.in_ok-reserve.ensures.items,
      c.loop-cpu.invariant,
      c.in_ok-script.ensures,
      map-range_with_len_more (script_of c.args.begins.now c.args.lines.now c.args.sources.now) 0 cpu cpu
          (omega arith),
    )
