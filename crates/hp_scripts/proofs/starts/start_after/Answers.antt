-- The machine after the lines is the one that they lead to, and the scripts are those of the lines
-- after them.
use Rattle.std.proofs.Common.{arith}
use Rattle.std.proofs.lemmas.List.FromFn.{length-map-range_with_len}
use Rattle.hp_scripts.specs.Scripts.{script_of}
use Rattle.hp_scripts.proofs.starts.start_after.Goals as goal

pub returns-clause-is : goal.returns-clause-is
returns-clause-is c = record {
  sealed = c.run_lines.new.begins.items;
  run = rw (c.in_ok-machine.ensures, c.new-begins.ensures.items) at c.in_ok-run_lines.ensures;
  are = rw (c.deref.ensures.value, c.in_ok-note_begins.ensures, c.history.ensures.records, c.cpus.ensures.is)
      at c.in_ok-scripts.ensures;
}

pub returns-clause-few : goal.returns-clause-few
returns-clause-few c =
    rw (
      c.in_ok-scripts.ensures,
      length-map-range_with_len
          (script_of c.deref.result.now c.args.after.now c.args.sources.now) 0 c.cpus.result,
    )
    (omega (arith, c.cpus.ensures.is, c.cpus.ensures.layout.cpus))
