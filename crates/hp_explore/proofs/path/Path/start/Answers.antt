-- No turn was made.
use Rattle.std.proofs.Common.{◌≡◌, [], ap, refl}
use Rattle.std.proofs.Math.Seq.{drop-length}
use Rattle.hp_memory.specs.Steps.{StepsValue}
use Rattle.hp_explore.specs.Settings.{setting}
use Rattle.hp_explore.proofs.Machines.{reached_start}
use Rattle.hp_explore.proofs.Paths.{path_of}
use Rattle.hp_explore.proofs.Stepped.{machine_at}
use Rattle.hp_explore.proofs.path.Path.start.Goals as goal
use Rattle.hp_explore.proofs.path.Path.start.Goals.{In_ok-here}

none_yet : (c : In_ok-here) → c.in_ok-here.here.records ≡ []
none_yet c = rw (c.in_ok-here.ensures.value, drop-length c.args.machine.now.history)

pub invariant_of-result : goal.invariant_of-result
invariant_of-result c =
    let g = setting c.args.machine.now c.args.scripts.now in
    let none = none_yet (goal.at.invariant_of-result c).In_ok-here in
    rw c.new.ensures.items (record {
      at =
          machine_at g c.args.machine.now c.in_ok-here.here
          (reached_start c.args.machine.now c.args.scripts.now) c.steps_of.ensures.kept.state
          (ap (λ (p : StepsValue). p.layout) c.in_ok-here.ensures.value)
          (ap (λ (p : StepsValue). p.state) c.in_ok-here.ensures.value)
          (ap (λ (p : StepsValue). p.records) c.in_ok-here.ensures.value);
      cursors_at =
          rw none (c.in_ok-positions.ensures.begun g refl (rw (c.cpus.ensures.is, c.layout.ensures)));
      back = none;
    })

pub returns : goal.returns
returns c =
    ap (path_of (setting c.args.machine.now c.args.scripts.now))
    (none_yet (goal.at.returns c).In_ok-here)
