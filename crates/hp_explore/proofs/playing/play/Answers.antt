-- One call more in each turn of the loop, or one that is not asked for.
use Rattle.hp_explore.specs.Settings.{setting}
use Rattle.hp_explore.specs.Walks.{news_in}
use Rattle.std.proofs.Common.{◌≡◌, ◌∙◌, [], ap, arith, drop, length, refl}
use Rattle.std.proofs.Math.Seq.{drop-length}
use Rattle.hp_machine.specs.Machine.{MachineValue}
use Rattle.std.proofs.lemmas.Result.{err_from_is_err_and}
use Rattle.hp_explore.proofs.Machines.{filled_along, played_all, played_more, played_none, played_over}
use Rattle.hp_explore.proofs.playing.play.Goals as goal

pub loop-cpu-init : goal.loop-cpu-init
loop-cpu-init c =
    let none : news_in (setting c.args.machine.now c.args.scripts.now) c.in_ok-played.played ≡ [] =
    ap (λ (m : MachineValue). drop (length c.args.machine.now.history) m.history) c.in_ok-played.ensures
    ∙ drop-length c.args.machine.now.history in (
      played_none c.args.machine.now c.in_ok-played.played c.args.scripts.now c.args.schedule.now
          c.in_ok-played.ensures,
      rw none (c.in_ok-positions.ensures.begun (setting c.args.machine.now c.args.scripts.now) refl
          (rw (c.cpus.ensures.is, c.layout.ensures))),
    )

pub loop-cpu-preserved : goal.loop-cpu-preserved
loop-cpu-preserved c =
    let made =
    rw c.if-not-branch.false at c.in_ok-make_call.ensures.ok in (
      played_more _ _ _ _ _ _ c.loop-cpu-test.true c.cpu-item.is c.loop-cpu.invariant.0 made,
      c.in_ok-make_call.ensures.cursors,
    )

pub returns-clause-ok : goal.returns-clause-ok
returns-clause-ok c =
    played_all (setting c.args.machine.now c.args.scripts.now) c.loop-cpu.played c.args.schedule.now
    c.loop-cpu.cpu-index (omega (arith, c.loop-cpu-test.false)) c.loop-cpu.invariant.0

pub returns-then-not-branch-clause-ok : goal.returns-then-not-branch-clause-ok
returns-then-not-branch-clause-ok c =
    let made = rw c.if-not-branch.true at c.in_ok-make_call.ensures.ok in
    played_over _ _ _ _ _ c.loop-cpu-test.true c.cpu-item.is c.loop-cpu.invariant.0 made.0

pub returns-in_err-make_call-clause-along : goal.returns-in_err-make_call-clause-along
returns-in_err-make_call-clause-along c =
    let p =
    err_from_is_err_and c.from_residual-in_err-make_call.result c.from_residual-in_err-make_call.ensures.1 in
    rw (p.1, p.2)
    (λ full.
    filled_along _ _ _ _ _ c.loop-cpu-test.true c.cpu-item.is c.loop-cpu.invariant.0
    (c.in_err-make_call.ensures.full full))
