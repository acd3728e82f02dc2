-- The scripts of all processors are over, or one goes on.
use Rattle.std.proofs.Common.{◌≡◌, None, length, refl, sym, arith, ◌∙◌}
use Rattle.std.proofs.lemmas.Bool.{false≢true}
use Rattle.hp_schedules.specs.Schedules.{next_call}
use Rattle.hp_states.proofs.Walks.{over_all}
use Rattle.hp_explore.proofs.over.is_over.Goals as goal
use borrow.Author.Count.{below_more}

pub returns-then-not-has_finished : goal.returns-then-not-has_finished
returns-then-not-has_finished c = (
  λ told. absurd (false≢true told),
  λ over. absurd (false≢true (sym c.if-not-has_finished.true ∙ c.has_finished.ensures.1 (over _))),
)

pub loop-cpu-preserved : goal.loop-cpu-preserved
loop-cpu-preserved c = record {
  over = below_more (λ k. next_call c.args.path.now.setting k c.args.path.now.news ≡ None) c.loop-cpu.cpu
      c.loop-cpu.invariant.over (c.has_finished.ensures.0 c.if-not-has_finished.false);
}

pub returns : goal.returns
returns c =
    let p = c.args.path.now in
    let all : c.loop-cpu.cpu ≡ length p.setting.scripts =
    omega (arith, c.loop-cpu.auto.cpu-end, c.loop-cpu-test.false, c.requires) in (
      λ told. over_all p.setting p.news (rw all at c.loop-cpu.invariant.over),
      λ over. refl,
    )
