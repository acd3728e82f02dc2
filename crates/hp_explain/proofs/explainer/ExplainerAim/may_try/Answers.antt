-- A line that may not run yet, or a full history.
use Rattle.std.proofs.Common.{arith}
use Rattle.std.proofs.lemmas.Bool.{iff_false}
use Rattle.hp_explain.proofs.Beginnings.{full_skipped, run_skipped}
use Rattle.hp_explain.proofs.explainer.ExplainerAim.may_try.Goals as goal

pub returns-then-len-self-clause-skipped : goal.returns-then-len-self-clause-skipped
returns-then-len-self-clause-skipped c =
    λ told. full_skipped _ _ _ _ _ _ c.requires.admitted.1 (omega (arith, c.len.ensures, c.if-len-self.true))

pub returns-clause-skipped : goal.returns-clause-skipped
returns-clause-skipped c =
    λ told. run_skipped c.args.path.now.setting c.args.self.now.seen.now c.args.self.now.room
    c.args.self.now.longest.items c.args.schedule.now c.args.path.now.news
    (rw c.requires.schedule c.is_played.ensures) c.args.cpu (iff_false c.may_run.ensures told)
