-- The line that the latest call finished was answered as it was seen, or not.
use Rattle.std.proofs.Common.{None, Some, ◌∙◌}
use Rattle.std.proofs.lemmas.Bool.{iff_false}
use Rattle.std.proofs.lemmas.Option.{same_Some}
use Rattle.hp_explain.proofs.Beginnings.{asked_explained, asked_skipped}
use Rattle.hp_explain.proofs.explainer.ExplainerAim.admits.Goals as goal

pub returns-in-Some-clause-admitted : goal.returns-in-Some-clause-admitted
returns-in-Some-clause-admitted c =
    λ told.
    let called = c.requires.called in
    asked_explained c.args.path.now.setting _ _ _ c.args.schedule.now c.args.path.now.news
    (rw c.requires.schedule c.is_played.ensures) (Some c.in-Some.finished) called c.in-Some.ensures
    (λ line same. rw (← same_Some c.in-Some.finished line same)
    ((c.has_seen_latest.ensures called.before called.cpu (c.as_slice.ensures ∙ called.longer)).0 told))

pub returns-in-Some-clause-skipped : goal.returns-in-Some-clause-skipped
returns-in-Some-clause-skipped c =
    λ told.
    let called = c.requires.called in
    asked_skipped c.args.path.now.setting _ _ _ c.args.schedule.now c.args.path.now.news
    (rw c.requires.schedule c.is_played.ensures) c.in-Some.finished called c.in-Some.ensures
    (iff_false (c.has_seen_latest.ensures called.before called.cpu (c.as_slice.ensures ∙ called.longer)) told)

pub returns-in-None-clause-admitted : goal.returns-in-None-clause-admitted
returns-in-None-clause-admitted c =
    λ told. asked_explained c.args.path.now.setting _ _ _ c.args.schedule.now c.args.path.now.news
    (rw c.requires.schedule c.is_played.ensures) None c.requires.called c.in-None.ensures
    (λ line same. absurd cc)
