-- If all scripts are finished, the place is such an end just if its outcome has the lines.
use Rattle.std.proofs.Common.{Bool}
use Rattle.std.specs.Prelude.{◌↔◌, IsTrue}
use Rattle.std.proofs.lemmas.Bool.{iff_false}
use Rattle.std.proofs.lemmas.Result.{IfOk-weaker}
use Rattle.hp_questions.specs.Wanted.{Meets}
use Rattle.hp_explore.specs.Withins.{aim_within}
use Rattle.hp_explore.proofs.Budgets.{met_told}
use Rattle.hp_explore.proofs.SearchEnds.{end_told}
use Rattle.hp_explore.proofs.within.WithinAim.is_met.Goals as goal
use Rattle.hp_explore.proofs.within.WithinAim.is_met.Goals.{After-drop-outcome-inside-2}

told : (c : After-drop-outcome-inside-2) (met : Bool)
    → (IsTrue met
    ↔ Meets c.cpus.result c.scripts.result.now c.args.self.now.wanted.now c.in_ok-outcome.outcome)
    → IsTrue met
    ↔ (aim_within c.args.path.now.setting c.args.self.now.wanted.now c.args.self.now.budget).sought
    c.args._schedule.now
told c met is =
    let p = c.args.path.now in
    let wanted = c.args.self.now.wanted.now in
    met_told p.setting wanted c.args.self.now.budget c.args._schedule.now p.news met
    c.requires.schedule c.requires.admitted
    (end_told p wanted c.args.processors c.in_ok-outcome.outcome met c.is_played.ensures
    (c.is_over.ensures.0 c.if-not-is_over.false) c.requires.processors c.in_ok-outcome.ensures
    (rw (← c.cpus.ensures) (rw c.scripts.ensures at is)))

pub returns-clause-found : goal.returns-clause-found
returns-clause-found c =
    IfOk-weaker c.are_met.result _ _ (λ met is. λ yes. (told c met is).0 yes) c.are_met.ensures

pub returns-clause-missed : goal.returns-clause-missed
returns-clause-missed c =
    IfOk-weaker c.are_met.result _ _ (λ met is. λ no. iff_false (told c met is) no) c.are_met.ensures
