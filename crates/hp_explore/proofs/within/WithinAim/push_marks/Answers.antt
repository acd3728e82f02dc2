-- What is met, then what is spent, then what further ends of plans depend on.
use Rattle.std.proofs.Common.{List, ◌++◌, ℕ, ap, refl, ◌∙◌}
use Rattle.std.proofs.lemmas.List.{append_assoc}
use Rattle.hp_explore.proofs.within.WithinAim.push_marks.Goals as goal

pub returns : goal.returns
returns c =
    λ fit.
    let p = c.args.path.now in
    let old = c.args.numbers.now.items in
    let met = c.in_ok-push_met.ensures c.if-not-branch.false in
    let spent = c.in_ok-push_spent.ensures c.if-not-branch-2.false in
    let causes = c.in_ok-push_plan_causes.ensures in (
      (met.0 ++ spent.0) ++ causes.0,
      causes.1
          ∙ (ap (λ (xs : List ℕ). xs ++ causes.0)
          (spent.1 ∙ (ap (λ (xs : List ℕ). xs ++ spent.0) met.1 ∙ append_assoc old met.0 spent.0))
          ∙ append_assoc old (met.0 ++ spent.0) causes.0),
      record {
        met = met.0;
        spent = spent.0;
        causes = causes.0;
        parts = refl;
        met_are = rw c.requires.processors at met.2;
        spent_are = rw c.requires.schedule at spent.2;
        causes_are = causes.2;
      },
    )
