-- The number of records, then the replies' counts, and then the lines'.
use Rattle.std.proofs.Common.{◌∷◌, ◌++◌, append_assoc, length, refl}
use Rattle.hp_questions.proofs.marks.push_marks.Goals as goal

pub returns : goal.returns
returns c =
    λ fit.
    let counts = c.in_ok-push_calls_if.ensures c.if-not-branch.false in
    let met = c.in_ok-push_met.ensures in (
      length c.args.records.now ∷ (counts.0 ++ met.0),
      rw (met.1, counts.1, c.in_ok-push.ensures.items, c.in-Ok.ensures.1) (simp append_assoc),
      record { counts = counts.0; met = met.0; parts = refl; counts_are = counts.2; met_are = met.2 },
    )
