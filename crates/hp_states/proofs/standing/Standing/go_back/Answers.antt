-- The places and the transcripts go back.
use Rattle.std.proofs.Common.{[], subst, sym, ◌++◌, ◌∷◌}
use Rattle.hp_states.specs.Standing.{IsStanding, plainly}
use Rattle.hp_states.proofs.standing.Standing.go_back.Goals as goal

pub returns-clause-back : goal.returns-clause-back
returns-clause-back c =
    λ g news r whose stood.
    let was = subst (IsStanding g (news ++ r ∷ [])) (sym c.self.view_is) stood in
    record {
      stops = c.go_back.ensures.back plainly g news r was.stops;
      exchanged = c.go_back-2.ensures.back g news r whose was.exchanged;
    }
