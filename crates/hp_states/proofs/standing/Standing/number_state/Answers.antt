-- The transcripts stay.
use Rattle.std.proofs.Common.{refl, subst, sym}
use Rattle.hp_states.specs.Standing.{IsStanding, plainly}
use Rattle.hp_states.proofs.standing.Standing.number_state.Goals as goal

pub returns-clause-here : goal.returns-clause-here
returns-clause-here c =
    λ g news memory stood.
    let was = subst (IsStanding g news) (sym c.self.view_is) stood in
    record {
      stops = c.number_state.ensures.here plainly g news refl memory was.stops;
      exchanged = was.exchanged;
    }
