-- The places and the transcripts go on.
use Rattle.std.proofs.Common.{refl, subst, sym}
use Rattle.std.proofs.lemmas.Result.{on_ok_weaker}
use Rattle.hp_states.specs.Standing.{IsStanding, plainly}
use Rattle.hp_states.proofs.Keys.{plain_numbering}
use Rattle.hp_states.proofs.standing.Standing.go_on.Goals as goal

pub go_on-requires : goal.go_on-requires
go_on-requires c =
    let stood = subst (IsStanding c.requires.0 c.requires.1) (sym c.self.view_is) c.requires.2 in
    (plainly, c.requires.0, c.requires.1, stood.stops)

pub returns-clause-ok : goal.returns-clause-ok
returns-clause-ok c =
    on_ok_weaker c.go_on-2.result
    (λ on g news stood leaves.
    let was = subst (IsStanding g news) (sym c.self.view_is) stood in
    record {
      stops = c.in_ok-go_on.ensures.ok plainly g news plain_numbering refl was.stops leaves;
      exchanged = on g news was.exchanged;
    })
    c.go_on-2.ensures.ok
