-- The numbers of the place before are those of the way.
use Rattle.hp_explore.specs.LatestOps.{numbering}
use Rattle.hp_explore.proofs.visited.Visited.go_back.Goals as goal

pub returns-then-self-clause-back : goal.returns-then-self-clause-back
returns-then-self-clause-back c =
    λ g news r way set. let was = way set in (
      c.go_back.ensures.back (numbering g) g news r was.0,
      c.go_back-then-self.ensures g news r was.1,
      was.2,
    )
