-- The numbers follow the call.
use Rattle.std.proofs.Common.{sym}
use Rattle.hp_explore.specs.LatestOps.{numbering}
use Rattle.hp_explore.proofs.LatestNumbers.{is_numbering, numbers_here}
use Rattle.hp_explore.proofs.visited.Visited.go_on.Goals as goal

pub go_on-requires : goal.go_on-requires
go_on-requires c =
    let way = c.requires.way in (numbering way.0, way.0, way.1, (way.2 c.if-not-self.false).0)

pub returns-clause-ok : goal.returns-clause-ok
returns-clause-ok c =
    λ g news way leaves at set. let was = way set in (
      c.in_ok-go_on.ensures.ok (numbering g) g news (is_numbering g)
          (sym (numbers_here g news c.args.self.now.fixed c.args.self.now.latest c.here.result.now was.2
          c.here.ensures was.1)) was.0 (leaves set),
      c.in_ok-go_on-2.ensures g news at was.1,
      was.2,
    )
