-- The place has its numbers.
use Rattle.hp_explore.specs.LatestOps.{numbering}
use Rattle.hp_explore.proofs.LatestNumbers.{numbers_here}
use Rattle.hp_explore.proofs.visited.Visited.write_numbers.Goals as goal
use Rattle.std.proofs.Common.{sym}

pub returns-clause-ok : goal.returns-clause-ok
returns-clause-ok g c =
    let v = c.args.self.now in
    let p = c.args.path.now in
    let way = c.requires.way c.requires.on in
    let numbered =
    numbers_here p.setting p.news v.fixed v.latest c.here.result.now way.2 c.here.ensures way.1 in
    let openings = c.in_ok-push_openings.ensures c.if-not-branch.false in
    let steering = c.in_ok-push_all_steering.ensures c.if-not-branch-2.false in
    let marks = c.in_ok-push_marks.ensures c.if-not-branch-3.false in
    λ told. record {
      openings = openings.0;
      steering = steering.0;
      marks = marks.0;
      numbers_are = rw (marks.1, steering.1, openings.1, c.clear.ensures.items);
      numbered = openings.2 (numbering p.setting) p.setting p.news way.0;
      steered =
          rw (numbered, c.requires.processors, c.records.ensures) at (steering.2 p.setting
          (sym c.scripts.ensures) (rw c.records.ensures c.positions.ensures));
      marked = marks.2;
    }
