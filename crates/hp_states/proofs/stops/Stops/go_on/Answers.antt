-- The way has one place more.
use Rattle.std.proofs.Common.{refl, subst, sym}
use Rattle.hp_states.specs.Stops.{AreStopsAt, StopsValue}
use Rattle.hp_states.proofs.Numbered.{number_within}
use Rattle.hp_states.proofs.StopNumbers.{went_on}
use Rattle.hp_states.proofs.stops.Stops.go_on.Goals as goal

pub openings_after-requires : goal.openings_after-requires
openings_after-requires c =
    let at = c.requires.0 in
    let g = c.requires.1 in
    let news = c.requires.2 in
    let was = subst (AreStopsAt at g news) (sym c.self.view_is) c.requires.3 in
    number_within (at news) g _ _ news _ was.0

pub returns-clause-ok : goal.returns-clause-ok
returns-clause-ok c =
    λ at g news numbering numbers are leaves.
    let old : StopsValue = record {
      codes = c.self.inside.codes;
      lists = c.self.inside.openings;
      here = c.self.inside.here;
      before = c.self.inside.before.items;
    } in
    let was : AreStopsAt at g news old = subst (AreStopsAt at g news) (sym c.self.view_is) are in
    went_on at g news c.args.call.now old _ _ refl c.openings_after.ensures.kept refl
    c.in_ok-push.ensures.items
    (c.in_ok-openings.ensures.ok at g old.codes news numbering numbers leaves was.1 was.0) was
