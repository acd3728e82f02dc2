-- The place before it on the way is known again.
use Rattle.std.proofs.Common.{◌∷◌, ◌++◌, [], refl, subst, sym, ◌∙◌}
use Rattle.std.proofs.lemmas.List.{nil_from_length}
use Rattle.hp_states.specs.Stops.{AreStopsAt}
use Rattle.hp_states.proofs.StopNumbers.{went_back}
use Rattle.hp_states.proofs.stops.Stops.go_back.Goals as goal

pub returns-clause-back : goal.returns-clause-back
returns-clause-back c =
    λ at g news r are.
    went_back at g news r (record {
      codes = c.self.inside.codes;
      lists = c.self.inside.openings;
      here = c.self.inside.here;
      before = c.self.inside.before.items;
    }) _ c.pop.new.self.items c.pop.result refl refl c.pop.ensures.items
    (λ none. let empty = rw none at c.pop.ensures.cases in
    nil_from_length c.pop.new.self.items (sym c.pop.new.self.ok.0 ∙ empty.1))
    c.unwrap_or-here.ensures refl (subst (AreStopsAt at g (news ++ r ∷ [])) (sym c.self.view_is) are)
