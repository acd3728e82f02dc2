-- The two numbers are those of where the walk is.
use Rattle.std.proofs.Common.{ap, subst, sym, ◌∙◌}
use Rattle.hp_states.specs.Numbered.{IsNumbered, IsStateAt}
use Rattle.hp_states.specs.Stops.{StopsValue}
use Rattle.hp_states.proofs.stops.Stops.push_numbers.Goals as goal

pub returns : goal.returns
returns c =
    λ whole. (
      c.in-Some.state,
      c.in-Some-openings.openings,
      rw (c.in_ok-number-2.ensures, c.in_ok-number.ensures),
      λ at g news are. (
        subst (IsStateAt (at news) g c.args.self.now.codes news)
            (sym (ap (λ (s : StopsValue). s.here.state) c.self.view_is) ∙ c.in-Some.is) are.1,
        subst (IsNumbered (at news) g c.args.self.now.codes c.args.self.now.lists news)
            (sym (ap (λ (s : StopsValue). s.here.openings) c.self.view_is) ∙ c.in-Some-openings.is) are.0,
      ),
    )
