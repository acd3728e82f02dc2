-- The state has a number now.
use Rattle.std.proofs.Common.{refl, subst, sym}
use Rattle.hp_states.specs.Stops.{AreStopsAt}
use Rattle.hp_states.proofs.StopNumbers.{coded_more, state_known}
use Rattle.hp_states.proofs.stops.Stops.number_state.Goals as goal

pub returns-clause-here : goal.returns-clause-here
returns-clause-here c =
    λ at g news numbers memory are.
    state_known at g news (record {
      codes = c.self.inside.codes;
      lists = c.self.inside.openings;
      here = c.self.inside.here;
      before = c.self.inside.before.items;
    }) _ c.args.memory.now _ c.number_of.ensures.kept refl refl refl (rw numbers c.in_ok-state.ensures.ok)
    memory (subst (AreStopsAt at g news) (sym c.self.view_is) are)

pub returns-in_err-state-clause-here : goal.returns-in_err-state-clause-here
returns-in_err-state-clause-here c =
    λ at g news numbers memory are. coded_more at g news (record {
      codes = c.self.inside.codes;
      lists = c.self.inside.openings;
      here = c.self.inside.here;
      before = c.self.inside.before.items;
    }) c.number_of.new.self c.number_of.ensures.kept
    (subst (AreStopsAt at g news) (sym c.self.view_is) are)
