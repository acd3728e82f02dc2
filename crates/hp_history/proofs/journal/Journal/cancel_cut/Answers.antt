-- A Cancel goes back where it is not refused and its operation is sole.
use Rattle.std.proofs.Common.{◌≡◌, map, sym, ◌∙◌}
use Rattle.hp_units.specs.History.{net_of}
use Rattle.hp_units.specs.Marks.{sole_at, tag_of}
use Rattle.hp_history.specs.Seen.{seen}
use Rattle.hp_history.proofs.Cuts.{cancel_sole, cancel_other, cancel_refused, entries_numbered}
use Rattle.hp_history.proofs.journal.Journal.cancel_cut.Goals as goal
use Rattle.hp_history.proofs.journal.Journal.cancel_cut.Goals.{After-sole_place}

pub sole_place-requires : goal.sole_place-requires
sole_place-requires c =
    rw c.as_slice-entries.ensures.value (entries_numbered (seen c.self.inside) c.self.inside.entries.items
    c.self.inside.deltas.deltas c.self.invariant.0)

-- the place by the net of the history
place : (c : After-sole_place)
    → c.sole_place.result ≡ sole_at c.args.op (map tag_of (net_of c.self.inside.past.history))
place c = rw (c.sole_place.ensures, c.as_slice-entries.ensures.value, c.self.invariant.0.journal.tagged)

pub returns-then-may_cancel-clause-back : goal.returns-then-may_cancel-clause-back
returns-then-may_cancel-clause-back c =
    let here = (goal.at.returns-then-may_cancel-clause-back c).After-sole_place in
    rw (← c.self.view_is)
    (cancel_sole c.args.cpu c.args.op c.sole_place.result c.self.invariant.0.history (rw (← c.self.view_is) at
    (sym c.may_cancel.ensures ∙ c.if-may_cancel.true)) (place here))

pub returns-then-may_cancel-clause-step : goal.returns-then-may_cancel-clause-step
returns-then-may_cancel-clause-step c =
    let here = (goal.at.returns-then-may_cancel-clause-step c).After-sole_place in
    rw (← c.self.view_is)
    (cancel_other (seen c.self.inside) c.args.cpu c.args.op c.sole_place.result (place here))

pub returns-else-may_cancel-clause-step : goal.returns-else-may_cancel-clause-step
returns-else-may_cancel-clause-step c =
    rw (← c.self.view_is) (cancel_refused c.args.cpu c.args.op c.self.invariant.0.history (rw
    (← c.self.view_is) at (sym c.may_cancel.ensures ∙ c.if-may_cancel.false)))
