-- The deltas from the beginning of a step on.
use Rattle.std.proofs.Common.{◌≡◌, ◌≤◌, List, ap, length, sym, subst, ◌∙◌, arith}
use Rattle.std.proofs.lemmas.List.{take_rest}
use Rattle.hp_units.specs.History.{net_of}
use Rattle.hp_history.specs.declared.entries.Entry.{Entry}
use Rattle.hp_history.specs.Entries.{IsWayBack, start_of}
use Rattle.hp_history.specs.Seen.{seen}
use Rattle.hp_history.proofs.Journals.{entry_count, start_within, way_back}
use Rattle.hp_history.proofs.journal.Journal.way_back.Goals as goal
use Rattle.hp_history.proofs.journal.Journal.way_back.Goals.{After-start_of-start}

reach : (c : After-start_of-start) → c.args.at ≤ length (net_of c.self.inside.past.history)
reach c =
    let m = seen c.self.inside in
    omega (
      arith,
      c.if-at-entries.false,
      ap (λ (es : List Entry). length es) c.as_slice-entries.ensures.value,
      entry_count c.self.invariant.0.journal,
    )

start : (c : After-start_of-start)
    → c.start_of-start.result
    ≡ start_of c.self.inside.entries.items (length c.self.inside.deltas.deltas) c.args.at
start c = rw (c.start_of-start.ensures, c.as_slice-entries.ensures.value, c.len-count.ensures)

pub between-requires-clause-order : goal.between-requires-clause-order
between-requires-clause-order c =
    let here = (goal.at.between-requires-clause-order c).After-start_of-start in
    let m = seen c.self.inside in
    rw (start here, c.len-count.ensures) (start_within c.args.at c.self.invariant.0.journal)

pub returns : goal.returns
returns c =
    let here = (goal.at.returns c).After-start_of-start in
    let es = c.self.inside.entries.items in
    let ds = c.self.inside.deltas.deltas in
    let shown =
    c.between.ensures
    ∙ (rw (c.as_slice-deltas.ensures, start here, c.len-count.ensures)
    (take_rest ds (start_of es (length ds) c.args.at))) in
    rw (← c.self.view_is) (subst (IsWayBack (seen c.self.inside) c.args.at) (sym shown)
    (way_back (seen c.self.inside) es ds c.args.at c.self.invariant.0 (reach here)))
