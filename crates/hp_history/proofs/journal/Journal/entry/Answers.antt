-- The deltas between the beginnings of a step and of the next.
use Rattle.std.proofs.Common.{◌≡◌, ◌<◌, ◌+◌, List, ap, length, sym, subst, ◌∙◌, arith}
use Rattle.hp_units.specs.History.{net_of}
use Rattle.hp_history.specs.declared.entries.Entry.{Entry}
use Rattle.hp_history.specs.Entries.{IsEntry, start_of}
use Rattle.hp_history.specs.Seen.{seen}
use Rattle.hp_history.proofs.Journals.{entry_count, entry_shown, start_within}
use Rattle.hp_history.proofs.journal.Journal.entry.Goals as goal
use Rattle.hp_history.proofs.journal.Journal.entry.Goals.{After-start_of-end}

-- the step is there
below : (c : After-start_of-end) → c.args.at < length (net_of c.self.inside.past.history)
below c =
    let m = seen c.self.inside in
    omega (
      arith,
      c.if-at-entries.false,
      ap (λ (es : List Entry). length es) c.as_slice-entries.ensures.value,
      entry_count c.self.invariant.0.journal,
    )

-- where its deltas begin, and where those of the next one do
start : (c : After-start_of-end)
    → c.start_of-start.result
    ≡ start_of c.self.inside.entries.items (length c.self.inside.deltas.deltas) c.args.at
start c = rw (c.start_of-start.ensures, c.as_slice-entries.ensures.value, c.len-count.ensures)

end : (c : After-start_of-end)
    → c.start_of-end.result
    ≡ start_of c.self.inside.entries.items (length c.self.inside.deltas.deltas) (c.args.at + 1)
end c = rw (c.start_of-end.ensures, c.as_slice-entries.ensures.value, c.len-count.ensures)

pub between-requires-clause-order : goal.between-requires-clause-order
between-requires-clause-order c =
    let here = (goal.at.between-requires-clause-order c).After-start_of-end in
    rw (start here, end here) (c.self.invariant.0.journal.rising c.args.at (c.args.at + 1) (omega arith))

pub between-requires-clause-within : goal.between-requires-clause-within
between-requires-clause-within c =
    let here = (goal.at.between-requires-clause-within c).After-start_of-end in
    let m = seen c.self.inside in
    rw (c.as_slice-deltas.ensures, end here) (start_within (c.args.at + 1) c.self.invariant.0.journal)

pub returns : goal.returns
returns c =
    let here = (goal.at.returns c).After-start_of-end in
    let es = c.self.inside.entries.items in
    let ds = c.self.inside.deltas.deltas in
    let shown =
    c.between.ensures
    ∙ (rw (c.as_slice-deltas.ensures, start here, end here)) in
    rw (← c.self.view_is) (subst (IsEntry (seen c.self.inside) c.args.at) (sym shown)
    (entry_shown (seen c.self.inside) es ds c.args.at c.self.invariant.0 (below here)))
