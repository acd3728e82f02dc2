-- The journal went back to the first steps.
use Rattle.std.proofs.Common.{◌≡◌, ℕ, List, [], ◌∷◌, ◌++◌, ap, drop, length, refl, take, ◌∙◌}
use Rattle.hp_units.specs.History.{net_of, run}
use Rattle.hp_units.specs.declared.replies.Receipt.{Receipt}
use Rattle.hp_memory.specs.Memory.{LeadsBack}
use Rattle.hp_history.proofs.Names.{Record}
use Rattle.hp_history.specs.Entries.{start_of}
use Rattle.hp_history.specs.Course.{record_of}
use Rattle.hp_history.specs.Kept.{IsCut}
use Rattle.hp_history.specs.Seen.{seen}
use Rattle.hp_history.proofs.Journals.{start_within, way_back}
use Rattle.hp_history.proofs.Courses.{IsBack, cut_answered, cut_fields, one_more}
use Rattle.hp_history.proofs.Undone.{cut_undone}
use Rattle.hp_history.proofs.journal.Journal.go_back.Goals as goal
use Rattle.hp_history.proofs.journal.Journal.go_back.Goals.{After-and-past, After-start_of-start}

-- where the deltas that are to go begin
start : (c : After-start_of-start)
    → c.start_of-start.result
    ≡ start_of c.self.inside.entries.items (length c.self.inside.deltas.deltas) c.args.keep
start c = rw (c.start_of-start.ensures, c.as_slice.ensures.value, c.len-count.ensures)

cut : (c : After-start_of-start)
    → IsCut (seen c.self.inside) c.args.cpu c.args.event.now c.args.keep c.args.reply.now
cut c = rw (← c.self.view_is) at c.requires.cut

-- they lead back to the state of the first steps
leads : (c : After-start_of-start)
    → LeadsBack c.self.inside.memory.layout (drop c.start_of-start.result c.self.inside.deltas.deltas)
    c.self.inside.memory.state
    (run c.self.inside.memory.layout c.self.inside.past.base
    (take c.args.keep (net_of c.self.inside.past.history)))
leads c =
    let m = seen c.self.inside in
    rw (start c) (way_back m c.self.inside.entries.items c.self.inside.deltas.deltas c.args.keep
    c.self.invariant.0 (cut c).within)

pub back-requires-clause-mark : goal.back-requires-clause-mark
back-requires-clause-mark c =
    let here = (goal.at.back-requires-clause-mark c).After-start_of-start in
    let m = seen c.self.inside in
    rw (start here) (start_within c.args.keep c.self.invariant.0.journal)

pub back-requires-clause-leads : goal.back-requires-clause-leads
back-requires-clause-leads c =
    let m = seen c.self.inside in (
      run m.layout m.base (take c.args.keep (net_of m.history)),
      leads (goal.at.back-requires-clause-leads c).After-start_of-start,
    )

-- the receipt, with the event itself
abbrev receipt : After-and-past → Receipt
receipt c =
    record { serial = c.next_serial-serial.result; event = c.args.event.now; reply = c.args.reply.now }

-- the longer history
abbrev longer : After-and-past → List Record
longer c = c.self.inside.past.history ++ record_of c.args.cpu (receipt c) ∷ []

back : (c : After-and-past)
    → c.start_of-start.result
    ≡ start_of c.self.inside.entries.items (length c.self.inside.deltas.deltas) c.args.keep
    → IsCut (seen c.self.inside) c.args.cpu c.args.event.now c.args.keep c.args.reply.now
    → LeadsBack c.self.inside.memory.layout (drop c.start_of-start.result c.self.inside.deltas.deltas)
    c.self.inside.memory.state
    (run c.self.inside.memory.layout c.self.inside.past.base
    (take c.args.keep (net_of c.self.inside.past.history)))
    → IsBack (seen c.self.inside) c.self.inside.entries.items c.self.inside.deltas.deltas c.args.cpu
    c.args.keep (receipt c) c.back.new.self (longer c) c.truncate.new.self.items c.back.new.tape.deltas
back c begins cuts lead = record {
  course = c.self.invariant.0;
  free = rw (← c.self.view_is) at c.requires.free;
  cut = cuts;
  serial = rw (← c.self.view_is) at c.next_serial-serial.ensures;
  layout = c.back.ensures.layout;
  state =
      c.back.ensures.state (run c.self.inside.memory.layout c.self.inside.past.base
      (take c.args.keep (net_of c.self.inside.past.history))) lead;
  history = refl;
  entries = c.truncate.ensures.items;
  deltas = c.back.ensures.tape ∙ ap (λ (n : ℕ). take n c.self.inside.deltas.deltas) begins;
}

pub invariant_of-self : goal.invariant_of-self
invariant_of-self c =
    let here = (goal.at.invariant_of-self c).After-start_of-start in
    let end = (goal.at.invariant_of-self c).After-and-past in
    rw c.and-past.ensures (
      cut_fields (back end (start here) (cut here) (leads here)),
      one_more c.self.inside.past.history (record_of c.args.cpu (receipt end)) c.self.invariant.1,
    )

pub returns-clause-answered : goal.returns-clause-answered
returns-clause-answered c =
    let here = (goal.at.returns-clause-answered c).After-start_of-start in
    let end = (goal.at.returns-clause-answered c).After-and-past in
    rw (← c.self.view_is)
    (rw c.and-past.ensures (cut_answered (back end (start here) (cut here) (leads here))))

pub returns-clause-back : goal.returns-clause-back
returns-clause-back c =
    let here = (goal.at.returns-clause-back c).After-start_of-start in
    let end = (goal.at.returns-clause-back c).After-and-past in
    rw (← c.self.view_is)
    (rw c.and-past.ensures (cut_undone (back end (start here) (cut here) (leads here))))
