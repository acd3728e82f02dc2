-- The journal made its step.
use Rattle.std.proofs.Common.{List, [], ◌∷◌, ◌++◌, refl, sym, ◌∙◌}
use Rattle.hp_units.specs.declared.replies.Receipt.{Receipt}
use Rattle.hp_history.specs.Course.{record_of}
use Rattle.hp_history.proofs.Names.{Record}
use Rattle.hp_history.specs.Seen.{seen}
use Rattle.hp_history.proofs.Courses.{IsMade, one_more}
use Rattle.hp_history.proofs.NotedSteps.{IsLeft, made_answered, made_fields, made_off, made_start, tag-next}
use Rattle.hp_history.proofs.journal.Journal.act.Goals as goal
use Rattle.hp_history.proofs.journal.Journal.act.Goals.{After-and-past, After-is_step}

-- the receipt, with the event itself
abbrev receipt : After-is_step → Receipt
receipt c =
    record { serial = c.next_serial-serial.result; event = c.args.event.now; reply = c.in_ok-reply.reply }

-- the journal made its step
made : (c : After-is_step)
    → IsMade (seen c.self.inside) c.self.inside.entries.items c.self.inside.deltas.deltas c.args.cpu
    (receipt c) c.new-entry.result c.step.new.self c.step.new.tape.deltas
made c = record {
  course = c.self.invariant.0;
  free = rw (← c.self.view_is) at c.requires.free;
  by_step = rw (← c.self.view_is) at c.requires.step;
  serial = rw (← c.self.view_is) at c.next_serial-serial.ensures;
  state = c.in_ok-reply.ensures.state;
  reply = c.in_ok-reply.ensures.reply;
  layout = c.step.ensures.layout;
  noted = c.in_ok-reply.ensures.noted;
  tag =
      tag-next (seen c.self.inside) c.args.event.now c.new-entry.result (rw (← c.self.view_is) at
      c.next_serial-serial.ensures) c.self.invariant.1 c.mark_of.ensures
      (c.new-entry.ensures.tag c.self.inside.before);
  start = c.new-entry.ensures.start ∙ c.len-start.ensures;
}

pub keep_step-requires-clause-start : goal.keep_step-requires-clause-start
keep_step-requires-clause-start c =
    let here = (goal.at.keep_step-requires-clause-start c).After-is_step in
    made_start (made here)

pub keep_step-requires-clause-same : goal.keep_step-requires-clause-same
keep_step-requires-clause-same c =
    let here = (goal.at.keep_step-requires-clause-same c).After-is_step in
    λ none. made_off (made here) (sym c.is_step.ensures ∙ none)

-- the same where the journal has changed
abbrev last_receipt : After-and-past → Receipt
last_receipt c =
    record { serial = c.next_serial-serial.result; event = c.args.event.now; reply = c.in_ok-reply.reply }

-- the longer history
abbrev longer : After-and-past → List Record
longer c = c.self.inside.past.history ++ record_of c.args.cpu (last_receipt c) ∷ []

-- what the step left
left : (c : After-and-past)
    → IsLeft (seen c.self.inside) c.self.inside.entries.items c.args.cpu (last_receipt c)
    c.new-entry.result c.step.new.self c.step.new.tape.deltas c.is_step.result c.keep_step.new.memory
    (longer c) c.keep_step.new.entries.items c.keep_step.new.deltas.deltas
left c = record {
  steps = c.is_step.ensures;
  state = c.keep_step.ensures.state;
  layout = c.keep_step.ensures.layout;
  history = refl;
  entries = rw c.in_ok-reserve.ensures.items at c.keep_step.ensures.entries;
  deltas = c.keep_step.ensures.deltas;
}

pub invariant_of-self-2 : goal.invariant_of-self-2
invariant_of-self-2 c =
    let here = (goal.at.invariant_of-self-2 c).After-and-past in
    let step = (goal.at.invariant_of-self-2 c).After-is_step in
    rw c.and-past.ensures (
      made_fields (made step) (left here),
      one_more c.self.inside.past.history (record_of c.args.cpu (last_receipt here)) c.self.invariant.1,
    )

pub returns-clause-ok : goal.returns-clause-ok
returns-clause-ok c =
    let here = (goal.at.returns-clause-ok c).After-and-past in
    let step = (goal.at.returns-clause-ok c).After-is_step in
    rw (← c.self.view_is)
    (rw c.and-past.ensures (made_answered (made step) (left here)))
