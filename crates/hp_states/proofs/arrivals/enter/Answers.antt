-- What is found is like the place, so that its shares are those of what goes on from here; else the
-- place gets a frame.
use Rattle.std.proofs.Common.{List, refl, ◌∙◌}
use Rattle.std.proofs.lemmas.Result.{IfOk-weaker}
use Rattle.hp_units.specs.declared.replies.Record.{Record}
use Rattle.hp_states.specs.Frames.{IsStood}
use Rattle.hp_states.specs.Places.{standing}
use Rattle.hp_schedules.specs.Schedules.{Setting}
use Rattle.hp_states.proofs.Entered.{entered_added, entered_within}
use Rattle.hp_states.proofs.Keeping.{IsFound, found_at_ends, found_walked}
use Rattle.hp_states.proofs.arrivals.enter.Given.{Over}
use Rattle.hp_states.proofs.arrivals.enter.Goals as goal
use Rattle.hp_states.proofs.arrivals.enter.Goals.{In-Some}

found : (o : Over) (c : In-Some o) (g : Setting) (news : List Record)
    → IsStood g news c.args.memory.now c.args.positions.now.cursors.items c.args.tally.now.ends
    c.args.memo.now
    → IsFound g (standing g news) c.come_to.new.self c.args.tally.now.ends c.in-Some.shares.now
found o c g news stood = record {
  here = record { layout = refl; played = stood.place.played; state = refl };
  kept = c.come_to.ensures.memo g c.args.tally.now.ends stood.memo_is;
  on = c.come_to.ensures.same.0 ∙ c.in_ok-has_key.ensures.on c.if-not-has_key.false;
  key_is = c.in_ok-has_key.ensures.ok c.if-not-has_key.false g news stood.place stood.way;
  among = c.in-Some.ensures;
}

pub come_to-requires-clause-way : goal.come_to-requires-clause-way
come_to-requires-clause-way o c =
    let stood = c.requires.stood in
    (stood.0, stood.1, stood.2.place, stood.2.way)

pub add_shares-requires : goal.add_shares-requires
add_shares-requires o c =
    let stood = c.requires.stood in
    found_at_ends (found o (goal.at.add_shares-requires o c).In-Some stood.0 stood.1 stood.2)

pub returns-then-not-has_key-clause-ok : goal.returns-then-not-has_key-clause-ok
returns-then-not-has_key-clause-ok o c =
    λ g news stood. entered_within g news _ _ c.new-then-not-has_key.ensures

pub returns-then-is_stopped-clause-ok : goal.returns-then-is_stopped-clause-ok
returns-then-is_stopped-clause-ok o c = λ g news stood. entered_within g news _ _ c.new.ensures

pub returns-in-Some-clause-ok : goal.returns-in-Some-clause-ok
returns-in-Some-clause-ok o c =
    IfOk-weaker c.add_shares.result _ _
    (λ treatment added g news stood. entered_added g news _ c.add_shares.new.tally c.in-Some.shares.now
    treatment
    (λ adds part within walked.
    found_walked (found o (goal.at.returns-in-Some-clause-ok o c).In-Some g news stood) part _ within walked
    adds)
    added)
    c.add_shares.ensures.ok

pub returns-clause-ok : goal.returns-clause-ok
returns-clause-ok o c = λ g news stood. entered_within g news _ _ c.new-2.ensures
