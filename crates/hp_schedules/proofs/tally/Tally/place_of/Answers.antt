-- Where the digest has no place, no end is this outcome.
use Rattle.std.proofs.Common.{ap, ◌∙◌}
use Rattle.hp_schedules.specs.Notes.{TallyValue}
use Rattle.hp_schedules.specs.Outcomes.{outcome_with}
use Rattle.hp_schedules.proofs.Known.{unknown}
use Rattle.hp_schedules.proofs.Places.{end_shown}
use Rattle.hp_schedules.proofs.tally.Tally.place_of.Goals as goal

pub returns-in_default-clause-none : goal.returns-in_default-clause-none
returns-in_default-clause-none c =
    rw (← c.self.view_is) (unknown c.self.inside.ends.items
    (outcome_with c.args.processors c.args.records.now c.args.blocks.now) c.self.inside.latest c.args.digest
    c.self.invariant.2 c.requires c.in_default.ensures.value)

pub returns-then-is_end_at-clause-some : goal.returns-then-is_end_at-clause-some
returns-then-is_end_at-clause-some c =
    end_shown c.as_slice-ends.result.now c.args.self.now.ends
    (outcome_with c.args.processors c.args.records.now c.args.blocks.now) _
    (c.as_slice-ends.ensures.value ∙ ap (λ (t : TallyValue). t.ends) c.self.view_is)
    (c.is_end_at.ensures c.if-is_end_at.true)

pub returns-clause-some : goal.returns-clause-some
returns-clause-some c =
    rw (← c.self.view_is, ← c.as_slice-ends.ensures.value) c.first_place_of.ensures.some

pub returns-clause-none : goal.returns-clause-none
returns-clause-none c =
    rw (← c.self.view_is, ← c.as_slice-ends.ensures.value) c.first_place_of.ensures.none
