-- What the cursor's line met.
use Rattle.std.proofs.Common.{◌∙◌, refl, sym}
use Rattle.std.proofs.lemmas.Option.{slice_get_read}
use Rattle.std.proofs.Math.ListN.{drop_of_length-le}
use Rattle.hp_schedules.proofs.CausesAt.{cause_here, cause_from}
use Rattle.hp_schedules.proofs.cursors.Cursor.cause.Goals.{then-is_one_call-via-then-is_one_call, then-is_one_call-via-else-is_one_call+then-is_over}
use Rattle.hp_schedules.proofs.cursors.Cursor.cause.Goals as goal

pub returns-in_default : goal.returns-in_default
returns-in_default c =
    λ cpus receipts is. rw (
      cause_from cpus c.args.lines.now receipts c.args.self.now is,
      drop_of_length-le c.args.lines.now c.in_default.ensures.lookup.3,
    )

pub returns-then-is_one_call : goal.returns-then-is_one_call
returns-then-is_one_call c =
    λ cpus receipts is. let met =
    cause_here cpus c.args.lines.now receipts c.args.self.now c.in-Some.line.now
    (slice_get_read _ _ _ _ refl c.in-Some.ensures.lookup.3.0 c.in-Some.ensures.lookup.1) is in
    elim c.then-is_one_call.branch [
      | then-is_one_call-via-then-is_one_call w ↦
          rw (sym c.is_one_call.ensures ∙ w.if-is_one_call.true) at met
      | then-is_one_call-via-else-is_one_call+then-is_over w ↦
          rw (sym c.is_one_call.ensures ∙ w.if-is_one_call.false, sym w.is_over.ensures ∙ w.if-is_over.true)
          at met
    ]

pub returns : goal.returns
returns c =
    λ cpus receipts is. let met =
    cause_here cpus c.args.lines.now receipts c.args.self.now c.in-Some.line.now
    (slice_get_read _ _ _ _ refl c.in-Some.ensures.lookup.3.0 c.in-Some.ensures.lookup.1) is in
    c.why.ensures
    ∙ (rw (sym c.is_one_call.ensures ∙ c.if-is_one_call.false, sym c.is_over.ensures ∙ c.if-is_over.false)
    at met)
