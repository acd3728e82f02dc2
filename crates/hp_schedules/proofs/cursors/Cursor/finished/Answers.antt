-- The lines before the cursor, and its own line where that is a plan at its end.
use Rattle.std.proofs.Common.{◌∙◌, arith, false, refl, sym, true, None}
use Rattle.std.proofs.lemmas.Option.{slice_get_past, slice_get_read}
use Rattle.hp_schedules.proofs.UpTo.{finished_here, many_finished}
use Rattle.hp_schedules.proofs.cursors.Cursor.finished.Goals.{then-is_one_call-via-then-is_one_call, then-is_one_call-via-else-is_one_call+then-not-is_over}
use Rattle.hp_schedules.proofs.cursors.Cursor.finished.Goals as goal

pub returns-in_default : goal.returns-in_default
returns-in_default c =
    λ cpus receipts is. let many =
    many_finished cpus c.args.lines.now receipts c.args.self.now None
    (slice_get_past c.args.lines.now c.args.self.now.line c.in_default.ensures.lookup.3) is in
    omega (arith, many)

pub returns-then-is_one_call : goal.returns-then-is_one_call
returns-then-is_one_call c =
    λ cpus receipts is. let many =
    finished_here cpus c.args.lines.now receipts c.args.self.now c.in-Some.line.now false
    (slice_get_read _ _ _ _ refl c.in-Some.ensures.lookup.3.0 c.in-Some.ensures.lookup.1)
    (elim c.then-is_one_call.branch [
      | then-is_one_call-via-then-is_one_call w ↦ rw (sym c.is_one_call.ensures ∙ w.if-is_one_call.true)
      | then-is_one_call-via-else-is_one_call+then-not-is_over w ↦
          rw (
            sym c.is_one_call.ensures ∙ w.if-is_one_call.false,
            sym w.is_over.ensures ∙ w.if-not-is_over.true,
          )
    ]) is in
    omega (arith, many)

pub returns : goal.returns
returns c =
    λ cpus receipts is. finished_here cpus c.args.lines.now receipts c.args.self.now c.in-Some.line.now true
    (slice_get_read _ _ _ _ refl c.in-Some.ensures.lookup.3.0 c.in-Some.ensures.lookup.1)
    (rw (
      sym c.is_one_call.ensures ∙ c.if-is_one_call.false,
      sym c.is_over.ensures ∙ c.if-not-is_over.false,
    )) is
