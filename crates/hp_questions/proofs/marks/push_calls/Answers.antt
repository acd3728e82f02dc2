-- One processor more.
use Rattle.std.proofs.Common.{ℕ, append_assoc, arith, length}
use Rattle.std.proofs.lemmas.List.FromFn.{map-range_with_len_more}
use Rattle.hp_schedules.specs.Outcomes.{replies_to}
use Rattle.hp_questions.proofs.marks.push_calls.Goals as goal

pub loop-cpu-preserved : goal.loop-cpu-preserved
loop-cpu-preserved c =
    let cpu = c.loop-cpu.cpu in
    rw (
      c.in_ok-push.ensures.items,
      c.loop-cpu.invariant,
      c.in-Ok.ensures.1,
      c.calls_by.ensures,
      map-range_with_len_more (λ (k : ℕ). length (replies_to k c.args.records.now)) 0 cpu cpu (omega arith),
    ) (simp append_assoc)
