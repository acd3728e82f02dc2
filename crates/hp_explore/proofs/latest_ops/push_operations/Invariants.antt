-- The processors so far have their operations.
use Rattle.std.proofs.Common.{◌≡◌, ◌++◌, ℕ, List, map}
use Rattle.std.specs.List.{range_with_len}
use Rattle.hp_units.specs.Receipts.{receipts_of}
use Rattle.hp_units.specs.declared.replies.Record.{Record}
use Rattle.hp_schedules.specs.Cursors.{AreCursors}
use Rattle.hp_schedules.specs.Schedules.{Setting}
use Rattle.hp_schedules.specs.Scripts.{own_operation}
use Rattle.hp_explore.proofs.latest_ops.push_operations.Given as goal

abbrev pub invariant-loop-cpu : goal.invariant-loop-cpu
invariant-loop-cpu l =
    (g : Setting) (news : List Record) → AreCursors g news l.positions.cursors.items
    → l.ops.items
    ≡ l.initial.ops.items ++ map (λ (cpu : ℕ). own_operation (receipts_of cpu news)) (range_with_len 0 l.cpu)
