-- The part of the shares between the ends is the row.
use Rattle.std.proofs.Common.{Bor, List, ap, arith, length}
use Rattle.hp_schedules.specs.declared.trail.Share.{Share}
use Rattle.hp_states.proofs.InRows.{row_shown, row_there}
use Rattle.hp_states.proofs.Joined.{count}
use Rattle.hp_states.proofs.rows.Rows.row.Goals as goal

pub returns-clause-some : goal.returns-clause-some
returns-clause-some c =
    row_shown (λ (row : Bor (List Share)). row.now) c.get.result _ c.args.place _ _ _ _ _ c.self.view_is
    c.as_slice-shares.ensures.value c.as_slice-ends.ensures.value c.if-place-ends.false
    c.start_of-start.ensures c.get.ensures.lookup

pub returns-clause-none : goal.returns-clause-none
returns-clause-none c =
    row_there (λ (row : Bor (List Share)). row.now) c.get.result _ c.args.place _ _ _ _ _ c.self.invariant
    c.as_slice-shares.ensures.value c.as_slice-ends.ensures.value c.if-place-ends.false
    c.start_of-start.ensures c.get.ensures.lookup

pub returns-then-place-ends-clause-none : goal.returns-then-place-ends-clause-none
returns-then-place-ends-clause-none c =
    omega (
      arith,
      count c.self.inside.shares.items 0 c.self.inside.ends.items,
      ap length c.self.view_is,
      ap length c.as_slice-ends.ensures.value,
      c.if-place-ends.true,
    )
