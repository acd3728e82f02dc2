-- The row is that of the place where the key is.
use Rattle.std.proofs.Common.{Bor, List}
use Rattle.hp_schedules.specs.declared.trail.Share.{Share}
use Rattle.hp_states.proofs.Keeping.{row_among}
use Rattle.hp_states.proofs.memo.Memo.shares.Goals as goal

pub returns : goal.returns
returns c =
    rw (← c.self.view_is)
    (row_among (λ (row : Bor (List Share)). row.now) c.row.result _ _ _ _ _ c.bytes.ensures
    c.in-Some.ensures c.row.ensures.some)
