use Rattle.hp_check.proofs.Added.{from_none}
use Rattle.hp_check.proofs.Agreement.{value_found}
use Rattle.hp_check.proofs.checking.value_faults.Goals as goal

pub returns : goal.returns
returns c =
    from_none c.new-found.ensures.items
    (value_found _ _ _ _ _ c.in_ok-push_shape.ensures c.in_ok-push_ranges.ensures c.in_ok-push_calls.ensures)
