use Rattle.hp_parts.proofs.Written.{four_written}
use Rattle.hp_parts.proofs.heads.write_head.Goals as goal

pub returns : goal.returns
returns c =
    rw (← c.search.view_is)
    (four_written _ _ _ _ _ _ _ _ _ c.in_ok-write_numbers.ensures c.in_ok-write_counts.ensures
    c.in_ok-write_escaped.ensures c.in_ok-push_str.ensures.bytes)
