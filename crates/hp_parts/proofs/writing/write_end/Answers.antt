-- The schedule stands after the keys.
use Rattle.std.proofs.Common.{append_assoc, string_bytes}
use Rattle.hp_parts.proofs.writing.write_end.Goals as goal

pub returns-clause-ok : goal.returns-clause-ok
returns-clause-ok c =
    rw (
      c.in_ok-write_schedule.ensures,
      c.in_ok-write_end_keys.ensures.ok,
      c.as_slice.ensures.value,
      append_assoc (string_bytes c.args.out.now),
    )
