use Rattle.std.proofs.Common.{append_assoc, string_bytes}
use Rattle.hp_parts.proofs.writing.write_part.Goals as goal

pub returns-clause-ok : goal.returns-clause-ok
returns-clause-ok c =
    rw (c.in_ok-write_head_line.ensures, append_assoc (string_bytes c.args.out.now))
    at c.write_ends.ensures.ok
