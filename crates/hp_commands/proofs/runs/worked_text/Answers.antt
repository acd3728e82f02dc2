use Rattle.hp_commands.proofs.runs.worked_text.Goals as goal

pub returns : goal.returns
returns c = rw (c.in_ok-write_records.ensures, c.in_ok-write_processors.ensures, c.new-out.ensures.bytes)
