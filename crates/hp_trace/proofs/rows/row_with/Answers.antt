use Rattle.hp_trace.proofs.rows.row_with.Goals as goal

pub returns : goal.returns
returns c =
    rw (
      c.new.ensures,
      c.new-asked.ensures,
      c.in_ok-asked.ensures.ok,
      c.new-answer.ensures,
      c.in_ok-answer.ensures.ok,
    )
