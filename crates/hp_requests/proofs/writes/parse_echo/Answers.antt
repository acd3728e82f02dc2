use Rattle.hp_requests.proofs.writes.parse_echo.Goals as goal

pub returns : goal.returns
returns c =
    rw (c.as_bytes.ensures.value, c.in_ok-push_str.ensures.bytes, c.in_ok-line.ensures.ok)
    at c.parse_write.ensures
