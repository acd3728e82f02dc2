use Rattle.std.proofs.Common.{sym, ◌∙◌}
use Rattle.std.proofs.lemmas.Bool.{false≢true}
use Rattle.hp_parts.proofs.Ended.{ended}
use Rattle.hp_parts.proofs.ends.end_at.Goals as goal

pub returns-then-not-is_of : goal.returns-then-not-is_of
returns-then-not-is_of c = λ x ends.
    false≢true (sym c.if-not-is_of.true ∙ c.is_of.ensures.1 (rw (c.requires, c.records.ensures) ends.1))

pub returns : goal.returns
returns c =
    let p = c.args.path.now in
    ended c.args.part p c.args.processors c.in_ok-outcome.outcome c.is_played.ensures
    (c.is_over.ensures.0 c.if-not-is_over.false)
    (rw (c.requires, c.records.ensures) at (c.is_of.ensures.0 c.if-not-is_of.false)) c.requires
    c.in_ok-outcome.ensures
