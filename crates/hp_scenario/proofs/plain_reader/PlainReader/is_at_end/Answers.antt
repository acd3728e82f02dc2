use Rattle.std.proofs.Common.{sym, ◌∙◌}
use Rattle.hp_scenario.proofs.PlainTokens.{none_left, over}
use Rattle.hp_scenario.proofs.plain_reader.PlainReader.is_at_end.Goals as goal

pub returns-then-may_close : goal.returns-then-may_close
returns-then-may_close c empty =
    sym c.self.view_is
    ∙ over c.self.inside.place c.self.inside.rest.now c.after_blanks.result.now
    (sym c.may_close.ensures ∙ c.if-may_close.true) c.after_blanks.ensures
    (none_left c.after_blanks.result.now (sym c.is_empty.ensures ∙ empty))
