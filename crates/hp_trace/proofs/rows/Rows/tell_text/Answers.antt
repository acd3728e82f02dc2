use Rattle.std.proofs.Common.{sym}
use Rattle.hp_trace.proofs.RowTexts.{from_both, text_told}
use Rattle.hp_trace.proofs.rows.Rows.tell_text.Goals as goal

pub returns : goal.returns
returns c =
    from_both c.say.result _ _ _
    (λ line seen. text_told c.args.self.now _ c.say.new.self (sym c.self.view_is) line seen)
    c.say.ensures.line c.say.ensures.seen
