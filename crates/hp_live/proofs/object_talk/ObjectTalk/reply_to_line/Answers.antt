use Rattle.std.proofs.lemmas.Result.{on_err_weaker}
use Rattle.hp_live.proofs.Told.{shown_lost}
use Rattle.hp_live.proofs.object_talk.ObjectTalk.reply_to_line.Goals as goal

pub returns-in-Ok-clause-err : goal.returns-in-Ok-clause-err
returns-in-Ok-clause-err c =
    on_err_weaker c.show_answer.result
    (λ same. shown_lost c.args.self.now.session c.answer.new.self c.show_answer.new.self.session
    c.args.self.now.states c.show_answer.new.self.states c.args.text.now c.answer.new.out c.in-Ok.ensures.ok
    c.show_answer.ensures.session same) c.show_answer.ensures.states
