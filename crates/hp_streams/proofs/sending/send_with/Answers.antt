use Rattle.std.proofs.lemmas.Result.{on_err_weaker, on_ok_weaker}
use Rattle.hp_streams.proofs.Joined.{broken_before, broken_with, sent_with}
use Rattle.hp_streams.proofs.sending.send_with.Goals as goal

pub returns-in-Ok-clause-ok : goal.returns-in-Ok-clause-ok
returns-in-Ok-clause-ok g c =
    on_ok_weaker c.send_all.result
    (λ p. sent_with (g.W.Sink.contents c.args.writer.now) (g.W.Sink.contents c.send.new.writer)
    (g.W.Sink.contents c.send_all.new.writer) c.args.out.now.items c.args.text.now
    c.as_bytes.result.now c.send.new.out.items c.in-Ok.ensures.ok c.in-Ok.ensures.empty
    c.as_bytes.ensures.value p) c.send_all.ensures.ok

pub returns-in-Ok-clause-err : goal.returns-in-Ok-clause-err
returns-in-Ok-clause-err g c =
    on_err_weaker c.send_all.result
    (λ p. broken_with (g.W.Sink.contents c.args.writer.now) (g.W.Sink.contents c.send.new.writer)
    (g.W.Sink.contents c.send_all.new.writer) c.args.out.now.items c.args.text.now
    c.as_bytes.result.now c.in-Ok.ensures.ok c.as_bytes.ensures.value p) c.send_all.ensures.err

pub returns-in-Err-clause-err : goal.returns-in-Err-clause-err
returns-in-Err-clause-err g c =
    broken_before (g.W.Sink.contents c.args.writer.now) (g.W.Sink.contents c.send.new.writer)
    c.args.out.now.items c.args.text.now c.in-Err.ensures.err
