use Rattle.std.proofs.Common.{◌∙◌}
use Rattle.std.proofs.lemmas.List.{take-append-drop}
use Rattle.hp_streams.proofs.Known.{Appends-more, within_end}
use Rattle.hp_streams.proofs.Joined.{broken_at}
use Rattle.hp_streams.proofs.sending.send_all.Goals as goal

pub loop-at-preserved : goal.loop-at-preserved
loop-at-preserved g c = record {
  kept = Appends-more _ _ _ _ _ _ c.loop-at.invariant.kept c.in-Ok.ensures.bytes;
  same = c.in-Ok.ensures.ok ∙ c.loop-at.invariant.same;
  within = within_end _ _ _ c.loop-at.invariant.within c.in-Ok.ensures.bound.0;
}

pub returns-in-Err-clause-err : goal.returns-in-Err-clause-err
returns-in-Err-clause-err g c =
    broken_at (g.W.Sink.contents c.args.writer.now) (g.W.Sink.contents c.loop-at.writer)
    (g.W.Sink.contents c.write.new.self) c.args.bytes.now c.loop-at.at c.loop-at.invariant.kept
    c.in-Err.ensures.bytes (take-append-drop c.loop-at.at c.args.bytes.now)
