use Rattle.std.proofs.Common.{◌≡◌, [], length}
use Rattle.hp_streams.specs.Ends.{GoesOn}
use Rattle.hp_streams.specs.Talks.{desk}
use Rattle.hp_streams.proofs.talking.talk_on.Given as goal

abbrev pub invariant-loop-read : goal.invariant-loop-read
invariant-loop-read g l = record {
  heard : GoesOn g.T.Talk.replies (desk l.initial.talk (g.W.Sink.contents l.initial.writer) [])
      (g.R.Source.remaining l.initial.reader) (g.R.Source.remaining l.reader)
      (desk l.talk (g.W.Sink.contents l.writer) []) l.held;
  waits : l.out.items ≡ [];
  reads : g.R.Source.failures l.reader ≡ g.R.Source.failures l.initial.reader;
  writes : g.W.Sink.failures l.writer ≡ g.W.Sink.failures l.initial.writer;
  room : length l.block ≡ length l.initial.block;
}
