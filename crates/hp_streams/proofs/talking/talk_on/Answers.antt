use Rattle.std.proofs.Common.{[], ◌∙◌, refl}
use Rattle.hp_streams.specs.Talks.{desk}
use Rattle.hp_streams.proofs.Heard.{at_end, begun, gone_on}
use Rattle.hp_streams.proofs.talking.talk_on.Goals as goal

pub loop-read-init : goal.loop-read-init
loop-read-init g c = record {
  heard = begun g.T.Talk.replies (desk c.args.talk.now (g.W.Sink.contents c.args.writer.now) [])
      (g.R.Source.remaining c.args.reader.now) c.args.held.now c.requires.held;
  waits = c.requires.out;
  reads = refl;
  writes = refl;
  room = refl;
}

pub returns-in-Some-clause-ok : goal.returns-in-Some-clause-ok
returns-in-Some-clause-ok g c =
    at_end g.T.Talk.replies c.in-Some.end
    (desk c.args.talk.now (g.W.Sink.contents c.args.writer.now) [])
    (desk c.loop-read.talk (g.W.Sink.contents c.loop-read.writer) [])
    (desk c.hear_more.new.talk (g.W.Sink.contents c.hear_more.new.writer) [])
    (g.R.Source.remaining c.args.reader.now) (g.R.Source.remaining c.loop-read.reader)
    (g.R.Source.remaining c.hear_more.new.reader) c.loop-read.held c.loop-read.invariant.heard
    c.in-Some.ensures.heard

pub loop-read-preserved : goal.loop-read-preserved
loop-read-preserved g c = record {
  heard = gone_on g.T.Talk.replies (desk c.args.talk.now (g.W.Sink.contents c.args.writer.now) [])
      (desk c.loop-read.talk (g.W.Sink.contents c.loop-read.writer) [])
      (desk c.hear_more.new.talk (g.W.Sink.contents c.hear_more.new.writer) [])
      (g.R.Source.remaining c.args.reader.now) (g.R.Source.remaining c.loop-read.reader)
      (g.R.Source.remaining c.hear_more.new.reader) c.loop-read.held c.hear_more.new.held
      c.loop-read.invariant.heard c.in_default.ensures.heard;
  waits = c.in_default.ensures.out;
  reads = c.in_default.ensures.reads ∙ c.loop-read.invariant.reads;
  writes = c.in_default.ensures.writes ∙ c.loop-read.invariant.writes;
  room = c.hear_more.ensures.block ∙ c.loop-read.invariant.room;
}
