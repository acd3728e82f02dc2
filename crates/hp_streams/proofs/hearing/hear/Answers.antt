use Rattle.std.proofs.Common.{◌++◌, ◌∙◌, arith, refl}
use Rattle.hp_streams.specs.Talks.{desk}
use Rattle.hp_streams.proofs.Heard.{heard_last, heard_line, heard_none}
use Rattle.hp_streams.proofs.hearing.hear.Goals as goal

pub loop-front-init : goal.loop-front-init
loop-front-init g c = record {
  heard = λ line whole holds. heard_none g.T.Talk.replies
      (desk c.args.talk.now (g.W.Sink.contents c.args.writer.now) c.args.out.now.items) line
      c.args.block.now c.args.held.now whole holds;
  calm = refl;
}

pub loop-front-preserved : goal.loop-front-preserved
loop-front-preserved g c = record {
  heard = λ line whole holds. heard_line g.T.Talk.replies
      (desk c.args.talk.now (g.W.Sink.contents c.args.writer.now) c.args.out.now.items)
      (desk c.loop-front.talk (g.W.Sink.contents c.loop-front.writer) c.loop-front.out.items)
      (desk c.hear_line.new.talk (g.W.Sink.contents c.hear_line.new.writer) c.hear_line.new.out.items)
      (line ++ c.args.block.now) c.loop-front.rest.now c.in-Some.front.now c.in-Some.after.now
      c.loop-front.held c.hear_line.new.held (c.loop-front.invariant.heard line whole holds)
      c.in-Some.ensures.some c.in-More.ensures.heard;
  calm = c.in-More.ensures.calm (λ bad. absurd cc) ∙ c.loop-front.invariant.calm;
}

pub returns-in_default-hear_line : goal.returns-in_default-hear_line
returns-in_default-hear_line g c = record {
  heard = λ line whole holds. heard_last g.T.Talk.replies c.hear_line.result
      (desk c.args.talk.now (g.W.Sink.contents c.args.writer.now) c.args.out.now.items)
      (desk c.loop-front.talk (g.W.Sink.contents c.loop-front.writer) c.loop-front.out.items)
      (desk c.hear_line.new.talk (g.W.Sink.contents c.hear_line.new.writer) c.hear_line.new.out.items)
      (line ++ c.args.block.now) c.loop-front.rest.now c.in-Some.front.now c.in-Some.after.now
      c.loop-front.held c.hear_line.new.held c.in_default-hear_line.not-More
      (c.loop-front.invariant.heard line whole holds) c.in-Some.ensures.some c.hear_line.ensures.heard;
  calm = λ other. c.hear_line.ensures.calm other ∙ c.loop-front.invariant.calm;
  failed = λ broken. omega (arith, c.loop-front.invariant.calm, c.hear_line.ensures.failed broken);
}
