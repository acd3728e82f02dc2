use Rattle.std.proofs.Common.{◌≡◌, ◌+◌, arith}
use Rattle.hp_map.specs.Marks.{at_frame}
use Rattle.hp_map.proofs.MarkLemmas.{marks_none, marks_more}
use Rattle.hp_map.proofs.marks.mark_frames.Goals as goal

pub loop-offset-init : goal.loop-offset-init
loop-offset-init c = marks_none (λ offset. at_frame (c.args.first + offset) c.args.place.now) _

pub loop-offset-preserved : goal.loop-offset-preserved
loop-offset-preserved c =
    marks_more (λ offset. at_frame (c.args.first + offset) c.args.place.now) c.loop-offset.offset _ _ _
    c.loop-offset.invariant c.set_place.ensures

pub returns : goal.returns
returns c =
    let all : c.loop-offset.offset ≡ c.args.count = omega arith in
    rw (← all) c.loop-offset.invariant
