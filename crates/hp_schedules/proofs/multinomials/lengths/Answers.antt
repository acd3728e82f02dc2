-- The length of one script more.
use Rattle.std.proofs.Common.{arith, ◌∙◌, List, length}
use Rattle.hp_schedules.specs.declared.scripts.Step.{Step}
use Rattle.hp_schedules.proofs.Copied.{has_room, mapped_more}
use Rattle.hp_schedules.proofs.multinomials.lengths.Goals as goal

pub push_reserved-requires : goal.push_reserved-requires
push_reserved-requires c =
    omega (
      arith,
      c.loop-script.lengths.ok.0,
      has_room (λ (lines : List Step). length lines) c.args.scripts.now c.loop-script.lengths.items
          c.loop-script.script-index _ c.loop-script-test.true c.loop-script.invariant.told
          c.loop-script.invariant.room,
    )

pub loop-script-preserved : goal.loop-script-preserved
loop-script-preserved c = record {
  told = mapped_more (λ (lines : List Step). length lines) c.args.scripts.now c.loop-script.lengths.items
      c.push_reserved.new.self.items c.loop-script.script-index c.script-item.result
      c.loop-script-test.true
      c.script-item.is c.loop-script.invariant.told
      (rw c.lines.ensures at c.push_reserved.ensures.items);
  room = c.push_reserved.ensures.capacity ∙ c.loop-script.invariant.room;
}
