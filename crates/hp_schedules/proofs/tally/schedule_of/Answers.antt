-- The processor of one record more.
use Rattle.std.proofs.Common.{arith, ◌∙◌}
use Rattle.hp_units.specs.declared.replies.Record.{Record}
use Rattle.hp_schedules.proofs.Copied.{has_room, mapped_more}
use Rattle.hp_schedules.proofs.tally.schedule_of.Goals as goal

pub push_reserved-requires : goal.push_reserved-requires
push_reserved-requires c =
    omega (
      arith,
      c.loop-record.schedule.ok.0,
      has_room (λ (r : Record). r.cpu) c.args.records.now c.loop-record.schedule.items
          c.loop-record.record-index _ c.loop-record-test.true c.loop-record.invariant.told
          c.loop-record.invariant.room,
    )

pub loop-record-preserved : goal.loop-record-preserved
loop-record-preserved c = record {
  told = mapped_more (λ (r : Record). r.cpu) c.args.records.now c.loop-record.schedule.items
      c.push_reserved.new.self.items c.loop-record.record-index c.record-item.result
      c.loop-record-test.true
      c.record-item.is c.loop-record.invariant.told c.push_reserved.ensures.items;
  room = c.push_reserved.ensures.capacity ∙ c.loop-record.invariant.room;
}
