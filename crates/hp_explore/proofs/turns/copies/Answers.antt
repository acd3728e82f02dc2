-- One record more.
use Rattle.std.proofs.Common.{List, ap, arith, length, ◌∙◌}
use Rattle.std.proofs.lemmas.List.{length-take-le}
use Rattle.hp_units.specs.declared.replies.Record.{Record}
use Rattle.hp_schedules.proofs.Copied.{copied_more}
use Rattle.hp_explore.proofs.Stepped.{same_event, with_event}
use Rattle.hp_explore.proofs.turns.copies.Goals as goal

pub push_reserved-requires : goal.push_reserved-requires
push_reserved-requires c =
    omega (
      arith,
      c.loop-record.copies.ok.0,
      ap (λ (records : List Record). length records) c.loop-record.invariant.copied,
      length-take-le c.loop-record.record-index c.args.records.now c.loop-record.auto.record-index-end,
      c.loop-record.invariant.room,
      c.loop-record-test.true,
    )

pub loop-record-preserved : goal.loop-record-preserved
loop-record-preserved c =
    let r = c.record-item.result in record {
      copied = copied_more c.args.records.now c.loop-record.copies.items c.push_reserved.new.self.items
          c.loop-record.record-index r (with_event r c.in_ok-event.event) c.loop-record-test.true
          c.record-item.is
          c.loop-record.invariant.copied (same_event r c.in_ok-event.event c.in_ok-event.ensures.ok)
          c.push_reserved.ensures.items;
      room = c.push_reserved.ensures.capacity ∙ c.loop-record.invariant.room;
    }
