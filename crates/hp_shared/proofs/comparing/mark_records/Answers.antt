use Rattle.std.proofs.Common.{◌<◌, ◌++◌, length, take, refl, ◌∙◌, arith}
use Rattle.std.proofs.lemmas.List.{length-append, length-take, take_all}
use Rattle.std.proofs.lemmas.Option.{slice_get_read}
use Rattle.hp_shared.proofs.Comparisons.{marks_next, marks_none, strays_next}
use Rattle.hp_shared.proofs.comparing.mark_records.Goals as goal

pub loop-at-init : goal.loop-at-init
loop-at-init g c = (
  refl,
  λ history are.
      marks_none history c.args.seats.now.items c.args.marks.now.items are,
  λ at r none. absurd cc,
)

pub mark_record-requires-clause-room : goal.mark_record-requires-clause-room
mark_record-requires-clause-room g c =
    let room = c.requires.room in
    let at = c.loop-at.at in
    let records = c.args.records.now in
    let inside : at < length records = omega (arith, c.loop-at-test.true, c.loop-at.auto) in (
      room.0 ++ take at records,
      omega (arith, length-append room.0 (take at records), length-take at records, room.1),
      c.loop-at.invariant.1 room.0 room.2,
    )

pub loop-at-preserved : goal.loop-at-preserved
loop-at-preserved g c =
    let records = c.args.records.now in
    let seats = c.args.seats.now.items in
    let at = c.loop-at.at in
    let i = c.loop-at.invariant in
    let r = c.index-records-at.result in
    let get =
    slice_get_read records (length records) at r refl (omega (arith, c.loop-at-test.true, c.loop-at.auto))
    c.index-records-at.is in (
      c.mark_record.ensures.len ∙ i.0,
      λ history are. marks_next history records seats c.mark_record.new.marks.items at r get
          (c.mark_record.ensures.marks (history ++ take at records) (i.1 history are)),
      strays_next records seats at r c.loop-at.lowest c.mark_record.result c.lower-lowest.result get
          c.lower-lowest.ensures c.mark_record.ensures.stray i.2,
    )

pub returns-clause-marks : goal.returns-clause-marks
returns-clause-marks g c history are =
    rw (← take_all c.loop-at.at c.args.records.now (omega (arith, c.loop-at-test.false, c.loop-at.auto)))
    (c.loop-at.invariant.1 history are)

pub returns-clause-strays : goal.returns-clause-strays
returns-clause-strays g c =
    rw (← take_all c.loop-at.at c.args.records.now (omega (arith, c.loop-at-test.false, c.loop-at.auto)))
    c.loop-at.invariant.2
