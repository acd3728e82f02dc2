use Rattle.std.proofs.Common.{◌<◌, length, take, refl, ◌∙◌, arith}
use Rattle.std.proofs.lemmas.Option.{slice_get_read}
use Rattle.std.proofs.lemmas.List.{take_all}
use Rattle.hp_shared.specs.Volumes.{sealed_records}
use Rattle.hp_shared.proofs.Sealing.{marks_on, room_on, strays_on}
use Rattle.hp_shared.proofs.comparing.mark_volumes.Goals as goal

pub loop-at-init : goal.loop-at-init
loop-at-init g c = (refl, c.requires.start, λ at r none. absurd cc)

pub mark_records-requires-clause-room : goal.mark_records-requires-clause-room
mark_records-requires-clause-room g c =
    let vs = c.args.volumes.now.items in
    let at = c.loop-at.at in
    let inside : at < length vs =
    omega (arith, c.loop-at-test.true, c.loop-at.auto, c.len-at-end.ensures, c.args.volumes.now.ok.0) in
    let get = slice_get_read vs (length vs) at c.index.result.now refl inside c.index.ensures in (
      sealed_records (take at vs),
      room_on vs at 18446744073709551616 c.index.result.now c.as_slice.result.now
          get c.as_slice.ensures c.requires.few,
      c.loop-at.invariant.1,
    )

pub loop-at-preserved : goal.loop-at-preserved
loop-at-preserved g c =
    let vs = c.args.volumes.now.items in
    let seats = c.args.seats.now.items in
    let at = c.loop-at.at in
    let i = c.loop-at.invariant in
    let inside : at < length vs =
    omega (arith, c.loop-at-test.true, c.loop-at.auto, c.len-at-end.ensures, c.args.volumes.now.ok.0) in
    let get = slice_get_read vs (length vs) at c.index.result.now refl inside c.index.ensures in (
      c.mark_records.ensures.len ∙ i.0,
      marks_on vs at c.index.result.now c.as_slice.result.now seats c.mark_records.new.marks.items get
          c.as_slice.ensures (c.mark_records.ensures.marks (sealed_records (take at vs)) i.1),
      strays_on vs at c.index.result.now c.as_slice.result.now seats c.loop-at.lowest c.mark_records.result
          c.lower-lowest.result get c.as_slice.ensures c.lower-lowest.ensures i.2
          c.mark_records.ensures.strays,
    )

pub returns-clause-marks : goal.returns-clause-marks
returns-clause-marks g c =
    rw (← take_all c.loop-at.at c.args.volumes.now.items
    (omega (arith, c.loop-at-test.false, c.loop-at.auto, c.len-at-end.ensures, c.args.volumes.now.ok.0)))
    c.loop-at.invariant.1

pub returns-clause-strays : goal.returns-clause-strays
returns-clause-strays g c =
    rw (← take_all c.loop-at.at c.args.volumes.now.items
    (omega (arith, c.loop-at-test.false, c.loop-at.auto, c.len-at-end.ensures, c.args.volumes.now.ok.0)))
    c.loop-at.invariant.2
