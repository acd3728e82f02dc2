use Rattle.std.proofs.Common.{◌∙◌, ap, arith}
use Rattle.std.proofs.lemmas.List.FromFn.{length-map-range_with_len}
use Rattle.hp_units.specs.Arithmetic.{frame_count}
use Rattle.hp_tape.specs.Deltas.{page_frames_of}
use Rattle.hp_pages.proofs.FrameViews.{buffer_by}
use Rattle.hp_memory.proofs.Pages.{same_frames, same_pages}
use Rattle.hp_memory.proofs.Tables.{copied-all}
use Rattle.hp_memory.proofs.loads.pages.load_buffers.Goals as goal

pub returns : goal.returns
returns c =
    let l = c.args.image.now.layout in
    let ps = c.args.image.now.memory.pages in
    let size = length-map-range_with_len (buffer_by ps) 0 (frame_count l) in
    same_pages c.loop-number.pages (record { layout = l; pages = page_frames_of l ps })
    (c.loop-number.invariant.layout ∙ c.requires.layout)
    (same_frames c.loop-number.pages.pages (page_frames_of l ps)
    (c.loop-number.invariant.table ∙ c.requires.table)
    (copied-all
    (omega (
      arith,
      c.loop-number-test.false,
      c.frames-number-end.ensures.is,
      ap (λ k. frame_count k) c.layout.ensures,
      size,
    )) c.loop-number.invariant.buffers))
