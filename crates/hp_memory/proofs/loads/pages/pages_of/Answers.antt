use Rattle.std.proofs.lemmas.List.FromFn.{length-map-range_with_len}
use Rattle.hp_units.specs.Arithmetic.{frame_count}
use Rattle.hp_tape.specs.Deltas.{page_frames_of}
use Rattle.hp_pages.proofs.FrameViews.{buffer_by}
use Rattle.hp_memory.proofs.Pages.{no-buffers}
use Rattle.hp_memory.proofs.loads.pages.pages_of.Goals as goal

pub load_buffers-requires-clause-none : goal.load_buffers-requires-clause-none
load_buffers-requires-clause-none c =
    let l = c.args.image.now.layout in
    let ps = c.args.image.now.memory.pages in
    no-buffers l (page_frames_of l ps).buffers c.load_table.new.pages.pages
    (length-map-range_with_len (buffer_by ps) 0 (frame_count l))
    (rw (c.load_table.ensures.table, c.in_ok-pages.ensures.empty, c.layout.ensures))
