use Rattle.std.proofs.Common.{◌≡◌, replicate, None}
use Rattle.hp_pages.proofs.buffers.Buffers.none.Given as goal

abbrev pub invariant-loop-frame : goal.invariant-loop-frame
invariant-loop-frame l = l.frames.items ≡ replicate l._frame None
