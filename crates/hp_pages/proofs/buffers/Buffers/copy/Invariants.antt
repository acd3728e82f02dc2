use Rattle.std.proofs.Common.{◌≡◌, take}
use Rattle.hp_pages.proofs.buffers.Buffers.copy.Given as goal

abbrev pub invariant-loop-words : goal.invariant-loop-words
invariant-loop-words l = l.frames.items ≡ take l.words-index l.self
