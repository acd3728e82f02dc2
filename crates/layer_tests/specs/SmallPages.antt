-- The pages that the tests map: the second one of the first owner.
use Rattle.std.specs.Prelude.{ℕ, List, [], ◌∷◌, Option, Some, None}
use Rattle.hp_units.specs.Boot.{empty_pages}
use Rattle.hp_tape.specs.Deltas.{PageFrames, page_frames_of}
use Rattle.layer_tests.specs.SmallLayouts.{two_blocks}

-- no page is mapped
abbrev pub no_pages : PageFrames
no_pages = page_frames_of two_blocks (empty_pages two_blocks)

-- the second page is mapped to the third frame, whose buffer is `buffer`: None if all words are 0
abbrev pub second_page : Option (List ℕ) → PageFrames
second_page buffer = record {
  table = (None ∷ Some 2 ∷ []) ∷ [];
  buffers = None ∷ None ∷ buffer ∷ None ∷ [];
}
