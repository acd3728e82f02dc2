-- The frames of a memory block, counted.
use Rattle.std.specs.Prelude.{ℕ, ◌==◌, not, List, codes, count_by}

-- the characters that a frame can have in cells
abbrev pub known_marks : List ℕ
known_marks = codes ".:- K0123456789abcdefghijklmnopqrstuvwxyz"

-- the number of frames in a block's cells
abbrev pub frames_in : List ℕ → ℕ
frames_in cells = count_by (λ byte. not (byte == 124)) cells
