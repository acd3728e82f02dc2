-- The lists that the tests link.
use Rattle.std.specs.Prelude.{[], ◌∷◌}
use Rattle.hp_buddy.specs.LinkedLists.{LinkedLists}

-- two lists over four frames: the first holds frames 3, 2 and 0, and the second is empty
abbrev pub three_listed : LinkedLists
three_listed = record { frame_count = 4; lists = (3 ∷ 2 ∷ 0 ∷ []) ∷ [] ∷ [] }
