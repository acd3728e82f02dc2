-- A row of memory blocks with texts.
use Rattle.std.specs.Prelude.{ℕ, List, Option}
use Rattle.hp_map.specs.BlockPictures.{BlockValue}
use Rattle.hp_map.specs.declared.row_picture.Move.{Move}

-- the request of a row, its answer, the page that moved, and the memory blocks after it
pub record RowValue : Type 0 where
  pub asked : List ℕ
  pub answer : List ℕ
  pub moved : Option Move
  pub blocks : List BlockValue

abbrev pub row_with : (asked answer : List ℕ) → Option Move → (blocks : List BlockValue) → RowValue
row_with asked answer moved blocks = record { asked = asked; answer = answer; moved = moved; blocks = blocks }
