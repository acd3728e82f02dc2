-- The parts of a layout in three groups.
use Rattle.std.specs.Prelude.{ℕ}
use Rattle.hp_units.specs.LayoutParts.{LayoutParts}

-- the number of a layout's memory blocks, and their sizes
abbrev pub blocks_of : LayoutParts → ℕ × ℕ × ℕ
blocks_of l = (l.order, l.pageblocks, l.blocks)

-- the number of a layout's processors, and the sizes of their lists
abbrev pub processors_of : LayoutParts → ℕ × ℕ × ℕ
processors_of l = (l.cpus, l.batch, l.high)

-- a layout's numbers of owners, pages and words, and its limit of records
abbrev pub owners_of : LayoutParts → ℕ × ℕ × ℕ × ℕ
owners_of l = (l.owners, l.pages, l.words, l.history)
