-- The value of a memory.
use Rattle.hp_units.specs.LayoutParts.{LayoutParts}
use Rattle.hp_units.specs.Memory.{Memory}
use Rattle.hp_memory.specs.Memory.{MemoryValue}

-- a memory of a layout and a state
abbrev pub value_of : LayoutParts → Memory → MemoryValue
value_of l state = record { layout = l; state = state }
