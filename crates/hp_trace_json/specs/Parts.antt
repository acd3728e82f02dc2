-- The parts of a state that a trace shows, by their keys. Before the first row there is no state.
use Rattle.std.specs.Prelude.{ℕ, Bool, true, false, List, [], Option, Some, None, slice_get, slice_index, slice_index_or, unwrap_or}
use Rattle.hp_units.specs.declared.rows.Auto.{Auto}
use Rattle.hp_units.specs.declared.rows.Kind.{Kind}
use Rattle.hp_units.specs.declared.rows.Mobility.{Mobility}
use Rattle.hp_units.specs.declared.rows.Mobility.TheVariants.{Movable, Unmovable}
use Rattle.hp_units.specs.declared.rows.Row.{Row}
use Rattle.hp_units.specs.Memory.{kernel_order}
use Rattle.hp_units.specs.Pages.{frame_at, words_at}
use Rattle.hp_plain.specs.Image.{Pictured}
use Rattle.hp_machine.specs.Machine.{MachineValue}

-- the state of a machine, as a trace shows it
abbrev pub state_of : MachineValue → Pictured
state_of m = record { layout = m.layout; memory = m.state }

-- the row of a memory block
abbrev pub row_in : Option Pictured → (block : ℕ) → Option Row
row_in None block = None
row_in (Some p) block = slice_get p.memory.blocks.rows block

-- the mobility is `Unmovable`
abbrev pub is_unmovable_of : Mobility → Bool
is_unmovable_of Unmovable = true
is_unmovable_of Movable = false

-- the kind of a pageblock, if there is one, is unmovable
abbrev pub is_unmovable : Option Kind → Bool
is_unmovable None = false
is_unmovable (Some kind) = is_unmovable_of kind.mobility

-- the pageblock is unmovable in this state
abbrev pub unmovable_in : Option Pictured → (pageblock : ℕ) → Bool
unmovable_in None pageblock = false
unmovable_in (Some p) pageblock = is_unmovable (slice_get p.memory.free.areas.kinds pageblock)

-- the free list with this number, front first; its number is 5 times the order plus the class's
-- number
abbrev pub free_list_at : Option Pictured → (number : ℕ) → List ℕ
free_list_at None number = []
free_list_at (Some p) number = slice_index_or p.memory.free.areas.lists number []

-- the processor's list with this number, front first; its number is 3 times the processor plus the
-- pool's number
abbrev pub cpu_list_at : Option Pictured → (number : ℕ) → List ℕ
cpu_list_at None number = []
cpu_list_at (Some p) number = slice_index_or p.memory.free.cached number []

-- the order of the kernel's block that starts at a frame
abbrev pub kernel_in : Option Pictured → (frame : ℕ) → Option ℕ
kernel_in None frame = None
kernel_in (Some p) frame = kernel_order p.memory frame

-- the frame of a page
abbrev pub page_in : Option Pictured → (owner page : ℕ) → Option ℕ
page_in None owner page = None
page_in (Some p) owner page = frame_at p.memory.pages owner page

-- the words of a page; none if the page is not mapped
abbrev pub words_in : Option Pictured → (owner page : ℕ) → List ℕ
words_in None owner page = []
words_in (Some p) owner page = unwrap_or (words_at p.memory.pages owner page) []

-- one of a page's words; 0 if the page is not mapped
abbrev pub word_of : List ℕ → (index : ℕ) → ℕ
word_of words index = slice_index words index

-- the policy for added memory blocks
abbrev pub auto_in : Option Pictured → Option Auto
auto_in None = None
auto_in (Some p) = Some p.memory.blocks.auto
