-- The free areas and the processors' lists together: what taking frames returns, changes and notes.
use Rattle.std.specs.Prelude.{ℕ, zero, suc, ◌≡◌, ◌+◌, ◌%◌, ◌^◌, ◌<◌, ◌≤◌, Option, None, Some, IfSome}
use Rattle.hp_units.specs.declared.rows.Pool.TheVariants.{Nu as NuPool, Nm as NmPool, Mm as MmPool}
use Rattle.std.specs.Option.{option_or}
use Rattle.hp_units.specs.declared.rows.Zone.{Zone}
use Rattle.hp_units.specs.declared.rows.Mobility.TheVariants.{Movable}
use Rattle.hp_units.specs.FreeAreas.{give_block, steal_block}
use Rattle.hp_units.specs.LayoutParts.{LayoutParts}
use Rattle.hp_units.specs.Arithmetic.{frame_count}
use Rattle.hp_units.specs.Memory.{FreeFrames}
use Rattle.hp_units.specs.ProcessorLists.{Handed, handed_from, put_one, take_one}
use Rattle.hp_tape.specs.Bounds.{give_bound, put_one_bound, steal_bound, take_one_bound}
use Rattle.hp_tape.specs.Tapes.{TapeValue, NotesFree}
use Rattle.hp_units.specs.Placement.{covered}
use Rattle.hp_buddy.specs.Cpus.{AreTogether, frames_of, places_among}
use Rattle.hp_layers.specs.declared.frames.Frames.{Frames}

-- the free frames as a part of the state
abbrev pub free_of : Frames → FreeFrames
free_of f = frames_of f.buddy.areas f.cpus

-- in how many free blocks and on how many processors' lists a frame is
abbrev pub places_of : Frames → ℕ → ℕ
places_of f frame = places_among f.buddy.areas f.cpus frame

-- the free areas and the processors' lists are of one layout, and no frame is in two of their free
-- blocks and lists
abbrev pub IsTidy : Frames → Type 0
IsTidy f = AreTogether f.cpus f.buddy

-- ---- how many deltas a call may note in this state

-- for taking a frame for the kernel: 1 if the processor's list for unmovable frames is not empty,
-- otherwise `batch_bound`
abbrev pub kernel_frame_bound : LayoutParts → FreeFrames → (cpu : ℕ) → ℕ
kernel_frame_bound l fs cpu = take_one_bound l fs cpu NuPool

-- for taking a frame for a page: 1 if the processor's list for zone Movable is not empty, otherwise
-- `batch_bound`
abbrev pub page_frame_bound : LayoutParts → FreeFrames → (cpu : ℕ) → ℕ
page_frame_bound l fs cpu = take_one_bound l fs cpu MmPool

-- for taking a block for the kernel
abbrev pub kernel_block_bound : LayoutParts → FreeFrames → (cpu order : ℕ) → ℕ
kernel_block_bound l fs cpu zero = kernel_frame_bound l fs cpu
kernel_block_bound l fs cpu (suc below) = steal_bound l

-- ---- what taking a block does

-- a movable frame of zone Normal: from the processor's list, otherwise stolen from unmovable blocks
abbrev pub normal_frame : LayoutParts → FreeFrames → ℕ → Option Handed
normal_frame l fs cpu =
    option_or (take_one l fs cpu NmPool) (handed_from fs (steal_block l fs.areas Movable 0))

-- the returned frame and the new free frames are those of the first argument; if that is None, no
-- frame is returned and nothing changed
abbrev pub HandsOut : Option Handed → (old new : FreeFrames) → Option ℕ → Type 0
HandsOut None old new answer = (answer ≡ None) × (new ≡ old)
HandsOut (Some handed) old new answer = (answer ≡ Some handed.frame) × (new ≡ handed.free)

-- the block is within the layout, and has left the free blocks and the lists
pub record HasLeft (old new : Frames) (order first : ℕ) : Type 0 where
  pub within : first + 2 ^ order ≤ frame_count old.cpus.layout
  pub places : (other : ℕ) → places_of old other ≡ places_of new other + covered other order first

-- the block that `wanted` has was taken, and at most `most` deltas were noted; if `wanted` is None,
-- nothing changed
pub record IsTaken (wanted : Option Handed) (order most : ℕ) (old new : Frames) (was now : TapeValue)
    (answer : Option ℕ) : Type 0 where
  pub handed : HandsOut wanted (free_of old) (free_of new) answer
  pub none : answer ≡ None → (new ≡ old) × (now ≡ was)
  pub layout : new.cpus.layout ≡ old.cpus.layout
  pub tidy : IsTidy new
  pub block : IfSome answer (HasLeft old new order)
  pub notes : NotesFree old.cpus.layout most was now (free_of new) (free_of old)

-- ---- what giving a block back does

-- the block may be given back: it is within the layout at a multiple of its size, and none of its
-- frames is free or on a list
pub record MayReturn (f : Frames) (order first : ℕ) : Type 0 where
  pub in_order : order ≤ f.cpus.layout.order
  pub aligned : first % 2 ^ order ≡ 0
  pub within : first + 2 ^ order ≤ frame_count f.cpus.layout
  pub nowhere : (other : ℕ) → first ≤ other → other < first + 2 ^ order → places_of f other ≡ 0

-- the free frames after a block is given back. A single frame goes to the processor's list if its
-- pageblock is not isolated; all else goes straight to the free areas
abbrev pub given_back : LayoutParts → FreeFrames → ℕ → Zone → (frame order : ℕ) → FreeFrames
given_back l fs cpu zone frame zero = put_one l fs cpu zone frame
given_back l fs cpu zone frame (suc below) =
    record fs { areas = give_block l fs.areas zone frame (suc below) }

-- how many deltas giving a block back may note in this state
abbrev pub give_back_bound : LayoutParts → FreeFrames → (cpu : ℕ) → Zone → (frame order : ℕ) → ℕ
give_back_bound l fs cpu zone frame zero = put_one_bound l fs cpu zone frame
give_back_bound l fs cpu zone frame (suc below) = give_bound l

-- the free frames are now those of `wanted`, and at most `most` deltas were noted
pub record IsGiven (wanted : FreeFrames) (most : ℕ) (old new : Frames) (was now : TapeValue) : Type 0 where
  pub given : free_of new ≡ wanted
  pub layout : new.cpus.layout ≡ old.cpus.layout
  pub tidy : IsTidy new
  pub notes : NotesFree old.cpus.layout most was now (free_of new) (free_of old)
