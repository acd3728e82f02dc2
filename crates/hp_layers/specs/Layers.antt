-- All layers together: their state, and what each step does to them and notes.
use Rattle.std.specs.Prelude.{ℕ, ◌≡◌, ◌≤◌, List, ◌++◌, length}
use Rattle.std.specs.List.{AllByRecursion}
use Rattle.hp_units.specs.LayoutParts.{LayoutParts, IsLayout}
use Rattle.hp_units.specs.Arithmetic.{frame_count}
use Rattle.hp_units.specs.Memory.{Memory}
use Rattle.hp_units.specs.Placement.{IsWellPlaced}
use Rattle.hp_units.specs.Step.{Answered}
use Rattle.hp_units.specs.declared.events.Event.{Event}
use Rattle.hp_units.specs.declared.replies.Reply.{Reply}
use Rattle.hp_tape.specs.Bounds.{delta_bound}
use Rattle.hp_tape.specs.declared.deltas.Delta.{Delta}
use Rattle.hp_tape.specs.Deltas.{FrameView, Fits, IsDeltaOf, frame_view_of, undo}
use Rattle.hp_tape.specs.Tapes.{LeadBack, Notes, TapeValue}
use Rattle.hp_pages.specs.Pages.{pages_of}
use Rattle.hp_layers.specs.declared.layers.Layers.{Layers}
use Rattle.hp_layers.specs.Frames.{free_of}

-- ---- the state in the layers

-- the frame view of the layers: their state, with words stored by frame
abbrev pub view_of : Layers → FrameView
view_of m =
    record { free = free_of m.frames; pages = m.pages.pages; kernel = m.kernel; blocks = m.blocks.blocks }

-- the state of a frame view
abbrev pub memory_of : LayoutParts → FrameView → Memory
memory_of l v = record { free = v.free; pages = pages_of l v.pages; kernel = v.kernel; blocks = v.blocks }

abbrev pub state_of : Layers → Memory
state_of m = memory_of m.layout (view_of m)

-- all layers are of one layout
pub record AreOfOneLayout (m : Layers) : Type 0 where
  pub layout : IsLayout m.layout
  pub buddy : m.frames.buddy.layout ≡ m.layout
  pub cpus : m.frames.cpus.layout ≡ m.layout
  pub pages : m.pages.layout ≡ m.layout
  pub kernel : length m.kernel ≡ frame_count m.layout
  pub blocks : m.blocks.layout ≡ m.layout

-- all layers are of one layout, and have the frame view of a well placed state
pub record ArePlaced (m : Layers) : Type 0 where
  pub one : AreOfOneLayout m
  pub placed : IsWellPlaced m.layout (state_of m)
  pub view : view_of m ≡ frame_view_of m.layout (state_of m)

-- ---- what a step does

-- the layers now have the state `s`
pub record AreLedTo (old : Layers) (s : Memory) (new : Layers) : Type 0 where
  pub one : AreOfOneLayout new
  pub layout : new.layout ≡ old.layout
  pub view : view_of new ≡ frame_view_of old.layout s

-- holds for every delta
abbrev pub IsOfMemory : Delta → Type 0
IsOfMemory delta = Unit {0}

-- a call on all layers notes at most `most` deltas; undoing them, latest first, leads from `later`
-- back to `earlier`
abbrev pub NotesView : LayoutParts → ℕ → (was now : TapeValue) → (later earlier : FrameView) → Type 0
NotesView l most was now later earlier = Notes IsOfMemory Fits undo l most was now later earlier

-- a step appends at most `most` deltas to the tape, all of the layout; undoing them, latest first,
-- leads from `later` back to `earlier`
pub record AreNoted (l : LayoutParts) (most : ℕ) (was now : List Delta)
    (later earlier : FrameView) : Type 0 where
  pub deltas : List Delta
  pub after : now ≡ was ++ deltas
  pub few : length deltas ≤ most
  pub numbers : AllByRecursion (IsDeltaOf l) deltas
  pub lead : LeadBack Fits undo deltas later earlier

-- an event was carried out: the layers have the defined state, the reply is the defined one, and
-- the deltas are noted
pub record IsAnswered (old : Layers) (event : Event) (answered : Answered) (new : Layers)
    (was now : List Delta) (given : Reply) : Type 0 where
  pub led : AreLedTo old answered.memory new
  pub reply : given ≡ answered.reply
  pub noted : AreNoted old.layout (delta_bound old.layout (state_of old) event) was now (view_of new)
      (view_of old)
