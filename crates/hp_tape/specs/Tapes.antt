-- The value of a tape in contracts, and what a call of a layer notes on it.
use Rattle.std.specs.Prelude.{ℕ, ◌≡◌, ◌+◌, ◌≤◌, List, ◌++◌, length}
use Rattle.std.specs.List.{AllByRecursion}
use Rattle.hp_units.specs.LayoutParts.{LayoutParts}
use Rattle.hp_units.specs.Memory.{FreeAreas, FreeFrames, Blocks}
use Rattle.hp_tape.specs.declared.deltas.Delta.{Delta}
use Rattle.hp_tape.specs.Deltas.{PageFrames, undo_all, AllFit, IsDeltaOf, IsOfAreas, IsOfFree, IsOfPages, IsOfBlocks, FitsAreas, areas_undo, FitsFree, free_undo, FitsPages, pages_undo, FitsBlocks, blocks_undo}

-- how many deltas the tape can hold in all, and the deltas noted, oldest first
pub record TapeValue : Type 0 where
  pub room : ℕ
  pub deltas : List Delta

-- there is room for `more` deltas after those noted
abbrev pub HasRoom : TapeValue → ℕ → Type 0
HasRoom tape more = length tape.deltas + more ≤ tape.room

-- the deltas lead from a layer's later state back to the earlier one, latest first, and each fits
-- when its turn comes
pub record LeadBack {S : Type 0} (Fit : Delta → S → Type 0) (one : Delta → S → S) (deltas : List Delta)
    (later earlier : S) : Type 0 where
  pub fit : AllFit Fit one deltas later
  pub back : undo_all one deltas later ≡ earlier

-- a call notes at most `most` deltas, of its layer and of the layout; they lead back from the state
-- that it leaves to the one that it found
pub record Notes {S : Type 0} (Own : Delta → Type 0) (Fit : Delta → S → Type 0) (one : Delta → S → S)
    (l : LayoutParts) (most : ℕ) (was now : TapeValue) (later earlier : S) : Type 0 where
  pub deltas : List Delta
  pub tape : now ≡ record { room = was.room; deltas = was.deltas ++ deltas }
  pub few : length deltas ≤ most
  pub own : AllByRecursion Own deltas
  pub numbers : AllByRecursion (IsDeltaOf l) deltas
  pub lead : LeadBack Fit one deltas later earlier

-- what a call of the free areas notes
abbrev pub NotesAreas : LayoutParts → ℕ → (was now : TapeValue) → (later earlier : FreeAreas) → Type 0
NotesAreas l most was now later earlier = Notes IsOfAreas FitsAreas areas_undo l most was now later earlier

-- what a call of the free areas and the processors' lists notes
abbrev pub NotesFree : LayoutParts → ℕ → (was now : TapeValue) → (later earlier : FreeFrames) → Type 0
NotesFree l most was now later earlier = Notes IsOfFree FitsFree free_undo l most was now later earlier

-- what a call of the owners' pages notes
abbrev pub NotesPages : LayoutParts → ℕ → (was now : TapeValue) → (later earlier : PageFrames) → Type 0
NotesPages l most was now later earlier = Notes IsOfPages FitsPages pages_undo l most was now later earlier

-- what a call of the memory blocks' rows notes
abbrev pub NotesBlocks : LayoutParts → ℕ → (was now : TapeValue) → (later earlier : Blocks) → Type 0
NotesBlocks l most was now later earlier =
    Notes IsOfBlocks FitsBlocks blocks_undo l most was now later earlier
