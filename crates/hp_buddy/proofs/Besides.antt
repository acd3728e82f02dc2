-- What the free areas' calls note leads back beside the processors' lists too. The deltas leave
-- these lists as they are.
use Rattle.std.proofs.Common.{◌≡◌, ℕ, ◌+◌, ◌≤◌, List, [], ◌∷◌, refl, subst, arith}
use Rattle.std.specs.List.{AllByRecursion}
use Rattle.std.proofs.lemmas.List.{length-append}
use Rattle.hp_units.specs.LayoutParts.{LayoutParts}
use Rattle.hp_units.specs.Memory.{FreeAreas, FreeFrames}
use Rattle.hp_tape.specs.declared.deltas.Delta.{Delta}
use Rattle.hp_tape.specs.Deltas.{AllFit, FitsAreas, FitsFree, IsOfAreas, IsOfFree, areas_undo, free_undo, undo_all}
use Rattle.hp_tape.specs.Tapes.{TapeValue, HasRoom, NotesAreas, NotesFree}
use Rattle.hp_tape.proofs.Leads.{notes-append, notes-more, notes-none}

-- free areas beside the processors' lists
abbrev pub beside : List (List ℕ) → FreeAreas → FreeFrames
beside cached a = record { areas = a; cached = cached }

-- ---- one delta of the areas

undo-beside : (d : Delta) (cached : List (List ℕ)) (a : FreeAreas) → IsOfAreas d
    → free_undo d (beside cached a) ≡ beside cached (areas_undo d a)
undo-beside d cached a own = grind arith

fits-beside : (d : Delta) (cached : List (List ℕ)) (a : FreeAreas) → IsOfAreas d → FitsAreas d a
    → FitsFree d (beside cached a)
fits-beside d cached a own h = grind arith

own-beside : (d : Delta) → IsOfAreas d → IsOfFree d
own-beside d own = grind arith

-- ---- all of them

undo_all-beside : (deltas : List Delta) (cached : List (List ℕ)) (a : FreeAreas)
    → AllByRecursion IsOfAreas deltas
    → undo_all free_undo deltas (beside cached a) ≡ beside cached (undo_all areas_undo deltas a)
undo_all-beside [] cached a own = refl
undo_all-beside (d ∷ deltas) cached a own = grind (arith, undo-beside, undo_all-beside deltas cached a own.1)

all_fit-beside : (deltas : List Delta) (cached : List (List ℕ)) (a : FreeAreas)
    → AllByRecursion IsOfAreas deltas → AllFit FitsAreas areas_undo deltas a
    → AllFit FitsFree free_undo deltas (beside cached a)
all_fit-beside [] cached a own h = tt
all_fit-beside (d ∷ deltas) cached a own h =
    grind (arith, undo_all-beside, fits-beside, all_fit-beside deltas cached a own.1 h.0)

all_own-beside : (deltas : List Delta) → AllByRecursion IsOfAreas deltas → AllByRecursion IsOfFree deltas
all_own-beside [] own = tt
all_own-beside (d ∷ deltas) own = (own-beside d own.0, all_own-beside deltas own.1)

-- what a call of the free areas notes
pub notes-beside : (l : LayoutParts) (most : ℕ) (was now : TapeValue) (cached : List (List ℕ))
    (later earlier : FreeAreas)
    → NotesAreas l most was now later earlier
    → NotesFree l most was now (beside cached later) (beside cached earlier)
notes-beside l most was now cached later earlier n =
    grind (arith, all_own-beside, all_fit-beside, undo_all-beside)

-- ---- the notes of several calls

-- one call, and then another
pub notes-then : (l m : LayoutParts) (most more total : ℕ) (was mid now : TapeValue)
    (before between after : FreeFrames)
    → m ≡ l → most + more ≤ total
    → NotesFree l most was mid between before → NotesFree m more mid now after between
    → NotesFree l total was now after before
notes-then l m most more total was mid now before between after same le a b =
    notes-more _ _ _ _ _ _ _ _ _ _ le (notes-append IsOfFree FitsFree free_undo l most more was mid now after
    between before a (subst (λ (k : LayoutParts). NotesFree k more mid now after between) same b))

-- what room a call leaves
pub room_left : (l : LayoutParts) (most more : ℕ) (was now : TapeValue) (before after : FreeFrames)
    → NotesFree l most was now after before → HasRoom was (most + more) → HasRoom now more
room_left l most more was now before after n room = grind (arith, length-append)

-- no call
pub nothing-noted : (l : LayoutParts) (most : ℕ) (tape : TapeValue) (fs : FreeFrames)
    → NotesFree l most tape tape fs fs
nothing-noted l most tape fs = notes-none IsOfFree FitsFree free_undo l most tape fs
