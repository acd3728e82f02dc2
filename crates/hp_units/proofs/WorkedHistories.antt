-- Worked histories, computed: the replies to an undo and a Cancel, and the state after them; and
-- worked texts.
use Rattle.std.proofs.Common.{◌≡◌, ℕ, List, [], ◌∷◌, ◌++◌, codes, refl}
use Rattle.std.specs.Fmt.{decimal}
use Rattle.hp_units.specs.Names.{Item, MovableWish, IsoM, KernelAuto, KernelAlloc, Map, Write, Read, Begin, DrainFor, Cancel, UndoAfter, Done, GivesFrame, Word, Moved, Opened, Restored, Released, Undone, Refused, NoCpu, NoOp, NotMapped, NotFree, HoldsUnmovable, Gone}
use Rattle.hp_units.specs.Boot.{boot_memory}
use Rattle.hp_units.specs.Texts.{reply_text, class_text, auto_text}
use Rattle.hp_units.proofs.Script.{everything, off_2, value_on, replies_on}
use Rattle.hp_units.proofs.Worked.{small}

-- a plan for one block
abbrev coming_3 : List Item
coming_3 = record { block = 3; wish = MovableWish } ∷ []

-- a Cancel restores even if calls inside its operation read, or were refused
reads_inside : replies_on small
    ((0, Map 0 0) ∷ (0, Begin off_2) ∷ (1, Read 0 0 0) ∷ (1, Read 0 7 0) ∷ (0, Cancel 2) ∷ [])
    ≡ (Done ∷ Opened 2 ∷ Word 0 ∷ Refused NotMapped ∷ Restored ∷ [])
unfolding everything
reads_inside = refl

-- and even if another caller's step inside it was undone in the meantime
undone_inside : replies_on small
    ((0, Map 0 0) ∷ (0, Begin off_2) ∷ (1, Write 0 0 0 7) ∷ (1, UndoAfter 2) ∷ (0, Cancel 2) ∷ [])
    ≡ (Done ∷ Opened 2 ∷ Done ∷ Undone 1 ∷ Restored ∷ [])
unfolding everything
undone_inside = refl

-- two operations: the inner one restores, and then the outer one
nested_operations : replies_on small ((0, Begin off_2) ∷ (0, Begin coming_3) ∷ (0, DrainFor 2 0)
    ∷ (0, Cancel 2) ∷ (0, DrainFor 1 0) ∷ (0, Cancel 1) ∷ [])
    ≡ (Opened 1 ∷ Opened 2 ∷ Done ∷ Restored ∷ Done ∷ Restored ∷ [])
unfolding everything
nested_operations = refl

nested_value : value_on small ((0, Begin off_2) ∷ (0, Begin coming_3) ∷ (0, DrainFor 2 0) ∷ (0, Cancel 2)
    ∷ (0, DrainFor 1 0) ∷ (0, Cancel 1) ∷ []) ≡ boot_memory small
unfolding everything
nested_value = refl

-- the outer one first: both are released, and the second Cancel of one finds nothing
crossed_operations : replies_on small
    ((0, Begin off_2) ∷ (0, Begin coming_3) ∷ (0, Cancel 1) ∷ (0, Cancel 2) ∷ (0, Cancel 2) ∷ [])
    ≡ (Opened 1 ∷ Opened 2 ∷ Released ∷ Released ∷ Refused NoOp ∷ [])
unfolding everything
crossed_operations = refl

-- a drain of another operation counts as another caller's step
foreign_drain : replies_on small
    ((0, Begin coming_3) ∷ (0, Begin off_2) ∷ (0, DrainFor 1 0) ∷ (0, Cancel 2) ∷ [])
    ≡ (Opened 1 ∷ Opened 2 ∷ Done ∷ Released ∷ [])
unfolding everything
foreign_drain = refl

-- an undo is never undone
undo_stays : replies_on small ((0, KernelAlloc 1) ∷ (0, UndoAfter 0) ∷ (0, UndoAfter 1) ∷ [])
    ≡ (GivesFrame 0 ∷ Undone 1 ∷ Undone 0 ∷ [])
unfolding everything
undo_stays = refl

undo_stays_value : value_on small ((0, KernelAlloc 1) ∷ (0, UndoAfter 0) ∷ (0, UndoAfter 1) ∷ [])
    ≡ boot_memory small
unfolding everything
undo_stays_value = refl

-- a release that is undone leaves the operation live, and an undo counts the steps that are left
-- above its serial
release_undone : replies_on small ((0, Map 0 0) ∷ (0, Begin off_2) ∷ (1, Write 0 0 1 5) ∷ (0, Cancel 2)
    ∷ (0, UndoAfter 3) ∷ (0, DrainFor 2 0) ∷ (0, UndoAfter 1) ∷ [])
    ≡ (Done ∷ Opened 2 ∷ Done ∷ Released ∷ Undone 1 ∷ Done ∷ Undone 3 ∷ [])
unfolding everything
release_undone = refl

release_undone_value : value_on small ((0, Map 0 0) ∷ (0, Begin off_2) ∷ (1, Write 0 0 1 5) ∷ (0, Cancel 2)
    ∷ (0, UndoAfter 3) ∷ (0, DrainFor 2 0) ∷ (0, UndoAfter 1) ∷ []) ≡ value_on small ((0, Map 0 0) ∷ [])
unfolding everything
release_undone_value = refl

-- the caller's processor is checked before all else
no_processor : replies_on small
    ((2, UndoAfter 99) ∷ (2, Cancel 1) ∷ (2, Read 0 0 0) ∷ (0, UndoAfter 99) ∷ (0, Cancel 1) ∷ [])
    ≡ (Refused NoCpu ∷ Refused NoCpu ∷ Refused NoCpu ∷ Refused Gone ∷ Refused NoOp ∷ [])
unfolding everything
no_processor = refl

-- texts: words, and after them numbers in decimal
refusal_is_written : (frame : ℕ)
    → reply_text (Refused (NotFree frame)) ≡ codes "refused NotFree " ++ decimal frame
refusal_is_written frame = refl

unmovable_is_written : (frame : ℕ)
    → reply_text (Refused (HoldsUnmovable frame)) ≡ codes "refused Unmovable " ++ decimal frame
unmovable_is_written frame = refl

move_is_written : (from to : ℕ)
    → reply_text (Moved from to) ≡ codes "moved " ++ decimal from ++ codes " " ++ decimal to
move_is_written from to = refl

isolated_is_written : class_text IsoM ≡ codes "IM"
isolated_is_written = refl

auto_is_written : auto_text KernelAuto ≡ codes "online_kernel"
auto_is_written = refl
