-- A write of a word: what the call changes and notes is as the rule has it.
use Rattle.std.proofs.Common.{◌≡◌, ◌≢◌, cond, ℕ, ◌<◌, Bool, false, List, [], ◌∷◌, ◌++◌, length, set, replicate, Option, Some, None, arith}
use Rattle.std.specs.Prelude.{IsSome, option_map, slice_get, unwrap_or}
use Rattle.std.proofs.lemmas.Bool.{cases_eq}
use Rattle.std.proofs.lemmas.List.{get_or-set_same, length-replicate, length-set, set-set, set-get_or}
use Rattle.hp_units.specs.LayoutParts.{LayoutParts}
use Rattle.hp_units.specs.Arithmetic.{IsFrame}
use Rattle.hp_units.specs.Pages.{fresh_words}
use Rattle.hp_tape.specs.declared.deltas.Delta.{Delta}
use Rattle.hp_tape.specs.declared.deltas.Delta.TheVariants.{Word as WordDelta, LargeWord, Filled}
use Rattle.hp_tape.specs.Deltas.{FitsPages, IsDeltaOf, IsOfPages, PageFrames, buffer_of, is_blank, pages_undo, with_buffer}
use Rattle.hp_tape.specs.Tapes.{TapeValue, NotesPages}
use Rattle.hp_pages.specs.declared.pages.PreparedWrite.TheVariants.{Change, Fill}
use Rattle.hp_pages.specs.Pages.{change_at, prepared_at, write_at}
use Rattle.hp_pages.proofs.Blanks.{none-needed, some-needed, set-some, set-zero, zeros-blank}
use Rattle.hp_units.proofs.Tables.{get_set}
use Rattle.hp_pages.proofs.PageParts.{AreSized, noted_one, same_frames}
use Rattle.hp_pages.proofs.PageCalls.{kept-none}

-- ---- write

-- a write prepares zeros if there is no buffer and the value isn't 0
pub prepared-fill : (l : LayoutParts) (v : PageFrames) (index value frame : ℕ) (words : List ℕ)
    → prepared_at l v index value frame ≡ Fill words
    → (buffer_of v frame ≡ None) × (words ≡ fresh_words l) × (value ≢ 0)
prepared-fill l v index value frame words h = grind arith

-- otherwise it prepares the delta
pub prepared-change : (l : LayoutParts) (v : PageFrames) (index value frame : ℕ) (change : Delta)
    → prepared_at l v index value frame ≡ Change change
    → (buffer_of v frame ≡ None → value ≡ 0) × (change ≡ change_at l v frame index value)
prepared-change l v index value frame change h = grind arith

-- what the first word that is not 0 does, and notes
pub written-fill : (l : LayoutParts) (v : PageFrames) (frame index value : ℕ) → index < l.words
    → buffer_of v frame ≡ None → (value ≡ 0 → ⊥)
    → with_buffer v frame (Some (set (fresh_words l) index value)) ≡ write_at l v frame index value
written-fill l v frame index value in_words none some =
    grind (arith, replicate, some-needed, set-some, length-replicate)

pub notes-fill : (l : LayoutParts) (v : PageFrames) (frame index value : ℕ) (was now : TapeValue)
    → AreSized l v
    → IsFrame l frame → index < l.words → buffer_of v frame ≡ None
    → now.room ≡ was.room → now.deltas ≡ was.deltas ++ Filled index frame value ∷ []
    → NotesPages l 1 was now (with_buffer v frame (Some (set (fresh_words l) index value))) v
notes-fill l v frame index value was now are in_frames in_words none room noted =
    let words = set (fresh_words l) index value in
    let size : length words ≡ l.words = grind (arith, length-set, length-replicate) in
    record {
      deltas = Filled index frame value ∷ [];
      tape = noted_one was now _ room noted;
      few = omega arith;
      own = (tt, tt);
      numbers = ((in_frames, in_words), tt);
      lead = grind (arith, get_or-set_same, replicate, same_frames, set-set, set-get_or);
    }

-- a word that stays 0 in a frame without a buffer
pub written-none : (l : LayoutParts) (v : PageFrames) (frame index value : ℕ) → buffer_of v frame ≡ None
    → value ≡ 0 → v ≡ write_at l v frame index value
written-none l v frame index value none zero =
    grind (arith, replicate, set-zero, none-needed, zeros-blank, kept-none)

-- any other word changes in its buffer
pub written-word : (l : LayoutParts) (v : PageFrames) (frame index value : ℕ) (words : List ℕ)
    → buffer_of v frame ≡ Some words
    → is_blank (set words index value) ≡ false
    → with_buffer v frame (option_map (λ ws. set ws index value) (buffer_of v frame))
    ≡ write_at l v frame index value
written-word l v frame index value words there some = cc (some-needed (set words index value) some)

-- then some word is not 0
pub left-some : (words : List ℕ) (index value : ℕ) (beside : Bool) → index < length words
    → beside ≡ is_blank (set words index 0) → (value ≡ 0 → beside ≡ false)
    → is_blank (set words index value) ≡ false
left-some words index value beside within is other = grind (arith, cases_eq, set-some)

-- the delta of a word is of the pages and of the layout; it fits if the word is the new one, and
-- undoing it brings the old one back
record IsWordDelta (frame index was now : ℕ) (d : Delta) : Type 0 where
  own : IsOfPages d
  numbers : (l : LayoutParts) → IsFrame l frame → index < l.words → IsDeltaOf l d
  fit : (v : PageFrames) → slice_get (unwrap_or (buffer_of v frame) []) index ≡ Some now → FitsPages d v
  back : (v : PageFrames)
      → pages_undo d v ≡ with_buffer v frame (option_map (λ words. set words index was) (buffer_of v frame))

by_size : (frame index was now : ℕ) (small : Bool) → IsWordDelta frame index was now
    (cond small (WordDelta index frame was now) (LargeWord index frame (record { was = was; now = now })))
by_size frame index was now small = grind arith

-- what changing a word in a buffer notes
pub notes-word : (l : LayoutParts) (v : PageFrames) (frame index value : ℕ) (words : List ℕ)
    (was now : TapeValue)
    → AreSized l v
    → IsFrame l frame → index < l.words → buffer_of v frame ≡ Some words
    → now.room ≡ was.room → now.deltas ≡ was.deltas ++ change_at l v frame index value ∷ []
    → NotesPages l 1 was now (with_buffer v frame (option_map (λ ws. set ws index value) (buffer_of v frame)))
    v
notes-word l v frame index value words was now are in_frames in_words there room noted =
    grind (arith, by_size, get_or-set_same, noted_one, get_set, same_frames, set-set, set-get_or)

-- the same, by the buffer that is there
pub notes-changed : (l : LayoutParts) (v : PageFrames) (frame index value : ℕ) (b : Option (List ℕ))
    (was now : TapeValue)
    → AreSized l v
    → IsFrame l frame → index < l.words → buffer_of v frame ≡ b → IsSome b
    → now.room ≡ was.room → now.deltas ≡ was.deltas ++ change_at l v frame index value ∷ []
    → NotesPages l 1 was now (with_buffer v frame (option_map (λ ws. set ws index value) (buffer_of v frame)))
    v
notes-changed l v frame index value b was now are in_frames in_words there some room noted =
    grind (arith, notes-word)
