-- A list of free blocks with fewer blocks, and one with one more block.
use Rattle.std.proofs.Common.{◌≡◌, ℕ, ◌+◌, ◌≤◌, List, [], ◌∷◌, ◌++◌, ◌==◌, true, arith, ◌⊎◌, inl, inr}
use Rattle.std.proofs.lemmas.Bool.{or_left, eq-eqb}
use Rattle.std.proofs.lemmas.List.Sums.{sum_by_push}
use Rattle.hp_units.specs.declared.rows.Class.{Class}
use Rattle.hp_units.specs.Memory.{FreeAreas, free_list}
use Rattle.hp_units.specs.FreeAreas.{is_on, with_back, without}
use Rattle.hp_units.specs.Placement.{list_places, free_places, covered}
use Rattle.hp_units.proofs.Places.{list_places-cons, HasOrder, with_free_list-places}
use Rattle.hp_units.proofs.ListEdits.{on_cases, on_tail, on-without}
use Rattle.hp_units.proofs.Joins.{without-le}

-- each block of a list is on the other, and each frame is in at most as many blocks of the first
pub record IsPart (order : ℕ) (frames old : List ℕ) : Type 0 where
  pub on : (frame : ℕ) → is_on frame frames ≡ true → is_on frame old ≡ true
  pub places : (frame : ℕ) → list_places frame order frames ≤ list_places frame order old

-- the rest of a list is a part
pub tail-part : (order first : ℕ) (frames : List ℕ) → IsPart order frames (first ∷ frames)
tail-part order first frames =
    record {
      on = λ frame on. on_tail frame first frames on;
      places = λ frame. omega (arith, list_places-cons frame order first frames);
    }

-- a list without a block is a part of it
pub without-part : (order block : ℕ) (frames : List ℕ) → IsPart order (without block frames) frames
without-part order block frames =
    record {
      on = λ frame on. on-without frame block frames on;
      places = λ frame. without-le frame order block frames;
    }

-- a list with one more block, anywhere on it
pub record IsMore (order first : ℕ) (frames old : List ℕ) : Type 0 where
  pub on : (frame : ℕ) → is_on frame frames ≡ true → (first ≡ frame) ⊎ (is_on frame old ≡ true)
  pub places : (frame : ℕ)
      → list_places frame order frames ≡ covered frame order first + list_places frame order old

-- a block at the front
pub front-more : (order first : ℕ) (frames : List ℕ) → IsMore order first (first ∷ frames) frames
front-more order first frames =
    record {
      on = λ frame on. on_cases frame first frames on;
      places = λ frame. list_places-cons frame order first frames;
    }

-- a frame on a list with one more block at its back
pub back-on : (first frame : ℕ) (frames : List ℕ) → is_on frame (frames ++ first ∷ []) ≡ true
    → (first ≡ frame) ⊎ (is_on frame frames ≡ true)
back-on first frame [] on = on_cases frame first [] on
back-on first frame (x ∷ xs) on = elim (on_cases frame x _ on) [
  | inl same ↦ inr (or_left (x == frame) (is_on frame xs) (eq-eqb x frame same))
  | inr there ↦
      elim (back-on first frame xs there) [ inl same ↦ inl same | inr old ↦ inr (on_tail frame x xs old) ]
]

-- a block at the back
pub back-more : (order first : ℕ) (frames : List ℕ) → IsMore order first (frames ++ first ∷ []) frames
back-more order first frames = record {
  on = λ frame on. back-on first frame frames on;
  places = λ frame. omega (arith, sum_by_push (covered frame order) frames first);
}

-- a frame is in one free block more
pub with_back-places : (a : FreeAreas) (class : Class) (order first frame : ℕ) → HasOrder a order
    → free_places (with_back a class order first) frame ≡ free_places a frame + covered frame order first
with_back-places a class order first frame h =
    omega (
      arith,
      with_free_list-places a class order frame (free_list a class order ++ first ∷ []) h,
      (back-more order first (free_list a class order)).places frame,
    )
