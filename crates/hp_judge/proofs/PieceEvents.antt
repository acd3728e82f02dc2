-- The frames of pieces, and the events of pieces that come back and that are handed out.
use Rattle.std.proofs.Common.{◌≡◌, ◌≢◌, ℕ, zero, suc, ◌+◌, ◌^◌, ◌<◌, ◌≤◌, Bool, true, false, not, cond, ◌&&◌, ◌||◌, ltb, [], Option, Some, None, refl, sym, ◌∙◌, ap, subst, arith, inl, inr}
use Rattle.std.specs.List.{list_any, range_with_len}
use Rattle.std.proofs.lemmas.Bool.{cases_eq, cases_lt, or_cases, or_left, or_right, and_parts, false_from_ne_true, not-true, cond-true, cond-false, lt-ltb, le-ltb}
use mathlib.Core.Path.{fun_ext}
use Rattle.hp_judge.specs.Events.{block_of, is_piece, lies_within}
use Rattle.hp_judge.proofs.Pieces.{same_tests}
use Rattle.hp_judge.specs.LawfulNames.{Alloc, Free, MachineSize}
use Rattle.hp_judge.specs.Phases.{BlockPhase}
use Rattle.hp_judge.specs.Reading.{Shown}
use Rattle.hp_judge.specs.Pieces.{Piece, alloc_events, free_events, is_frame_of}
use Rattle.hp_judge.proofs.Turns.{is_offline, is_normal}
use Rattle.hp_judge.proofs.Allowed.{Leads}
use Rattle.hp_judge.proofs.Sequences.{EventsLead, as_shown}

-- ---- ranges

-- a number of a range that passes
pub some_in : (test : ℕ → Bool) (start count n : ℕ) → start ≤ n → n < start + count → test n ≡ true
    → list_any test (range_with_len start count) ≡ true
some_in test start zero n low high is = absurd (omega arith)
some_in test start (suc count) n low high is = elim (cases_eq n start) [
  | inl same ↦ or_left (test start) (list_any test (range_with_len (start + 1) count)) (rw (← same) is)
  | inr other ↦ or_right _ _ (some_in test (start + 1) count n (omega arith) (omega arith) is)
]

pub one_of : (test : ℕ → Bool) (start count : ℕ) → list_any test (range_with_len start count) ≡ true
    → (n : ℕ) × (n < start + count) × (test n ≡ true)
one_of test start zero is = absurd (cc)
one_of test start (suc count) is =
    elim (or_cases (test start) (list_any test (range_with_len (start + 1) count)) is) [
      | inl here ↦ (start, omega arith, here)
      | inr later ↦
          let found = one_of test (start + 1) count later in
          (found.0, omega (arith, found.1), found.2)
    ]

-- one function below a number, and another from there on
abbrev pub upto : {X : Type 0} → ℕ → (ℕ → X) → (ℕ → X) → ℕ → X
upto n f g k = cond (ltb k n) (f k) (g k)

pub upto-below : {X : Type 0} (n : ℕ) (f g : ℕ → X) (k : ℕ) → k < n → upto n f g k ≡ f k
upto-below n f g k low = cond-true (ltb k n) (f k) (g k) (lt-ltb k n low)

pub upto-above : {X : Type 0} (n : ℕ) (f g : ℕ → X) (k : ℕ) → n ≤ k → upto n f g k ≡ g k
upto-above n f g k high = cond-false (ltb k n) (f k) (g k) (le-ltb k n high)

pub upto-other : {X : Type 0} (n : ℕ) (f g : ℕ → X) (k : ℕ) → k ≢ n → upto (n + 1) f g k ≡ upto n f g k
upto-other n f g k ne = elim (cases_lt k n) [
  | inl low ↦ upto-below (n + 1) f g k (omega arith) ∙ sym (upto-below n f g k low)
  | inr high ↦ upto-above (n + 1) f g k (omega arith) ∙ sym (upto-above n f g k high)
]

-- ---- the frames of pieces

-- whether it is one of a piece that starts below a number
abbrev pub in_pieces : ℕ → (ℕ → Option Piece) → ℕ → Bool
in_pieces count pieces f = list_any (λ first. is_frame_of f first (pieces first)) (range_with_len 0 count)

-- no two pieces have a frame in common
abbrev pub AreApart : ℕ → (ℕ → Option Piece) → Type 0
AreApart count pieces =
    (f a b : ℕ) → a < count → b < count → is_frame_of f a (pieces a) ≡ true
    → is_frame_of f b (pieces b) ≡ true → a ≡ b

pub in_pieces_of : (count : ℕ) (pieces : ℕ → Option Piece) (f n : ℕ) → n < count
    → is_frame_of f n (pieces n) ≡ true → in_pieces count pieces f ≡ true
in_pieces_of count pieces f n low is =
    some_in (λ first. is_frame_of f first (pieces first)) 0 count n (omega arith) (omega arith) is

pub piece_of : (count : ℕ) (pieces : ℕ → Option Piece) (f : ℕ) → in_pieces count pieces f ≡ true
    → (n : ℕ) × (n < count) × (is_frame_of f n (pieces n) ≡ true)
piece_of count pieces f is =
    let found = one_of (λ first. is_frame_of f first (pieces first)) 0 count is in
    (found.0, omega (arith, found.1), found.2)

-- the same pieces have the same frames
pub in_pieces-same : (count : ℕ) (pieces others : ℕ → Option Piece)
    → ((k : ℕ) → k < count → pieces k ≡ others k) → in_pieces count pieces ≡ in_pieces count others
in_pieces-same count pieces others same =
    fun_ext (λ f. same_tests _ _ (one f pieces others same) (one f others pieces (λ k low. sym (same k low))))
  where
    one : (f : ℕ) (some other : ℕ → Option Piece) → ((k : ℕ) → k < count → some k ≡ other k)
        → in_pieces count some f ≡ true → in_pieces count other f ≡ true
    one f some other e is =
        let found = piece_of count some f is in
        in_pieces_of count other f found.0 found.1 (rw (← e found.0 found.1) found.2)

-- ---- one piece more or less

-- a set of pieces, and the same without the one that starts at a frame
pub record AreWithout (count n : ℕ) (piece : Piece) (with without : ℕ → Option Piece) : Type 0 where
  pub low : n < count
  pub here : with n ≡ Some piece
  pub gone : without n ≡ None
  pub others : (k : ℕ) → k ≢ n → without k ≡ with k
  pub apart : AreApart count with

module _ (count n : ℕ) (piece : Piece) (with without : ℕ → Option Piece)
    (h : AreWithout count n piece with without) where
  -- a piece that is left is another
  left_is : (f k : ℕ) → is_frame_of f k (without k) ≡ true → (k ≢ n) × (is_frame_of f k (with k) ≡ true)
  left_is f k is = (
    λ same. no_frame (subst (λ (p : Option Piece). is_frame_of f k p ≡ true) (ap without same ∙ h.gone) is),
    subst (λ (p : Option Piece). is_frame_of f k p ≡ true) (h.others k (λ same. no_frame
        (subst (λ (p : Option Piece). is_frame_of f k p ≡ true) (ap without same ∙ h.gone) is))) is,
  )
    where
      no_frame : false ≡ true → ⊥
      no_frame e = cc

  -- the frames are those of the piece and of what is left
  pub with_piece : (f : ℕ)
      → in_pieces count with f ≡ (lies_within n (2 ^ piece.order) f || in_pieces count without f)
  with_piece f =
      same_tests (in_pieces count with f) (lies_within n (2 ^ piece.order) f || in_pieces count without f)
      split join
    where
      split : in_pieces count with f ≡ true
          → (lies_within n (2 ^ piece.order) f || in_pieces count without f) ≡ true
      split is =
          let found = piece_of count with f is in
          elim (cases_eq found.0 n) [
            | inl same ↦
                or_left (lies_within n _ f) (in_pieces count without f)
                (subst (λ (p : Option Piece). is_frame_of f n p ≡ true) h.here
                (subst (λ (k : ℕ). is_frame_of f k (with k) ≡ true) same found.2))
            | inr other ↦
                or_right _ _ (in_pieces_of count without f found.0 found.1
                (rw (h.others found.0 other) found.2))
          ]

      join : (lies_within n (2 ^ piece.order) f || in_pieces count without f) ≡ true
          → in_pieces count with f ≡ true
      join is = elim (or_cases (lies_within n (2 ^ piece.order) f) (in_pieces count without f) is) [
        | inl its ↦ in_pieces_of count with f n h.low (rw h.here its)
        | inr left ↦
            let found = piece_of count without f left in
            in_pieces_of count with f found.0 found.1 (left_is f found.0 found.2).1
      ]

  -- and none of the piece is among what is left
  pub alone : (f : ℕ) → lies_within n (2 ^ piece.order) f ≡ true → in_pieces count without f ≡ false
  alone f its = false_from_ne_true (in_pieces count without f) (λ left.
      let found = piece_of count without f left in
      let was = left_is f found.0 found.2 in
      was.0 (h.apart f found.0 n found.1 h.low was.1 (rw h.here its)))

-- the tests of a frame after a piece came back, and after one was handed out
taken_out : (g p u v : Bool) → p ≡ true → u ≡ (g || v) → (g ≡ true → v ≡ false) → v ≡ (not (p && g) && u)
taken_out g false u v is e k = absurd (cc)
taken_out true true u v is e k = k refl
taken_out false true u v is e k = sym e

put_in : (g p u v : Bool) → p ≡ true → u ≡ (g || v) → u ≡ ((p && g) || v)
put_in g false u v is e = absurd (cc)
put_in g true u v is e = e

no_event : {A : Type 0} → false ≡ true → A
no_event e = absurd (cc)

-- ---- a piece comes back

pub free_leads : (m : MachineSize) (count n : ℕ) (piece : Piece) (with without : ℕ → Option Piece)
    (phase : ℕ → BlockPhase) → AreWithout count n piece with without → is_piece m n piece.order ≡ true
    → Leads m (in_pieces count with) phase (Free n piece.order) (in_pieces count without) phase
free_leads m count n piece with without phase h is = record {
  well_formed = is;
  free = λ f e. no_event e;
  present = λ f e. no_event e;
  normal = λ f e. no_event e;
  in_use =
      λ f e. with_piece count n piece with without h f
      ∙ or_left (lies_within n _ f) (in_pieces count without f)
      (and_parts (is_piece m n piece.order) (lies_within n _ f) e).1;
  empty = λ f e. no_event e;
  used_is =
      λ f. taken_out _ _ _ _ is (with_piece count n piece with without h f)
      (alone count n piece with without h f);
  turn = λ b e. no_event e;
  same = λ b e. refl;
}

-- ---- a piece is handed out

-- the blocks of its frames are not offline, and of zone Normal if it cannot move
pub record IsAtHome (m : MachineSize) (phase : ℕ → BlockPhase) (n : ℕ) (piece : Piece) : Type 0 where
  pub present : (f : ℕ) → lies_within n (2 ^ piece.order) f ≡ true → is_offline (phase (block_of m f)) ≡ false
  pub normal : (f : ℕ) → piece.movable ≡ false → lies_within n (2 ^ piece.order) f ≡ true
      → is_normal (phase (block_of m f)) ≡ true

pub alloc_leads : (m : MachineSize) (count n : ℕ) (piece : Piece) (with without : ℕ → Option Piece)
    (phase : ℕ → BlockPhase) → AreWithout count n piece with without → is_piece m n piece.order ≡ true
    → IsAtHome m phase n piece
    → Leads m (in_pieces count without) phase (Alloc n piece.order piece.movable) (in_pieces count with) phase
alloc_leads m count n piece with without phase h is home = record {
  well_formed = is;
  free = λ f e. alone count n piece with without h f (its f e);
  present = λ f e. home.present f (its f e);
  normal =
      λ f e. (let parts = and_parts (not piece.movable) (is_piece m n piece.order && lies_within n _ f) e in
      home.normal f (not-true piece.movable parts.0) (its f parts.1));
  in_use = λ f e. no_event e;
  empty = λ f e. no_event e;
  used_is =
      λ f. put_in _ _ _
      _ is (with_piece count n piece with without h f);
  turn = λ b e. no_event e;
  same = λ b e. refl;
}
  where
    its : (f : ℕ) → (is_piece m n piece.order && lies_within n (2 ^ piece.order) f) ≡ true
        → lies_within n (2 ^ piece.order) f ≡ true
    its f e = (and_parts (is_piece m n piece.order) (lies_within n _ f) e).1

-- ---- all pieces that do not stay, one after another

-- a piece, if it stays
abbrev pub kept : Bool → Option Piece → Option Piece
kept true piece = piece
kept false piece = None

pub kept_none : (t : Bool) → kept t None ≡ None
kept_none true = refl
kept_none false = refl

-- a part of pieces that are apart
pub part_apart : (count : ℕ) (pieces part : ℕ → Option Piece)
    → ((f k : ℕ) → is_frame_of f k (part k) ≡ true → is_frame_of f k (pieces k) ≡ true)
    → AreApart count pieces → AreApart count part
part_apart count pieces part within apart f a b low lower at there =
    apart f a b low lower (within f a at) (within f b there)

-- what is kept of a piece is of it
pub kept_of : (f k : ℕ) (t : Bool) (piece : Option Piece) → is_frame_of f k (kept t piece) ≡ true
    → is_frame_of f k piece ≡ true
kept_of f k true piece is = is
kept_of f k false piece is = absurd (cc)

-- what pieces and phases show
abbrev pub shown_with : ℕ → (ℕ → Option Piece) → (ℕ → BlockPhase) → Shown
shown_with count pieces phase = as_shown (in_pieces count pieces) phase

pub same_shown : (count : ℕ) (pieces others : ℕ → Option Piece) (phase : ℕ → BlockPhase)
    → ((k : ℕ) → k < count → pieces k ≡ others k)
    → shown_with count pieces phase ≡ shown_with count others phase
same_shown count pieces others phase same = rw (in_pieces-same count pieces others same)

-- the pieces that stay
abbrev pub staying : (ℕ → Bool) → (ℕ → Option Piece) → ℕ → Option Piece
staying stays pieces k = kept (stays k) (pieces k)

-- where a piece stays, or there is none, nothing changes
unchanged : (stays : ℕ → Bool) (pieces : ℕ → Option Piece) (n k : ℕ)
    → (staying stays pieces n ≡ pieces n)
    → (upto n (staying stays pieces) pieces k ≡ upto (n + 1) (staying stays pieces) pieces k)
    × (upto n pieces (staying stays pieces) k ≡ upto (n + 1) pieces (staying stays pieces) k)
unchanged stays pieces n k e = elim (cases_eq k n) [
  | inl same ↦
      let here : staying stays pieces k ≡ pieces k =
      rw same e in (
        upto-above n (staying stays pieces) pieces k (omega arith) ∙ sym here
            ∙ sym (upto-below (n + 1) (staying stays pieces) pieces k (omega arith)),
        upto-above n pieces (staying stays pieces) k (omega arith) ∙ here
            ∙ sym (upto-below (n + 1) pieces (staying stays pieces) k (omega arith)),
      )
  | inr other ↦ (
    sym (upto-other n (staying stays pieces) pieces k other),
    sym (upto-other n pieces (staying stays pieces) k other),
  )
]

module _ (m : MachineSize) (count : ℕ) (stays : ℕ → Bool) (pieces : ℕ → Option Piece) (phase : ℕ → BlockPhase)
    (apart : AreApart count pieces)
    (formed : (n : ℕ) (piece : Piece) → n < count → pieces n ≡ Some piece
    → is_piece m n piece.order ≡ true) where
  -- a frame of a piece that is left is of the piece that was there
  freed_within : (n f k : ℕ) → is_frame_of f k (upto n (staying stays pieces) pieces k) ≡ true
      → is_frame_of f k (pieces k) ≡ true
  freed_within n f k is = elim (cases_lt k n) [
    | inl low ↦
        kept_of f k (stays k) (pieces k) (subst (λ (p : Option Piece). is_frame_of f k p ≡ true)
        (upto-below n (staying stays pieces) pieces k low) is)
    | inr high ↦
        subst (λ (p : Option Piece). is_frame_of f k p ≡ true)
        (upto-above n (staying stays pieces) pieces k high) is
  ]

  taken_within : (n f k : ℕ) → is_frame_of f k (upto n pieces (staying stays pieces) k) ≡ true
      → is_frame_of f k (pieces k) ≡ true
  taken_within n f k is = elim (cases_lt k n) [
    | inl low ↦
        subst (λ (p : Option Piece). is_frame_of f k p ≡ true)
        (upto-below n pieces (staying stays pieces) k low) is
    | inr high ↦
        kept_of f k (stays k) (pieces k) (subst (λ (p : Option Piece). is_frame_of f k p ≡ true)
        (upto-above n pieces (staying stays pieces) k high) is)
  ]

  -- the pieces that start below a number come back, but for those that stay
  pub frees_lead : (n : ℕ) → n < count
      → EventsLead m (shown_with count (upto n (staying stays pieces) pieces) phase)
      (cond (stays n) [] (free_events n (pieces n)))
      (shown_with count (upto (n + 1) (staying stays pieces) pieces) phase)
  frees_lead n low = by_piece (stays n) refl (pieces n) refl
    where
      same : staying stays pieces n ≡ pieces n → shown_with count (upto n (staying stays pieces) pieces) phase
          ≡ shown_with count (upto (n + 1) (staying stays pieces) pieces) phase
      same e =
          same_shown count (upto n (staying stays pieces) pieces) (upto (n + 1) (staying stays pieces) pieces)
          phase (λ k below. (unchanged stays pieces n k e).0)

      by_piece : (t : Bool) → stays n ≡ t → (p : Option Piece) → pieces n ≡ p
          → EventsLead m (shown_with count (upto n (staying stays pieces) pieces) phase)
          (cond t [] (free_events n p)) (shown_with count (upto (n + 1) (staying stays pieces) pieces) phase)
      by_piece true is p e = same (rw is)
      by_piece false is None e = same (rw (e, kept_none _, ← e))
      by_piece false is (Some piece) e =
          let without : AreWithout count n piece (upto n (staying stays pieces) pieces)
          (upto (n + 1) (staying stays pieces) pieces) = record {
            low = low;
            here = upto-above n (staying stays pieces) pieces n (omega arith) ∙ e;
            gone = rw (upto-below (n + 1) (staying stays pieces) pieces n (omega arith), is);
            others = λ k ne. upto-other n (staying stays pieces) pieces k ne;
            apart =
                part_apart count pieces _
                (freed_within n) apart;
          } in (
            shown_with count (upto (n + 1) (staying stays pieces) pieces) phase,
            free_leads m count n piece _
                _ phase without (formed n piece low e),
            refl,
          )

  -- and are handed out
  pub allocs_lead : ((n : ℕ) (piece : Piece) → n < count → pieces n ≡ Some piece → IsAtHome m phase n piece)
      → (n : ℕ) → n < count
      → EventsLead m (shown_with count (upto n pieces (staying stays pieces)) phase)
      (cond (stays n) [] (alloc_events n (pieces n)))
      (shown_with count (upto (n + 1) pieces (staying stays pieces)) phase)
  allocs_lead home n low = by_piece _ refl (pieces n) refl
    where
      same : staying stays pieces n ≡ pieces n → shown_with count (upto n pieces (staying stays pieces)) phase
          ≡ shown_with count (upto (n + 1) pieces (staying stays pieces)) phase
      same e = same_shown count _ _ phase (λ k below. (unchanged stays pieces n k e).1)

      by_piece : (t : Bool) → stays n ≡ t → (p : Option Piece) → pieces n ≡ p
          → EventsLead m (shown_with count (upto n pieces (staying stays pieces)) phase)
          (cond t [] (alloc_events n p)) (shown_with count (upto (n + 1) pieces (staying stays pieces)) phase)
      by_piece true is p e = same (rw is)
      by_piece false is None e = same (rw (e, kept_none _, ← e))
      by_piece false is (Some piece) e =
          let without : AreWithout count n piece (upto (n + 1) pieces (staying stays pieces))
          (upto n pieces (staying stays pieces)) = record {
            low = low;
            here = upto-below (n + 1) pieces (staying stays pieces) n (omega arith) ∙ e;
            gone = rw (upto-above n pieces (staying stays pieces) n (omega arith), is);
            others = λ k ne. sym (upto-other n pieces (staying stays pieces) k ne);
            apart =
                part_apart count pieces _
                (λ f k at. taken_within (n + 1) f k at) apart;
          } in (
            shown_with count (upto (n + 1) pieces (staying stays pieces)) phase,
            alloc_leads m count n piece _ _ phase without (formed n piece low e)
                (home n piece low e),
            refl,
          )
