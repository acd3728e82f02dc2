-- A frame is in use, as a log shows it, exactly if a page or a block of the kernel has it.
use Rattle.std.proofs.Common.{◌≡◌, ℕ, suc, ◌+◌, ◌^◌, ◌<◌, Bool, true, false, cond, List, [], ◌∷◌, get_or, Option, Some, None, is_some, refl, sym, ap, ap₂, subst, arith, inl, inr}
use Rattle.std.specs.List.{count_by, enumerate_from}
use Rattle.std.specs.Option.{option_map_or}
use Rattle.std.proofs.lemmas.Bool.{both_ways, cases_lt, false_from_ne_true, cases_Bool}
use Rattle.std.proofs.lemmas.List.{get_or_past}
use Rattle.std.proofs.lemmas.Nat.{pow_pos}
use Rattle.std.proofs.lemmas.List.Sums.{sum_by-cons}
use Rattle.hp_units.specs.Arithmetic.{frame_count}
use Rattle.hp_units.specs.LayoutParts.{IsLayout, LayoutParts}
use Rattle.hp_units.specs.Memory.{Memory, kernel_order}
use Rattle.hp_units.specs.Pages.{page_at}
use Rattle.hp_units.specs.Placement.{IsWellPlaced, covers, kernel_places, mapped_places}
use Rattle.hp_units.proofs.KernelBlockFrames.{kernel_covered}
use Rattle.hp_laws.proofs.OfflineCommit.{none_mapped}
use Rattle.hp_judge.proofs.Pieces.{within_from}
use Rattle.hp_judge.specs.Pieces.{Piece, is_frame_of, kernel_piece, page_piece, piece_at, piece_by}
use Rattle.hp_judge.specs.Reading.{in_use}
use Rattle.hp_judge.proofs.PieceEvents.{in_pieces_of, piece_of}
use Rattle.hp_judge.proofs.StatePieces.{of_some, piece_lies, piece_places}

-- no kernel's block has the frame
no_kernel : (frame n : ℕ) (entries : List (Option ℕ))
    → ((i : ℕ) → kernel_covered frame (n + i) (get_or entries i None) ≡ 0)
    → count_by (λ (entry : ℕ × Option ℕ). option_map_or (λ order. covers frame order entry.0) entry.1 false)
    (enumerate_from n entries) ≡ 0
no_kernel frame n [] none = refl
no_kernel frame n (entry ∷ entries) none =
    let start : n + 0 ≡ n = omega arith in
    let here : kernel_covered frame n entry ≡ 0 = rw (← start) (none 0) in
    let rest =
    no_kernel frame (n + 1) entries (λ i. (let next : n + suc i ≡ n + 1 + i = omega arith in
    rw (← next) (none (suc i)))) in
    omega (
      arith,
      here,
      rest,
      sum_by-cons (λ (e : ℕ × Option ℕ). kernel_covered frame e.0 e.1) (n, entry)
          (enumerate_from (n + 1) entries),
    )

module _ (l : LayoutParts) (s : Memory) (frame : ℕ) (layout : IsLayout l) (p : IsWellPlaced l s) where
  -- a frame of a piece is in such a place, and so in one
  used_once : in_use l s frame ≡ true → mapped_places s.pages frame + kernel_places s frame ≡ 1
  used_once is =
      let found = piece_of (frame_count l) (piece_at s) frame is in
      let some = of_some frame found.0 (piece_at s found.0) found.2 in
      omega (
        arith,
        p.once frame,
        piece_places l s found.0 some.0 frame p found.1 some.1 some.2,
      )

  -- a frame that no piece has starts none, and is in none of the kernel's
  none_at : (first : ℕ) → in_use l s frame ≡ false → first < frame_count l
      → is_frame_of frame first (piece_at s first) ≡ false
  none_at first is low =
      false_from_ne_true (is_frame_of frame first (piece_at s first))
      (λ e. both_ways (in_use l s frame) is (in_pieces_of (frame_count l) (piece_at s) frame first low e))

  unused_kernel : in_use l s frame ≡ false → kernel_places s frame ≡ 0
  unused_kernel is = no_kernel frame 0 s.kernel each
    where
      at : (first : ℕ) → first < frame_count l → (entry : Option ℕ) → kernel_order s first ≡ entry
          → kernel_covered frame first entry ≡ 0
      at first low None e = refl
      at first low (Some order) e =
          ap (λ (t : Bool). cond t 1 0)
          (subst (λ (o : Option ℕ). is_frame_of frame first (piece_by o (is_some (page_at s.pages first)))
          ≡ false) e (none_at first is low))

      each : (i : ℕ) → kernel_covered frame (0 + i) (get_or s.kernel i None) ≡ 0
      each i = elim (cases_lt i (frame_count l)) [
        | inl low ↦
            let start : i ≡ 0 + i = omega arith in
            rw (← start) (at i low (kernel_order s i) refl)
        | inr high ↦
            let past : get_or s.kernel i None ≡ None =
            get_or_past _ i None (omega (arith, p.in_order.shape.kernel)) in
            ap (λ (o : Option ℕ). kernel_covered frame (0 + i) o) past
      ]

  -- a frame that holds a page starts a piece, and is one of its frames
  starts : (o : Option ℕ) → kernel_order s frame ≡ o → is_some (page_at s.pages frame) ≡ true
      → (piece : Piece) × (piece_at s frame ≡ Some piece)
  starts None e held = (page_piece, ap₂ piece_by e held)
  starts (Some order) e held = (kernel_piece order, ap₂ piece_by e held)

  own : (piece : Piece) → piece_at s frame ≡ Some piece → is_frame_of frame frame (piece_at s frame) ≡ true
  own piece e =
      let some : 0 < 2 ^ piece.order = pow_pos piece.order in
      subst (λ (o : Option Piece). is_frame_of frame frame o ≡ true) (sym e)
      (within_from frame _ frame (omega arith) (omega arith))

  unused_pages : in_use l s frame ≡ false → mapped_places s.pages frame ≡ 0
  unused_pages is = by_page _ refl
    where
      by_page : (o : Option (ℕ × ℕ)) → page_at s.pages frame ≡ o → mapped_places s.pages frame ≡ 0
      by_page None e = none_mapped s frame e
      by_page (Some page) e =
          let some = starts (kernel_order s frame) refl (rw e) in
          absurd (both_ways (is_frame_of frame frame (piece_at s frame))
          (none_at frame is (piece_lies l s frame some.0 layout p some.1).low) (own some.0 some.1))

  pub shown_places : mapped_places s.pages frame + kernel_places s frame ≡ cond (in_use l s frame) 1 0
  shown_places = elim (cases_Bool (in_use l s frame)) [
    | inl is ↦ rw is (used_once is)
    | inr is ↦ rw is (omega (arith, unused_pages is, unused_kernel is))
  ]
