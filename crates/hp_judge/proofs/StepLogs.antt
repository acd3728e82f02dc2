-- The log of a step leads from what the state before it shows to what the state after it shows.
use Rattle.std.proofs.Common.{◌≡◌, ℕ, ◌+◌, ◌≤◌, Bool, true, false, not, cond, ◌==◌, if◌then◌else◌, List, ◌++◌, flat_map, Option, Some, None, refl, sym, ◌∙◌, ap, ap₂, subst, arith, inl, inr}
use Rattle.std.specs.List.{list_any}
use Rattle.std.proofs.lemmas.Bool.{both_ways, cases_lt, and_parts, eqb-true, false_from_ne_true, not-true, cases_Bool}
use Rattle.std.proofs.lemmas.List.{get_or_past}
use mathlib.Core.Path.{fun_ext}
use Rattle.hp_units.specs.Arithmetic.{all_blocks, all_frames, block_of, frame_count}
use Rattle.hp_units.specs.LayoutParts.{IsLayout, LayoutParts}
use Rattle.hp_units.specs.Memory.{Memory, offline_row, row_of}
use Rattle.hp_units.specs.Placement.{IsWellPlaced}
use Rattle.hp_judge.specs.Events.{block_of as log_block_of, leaves_offline}
use Rattle.hp_judge.specs.Logs.{IsSizeOf, allocs_at, block_events, changes, frees_at, stays, step_log}
use Rattle.hp_judge.specs.LawfulNames.{LogEvent, MachineSize, Row}
use Rattle.hp_judge.specs.Phases.{BlockPhase, phase_of}
use Rattle.hp_judge.specs.Pieces.{Piece, is_frame_of, piece_at, same_piece}
use Rattle.hp_judge.specs.Reading.{Shown, shown}
use Rattle.hp_judge.proofs.LawfulMoves.{move_leads}
use Rattle.hp_judge.proofs.Sequences.{EventsLead, as_shown, lead-append, lead-range}
use Rattle.hp_judge.proofs.PieceEvents.{allocs_lead, frees_lead, in_pieces, kept, shown_with, piece_of, same_shown, staying, upto, upto-above, upto-below, upto-other}
use Rattle.hp_judge.proofs.PhasePaths.{take_phase, turns_lead}
use Rattle.hp_judge.proofs.StatePieces.{of_some, piece_formed, piece_home, piece_lies, pieces_apart, same_block}

-- the phases of a state's memory blocks
abbrev pub phases : Memory → ℕ → BlockPhase
phases s b = phase_of (row_of s.blocks b)

-- pieces that are the same are one
same_piece-is : (a b : Option Piece) → same_piece a b ≡ true → a ≡ b
same_piece-is None b is = absurd cc
same_piece-is (Some a) None is = absurd cc
same_piece-is (Some a) (Some b) is =
    let parts = and_parts (a.order == b.order) (if a.movable then b.movable else not b.movable) is in
    ap₂ (λ (o : ℕ) (t : Bool). Some (of_parts o t)) (eqb-true a.order b.order parts.0) (same_bool _ _ parts.1)
  where
    of_parts : ℕ → Bool → Piece
    of_parts o t = record { order = o; movable = t }

    same_bool : (s t : Bool) → cond s t (not t) ≡ true → s ≡ t
    same_bool true true e = refl
    same_bool false false e = refl
    same_bool _ _ e = cc

-- between what is equal
lead_between : (m : MachineSize) (p p' q q' : Shown) (xs : List LogEvent) → p' ≡ p → q' ≡ q
    → EventsLead m p' xs q' → EventsLead m p xs q
lead_between m p p' q q' xs e f h = rw (← e) (subst (λ (x : Shown). EventsLead m p' xs x) f h)

module _ (l : LayoutParts) (m : MachineSize) (before after : Memory) (layout : IsLayout l)
    (size : IsSizeOf l m) (p : IsWellPlaced l before) (q : IsWellPlaced l after) where
  -- ---- the frees

  frees_part : EventsLead m (shown l before) (flat_map (frees_at l before after) (all_frames l))
      (shown_with (frame_count l) (staying (stays l before after) (piece_at before)) (phases before))
  frees_part =
      let count : ℕ = frame_count l in
      let pieces : ℕ → Option Piece = piece_at before in
      let left : ℕ → Option Piece = staying (stays l before after) pieces in
      lead_between m (shown l before) (shown_with count (upto 0 left pieces) (phases before))
      (shown_with count left (phases before))
      (shown_with count (upto (0 + count) left pieces) (phases before))
      (flat_map (frees_at l before after) (all_frames l))
      (same_shown count (upto 0 left pieces) pieces (phases before)
      (λ k low. upto-above 0 left pieces k (omega arith)))
      (same_shown count (upto (0 + count) left pieces) left (phases before)
      (λ k low. upto-below (0 + count) left pieces k (omega arith)))
      (lead-range m (λ n. shown_with count (upto n left pieces) (phases before))
      (frees_at l before after) 0 count
      (λ n low. frees_lead m count (stays l before after) pieces (phases before)
      (pieces_apart l before layout p)
      (λ k piece below is. piece_formed l m before k piece layout size p is) n (omega arith)))

  -- ---- the events of memory blocks

  -- no frame of a piece that stays is in a block that goes offline
  stays_empty : (n f : ℕ) → log_block_of m f ≡ n
      → list_any leaves_offline (block_events before after n) ≡ true
      → in_pieces (frame_count l) (staying (stays l before after) (piece_at before)) f ≡ false
  stays_empty n f of goes =
      false_from_ne_true (in_pieces (frame_count l) (staying (stays l before after) (piece_at before)) f)
      (λ is.
      let found = piece_of (frame_count l) (staying (stays l before after) (piece_at before)) f is in
      by_piece found.0 (stays l before after found.0) refl found.2)
    where
      by_piece : (first : ℕ) (t : Bool) → stays l before after first ≡ t
          → is_frame_of f first (kept t (piece_at before first)) ≡ true → ⊥
      by_piece first false e is = absurd (cc)
      by_piece first true e is =
          let some = of_some f first _ is in
          let lies = piece_lies l before first some.0 layout p some.1 in
          let same : block_of l first ≡ n = sym (lies.inside f some.2) ∙ sym (same_block l m f size) ∙ of in
          let parts =
          and_parts (same_piece (piece_at before first) (piece_at after first))
          (not (list_any leaves_offline (block_events before after (block_of l first)))) e in
          both_ways (list_any leaves_offline (block_events before after n))
          (not-true (list_any leaves_offline (block_events before after n)) (rw (← same) parts.1)) goes

  -- a block beyond the layout has no row
  beyond : (s : Memory) → IsWellPlaced l s → (k : ℕ) → l.blocks ≤ k → phases s k ≡ phase_of offline_row
  beyond s placed k high =
      ap (λ (r : Row). phase_of r)
      (get_or_past s.blocks.rows k offline_row (omega (arith, placed.in_order.shape.rows)))

  blocks_part : EventsLead m
      (shown_with (frame_count l) (staying (stays l before after) (piece_at before)) (phases before))
      (flat_map (block_events before after) (all_blocks l))
      (shown_with (frame_count l) (staying (stays l before after) (piece_at before)) (phases after))
  blocks_part =
      let used : ℕ → Bool = in_pieces (frame_count l) (staying (stays l before after) (piece_at before)) in
      lead_between m (as_shown used (phases before))
      (as_shown used (upto 0 (phases after) (phases before)))
      (as_shown used (phases after)) (as_shown used (upto (0 + l.blocks) (phases after) (phases before)))
      (flat_map (block_events before after) (all_blocks l))
      (ap (λ (x : ℕ → BlockPhase). as_shown used x)
      (fun_ext (λ k. upto-above 0 (phases after) (phases before) k (omega arith)))) (rw (fun_ext all))
      (lead-range m (λ n. as_shown used (upto n (phases after) (phases before))) (block_events before after) 0
      l.blocks
      (λ n low. turns_lead m n used (block_events before after n) (phases before n) (phases after n)
      (upto n (phases after) (phases before)) (upto (n + 1) (phases after) (phases before))
      (take_phase n (phases before n) (phases after n))
      (upto-above n (phases after) (phases before) n (omega arith))
      (upto-below (n + 1) (phases after) (phases before) n (omega arith))
      (λ k ne. upto-other n (phases after) (phases before) k ne) (omega (arith, size.blocks))
      (stays_empty n)))
    where
      all : (k : ℕ) → upto (0 + l.blocks) (phases after) (phases before) k ≡ phases after k
      all k = elim (cases_lt k l.blocks) [
        | inl low ↦ upto-below (0 + l.blocks) (phases after) (phases before) k (omega arith)
        | inr high ↦
            upto-above (0 + l.blocks) (phases after) (phases before) k (omega arith)
            ∙ beyond before p k high ∙ sym (beyond after q k high)
      ]

  -- ---- the allocs

  -- a piece that stays is the same in both states
  same_left : (k : ℕ) → staying (stays l before after) (piece_at after) k
      ≡ staying (stays l before after) (piece_at before) k
  same_left k = elim (cases_Bool (stays l before after k)) [
    | inl e ↦
        rw (
          e,
          same_piece-is (piece_at before k) (piece_at after k)
              (and_parts (same_piece (piece_at before k) (piece_at after k)) _ e).0,
        )
    | inr e ↦ rw e
  ]

  allocs_part : EventsLead m
      (shown_with (frame_count l) (staying (stays l before after) (piece_at before)) (phases after))
      (flat_map (allocs_at l before after) (all_frames l)) (shown l after)
  allocs_part =
      let count : ℕ = frame_count l in
      let pieces : ℕ → Option Piece = piece_at after in
      let left : ℕ → Option Piece = staying (stays l before after) pieces in
      lead_between m (shown_with count (staying (stays l before after) (piece_at before)) (phases after))
      (shown_with count (upto 0 pieces left) (phases after)) (shown l after)
      (shown_with count (upto (0 + count) pieces left) (phases after))
      (flat_map (allocs_at l before after) (all_frames l))
      (same_shown count (upto 0 pieces left) (staying (stays l before after) (piece_at before)) (phases after)
      (λ k low. upto-above 0 pieces left k (omega arith) ∙ same_left k)) (same_shown count _ pieces _
      (λ k low. upto-below (0 + count) pieces left k (omega arith)))
      (lead-range m (λ n. shown_with count (upto n pieces left) (phases after))
      (allocs_at l before after) 0 count
      (λ n low. allocs_lead m count (stays l before after) pieces (phases after)
      (pieces_apart l after layout q)
      (λ k piece below is. piece_formed l m after k piece layout size q is)
      (λ k piece below is. piece_home l m after k piece layout size q is) n (omega arith)))

  -- ---- the step

  changes_lead : EventsLead m (shown l before) (changes l before after) (shown l after)
  changes_lead =
      let count : ℕ = frame_count l in
      let left : ℕ → Option Piece = staying (stays l before after) (piece_at before) in
      lead-append m (shown l before) (shown_with count left (phases before)) (shown l after)
      (flat_map (frees_at l before after) (all_frames l))
      (flat_map (block_events before after) (all_blocks l)
      ++ flat_map (allocs_at l before after) (all_frames l)) frees_part
      (lead-append m (shown_with count left (phases before)) (shown_with count left (phases after))
      (shown l after) (flat_map (block_events before after) (all_blocks l))
      (flat_map (allocs_at l before after) (all_frames l)) blocks_part allocs_part)

  pub step_leads : EventsLead m (shown l before) (step_log l before after) (shown l after)
  step_leads =
      move_leads m before after (shown l before) (shown l after) (changes l before after) changes_lead
