-- A step that leaves the state as it is writes nothing.
use Rattle.std.proofs.Common.{◌≡◌, ℕ, zero, suc, ◌+◌, Bool, true, false, not, cond, ◌==◌, if◌then◌else◌, List, [], ◌++◌, flat_map, Option, Some, None, refl, ◌∙◌, ap, ap₂}
use Rattle.std.specs.List.{list_any, range_with_len}
use Rattle.std.proofs.lemmas.Bool.{and_from, eq-eqb, both_ways, cond_both}
use Rattle.hp_units.specs.Arithmetic.{block_of}
use Rattle.hp_units.specs.LayoutParts.{LayoutParts}
use Rattle.hp_units.specs.Memory.{Memory, row_of}
use Rattle.hp_judge.specs.Events.{leaves_offline}
use Rattle.hp_judge.specs.Logs.{allocs_at, block_events, frees_at, stays, step_log, with_move}
use Rattle.hp_judge.specs.LawfulNames.{LogEvent, NormalZone}
use Rattle.hp_judge.specs.Phases.{BlockPhase, Offline, GoingOnline, Online, GoingOffline, phase_events, phase_of}
use Rattle.hp_judge.specs.Pieces.{Piece, piece_at, same_piece}

-- a block stays in its phase
phase_same : (b : ℕ) (p : BlockPhase) → phase_events b p p ≡ []
phase_same b Offline = refl
phase_same b (GoingOnline NormalZone) = refl
phase_same b (Online NormalZone) = refl
phase_same b (GoingOffline NormalZone) = refl
phase_same b _ = refl

-- a piece is the same as itself
piece_same : (p : Piece) → same_piece (Some p) (Some p) ≡ true
piece_same p =
    and_from (p.order == p.order) (if p.movable then p.movable else not p.movable)
    (eq-eqb p.order p.order refl) (both p.movable)
  where
    both : (t : Bool) → cond t t (not t) ≡ true
    both true = refl
    both false = refl

-- what is empty for each number is empty for a range
range_none : (f : ℕ → List LogEvent) (start count : ℕ) → ((n : ℕ) → f n ≡ [])
    → flat_map f (range_with_len start count) ≡ []
range_none f start zero none = refl
range_none f start (suc count) none =
    ap₂ (λ (xs ys : List LogEvent). xs ++ ys) (none start) (range_none f (start + 1) count none)

module _ (l : LayoutParts) (s : Memory) where
  block_none : (b : ℕ) → block_events s s b ≡ []
  block_none b = phase_same b (phase_of (row_of s.blocks b))

  stays_same : (n : ℕ) (p : Piece) → piece_at s n ≡ Some p → stays l s s n ≡ true
  stays_same n p e =
      and_from (same_piece (piece_at s n) (piece_at s n))
      (not (list_any leaves_offline (block_events s s (block_of l n))))
      (ap (λ (o : Option Piece). same_piece o o) e ∙ piece_same p)
      (ap (λ (es : List LogEvent). not (list_any leaves_offline es)) (block_none (block_of l n)))

  -- where a piece does not stay there is none
  none_gone : (n : ℕ) → stays l s s n ≡ false → piece_at s n ≡ None
  none_gone n not = by_piece (piece_at s n) refl
    where
      by_piece : (o : Option Piece) → piece_at s n ≡ o → piece_at s n ≡ None
      by_piece None e = e
      by_piece (Some p) e = absurd (both_ways (stays l s s n) not (stays_same n p e))

  frees_none : (n : ℕ) → frees_at l s s n ≡ []
  frees_none n = cond_both (stays l s s n) _ _ (λ es. es ≡ []) (λ stay. refl) (λ not. rw (none_gone n not))

  allocs_none : (n : ℕ) → allocs_at l s s n ≡ []
  allocs_none n = cond_both (stays l s s n) _ _ (λ es. es ≡ []) (λ stay. refl) (λ not. rw (none_gone n not))

  pub step_none : step_log l s s ≡ []
  step_none =
      ap (λ (xs : List LogEvent). with_move s s xs)
      (ap₂ (λ (xs ys : List LogEvent). xs ++ ys) (range_none _ 0 _ frees_none)
      (ap₂ (λ (xs ys : List LogEvent). xs ++ ys) (range_none _ 0 _ block_none)
      (range_none _ 0 _ allocs_none)))
