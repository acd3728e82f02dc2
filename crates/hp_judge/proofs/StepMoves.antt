-- The move that a log is.
use Rattle.std.proofs.Common.{◌≡◌, ℕ, suc, ◌<◌, ◌≤◌, ◌==◌, Bool, false, if◌then◌else◌, List, [], ◌∷◌, length, get_or, Option, Some, None, sym, ap₂, arith}
use Rattle.std.specs.Option.{option_map_or}
use Rattle.std.proofs.lemmas.Bool.Decides.{nat_tests}
use Rattle.hp_units.specs.LayoutParts.{LayoutParts}
use Rattle.hp_units.specs.Memory.{Memory}
use Rattle.hp_units.specs.Pages.{page_at}
use Rattle.hp_judge.specs.Logs.{with_move}
use Rattle.hp_judge.specs.LawfulNames.{LogEvent}
use Rattle.hp_judge.specs.Snapshots.{Shows, SnapshotValue, holder_at, page_in}
use Rattle.hp_judge.specs.StepLogs.{movable_alloc, page_move, single_free}
use Rattle.hp_judge.proofs.StepShown.{page-shown}

abbrev pub or_log : List LogEvent → Option LogEvent → List LogEvent
or_log log event = option_map_or (λ e. e ∷ []) event log

-- what two events may make
abbrev pub pair_move : (s t : Memory) → Option ℕ → Option ℕ → Option LogEvent
pair_move s t None to = None
pair_move s t (Some from) None = None
pair_move s t (Some from) (Some to) = page_move (page_at s.pages from) (page_at t.pages to) from to

chosen : (b : Bool) (event : LogEvent) (log : List LogEvent)
    → (if b then event ∷ [] else log) ≡ or_log log (if b then Some event else None)
chosen b event log = grind arith

more_than_none : (n : ℕ) → (suc n == 0) ≡ false
more_than_none n = grind (arith, nat_tests)

pub pair_moves : (s t : Memory) (first second : LogEvent)
    → with_move s t (first ∷ second ∷ [])
    ≡ or_log (first ∷ second ∷ []) (pair_move s t (single_free first) (movable_alloc second))
pair_moves s t first second = grind (arith, more_than_none, chosen)

-- two events
pub pair_is : (log : List LogEvent) (first second : LogEvent) → 2 ≤ length log → length log < 3
    → first ≡ get_or log 0 first → second ≡ get_or log 1 second → log ≡ first ∷ second ∷ []
pair_is (x ∷ y ∷ []) first second low high a b = ap₂ (λ (e f : LogEvent). e ∷ f ∷ []) (sym a) (sym b)
pair_is _ first second low high a b = absurd (omega arith)

-- of which a move is made, if their page is the same
pub found : (l : LayoutParts) (s t : Memory) (before after : SnapshotValue) (log : List LogEvent)
    (first second : LogEvent) (from to : ℕ) (event : Option LogEvent)
    → Shows l s before → Shows l t after → log ≡ first ∷ second ∷ []
    → single_free first ≡ Some from → movable_alloc second ≡ Some to
    → event ≡ page_move (page_in (holder_at before from)) (page_in (holder_at after to)) from to
    → with_move s t log ≡ or_log log event
found l s t before after log first second from to event p q pair freed handed is =
    grind (arith, pair_moves, page-shown)
