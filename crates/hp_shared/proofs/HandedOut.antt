-- The seats count what their seals handed out.
use Rattle.std.proofs.Common.{◌≡◌, ℕ, suc, ◌+◌, ◌≤◌, List, [], ◌∷◌, length, take, Option, Some, None, slice_get, refl, ap, sym, ◌∙◌, arith, inl, inr}
use Rattle.std.proofs.lemmas.List.Sums.{sum_by-append, sum_by-cons}
use Rattle.std.proofs.lemmas.Option.{slice_get_within}
use Rattle.hp_laws.proofs.Lists.{get_some}
use Rattle.hp_units.specs.LayoutParts.{LayoutParts}
use Rattle.hp_units.specs.declared.replies.CallFault.{CallFault}
use Rattle.hp_units.specs.declared.replies.CallFault.TheVariants.{HistoryFull, OutOfMemory}
use Rattle.hp_units.specs.declared.replies.Receipt.{Receipt}
use Rattle.hp_history.specs.Volumes.{records_in}
use Rattle.hp_history.specs.declared.volumes.Volume.{Volume}
use Rattle.hp_scenario.specs.Asked.{Meaning, asked_by}
use Rattle.hp_scenario.specs.declared.lines.Line.{Line}
use Rattle.hp_shared.specs.Closing.{handed_in}
use Rattle.hp_shared.specs.Shared.{SeatValue}
use Rattle.hp_shared.specs.SeatPorts.{AreTurns}
use Rattle.hp_shared.proofs.Comparisons.{same_item}
use Rattle.hp_shared.specs.declared.fault.RunFault.{RunFault}
use Rattle.hp_shared.specs.declared.lines.LineEnd.{LineEnd}
use Rattle.hp_shared.specs.declared.lines.LineEnd.TheVariants.{Fault as Faulted, Sealed}
use Rattle.hp_shared.specs.Lines.{AreLines, IsLine, IsSealRun, left_with}
use Rattle.hp_shared.specs.Seals.{joined}
use Rattle.hp_shared.specs.Workers.{AreWorkers}

turns_count : (l : LayoutParts) (gained : List Receipt) (old new : SeatValue) → AreTurns l old gained new
    → new.sealed ≡ old.sealed
turns_count l [] old new turns = rw turns
turns_count l (r ∷ rs) old new turns = turns_count l rs turns.0 new turns.2 ∙ turns.1.sealed

left_counts : (seat : SeatValue) (fault : Option CallFault) → (left_with seat fault).sealed ≡ seat.sealed
left_counts seat None = refl
left_counts seat (Some HistoryFull) = refl
left_counts seat (Some OutOfMemory) = refl

seal_counts : (l : LayoutParts) (old new : SeatValue) (handed : List Volume) (end : LineEnd)
    → IsSealRun l old handed end new → new.sealed ≡ old.sealed + records_in handed
seal_counts l old new handed (Faulted named) ran = rw (ran.2, ran.0) (omega arith)
seal_counts l old new handed (Sealed count) ran =
    rw (ran.4, ran.1) (omega (arith, sum_by-cons (λ (v : Volume). length v.records) ran.0 []))
seal_counts l old new handed _ ran = absurd ran

line_counts : (l : LayoutParts) (old new : SeatValue) (asked : Meaning) (handed : List Volume)
    (end : LineEnd)
    → IsLine l old asked handed end new → new.sealed ≡ old.sealed + records_in handed
line_counts l old new asked handed end (inl ran) =
    let run = ran.1 in
    rw (ran.0, run.left)
    (omega (arith, left_counts run.called run.fault, turns_count l run.gained old run.called run.turns))
line_counts l old new asked handed end (inr ran) = seal_counts l old new handed end ran.1

lines_count : (l : LayoutParts) (lines : List Line) (old new : SeatValue) (handed : List Volume)
    (ends : List LineEnd)
    → AreLines l old lines handed ends new → new.sealed ≡ old.sealed + records_in handed
lines_count l [] old new handed ends none = rw (none.2, none.0) (omega arith)
lines_count l (line ∷ lines) old new handed ends ran =
    omega (
      arith,
      line_counts l old ran.0 (asked_by line.work) ran.1 ran.2 ran.7.0,
      lines_count l lines ran.0 new ran.3 ran.4 ran.7.1,
      ap records_in ran.5,
      sum_by-append (λ (v : Volume). length v.records) ran.1 ran.3,
    )

-- seats, each of which counts what its own seals handed out, count all
counted_all : (news : List SeatValue) (lists : List (List Volume)) → length lists ≡ length news
    → ((place : ℕ) (seat : SeatValue) (handed : List Volume) → slice_get news place ≡ Some seat
    → slice_get lists place ≡ Some handed → seat.sealed ≡ records_in handed)
    → handed_in news ≡ records_in (joined lists)
counted_all [] [] same each = refl
counted_all [] (handed ∷ lists) same each = absurd (omega (arith, same))
counted_all (seat ∷ news) [] same each = absurd (omega (arith, same))
counted_all (seat ∷ news) (handed ∷ lists) same each =
    omega (
      arith,
      each 0 seat handed refl refl,
      counted_all news lists (omega (arith, same)) (λ place. each (suc place)),
      sum_by-cons (λ (s : SeatValue). s.sealed) seat news,
      sum_by-append (λ (v : Volume). length v.records) handed (joined lists),
    )

-- after a run of seats that had sealed nothing
pub workers_count : (l : LayoutParts) (olds : List SeatValue) (scripts : List (List Line))
    (news : List SeatValue) (volumes : List Volume) (lists : List (List LineEnd)) (fault : Option RunFault)
    → AreWorkers l olds scripts news volumes lists fault → length olds ≤ length scripts
    → ((place : ℕ) (seat : SeatValue) → slice_get olds place ≡ Some seat → seat.sealed ≡ 0)
    → handed_in news ≡ records_in volumes
workers_count l olds scripts news volumes lists fault workers within none =
    rw workers.all (counted_all news workers.handed (workers.outs ∙ sym workers.seats) each)
  where
    each : (place : ℕ) (seat : SeatValue) (handed : List Volume) → slice_get news place ≡ Some seat
        → slice_get workers.handed place ≡ Some handed → seat.sealed ≡ records_in handed
    each place seat handed here there =
        let inside = slice_get_within workers.handed place handed there in
        let old = get_some olds place (omega (arith, workers.outs, inside)) in
        let script = get_some scripts place (omega (arith, workers.outs, inside, within)) in
        let found = workers.each place old.0 script.0 old.1 script.1 in
        let same_seat = same_item (slice_get news place) found.new seat found.seat here in
        let same_out = same_item (slice_get workers.handed place) found.handed handed found.out there in
        let counted =
        lines_count l (take (length found.own) script.0) old.0 found.new found.handed found.own
        found.worker.worked.ran in
        rw (← same_out, ← same_seat) (omega (arith, counted, none place old.0 old.1))
