-- Seals: what one hands out, and how many volumes there can be.
use Rattle.std.proofs.Common.{◌≡◌, ℕ, ◌≤◌, List, [], ◌∷◌, ◌++◌, length, take, Option, refl, ap, arith, is_ok, if◌then◌else◌, Result, Ok, Err, inl, inr}
use Rattle.std.specs.Prelude.{IsOk}
use Rattle.std.proofs.lemmas.List.{length-append, take-take}
use Rattle.std.proofs.lemmas.List.Elements.{All-append, All-cons}
use Rattle.std.proofs.lemmas.List.Sums.{sum_by-cons, sum_by-take-le}
use Rattle.hp_units.specs.LayoutParts.{LayoutParts}
use Rattle.hp_history.specs.declared.volumes.Volume.{Volume}
use Rattle.hp_scenario.specs.Asked.{Meaning, asked_by, asks_seal, is_seal}
use Rattle.hp_scenario.specs.declared.lines.Line.{Line}
use Rattle.hp_shared.specs.Shared.{SeatValue}
use Rattle.hp_shared.specs.Volumes.{IsSealOf}
use Rattle.hp_shared.specs.declared.lines.LineEnd.{LineEnd}
use Rattle.hp_shared.specs.declared.lines.LineEnd.TheVariants.{Fault as Faulted, Sealed}
use Rattle.hp_shared.specs.declared.fault.RunFault.{RunFault}
use Rattle.hp_shared.specs.Lines.{AreLines, IsLine, IsSealRun}
use Rattle.hp_shared.specs.Seals.{AreSealed, one_if, seals_in, seals_in_all}
use Rattle.hp_shared.specs.Workers.{IsWorker}

-- ---- how many

handed_few : (l : LayoutParts) (old new : SeatValue) (handed : List Volume) (end : LineEnd)
    → IsSealRun l old handed end new → length handed ≤ 1
handed_few l old new handed (Faulted named) ran = omega (arith, ap length ran.0)
handed_few l old new handed (Sealed count) ran = omega (arith, ap length ran.1)
handed_few l old new handed _ ran = absurd ran

seal_few : (l : LayoutParts) (old new : SeatValue) (asked : Meaning) (handed : List Volume) (end : LineEnd)
    → IsLine l old asked handed end new → length handed ≤ one_if (asks_seal asked)
seal_few l old new asked handed end (inl ran) = omega (arith, ap length ran.0)
seal_few l old new asked handed end (inr ran) = rw ran.0 (handed_few l old new handed end ran.1)

lines_few : (l : LayoutParts) (lines : List Line) (old new : SeatValue) (handed : List Volume)
    (ends : List LineEnd)
    → AreLines l old lines handed ends new → length handed ≤ seals_in lines
lines_few l [] old new handed ends none = omega (arith, ap length none.0)
lines_few l (line ∷ lines) old new handed ends ran =
    omega (
      arith,
      seal_few l old ran.0 (asked_by line.work) ran.1 ran.2 ran.7.0,
      lines_few l lines ran.0 new ran.3 ran.4 ran.7.1,
      ap length ran.5,
      length-append ran.1 ran.3,
      sum_by-cons (λ (x : Line). one_if (is_seal x.work)) line lines,
    )

-- a worker hands out at most one volume for each line that seals
pub worker_few : (l : LayoutParts) (old : SeatValue) (lines : List Line) (new : SeatValue)
    (handed : List Volume) (ends : List LineEnd) (fault : Option RunFault)
    → IsWorker l old lines new handed ends fault → length handed ≤ seals_in lines
worker_few l old lines new handed ends fault worker =
    omega (
      arith,
      lines_few l (take (length ends) lines) old new handed ends worker.worked.ran,
      sum_by-take-le (λ (x : Line). one_if (is_seal x.work)) lines (length ends),
    )

-- ---- what they are

pub none_sealed : (l : LayoutParts) (handed : List Volume) → handed ≡ [] → AreSealed l handed
none_sealed l handed none = rw none (λ i d lt. absurd (omega (arith, lt)))

seal_seals : (l : LayoutParts) (old new : SeatValue) (handed : List Volume) (end : LineEnd)
    → IsSealRun l old handed end new → AreSealed l handed
seal_seals l old new handed (Faulted named) ran = none_sealed l handed ran.0
seal_seals l old new handed (Sealed count) ran =
    rw ran.1 (All-cons (λ (v : Volume). IsSealOf l v 0) ran.0 []
    (record { seen = ran.2.seen; shared = ran.2.shared; is = ran.2.is; within = omega arith })
    (none_sealed l [] refl))
seal_seals l old new handed _ ran = absurd ran

line_seals : (l : LayoutParts) (old new : SeatValue) (asked : Meaning) (handed : List Volume) (end : LineEnd)
    → IsLine l old asked handed end new → AreSealed l handed
line_seals l old new asked handed end (inl ran) = none_sealed l handed ran.0
line_seals l old new asked handed end (inr ran) = seal_seals l old new handed end ran.1

lines_seal : (l : LayoutParts) (lines : List Line) (old new : SeatValue) (handed : List Volume)
    (ends : List LineEnd)
    → AreLines l old lines handed ends new → AreSealed l handed
lines_seal l [] old new handed ends none = none_sealed l handed none.0
lines_seal l (line ∷ lines) old new handed ends ran =
    rw ran.5 (All-append (λ (v : Volume). IsSealOf l v 0) ran.1 ran.3
    (line_seals l old ran.0 (asked_by line.work) ran.1 ran.2 ran.7.0)
    (lines_seal l lines ran.0 new ran.3 ran.4 ran.7.1))

pub worker_seals : (l : LayoutParts) (old : SeatValue) (lines : List Line) (new : SeatValue)
    (handed : List Volume) (ends : List LineEnd) (fault : Option RunFault)
    → IsWorker l old lines new handed ends fault → AreSealed l handed
worker_seals l old lines new handed ends fault worker =
    lines_seal l (take (length ends) lines) old new handed ends worker.worked.ran

pub more_seals : (l : LayoutParts) (volumes earlier handed : List Volume) → volumes ≡ earlier ++ handed
    → AreSealed l earlier → AreSealed l handed → AreSealed l volumes
more_seals l volumes earlier handed is before own =
    rw is (All-append (λ (v : Volume). IsSealOf l v 0) earlier handed before own)

-- fewer scripts seal no more
pub fewer_seal_less : (scripts : List (List Line)) (i j : ℕ) → i ≤ j
    → seals_in_all (take i scripts) ≤ seals_in_all (take j scripts)
fewer_seal_less scripts i j le =
    omega (arith, sum_by-take-le seals_in (take j scripts) i, ap seals_in_all (take-take i j scripts le))

-- ---- room

-- a vector with room took the others
pub appended : {A E : Type 0} (r : Result A E) (new whole old : List Volume) → IsOk r
    → new ≡ (if is_ok r then whole else old) → new ≡ whole
appended (Ok x) new whole old ok is = is
appended (Err e) new whole old ok is = absurd cc
