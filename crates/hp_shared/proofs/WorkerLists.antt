-- One more worker.
use Rattle.std.specs.Prelude.{◌⊎◌}
use Rattle.std.proofs.Common.{inl, inr, ◌≡◌, ℕ, suc, ◌<◌, ◌≤◌, List, [], ◌∷◌, ◌++◌, length, take, Option, Some, None, slice_get, get_or, refl, ap, sym, ◌∙◌, arith}
use Rattle.std.proofs.lemmas.List.{append_assoc, append-nil, length-append}
use Rattle.std.proofs.lemmas.List.Sorted.{length_permutation}
use Rattle.std.proofs.lemmas.List.Sums.{sum_by-cons, sum_by-take-le}
use Rattle.std.proofs.lemmas.Option.{slice_get_read, slice_get_within}
use Rattle.std.specs.List.Sorted.{IsPermutation}
use Rattle.std.specs.Option.{option_or}
use Rattle.hp_units.specs.Choices.{first_some}
use Rattle.hp_units.specs.LayoutParts.{LayoutParts}
use Rattle.hp_laws.proofs.Lists.{get_end, get_left, get_push_cases, get_some}
use Rattle.hp_shared.specs.Shared.{SeatValue}
use Rattle.hp_shared.proofs.Comparisons.{same_item}
use Rattle.hp_shared.specs.declared.fault.RunFault.{RunFault}
use Rattle.hp_shared.specs.declared.lines.LineEnd.{LineEnd}
use Rattle.hp_scenario.specs.declared.lines.Line.{Line}
use Rattle.hp_history.specs.declared.volumes.Volume.{Volume}
use Rattle.hp_shared.specs.Seals.{AreInOrder, joined, seals_in, seals_in_all}
use Rattle.hp_shared.proofs.SealRuns.{more_seals, none_sealed, worker_few, worker_seals}
use Rattle.hp_shared.specs.Workers.{AreGathered, AreWorkers, HasWorker, IsStarted, IsWorker, IsWorkerAt}

-- the first of faults and of one more
first_more : (faults : List (Option RunFault)) (fault : Option RunFault)
    → first_some (faults ++ fault ∷ []) ≡ option_or (first_some faults) fault
first_more [] None = refl
first_more [] (Some f) = refl
first_more (None ∷ faults) fault = first_more faults fault
first_more (Some f ∷ faults) fault = refl

-- one more list at the end
joined_more : (lists : List (List Volume)) (handed : List Volume)
    → joined (lists ++ handed ∷ []) ≡ joined lists ++ handed
joined_more [] handed = append-nil handed
joined_more (list ∷ lists) handed =
    rw (joined_more lists handed) (sym (append_assoc list (joined lists) handed))

pub workers_more : (l : LayoutParts) (all seats : List SeatValue) (seat : SeatValue)
    (scripts : List (List Line)) (lines : List Line) (done news : List SeatValue) (new : SeatValue)
    (volumes earlier handed : List Volume) (all_ends ends : List (List LineEnd)) (own : List LineEnd)
    (was fault now : Option RunFault)
    → all ≡ seats ++ seat ∷ [] → slice_get scripts (length seats) ≡ Some lines → done ≡ news ++ new ∷ []
    → volumes ≡ earlier ++ handed → all_ends ≡ ends ++ own ∷ [] → now ≡ option_or was fault
    → AreWorkers l seats scripts news earlier ends was → IsWorker l seat lines new handed own fault
    → (length seats ≡ 0 → IsStarted fault)
    → AreWorkers l all scripts done volumes all_ends now
workers_more l all seats seat scripts lines done news new volumes earlier handed all_ends ends own was fault
    now all_is here done_is volumes_are ends_is now_is before worker begun =
    rw (all_is, done_is, ends_is) (record {
      handed = before.handed ++ handed ∷ [];
      faults = before.faults ++ fault ∷ [];
      seats = omega (arith, before.seats, length-append seats (seat ∷ []), length-append news (new ∷ []));
      outs =
          omega
          (arith, before.outs, length-append seats (seat ∷ []), length-append before.handed (handed ∷ []));
      ends = omega (arith, before.ends, length-append seats (seat ∷ []), length-append ends (own ∷ []));
      causes =
          omega
          (arith, before.causes, length-append seats (seat ∷ []), length-append before.faults (fault ∷ []));
      all = rw (volumes_are, before.all) (sym (joined_more before.handed handed));
      sealed =
          more_seals l volumes earlier handed volumes_are before.sealed
          (worker_seals l seat lines new handed own fault worker);
      first = rw (now_is, before.first) (sym (first_more before.faults fault));
      started = λ first is. elim (get_push_cases before.faults fault first 0 is) [
        | inl e ↦ before.started first e
        | inr e ↦ rw (← e.1) (begun (sym before.causes ∙ sym e.0))
      ];
      each =
          λ place s its there script. by_place place s its script (get_push_cases seats seat s place there);
    })
  where
    by_place : (place : ℕ) (s : SeatValue) (its : List Line) → slice_get scripts place ≡ Some its
        → (slice_get seats place ≡ Some s) ⊎ ((place ≡ length seats) × (seat ≡ s))
        → HasWorker l s its (news ++ new ∷ []) (before.handed ++ handed ∷ []) (ends ++ own ∷ [])
        (before.faults ++ fault ∷ []) place
    by_place place s its script (inl e) =
        let found = before.each place s its e script in
        record {
          new = found.new;
          handed = found.handed;
          own = found.own;
          fault = found.fault;
          seat =
              get_left news (new ∷ []) place (slice_get_within news place found.new found.seat) ∙ found.seat;
          out =
              get_left before.handed (handed ∷ []) place
              (slice_get_within before.handed place found.handed found.out) ∙ found.out;
          end = get_left ends (own ∷ []) place (slice_get_within ends place found.own found.end) ∙ found.end;
          why =
              get_left before.faults (fault ∷ []) place
              (slice_get_within before.faults place found.fault found.why) ∙ found.why;
          worker = found.worker;
        }
    by_place place s its script (inr e) =
        let same : lines ≡ its =
        same_item (slice_get scripts place) lines its (rw e.0 here) script in
        record {
          new = new;
          handed = handed;
          own = own;
          fault = fault;
          seat = rw (e.0, ← before.seats) (get_end news new);
          out = rw (e.0, ← before.outs) (get_end before.handed handed);
          end = rw (e.0, ← before.ends) (get_end ends own);
          why = rw (e.0, ← before.causes) (get_end before.faults fault);
          worker = rw (← e.1, ← same) worker;
        }

-- a worker of the script that was read
pub worker_at : (l : LayoutParts) (old : SeatValue) (scripts : List (List Line)) (place read : ℕ)
    (lines : List Line) (new : SeatValue) (handed : List Volume) (ends : List LineEnd)
    (fault : Option RunFault)
    → read ≡ place → place < length scripts → lines ≡ get_or scripts read lines
    → IsWorker l old lines new handed ends fault → IsWorkerAt l old scripts place new handed ends fault
worker_at l old scripts place read lines new handed ends fault same inside is worker = record {
  lines = lines;
  script = slice_get_read scripts (length scripts) place lines refl inside (rw same at is);
  worker = worker;
}

-- no worker
pub workers_none : (l : LayoutParts) (olds : List SeatValue) (scripts : List (List Line))
    (news : List SeatValue) (volumes : List Volume) (lists : List (List LineEnd)) (fault : Option RunFault)
    → olds ≡ [] → news ≡ [] → volumes ≡ [] → lists ≡ [] → fault ≡ None
    → AreWorkers l olds scripts news volumes lists fault
workers_none l olds scripts news volumes lists fault no_olds no_news none no_ends no_fault =
    rw (no_olds, no_news, none, no_ends, no_fault) (record {
      handed = [];
      faults = [];
      seats = refl;
      outs = refl;
      ends = refl;
      causes = refl;
      all = refl;
      sealed = none_sealed l [] refl;
      first = refl;
      started = λ first here. absurd cc;
      each = λ place seat lines here script. absurd cc;
    })

-- ---- how many volumes all hand out

-- lists that are each no longer than a script seals
lists_few : (lists : List (List Volume)) (scripts : List (List Line)) → length lists ≤ length scripts
    → ((place : ℕ) (handed : List Volume) (lines : List Line) → slice_get lists place ≡ Some handed
    → slice_get scripts place ≡ Some lines → length handed ≤ seals_in lines)
    → length (joined lists) ≤ seals_in_all (take (length lists) scripts)
lists_few [] scripts within each = omega arith
lists_few (handed ∷ lists) [] within each = absurd (omega (arith, within))
lists_few (handed ∷ lists) (lines ∷ scripts) within each =
    omega (
      arith,
      each 0 handed lines refl refl,
      lists_few lists scripts (omega (arith, within)) (λ place. each (suc place)),
      length-append handed (joined lists),
      sum_by-cons seals_in lines (take (length lists) scripts),
    )

pub workers_few : (l : LayoutParts) (olds : List SeatValue) (scripts : List (List Line))
    (news : List SeatValue) (volumes : List Volume) (lists : List (List LineEnd)) (fault : Option RunFault)
    → AreWorkers l olds scripts news volumes lists fault → length olds ≤ length scripts
    → length volumes ≤ seals_in_all (take (length olds) scripts)
workers_few l olds scripts news volumes lists fault workers within =
    omega (
      arith,
      lists_few workers.handed scripts (omega (arith, workers.outs, within)) each,
      ap length workers.all,
      ap (λ (k : ℕ). seals_in_all (take k scripts)) workers.outs,
    )
  where
    each : (place : ℕ) (handed : List Volume) (lines : List Line)
        → slice_get workers.handed place ≡ Some handed → slice_get scripts place ≡ Some lines
        → length handed ≤ seals_in lines
    each place handed lines there script =
        let within_outs = slice_get_within workers.handed place handed there in
        let old = get_some olds place (omega (arith, workers.outs, within_outs)) in
        let found = workers.each place old.0 lines old.1 script in
        let same = same_item (slice_get workers.handed place) found.handed handed found.out there in
        omega (
          arith,
          worker_few l old.0 lines found.new found.handed found.own found.fault found.worker,
          ap length same,
        )

-- ---- all of a run

pub gathered : (l : LayoutParts) (olds : List SeatValue) (scripts : List (List Line)) (news : List SeatValue)
    (handed volumes : List Volume) (lists : List (List LineEnd)) (fault : Option RunFault)
    → AreWorkers l olds scripts news handed lists fault → IsPermutation handed volumes → AreInOrder volumes
    → length olds ≤ length scripts → AreGathered l olds scripts news volumes lists fault
gathered l olds scripts news handed volumes lists fault workers same order within = record {
  handed = handed;
  workers = workers;
  same = same;
  order = order;
  few =
      omega (
        arith,
        workers_few l olds scripts news handed lists fault workers within,
        length_permutation handed volumes same,
        sum_by-take-le seals_in scripts (length olds),
      );
}
