-- The seats after a run: one for each processor still.
use Rattle.std.proofs.Common.{◌≡◌, ℕ, zero, suc, ◌<◌, List, [], ◌∷◌, length, Option, Some, None, slice_get, get_or, sym, ap, ◌∙◌, arith}
use Rattle.std.proofs.lemmas.List.FromFn.{get_or-map-range_with_len, length-map-range_with_len}
use Rattle.std.proofs.lemmas.List.Sorted.{sum_by-IsPermutation}
use Rattle.std.proofs.lemmas.Option.{slice_get-get_or, slice_get_within}
use Rattle.hp_units.specs.Choices.{first_some}
use Rattle.hp_units.specs.LayoutParts.{LayoutParts}
use Rattle.hp_history.specs.Volumes.{records_in}
use Rattle.hp_history.specs.declared.volumes.Volume.{Volume}
use Rattle.hp_scenario.specs.declared.lines.Line.{Line}
use Rattle.hp_shared.specs.Closing.{handed_in}
use Rattle.hp_shared.specs.Comparing.{HasEach}
use Rattle.hp_shared.specs.Shared.{SeatValue, first_seat, first_seats}
use Rattle.hp_shared.proofs.Comparisons.{same_item}
use Rattle.hp_shared.specs.declared.fault.RunFault.{RunFault}
use Rattle.hp_shared.specs.declared.fault.RunFault.TheVariants.{NotStarted}
use Rattle.hp_shared.specs.declared.lines.LineEnd.{LineEnd}
use Rattle.hp_shared.specs.Workers.{AreGathered, AreWorkers}
use Rattle.hp_shared.proofs.HandedOut.{workers_count}
use Rattle.hp_shared.proofs.LineRuns.{worked_cpu}

first_seat_at : (cpus place : ℕ) → place < cpus → slice_get (first_seats cpus) place ≡ Some (first_seat place)
first_seat_at cpus place inside =
    slice_get-get_or (first_seats cpus) place (first_seat place)
    (omega (arith, inside, length-map-range_with_len first_seat 0 cpus))
    ∙ ap Some
    (get_or-map-range_with_len first_seat 0 cpus place place (first_seat place) inside (omega arith))

-- the seat at a place is the one of the processor with its number
record IsOwn (cpus : ℕ) (place : ℕ) (seat : SeatValue) : Type 0 where
  inside : place < cpus
  own : seat.cpu ≡ place

seat_is_own : (l : LayoutParts) (scripts : List (List Line)) (seats : List SeatValue) (handed : List Volume)
    (ends : List (List LineEnd)) (fault : Option RunFault)
    → length scripts ≡ l.cpus → AreWorkers l (first_seats l.cpus) scripts seats handed ends fault
    → (place : ℕ) (seat : SeatValue) → slice_get seats place ≡ Some seat → IsOwn l.cpus place seat
seat_is_own l scripts seats handed ends fault count workers place seat here =
    let inside : place < l.cpus =
    omega (
      arith,
      slice_get_within seats place seat here,
      workers.seats,
      length-map-range_with_len first_seat 0 l.cpus,
    ) in
    let script = slice_get-get_or scripts place [] (omega (arith, inside, count)) in
    let found =
    workers.each place (first_seat place) (get_or scripts place []) (first_seat_at l.cpus place inside)
    script in
    let same : found.new ≡ seat = same_item (slice_get seats place) found.new seat found.seat here in
    record {
      inside = inside;
      own =
          rw (← same) (worked_cpu l (first_seat place) (get_or scripts place []) found.new found.handed
          found.own found.worker.worked);
    }

pub has_each : (l : LayoutParts) (scripts : List (List Line)) (seats : List SeatValue) (handed : List Volume)
    (ends : List (List LineEnd)) (fault : Option RunFault)
    → length scripts ≡ l.cpus → AreWorkers l (first_seats l.cpus) scripts seats handed ends fault
    → HasEach l.cpus seats
has_each l scripts seats handed ends fault count workers =
    let own = seat_is_own l scripts seats handed ends fault count workers in
    record {
      count = workers.seats ∙ length-map-range_with_len first_seat 0 l.cpus;
      inside = λ place seat here. (let is = own place seat here in omega (arith, is.inside, is.own));
      apart =
          λ place other seat twin here there same.
          sym (own place seat here).own ∙ same ∙ (own other twin there).own;
    }

-- a fault that is the first stands at a place
first_at : (faults : List (Option RunFault)) (fault : RunFault) → first_some faults ≡ Some fault
    → (place : ℕ) × (slice_get faults place ≡ Some (Some fault))
first_at [] fault is = absurd cc
first_at (None ∷ faults) fault is = let found = first_at faults fault is in (suc found.0, found.1)
first_at (Some own ∷ faults) fault is = (0, ap Some is)

-- the processor whose worker was not started is not the first
pub not_first : (l : LayoutParts) (scripts : List (List Line)) (seats : List SeatValue) (handed : List Volume)
    (ends : List (List LineEnd)) (cpu : ℕ)
    → length scripts ≡ l.cpus
    → AreWorkers l (first_seats l.cpus) scripts seats handed ends (Some (NotStarted cpu))
    → (0 < cpu) × (cpu < l.cpus)
not_first l scripts seats handed ends cpu count workers =
    let at = first_at workers.faults (NotStarted cpu) (sym workers.first) in
    let inside : at.0 < l.cpus =
    omega (
      arith,
      slice_get_within workers.faults at.0 (Some (NotStarted cpu)) at.1,
      workers.causes,
      length-map-range_with_len first_seat 0 l.cpus,
    ) in
    let lines = get_or scripts at.0 [] in
    let script = slice_get-get_or scripts at.0 [] (omega (arith, inside, count)) in
    let found = workers.each at.0 (first_seat at.0) lines (first_seat_at l.cpus at.0 inside) script in
    let same : found.fault ≡ Some (NotStarted cpu) =
    same_item (slice_get workers.faults at.0) found.fault (Some (NotStarted cpu)) found.why at.1 in
    let named : (cpu ≡ at.0) × (found.own ≡ []) = rw same at found.worker.ended in (
      omega (arith, named.0, past at.0 at.1),
      omega (arith, named.0, inside),
    )
  where
    past : (place : ℕ) → slice_get workers.faults place ≡ Some (Some (NotStarted cpu)) → 0 < place
    past zero here = absurd (workers.started (Some (NotStarted cpu)) here)
    past (suc place) here = omega arith

-- all seats count what their seals handed out
pub seals_counted : (l : LayoutParts) (scripts : List (List Line)) (seats : List SeatValue)
    (volumes : List Volume) (ends : List (List LineEnd)) (fault : Option RunFault)
    → length scripts ≡ l.cpus → AreGathered l (first_seats l.cpus) scripts seats volumes ends fault
    → handed_in seats ≡ records_in volumes
seals_counted l scripts seats volumes ends fault count all =
    workers_count l (first_seats l.cpus) scripts seats all.handed ends fault all.workers
    (omega (arith, count, length-map-range_with_len first_seat 0 l.cpus)) unsealed
    ∙ sym (sum_by-IsPermutation (λ (v : Volume). length v.records) all.handed volumes all.same)
  where
    unsealed : (place : ℕ) (seat : SeatValue) → slice_get (first_seats l.cpus) place ≡ Some seat
        → seat.sealed ≡ 0
    unsealed place seat here =
        let inside : place < l.cpus =
        omega (
          arith,
          slice_get_within (first_seats l.cpus) place seat here,
          length-map-range_with_len first_seat 0 l.cpus,
        ) in
        ap (λ (s : SeatValue). s.sealed)
        (same_item (slice_get (first_seats l.cpus) place) seat (first_seat place) here
        (first_seat_at l.cpus place inside))
