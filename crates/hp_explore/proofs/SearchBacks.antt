-- The turns of a search that go back, and where it ends.
use Rattle.std.proofs.Common.{◌≡◌, ℕ, ◌+◌, ◌-◌, ◌<◌, ◌≤◌, List, [], ◌∷◌, ◌++◌, length, take, Some, ap, sym, subst, ◌∙◌, arith}
use Rattle.std.proofs.lemmas.List.{append-nil, length_push}
use Rattle.hp_units.specs.declared.replies.Record.{Record}
use Rattle.hp_states.specs.Stops.{AreSameStops}
use Rattle.hp_states.proofs.StopNumbers.{keep_same_stops}
use Rattle.hp_schedules.specs.Schedules.{Setting, plays, schedule_of}
use Rattle.hp_explore.specs.Aims.{AimValue, IsDone}
use Rattle.hp_explore.specs.Paths.{IsBack, PathValue}
use Rattle.hp_explore.specs.Reaching.{HasRoomAlong}
use Rattle.hp_explore.specs.Searches.{AreTriedTo, HasTurned, IsLeaving, IsOn, IsTrying, number_at, numbers_from, room_of, turns_at}
use Rattle.hp_explore.specs.Visited.{AreFollowed, AreVisited}
use Rattle.hp_explore.specs.declared.searching.Search.{Search}
use Rattle.hp_explore.specs.declared.searching.SearchTurn.{SearchTurn}
use Rattle.hp_explore.specs.declared.searching.SearchTurn.TheVariants.{On, New, Found, Over}
use Rattle.hp_explore.specs.declared.visited.Visited.{Visited}
use Rattle.hp_explore.proofs.CallsDone.{call_made, room_back, tried_next, tried_up}
use Rattle.hp_explore.proofs.Continued.{call_within}
use Rattle.hp_explore.proofs.Weights.{left_up}
use Rattle.hp_explore.proofs.Framing.{longer_schedule}
use Rattle.hp_explore.proofs.SearchTurns.{numbers_on}
use Rattle.hp_explore.proofs.Visits.{stops_kept, visited_shorter}
use Rattle.std.proofs.Math.Seq.{take-append_seam}

-- ---- back

-- the processor that made the latest call
pub back_within : (p q : PathValue) (cpu : ℕ) → plays p.setting (schedule_of p.news) ≡ Some p.news
    → IsBack p (Some cpu) q → cpu < length p.setting.scripts
back_within p q cpu played back =
    rw (← back.1) (call_within p.setting (schedule_of q.news) [] back.0.cpu p.news
    (subst (λ (s : List ℕ). plays p.setting s ≡ Some p.news)
    (ap (λ (x : PathValue). schedule_of x.news) back.2 ∙ longer_schedule q.news back.0) played))

-- the latest call is taken back
pub gone_back : (aim : AimValue) (seed : ℕ) (p q : PathValue) (cpu : ℕ) (old new : Visited)
    → IsLeaving aim seed p old → IsBack p (Some cpu) q → cpu < length p.setting.scripts
    → new.is_on ≡ old.is_on → new.keys ≡ old.keys → AreSameStops old.stops new.stops
    → ((g : Setting) (news : List Record) (r : Record) → AreFollowed g (news ++ r ∷ []) old
    → AreFollowed g news new)
    → IsTrying aim seed q (number_at (length q.setting.scripts) seed (length (schedule_of q.news)) cpu + 1)
    new
gone_back aim seed p q cpu old new at back less on keys stops way =
    rw (← back.1) (taken (subst (λ (x : PathValue). IsLeaving aim seed x old) back.2 at)
    (rw back.2 at (rw (← back.1) at less)))
  where
    r : Record
    r = back.0

    longer : schedule_of (q.news ++ r ∷ []) ≡ schedule_of q.news ++ r.cpu ∷ []
    longer = longer_schedule q.news r

    taken : IsLeaving aim seed (record { setting = q.setting; news = q.news ++ r ∷ [] }) old
        → r.cpu < length q.setting.scripts
        → IsTrying aim seed q
        (number_at (length q.setting.scripts) seed (length (schedule_of q.news)) r.cpu + 1) new
    taken here within =
        let along = subst (HasRoomAlong q.setting) longer here.placed.along in
        let done = subst (IsDone q.setting aim) longer here.done in
        let earlier = subst (AreTriedTo q.setting aim seed) longer here.placed.earlier in
        record {
          placed = record {
            along = room_back q.setting (schedule_of q.news) r.cpu along;
            earlier = tried_up q.setting aim seed (schedule_of q.news) r.cpu earlier;
            way = way q.setting q.news r here.placed.way;
            base = λ n ns was. (keep_same_stops old.stops new.stops stops).lists n ns
                (here.placed.base n ns was);
          };
          tried =
              tried_next q.setting aim seed (schedule_of q.news) r.cpu within
              (earlier (schedule_of q.news) r.cpu ([], sym (append-nil (schedule_of q.news ++ r.cpu ∷ []))))
              (call_made q.setting aim (schedule_of q.news) r.cpu along done);
          visited =
              visited_shorter q.setting aim (schedule_of q.news) r.cpu new done
              (stops_kept q.setting aim (schedule_of q.news ++ r.cpu ∷ []) old new on keys
              (keep_same_stops old.stops new.stops stops)
              (subst (λ (s : List ℕ). AreVisited q.setting aim s old) longer here.visited));
        }

-- fewer steps are left there
pub fewer_up : (p q : PathValue) (seed cpu next : ℕ) → IsBack p (Some cpu) q
    → turns_at seed q (number_at (length q.setting.scripts) seed (length (schedule_of q.news)) cpu + 1)
    < turns_at seed p next
fewer_up p q seed cpu next back =
    rw (back.2, numbers_on q seed cpu back.0 back.1)
    (left_up (length q.setting.scripts) (room_of q.setting)
    (numbers_from (length q.setting.scripts) seed 0 (schedule_of q.news))
    (number_at (length q.setting.scripts) seed (length (schedule_of q.news)) cpu) next)

-- ---- the result of a step

-- with a wider bound
pub turned_within : (aim : AimValue) (seed : ℕ) (keeps : PathValue → Type 0) (g : Setting) (few most : ℕ)
    (w : Search) (turn : SearchTurn)
    → few ≤ most → HasTurned aim seed keeps g few w turn → HasTurned aim seed keeps g most w turn
turned_within aim seed keeps g few most w turn less = by_turn turn
  where
    on : IsOn aim seed keeps g few w → IsOn aim seed keeps g most w
    on is = record {
      schedule = is.schedule;
      trying = is.trying;
      kept = is.kept;
      same = is.same;
      fewer = omega (arith, is.fewer, less);
    }

    by_turn : (t : SearchTurn) → HasTurned aim seed keeps g few w t → HasTurned aim seed keeps g most w t
    by_turn On is = on is
    by_turn New is = on is
    by_turn Found is = is
    by_turn Over is = is

-- ---- the result of going back

-- the schedule without its latest call
pub popped : (p q : PathValue) (cpu : ℕ) (old rest : List ℕ) → old ≡ schedule_of p.news
    → IsBack p (Some cpu) q → rest ≡ take (length old - 1) old → rest ≡ schedule_of q.news
popped p q cpu old rest led back is =
    rw (is, led, back.2, longer_schedule q.news back.0) (without_last (schedule_of q.news) back.0.cpu)
  where
    without_last : (s : List ℕ) (c : ℕ) → take (length (s ++ c ∷ []) - 1) (s ++ c ∷ []) ≡ s
    without_last s c =
        let many : length (s ++ c ∷ []) - 1 ≡ length s = omega (arith, length_push s c) in
        rw many (take-append_seam s (c ∷ []))
