-- The turns of a search that go on, and those that come to a place.
use Rattle.std.proofs.Common.{◌≡◌, ℕ, suc, ◌+◌, ◌<◌, Bool, true, false, List, [], ◌∷◌, ◌++◌, length, Some, ap, refl, sym, subst, ◌∙◌, arith, inl, inr}
use Rattle.std.proofs.lemmas.List.{length-append, length-map}
use Rattle.hp_units.specs.History.{effect_of}
use Rattle.hp_units.specs.declared.replies.Record.{Record}
use Rattle.hp_units.specs.declared.events.Event.{Event}
use Rattle.hp_schedules.specs.Alike.{AreMergeable, leaves_steps}
use Rattle.hp_schedules.specs.Cursors.{AreCursors}
use Rattle.hp_schedules.specs.Schedules.{Setting, next_call, plays, record_of_call, schedule_of}
use Rattle.hp_schedules.specs.declared.cursors.Cursor.{Cursor}
use Rattle.hp_schedules.proofs.Plays.{caller}
use Rattle.hp_schedules.proofs.SameCalls.{call_leaves, event_kept}
use Rattle.hp_states.specs.Stops.{KeepStops}
use Rattle.hp_explore.specs.Aims.{AimValue, IsLawful, IsNarrower}
use Rattle.hp_explore.specs.LookedUp.{IsLookedUp}
use Rattle.hp_explore.specs.Paths.{IsForth, PathValue}
use Rattle.hp_explore.specs.Searches.{IsArriving, IsBegun, IsCallDone, IsLeaving, IsOn, IsPlaced, IsTriedTo, IsTrying, cpu_at, number_at, numbers_from, room_of, turns_at}
use Rattle.hp_explore.specs.Visited.{AreFollowed, AreVisited, no_stops}
use Rattle.hp_explore.specs.declared.searching.Search.{Search}
use Rattle.hp_explore.specs.declared.visited.Visited.{Visited}
use Rattle.hp_explore.proofs.CallsDone.{room_none, room_push, tried_down, tried_narrower, tried_next, tried_none}
use Rattle.hp_explore.proofs.Weights.{left_down, left_past}
use Rattle.hp_explore.proofs.Framing.{longer_schedule, room_after}
use Rattle.hp_explore.proofs.Rotations.{tried_there}
use Rattle.hp_explore.proofs.Visits.{known_done, stops_kept, visited_longer, visited_narrower, visited_none}
use Rattle.hp_explore.proofs.PlaceKeys.{done_alike}

-- ---- the start

pub started : (g : Setting) (aim : AimValue) (seed : ℕ) (w : Search) → aim.admits [] → IsBegun g w
    → IsTrying aim seed w.path w.next w.visited
started g aim seed w admitted begun = rw (begun.path, begun.next) (record {
  placed = record {
    along = room_none g;
    earlier = tried_none g aim seed;
    way = begun.way;
    base = begun.base;
  };
  tried = (admitted, λ cpu within less. absurd (omega (arith, less)));
  visited = visited_none g aim w.visited begun.mergeable begun.none;
})

-- ---- a narrower aim

pub narrowed : (old new : AimValue) (seed : ℕ) (p : PathValue) (next : ℕ) (v : Visited)
    → IsNarrower old new → IsTrying old seed p next v → IsTrying new seed p next v
narrowed old new seed p next v narrower here = record {
  placed = record {
    along = here.placed.along;
    earlier = λ before cpu on. tried_narrower p.setting old new seed before _ narrower
        (here.placed.earlier before cpu on);
    way = here.placed.way;
    base = here.placed.base;
  };
  tried = tried_narrower p.setting old new seed (schedule_of p.news) next narrower here.tried;
  visited = visited_narrower p.setting old new (schedule_of p.news) v narrower here.visited;
}

-- ---- the next call

-- it is not made
pub passed : (aim : AimValue) (seed : ℕ) (p : PathValue) (next cpu : ℕ) (v : Visited)
    → (cpu < length p.setting.scripts)
    × (number_at (length p.setting.scripts) seed (length (schedule_of p.news)) cpu ≡ next)
    → IsTrying aim seed p next v → IsCallDone p.setting aim (schedule_of p.news ++ cpu ∷ [])
    → IsTrying aim seed p (next + 1) v
passed aim seed p next cpu v at here done = record {
  placed = here.placed;
  tried =
      subst (λ (k : ℕ). IsTriedTo p.setting aim seed (schedule_of p.news) (k + 1)) at.1
      (tried_next p.setting aim seed (schedule_of p.news) cpu at.0
      (subst (IsTriedTo p.setting aim seed (schedule_of p.news)) (sym at.1) here.tried) done);
  visited = here.visited;
}

-- it is made
pub went : (p q : PathValue) (cpu : ℕ) → IsForth p cpu true q
    → schedule_of q.news ≡ schedule_of p.news ++ cpu ∷ []
went p q cpu forth =
    ap (λ (x : PathValue). schedule_of x.news) forth.3
    ∙ (longer_schedule p.news (record_of_call p.setting p.news cpu forth.0)
    ∙ ap (λ (c : ℕ). schedule_of p.news ++ c ∷ []) (caller p.setting p.news cpu forth.0))

-- the visited places follow it
followed : (p : PathValue) (cpu : ℕ) (event : Event) (latest : Record) (cursors : List Cursor)
    (old new : Visited)
    → next_call p.setting cpu p.news ≡ Some event → latest ≡ record_of_call p.setting p.news cpu event
    → (old.is_on ≡ true → AreMergeable p.setting.scripts) → AreFollowed p.setting p.news old
    → AreCursors p.setting (p.news ++ record_of_call p.setting p.news cpu event ∷ []) cursors
    → ((g : Setting) (news : List Record) → AreFollowed g news old
    → (old.is_on ≡ true → leaves_steps (effect_of latest.event) ≡ true)
    → AreCursors g (news ++ latest ∷ []) cursors → AreFollowed g (news ++ latest ∷ []) new)
    → AreFollowed p.setting (p.news ++ record_of_call p.setting p.news cpu event ∷ []) new
followed p cpu event latest cursors old new asked is mergeable way at on =
    rw is at (on p.setting p.news way leaves (rw is at))
  where
    leaves : old.is_on ≡ true → leaves_steps (effect_of latest.event) ≡ true
    leaves set = rw (is, event_kept) (call_leaves p.setting p.news cpu event (mergeable set) asked)

-- it leads to a place
pub comes : (p q : PathValue) (aim : AimValue) (seed next cpu : ℕ) (latest : Record) (cursors : List Cursor)
    (old new : Visited)
    → plays p.setting (schedule_of p.news) ≡ Some p.news
    → (cpu < length p.setting.scripts)
    × (number_at (length p.setting.scripts) seed (length (schedule_of p.news)) cpu ≡ next)
    → IsTrying aim seed p next old → IsForth p cpu true q → aim.tries (schedule_of p.news) cpu
    → ((before : List Record) (r : Record) → q.news ≡ before ++ r ∷ [] → latest ≡ r)
    → AreCursors q.setting q.news cursors
    → new.is_on ≡ old.is_on → new.keys ≡ old.keys → KeepStops old.stops new.stops
    → ((g : Setting) (news : List Record) → AreFollowed g news old
    → (old.is_on ≡ true → leaves_steps (effect_of latest.event) ≡ true)
    → AreCursors g (news ++ latest ∷ []) cursors → AreFollowed g (news ++ latest ∷ []) new)
    → IsArriving aim seed q new
comes p q aim seed next cpu latest cursors old new played at here forth tried last there on keys keep way =
    subst (λ (x : PathValue). IsArriving aim seed x new) (sym forth.3) (record {
      placed = record {
        along = rw led (room_push p.setting _ p.news cpu here.placed.along played forth.2);
        earlier =
            rw led (tried_down p.setting aim seed (schedule_of p.news) cpu
            (subst (IsTriedTo p.setting aim seed (schedule_of p.news)) (sym at.1) here.tried)
            here.placed.earlier);
        way =
            followed p cpu forth.0 latest cursors old new forth.1
            (last p.news made (ap (λ (x : PathValue). x.news) forth.3)) here.visited.mergeable
            here.placed.way
            (subst (λ (x : PathValue). AreCursors x.setting x.news cursors) forth.3 there) way;
        base = λ n ns was. keep.lists n ns (here.placed.base n ns was);
      };
      call = record {
        before = schedule_of p.news;
        cpu = cpu;
        longer = led;
        from = here.tried.0;
        tried = tried;
      };
      visited = stops_kept p.setting aim (schedule_of p.news) old new on keys keep here.visited;
    })
  where
    made : Record
    made = record_of_call p.setting p.news cpu forth.0

    led : schedule_of (p.news ++ made ∷ []) ≡ schedule_of p.news ++ cpu ∷ []
    led = sym (ap (λ (x : PathValue). schedule_of x.news) forth.3) ∙ went p q cpu forth

-- ---- the place that it leads to

-- the visited places lead here
pub visited_here : (aim : AimValue) (seed : ℕ) (p : PathValue) (v w : Visited)
    → (here : IsArriving aim seed p v) → AreVisited p.setting aim here.call.before w
    → AreVisited p.setting aim (schedule_of p.news) w
visited_here aim seed p v w here visited =
    subst (λ (s : List ℕ). AreVisited p.setting aim s w) (sym here.call.longer)
    (visited_longer p.setting aim here.call.before here.call.cpu w visited)

-- they have more numbers
pub moved : (aim : AimValue) (seed : ℕ) (p : PathValue) (old new : Visited) → IsPlaced aim seed p old
    → KeepStops old.stops new.stops → AreFollowed p.setting p.news new → IsPlaced aim seed p new
moved aim seed p old new placed keep way = record {
  along = placed.along;
  earlier = placed.earlier;
  way = way;
  base = λ n ns was. keep.lists n ns (placed.base n ns was);
}

-- it is known, so it is done
pub known_here : (aim : AimValue) (seed : ℕ) (p : PathValue) (old new : Visited) (known : Bool)
    → IsLawful p.setting aim → plays p.setting (schedule_of p.news) ≡ Some p.news
    → IsArriving aim seed p old → aim.admits (schedule_of p.news)
    → new.is_on ≡ old.is_on → KeepStops old.stops new.stops → AreFollowed p.setting p.news new
    → IsLookedUp p.setting aim p.news old new known → known ≡ true → IsLeaving aim seed p new
known_here aim seed p old new false lawful played here admitted on keep way found told = absurd cc
known_here aim seed p old new true lawful played here admitted on keep way found told = record {
  placed = moved aim seed p old new here.placed keep way;
  visited = visited_here aim seed p old new here visited;
  done = elim found.2 [
    | inl known ↦ known_done p.setting aim here.call.before here.call.cpu p.news new lawful played
        here.call.longer admitted visited known
    | inr told ↦ done_alike p.setting aim no_stops told.1.0.news p.news told.0 lawful
        (here.visited.mergeable found.0) told.1.0.played played told.1.0.admitted admitted told.1.0.key_is
        told.1.1 told.1.0.done
  ];
}
  where
    visited : AreVisited p.setting aim here.call.before new
    visited = stops_kept p.setting aim here.call.before old new on found.1 keep here.visited

-- ---- the number of steps left

pub numbers_longer : (n seed depth : ℕ) (schedule : List ℕ) (cpu : ℕ)
    → numbers_from n seed depth (schedule ++ cpu ∷ [])
    ≡ numbers_from n seed depth schedule ++ number_at n seed (depth + length schedule) cpu ∷ []
numbers_longer n seed depth [] cpu =
    ap (λ (d : ℕ). number_at n seed d cpu ∷ []) (let same : depth ≡ depth + 0 = omega arith in same)
numbers_longer n seed depth (c ∷ schedule) cpu =
    let same : (depth + 1) + length schedule ≡ depth + suc (length schedule) = omega arith in
    rw (numbers_longer n seed (depth + 1) schedule cpu, same)

-- after one call more
pub numbers_on : (p : PathValue) (seed cpu : ℕ) (r : Record) → r.cpu ≡ cpu
    → numbers_from (length p.setting.scripts) seed 0 (schedule_of (p.news ++ r ∷ []))
    ≡ numbers_from (length p.setting.scripts) seed 0 (schedule_of p.news)
    ++ number_at (length p.setting.scripts) seed (length (schedule_of p.news)) cpu ∷ []
numbers_on p seed cpu r is =
    let same : 0 + length (schedule_of p.news) ≡ length (schedule_of p.news) = omega arith in
    rw (← is, longer_schedule p.news r, numbers_longer (length p.setting.scripts) seed 0, same)

-- each call has one
numbers_long : (n seed depth : ℕ) (schedule : List ℕ)
    → length (numbers_from n seed depth schedule) ≡ length schedule
numbers_long n seed depth [] = refl
numbers_long n seed depth (c ∷ schedule) = ap (λ (k : ℕ). suc k) (numbers_long n seed (depth + 1) schedule)

-- fewer are left at the place to which a call leads
pub fewer_down : (p q : PathValue) (seed next cpu : ℕ) → next < length p.setting.scripts
    → number_at (length p.setting.scripts) seed (length (schedule_of p.news)) cpu ≡ next
    → IsForth p cpu true q → turns_at seed q 0 < turns_at seed p next
fewer_down p q seed next cpu less number forth =
    let made = record_of_call p.setting p.news cpu forth.0 in
    let long : length (numbers_from (length p.setting.scripts) seed 0 (schedule_of p.news)) ≡ length p.news =
    numbers_long (length p.setting.scripts) seed 0 (schedule_of p.news)
    ∙ length-map p.news (λ (r : Record). r.cpu) in
    rw (forth.3, numbers_on p seed cpu made (caller p.setting p.news cpu forth.0), number)
    (left_down (length p.setting.scripts) (room_of p.setting)
    (numbers_from (length p.setting.scripts) seed 0 (schedule_of p.news)) next less
    (omega (arith, length-append p.setting.start p.news, long, room_after p.setting p.news forth.2)))

-- ---- a call that is not made

-- the processor that is tried next
pub tried_here : (p : PathValue) (seed processors : ℕ) (schedule : List ℕ) (len next cpu : ℕ)
    → processors ≡ length p.setting.scripts → schedule ≡ schedule_of p.news → len ≡ length schedule
    → next < processors → cpu ≡ cpu_at processors seed len next
    → (cpu < length p.setting.scripts)
    × (number_at (length p.setting.scripts) seed (length (schedule_of p.news)) cpu ≡ next)
tried_here p seed processors schedule len next cpu many is long less at =
    tried_there (length p.setting.scripts) seed (length (schedule_of p.news)) len next cpu
    (omega (arith, many, less)) (long ∙ ap (λ (s : List ℕ). length s) is)
    (at ∙ ap (λ (n : ℕ). cpu_at n seed len next) many)

-- the search goes on with the call after it
pub passed_on : (aim : AimValue) (seed : ℕ) (keeps : PathValue → Type 0) (v w : Search)
    → w.path ≡ v.path → w.schedule ≡ schedule_of v.path.news → w.next ≡ v.next + 1
    → w.visited ≡ v.visited → v.next < length v.path.setting.scripts
    → IsTrying aim seed v.path (v.next + 1) v.visited → keeps v.path
    → IsOn aim seed keeps v.path.setting (turns_at seed v.path v.next) w
passed_on aim seed keeps v w path schedule next visited less trying kept = record {
  schedule = schedule ∙ ap (λ (p : PathValue). schedule_of p.news) (sym path);
  trying = rw (path, next, visited) trying;
  kept = rw path kept;
  same = ap (λ (p : PathValue). p.setting) path;
  fewer =
      rw (path, next) (left_past (length v.path.setting.scripts) (room_of v.path.setting)
      (numbers_from (length v.path.setting.scripts) seed 0 (schedule_of v.path.news)) v.next less);
}
