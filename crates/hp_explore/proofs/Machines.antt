-- A machine that is a call further than another, and one schedule by the machine that it leads to.
use Rattle.std.proofs.Common.{◌≡◌, ℕ, ◌≤◌, true, false, List, [], ◌∷◌, ◌++◌, length, drop, Some, refl, ap, sym, subst, ◌∙◌, arith, ◌+◌, ◌<◌, ◌⊎◌, Bool, take, get_or, None}
use Rattle.std.specs.Prelude.{Result, Ok, Err, IsTrue}
use Rattle.std.proofs.lemmas.List.{append-nil, append_assoc, length-append, length_push, map-append, take-append-drop, take_all}
use Rattle.std.proofs.Math.Seq.{drop-length, drop-append_seam}
use Rattle.hp_units.specs.declared.events.Event.{Event}
use Rattle.hp_units.specs.declared.replies.CallFault.{CallFault}
use Rattle.hp_units.specs.declared.replies.CallFault.TheVariants.{HistoryFull as CallFull, OutOfMemory as CallMemory}
use Rattle.hp_units.specs.declared.replies.Receipt.{Receipt}
use Rattle.hp_units.specs.declared.replies.Record.{Record}
use Rattle.hp_machine.specs.Machine.{IsCalled, MachineValue, is_full, record_of}
use Rattle.hp_machine.proofs.Machines.{room}
use Rattle.hp_explore.specs.declared.exploring.ExploreFault.TheVariants.{HistoryFull}
use Rattle.hp_schedules.specs.declared.scripts.Step.{Step}
use Rattle.hp_explore.specs.Faults.{IsCause, fault_of, FillsAlong}
use Rattle.hp_schedules.specs.Schedules.{Setting, next_call, plays, record_of_call, schedule_of, outcome_after}
use Rattle.hp_explore.specs.Settings.{setting}
use Rattle.hp_explore.specs.Walks.{FillsAt, IsFurther, IsReached, news_in, place_of, IsPlayed}
use Rattle.hp_schedules.proofs.Plays.{plays_push, complete, stops}
use Rattle.std.proofs.lemmas.Option.{slice_get_read}
use Rattle.hp_schedules.specs.declared.tally.Ending.{Ending}
use Rattle.hp_schedules.specs.Orders.{HasMoreThan}
use Rattle.hp_explore.specs.Frames.{IsHalted}
use Rattle.hp_explore.specs.Fronts.{AreFirstInPart, counted}
use Rattle.hp_explore.specs.declared.walk.Walk.{Walk}
use Rattle.hp_schedules.specs.Parts.{IsCompleteInPart, PartValue}
use Rattle.hp_states.specs.Walks.{IsEndHere, IsPartWalkedBefore}
use Rattle.hp_laws.proofs.Replays.{take_one}
use Rattle.hp_states.proofs.Walks.{over_all, walk_exceeds, walk_here}
use Rattle.hp_schedules.proofs.Regions.{before_longer}

-- the record of the call is the one that the schedule makes
same_record : (g : Setting) (m n : MachineValue) (cpu : ℕ) (event : Event) (a : Receipt) → IsReached g m
    → IsCalled m cpu event a n → record_of cpu a ≡ record_of_call g (news_in g m) cpu event
unfolding record_of_call
same_record g m n cpu event a here call = grind arith

-- its history and its new records after the call
call_longer : (g : Setting) (m n : MachineValue) (cpu : ℕ) (event : Event) (a : Receipt) → IsReached g m
    → IsCalled m cpu event a n → n.history ≡ g.start ++ (news_in g m ++ record_of cpu a ∷ [])
call_longer g m n cpu event a here call = cc (append_assoc g.start (news_in g m) (record_of cpu a ∷ []))

call_news : (g : Setting) (m n : MachineValue) (cpu : ℕ) (event : Event) (a : Receipt) → IsReached g m
    → IsCalled m cpu event a n → news_in g n ≡ news_in g m ++ record_of cpu a ∷ []
call_news g m n cpu event a here call =
    rw (call_longer g m n cpu event a here call, drop-append_seam)

-- with the latest record
pub call_latest : (g : Setting) (m n : MachineValue) (cpu : ℕ) (event : Event) (a : Receipt) (latest : Record)
    → IsReached g m → IsCalled m cpu event a n
    → ((before : List Record) (r : Record) → n.history ≡ before ++ r ∷ [] → latest ≡ r)
    → (latest.cpu ≡ cpu) × (news_in g n ≡ news_in g m ++ latest ∷ [])
call_latest g m n cpu event a latest here call last = grind (arith, call_news)

-- the machine after the call
pub further : (g : Setting) (m n : MachineValue) (cpu : ℕ) (event : Event) (a : Receipt) → IsReached g m
    → next_call g cpu (news_in g m) ≡ Some event → is_full m ≡ false → IsCalled m cpu event a n
    → IsFurther g m cpu n
further g m n cpu event a here asked free call = record {
  event = event;
  asked = asked;
  reached = record {
    layout = call.layout ∙ here.layout;
    base = call.base ∙ here.base;
    before = call.before ∙ here.before;
    history = longer ∙ ap (λ (xs : List Record). g.start ++ xs) (sym news);
    played =
        ap (plays g) place
        ∙ (plays_push g (place_of g m) (news_in g m) cpu event here.played asked
        ∙ ap Some (ap (λ (x : Record). news_in g m ++ x ∷ []) (sym (same_record g m n cpu event a here call))
        ∙ sym news));
  };
  place = place;
  longer = ap length call.history ∙ length_push m.history (record_of cpu a);
  room = (room m free).0;
}
  where
    longer : n.history ≡ g.start ++ (news_in g m ++ record_of cpu a ∷ [])
    longer = call_longer g m n cpu event a here call

    news : news_in g n ≡ news_in g m ++ record_of cpu a ∷ []
    news = call_news g m n cpu event a here call

    place : place_of g n ≡ place_of g m ++ cpu ∷ []
    place = ap schedule_of news ∙ map-append (λ (r : Record). r.cpu) (news_in g m) (record_of cpu a ∷ [])

-- a call that was answered found room
pub had_room : {A E : Type 0} (m : MachineValue) (result : Result A E) (fault : E) (a : A)
    → result ≡ Ok a → (IsTrue (is_full m) → result ≡ Err fault) → is_full m ≡ false
had_room m result fault a ok full = grind arith

-- the machine where the scripts begin
pub reached_start : (m : MachineValue) (scripts : List (List Step)) → IsReached (setting m scripts) m
unfolding plays
reached_start m scripts = record {
  layout = refl;
  base = refl;
  before = refl;
  history = sym (append-nil m.history) ∙ ap (λ (h : List Record). m.history ++ h) (sym none);
  played = subst (λ (h : List Record). plays (setting m scripts) (schedule_of h) ≡ Some h) (sym none) refl;
}
  where
    none : drop (length m.history) m.history ≡ []
    none = drop-length m.history

-- a machine where a schedule leads to has no fewer records than the one where the scripts begin
pub no_fewer : (g : Setting) (m : MachineValue) → IsReached g m → length g.start ≤ length m.history
no_fewer g m here = omega (arith, ap length here.history, length-append g.start (news_in g m))

-- a full machine has no room there for its next call
pub fills_here : (g : Setting) (m : MachineValue) (cpu : ℕ) (event : Event) → IsReached g m
    → next_call g cpu (news_in g m) ≡ Some event → is_full m ≡ true → FillsAt g m cpu
fills_here g m cpu event here asked full = (
  record {
    news = news_in g m;
    cpu = cpu;
    event = event;
    played = here.played;
    asked = asked;
    full = cc;
  },
  refl,
)

-- a call's fault
pub call_full : (fault : CallFault) → fault_of fault ≡ HistoryFull → fault ≡ CallFull
call_full CallFull is = refl
call_full CallMemory is = absurd cc

pub call_cause : (g : Setting) (m : MachineValue) (cpu : ℕ) (fault : CallFault)
    → (fault ≡ CallFull → FillsAt g m cpu) → IsCause g (fault_of fault)
call_cause g m cpu CallFull full = (place_of g m, (full refl).0)
call_cause g m cpu CallMemory full = tt

-- ---- the walk

-- a walk halts at a schedule that it may not count
pub halted_here : (w : Walk) (is_end : Bool)
    → w.processors ≡ length w.path.setting.scripts → is_end ≡ true
    → plays w.path.setting (schedule_of w.path.news) ≡ Some w.path.news
    → IsPartWalkedBefore w.path.setting w.part (schedule_of w.path.news ++ w.processors ∷ []) w.tally.ends
    → IsEndHere w.path.setting w.part w.path.news is_end
    → (counted w.tally.ends ≡ w.tally.limit) ⊎ (w.reach.is_stopped ≡ true) → IsHalted w
halted_here w false all here played done end cause = absurd cc
halted_here w true all here played done end cause =
    let g = w.path.setting in
    let news = w.path.news in
    let before = rw all at done in
    let ended = over_all g news end.0 in
    record {
      first = record {
        place = schedule_of news;
        next = (outcome_after g news, (complete g (schedule_of news) news played ended, end.1));
        walked = record {
          counted = walk_here g w.part (schedule_of news) news w.tally.ends played ended before.counted;
          ordered = before.ordered;
          room =
              λ s h comes b. before.room s h comes
              (before_longer (s ++ h.cpu ∷ []) (schedule_of news) (length g.scripts ∷ []) b);
        };
        full = refl;
      };
      cause = cause;
    }

-- where the first ends count as many schedules as the limit, there is a further one
pub first_exceed : (g : Setting) (part : PartValue) (limit : ℕ) (ends : List Ending)
    → AreFirstInPart g part limit ends → HasMoreThan (IsCompleteInPart g part) limit
first_exceed g part limit ends first =
    walk_exceeds g part first.place ends limit first.next first.walked.counted first.full

-- ---- one schedule

-- what is played of a schedule leads to a machine
abbrev pub ArePlayed : Setting → List ℕ → MachineValue → Type 0
ArePlayed g played m = IsReached g m × (place_of g m ≡ played)

pub played_none : (start m : MachineValue) (scripts : List (List Step)) (schedule : List ℕ) → m ≡ start
    → ArePlayed (setting start scripts) (take 0 schedule) m
played_none start m scripts schedule is =
    rw is (reached_start start scripts, ap schedule_of (drop-length start.history))

-- one call more
pub played_more : (g : Setting) (m n : MachineValue) (schedule : List ℕ) (at cpu : ℕ) → at < length schedule
    → cpu ≡ get_or schedule at cpu → ArePlayed g (take at schedule) m → IsFurther g m cpu n
    → ArePlayed g (take (at + 1) schedule) n
played_more g m n schedule at cpu less is so_far one = (
  one.reached,
  one.place
      ∙ (ap (λ (s : List ℕ). s ++ cpu ∷ []) so_far.1
      ∙ sym (take_one schedule at cpu (slice_get_read schedule (length schedule) at cpu refl less is))),
)

-- and after all
pub played_all : (g : Setting) (m : MachineValue) (schedule : List ℕ) (at : ℕ) → length schedule ≤ at
    → ArePlayed g (take at schedule) m → IsPlayed g schedule (Some m)
played_all g m schedule at le so_far = (so_far.0, so_far.1 ∙ take_all at schedule le)

-- a schedule by what was played of it, and the next processor
split_here : (g : Setting) (m : MachineValue) (schedule : List ℕ) (at cpu : ℕ) → at < length schedule
    → cpu ≡ get_or schedule at cpu → ArePlayed g (take at schedule) m
    → schedule ≡ place_of g m ++ cpu ∷ drop (at + 1) schedule
split_here g m schedule at cpu less is so_far =
    sym (take-append-drop (at + 1) schedule)
    ∙ (ap (λ (s : List ℕ). s ++ drop (at + 1) schedule)
    (take_one schedule at cpu (slice_get_read schedule (length schedule) at cpu refl less is))
    ∙ (append_assoc (take at schedule) (cpu ∷ []) (drop (at + 1) schedule)
    ∙ ap (λ (s : List ℕ). s ++ cpu ∷ drop (at + 1) schedule) (sym so_far.1)))

-- where the next processor asks for nothing
pub played_over : (g : Setting) (m : MachineValue) (schedule : List ℕ) (at cpu : ℕ) → at < length schedule
    → cpu ≡ get_or schedule at cpu → ArePlayed g (take at schedule) m
    → next_call g cpu (news_in g m) ≡ None → IsPlayed g schedule None
played_over g m schedule at cpu less is so_far none =
    ap (plays g) (split_here g m schedule at cpu less is so_far)
    ∙ stops g (place_of g m) (drop (at + 1) schedule) (news_in g m) cpu so_far.0.played none

-- where its call has no room
pub filled_along : (g : Setting) (m : MachineValue) (schedule : List ℕ) (at cpu : ℕ) → at < length schedule
    → cpu ≡ get_or schedule at cpu → ArePlayed g (take at schedule) m → FillsAt g m cpu
    → FillsAlong g schedule
filled_along g m schedule at cpu less is so_far full = (
  place_of g m,
  full.0,
  (
    drop (at + 1) schedule,
    rw full.1 (split_here g m schedule at cpu less is so_far
        ∙ sym (append_assoc (place_of g m) (cpu ∷ []) (drop (at + 1) schedule))),
  ),
)
