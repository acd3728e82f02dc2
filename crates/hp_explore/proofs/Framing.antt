-- The turns of a walk: what each does to what is known of the places.
use Rattle.std.proofs.Common.{◌≡◌, ℕ, ◌+◌, ◌<◌, ◌≤◌, true, false, List, [], ◌∷◌, ◌++◌, length, option_to_list, reverse, Option, Some, None, ap, sym, ◌∙◌, arith, Bool, refl, subst}
use Rattle.std.proofs.lemmas.List.{append-nil, length_push, map-append, reverse-append, same_from_push, length-append}
use Rattle.hp_units.specs.declared.events.Event.{Event}
use Rattle.hp_units.specs.declared.replies.Record.{Record}
use Rattle.hp_states.specs.Rooms.{is_full_after}
use Rattle.hp_explore.specs.Frames.{AreBelow, AreWalked}
use Rattle.hp_states.specs.Frames.{GoOn, IsFrame, IsArrival}
use Rattle.hp_schedules.specs.Notes.{TallyValue}
use Rattle.hp_schedules.specs.Parts.{IsOn, PartValue}
use Rattle.hp_explore.specs.Paths.{IsBack, PathValue, IsForth}
use Rattle.hp_schedules.specs.Schedules.{Setting, next_call, plays, record_of_call, schedule_of}
use Rattle.hp_states.specs.Walks.{IsPartWalkedBefore, IsPartWalkedThrough}
use Rattle.hp_states.specs.declared.frames.Level.{Level}
use Rattle.hp_schedules.specs.declared.tally.Ending.{Ending}
use Rattle.hp_states.proofs.OfPart.{comes_on}
use Rattle.hp_states.proofs.Entered.{frame_goes_on}
use Rattle.hp_states.proofs.Rooms.{done_down, done_past}
use Rattle.hp_explore.proofs.Paths.{path_of}
use Rattle.std.proofs.lemmas.Bool.{leb-false, or_parts}
use Rattle.hp_memory.specs.Memory.{MemoryValue}
use Rattle.hp_states.specs.Places.{memory_at}
use Rattle.hp_schedules.specs.Cursors.{AreCursors}
use Rattle.hp_schedules.specs.declared.cursors.Cursor.{Cursor}
use Rattle.hp_states.specs.Seen.{IsMemo, IsOnWay, MemoValue}

-- ---- as the walk goes on

pub below_goes_on : (g : Setting) (part : PartValue) (most start : ℕ) (old new : TallyValue)
    (news : List Record) (frames : List Level)
    → most ≤ start → GoOn start old new → AreBelow g part old most news frames
    → AreBelow g part new most news frames
below_goes_on g part most start old new news [] le on b = b
below_goes_on g part most start old new news (frame ∷ frames) le on b =
    let here = frame_goes_on g part start old new b.0 frame (omega (arith, b.12, le)) on b.10 in
    let rest =
    below_goes_on g part frame.start start old new b.0 frames (omega (arith, b.12, le)) on b.11 in
    (b.0, b.1, b.2, b.3, b.4, b.5, b.6, b.7, b.8, b.9, here, rest, b.12)

-- ---- a turn

-- the schedule with one record more
pub longer_schedule : (news : List Record) (r : Record)
    → schedule_of (news ++ r ∷ []) ≡ schedule_of news ++ r.cpu ∷ []
longer_schedule news r = map-append (λ (q : Record). q.cpu) news (r ∷ [])

-- a processor makes its call, and leads on to a place
pub walk_leads : (g : Setting) (part : PartValue) (tally : TallyValue) (news later : List Record)
    (frame : Level) (frames : List Level) (event : Event)
    → plays g (schedule_of news) ≡ Some news → next_call g frame.next news ≡ Some event
    → is_full_after g news ≡ false → frame.next < length g.scripts
    → later ≡ news ++ record_of_call g news frame.next event ∷ []
    → AreWalked g part tally news (frame ∷ frames)
    → IsPartWalkedBefore g part (schedule_of later) tally.ends
    × IsOn (length g.scripts) part (schedule_of later)
    × AreBelow g part tally (length tally.trail) later
    (record frame { next = frame.next + 1; is_over = false } ∷ frames)
unfolding record_of_call
walk_leads g part tally news later frame frames event played asked room less is w =
    grind (arith, comes_on, longer_schedule)

-- a place gets its frame
pub walk_opens : (g : Setting) (part : PartValue) (tally : TallyValue) (news : List Record) (frame : Level)
    (frames : List Level)
    → frame ≡ record { next = 0; is_over = true; start = length tally.trail }
    → IsFrame g part news tally frame
    → IsPartWalkedBefore g part (schedule_of news) tally.ends
    → AreBelow g part tally (length tally.trail) news frames
    → AreWalked g part tally news (frame ∷ frames)
walk_opens g part tally news frame frames fresh is walked below = (
  record {
    walked = rw zero (done_down g part (schedule_of news) tally.ends walked);
    over = rw fresh (λ cpu less. absurd (omega (arith, less, zero)));
    within = omega (arith, zero);
  },
  is,
  rw fresh below,
)
  where
    zero : frame.next ≡ 0
    zero = ap (λ (f : Level). f.next) fresh

-- ---- the stack

pub frames_pushed : (old reserved new : List Level) (frame : Level) → reserved ≡ old
    → new ≡ reserved ++ frame ∷ [] → reverse new ≡ frame ∷ reverse old
frames_pushed old reserved new frame same is = rw (is, same, reverse-append old (frame ∷ []))

pub frames_popped : (old new : List Level) (popped : Option Level) (frame : Level)
    → old ≡ new ++ option_to_list popped → popped ≡ Some frame → reverse old ≡ frame ∷ reverse new
frames_popped old new popped frame is some = rw (is, some, reverse-append new (frame ∷ []))

pub no_frames : (old new : List Level) (popped : Option Level) → old ≡ new ++ option_to_list popped
    → popped ≡ None → reverse old ≡ reverse new
no_frames old new popped is none = grind (arith, append-nil)

-- ---- the way back

-- the place that the latest turn came from
came_from : (g : Setting) (news before : List Record) (r : Record) (cpu : Option ℕ) (p q : PathValue)
    → p ≡ path_of g news → news ≡ before ++ r ∷ [] → IsBack p cpu q → q.news ≡ before
came_from g news before r None p q is longer back =
    absurd (omega (
      arith,
      length_push before r,
      ap length (sym longer ∙ (sym (ap (λ (x : PathValue). x.news) is) ∙ back.0)),
    ))
came_from g news before r (Some cpu) p q is longer back =
    (same_from_push q.news before back.0 r
    (sym (ap (λ (x : PathValue). x.news) back.2) ∙ (ap (λ (x : PathValue). x.news) is ∙ longer))).0

pub back_setting : (g : Setting) (news : List Record) (cpu : Option ℕ) (p q : PathValue)
    → p ≡ path_of g news → IsBack p cpu q → q.setting ≡ g
back_setting g news None p q is back = grind arith
back_setting g news (Some cpu) p q is back = grind arith

pub back_shorter : (g : Setting) (news : List Record) (cpu : Option ℕ) (p q : PathValue)
    → p ≡ path_of g news → IsBack p cpu q → length q.news ≤ length news
back_shorter g news None p q is back = grind arith
back_shorter g news (Some cpu) p q is back = grind (arith, length_push)

pub walk_back : (g : Setting) (part : PartValue) (most start : ℕ) (old new : TallyValue)
    (news : List Record) (frames : List Level) (cpu : Option ℕ) (p q : PathValue)
    → most ≤ start → GoOn start old new → AreBelow g part old most news frames
    → IsPartWalkedThrough g part (schedule_of news) new.ends
    → p ≡ path_of g news → IsBack p cpu q → AreWalked g part new q.news frames
walk_back g part most start old new news [] cpu p q le on b walked is back = rw b at walked
walk_back g part most start old new news (frame ∷ frames) cpu p q le on b walked is back =
    rw (came_from g news b.0 b.1 cpu p q is b.3 back) (
      record {
        walked =
            rw b.4 (done_past g part (schedule_of b.0) b.0 b.1.cpu new.ends b.8 b.9
            (rw (b.3, longer_schedule b.0 b.1) at walked));
        over = rw b.5 (b.1.cpu, b.2, b.6);
        within = omega (arith, b.4, b.7);
      },
      frame_goes_on g part start old new b.0 frame (omega (arith, b.12, le)) on b.10,
      below_goes_on g part frame.start start old new b.0 frames (omega (arith, b.12, le)) on b.11,
    )

-- as many places as records
pub below_many : (g : Setting) (part : PartValue) (tally : TallyValue) (most : ℕ) (news : List Record)
    (frames : List Level)
    → AreBelow g part tally most news frames → length frames ≡ length news
below_many g part tally most news [] b = sym (ap length b)
below_many g part tally most news (frame ∷ frames) b =
    omega (arith, below_many g part tally frame.start b.0 frames b.11, ap length b.3, length_push b.0 b.1)

-- ---- by what the path did

-- the history has room for another record
pub room_after : (g : Setting) (news : List Record) → is_full_after g news ≡ false
    → length (g.start ++ news) < g.layout.history
room_after g news not_full = grind (arith, leb-false, or_parts)

pub short_on : (p q : PathValue) (cpu : ℕ) → IsForth p cpu true q
    → length q.news ≤ q.setting.layout.history
short_on p q cpu forth = grind (arith, room_after, length-append, length_push)

pub some_news : (p q : PathValue) (cpu : ℕ) → IsForth p cpu true q → 0 < length q.news
some_news p q cpu forth = omega (arith, ap (λ (x : PathValue). length x.news) forth.3, length_push)

-- the setting is the same
pub forth_setting : (p q : PathValue) (cpu : ℕ) (went : Bool) → IsForth p cpu went q → q.setting ≡ p.setting
forth_setting p q cpu true forth = ap (λ (x : PathValue). x.setting) forth.3
forth_setting p q cpu false forth = ap (λ (x : PathValue). x.setting) forth.1

-- a place is left
pub gone_back : (g : Setting) (part : PartValue) (start : ℕ) (old new : TallyValue) (news : List Record)
    (frames all : List Level) (cpu : Option ℕ) (q : PathValue) (memo : MemoValue) (n : ℕ)
    → all ≡ frames → GoOn start old new → AreBelow g part old start news frames
    → IsPartWalkedThrough g part (schedule_of news) new.ends
    → IsBack (path_of g news) cpu q → IsMemo g new.ends memo → n ≡ length g.scripts
    → length news ≤ g.layout.history
    → AreWalked q.setting part new q.news all × IsMemo q.setting new.ends memo
    × (n ≡ length q.setting.scripts) × (length q.news ≤ q.setting.layout.history)
gone_back g part start old new news frames all cpu q memo n all_is on below walked back kept many short = (
  rw (same, all_is) (walk_back g part start start old new news frames cpu (path_of g news) q (omega arith) on
      below walked refl back),
  rw same kept,
  many ∙ ap (λ (h : Setting). length h.scripts) (sym same),
  rw same (omega (arith, back_shorter g news cpu (path_of g news) q refl back, short)),
)
  where
    same : q.setting ≡ g
    same = back_setting g news cpu (path_of g news) q refl back

-- ---- a place that the walk comes to, and leaves

-- as the path shows it
pub arrival : (p : PathValue) (part : PartValue) (records : List Record) (memory : MemoryValue)
    (cursors : List Cursor) (ends : List Ending) (memo : MemoValue)
    → records ≡ p.news → memory ≡ memory_at p.setting p.news → AreCursors p.setting p.news cursors
    → plays p.setting (schedule_of p.news) ≡ Some p.news
    → IsPartWalkedBefore p.setting part (schedule_of p.news) ends
    → IsOn (length p.setting.scripts) part (schedule_of p.news) → IsMemo p.setting ends memo
    → IsOnWay p.setting p.news memo → IsArrival p.setting part records memory cursors ends memo
arrival p part records memory cursors ends memo is memory_is at played walked on kept way =
    subst (λ (h : List Record). IsArrival p.setting part h memory cursors ends memo) (sym is) (record {
      stood = record {
        place = record { played = played; memory_is = memory_is; cursors_are = at };
        memo_is = kept;
        way = way;
      };
      walked = walked;
      on = on;
    })
