-- A place that the walk comes to: its frame, and what goes on from there.
use Rattle.std.proofs.Common.{◌≡◌, ℕ, ◌≤◌, List, length, refl, arith}
use Rattle.std.proofs.lemmas.List.{append-nil, drop_all, length-map}
use Rattle.hp_units.specs.declared.replies.Record.{Record}
use Rattle.hp_schedules.specs.Notes.{TallyValue}
use Rattle.hp_schedules.specs.Parts.{AllOfPart, ComesTo, IsOfPart, PartValue}
use Rattle.hp_schedules.specs.Schedules.{Setting, schedule_of}
use Rattle.hp_schedules.specs.Shares.{AddsShares}
use Rattle.hp_schedules.specs.Trails.{KeepsBefore}
use Rattle.hp_schedules.specs.declared.trail.Share.{Share}
use Rattle.hp_schedules.proofs.Trails.{keeps_none}
use Rattle.hp_states.specs.Frames.{GoOn, IsAdded, IsEntered, IsEnteredWithin, IsFrame, IsFresh}
use Rattle.hp_states.specs.Seen.{Grow}
use Rattle.hp_states.specs.Walks.{IsPartWalkedBefore, IsPartWalkedThrough}
use Rattle.hp_states.specs.declared.frames.Treatment.{Treatment}
use Rattle.hp_states.specs.declared.frames.Treatment.TheVariants.{Counted, Open}
use Rattle.hp_states.specs.declared.frames.Level.{Level}
use Rattle.hp_states.proofs.Counts.{counts_many, since_now}
use Rattle.hp_states.proofs.Grown.{grow_none, grow_twice}
use Rattle.hp_states.proofs.OfPart.{all_of, none_of}
use Rattle.hp_states.proofs.Rooms.{done_apart}

-- ---- as the walk goes on

pub frame_goes_on : (g : Setting) (part : PartValue) (start : ℕ) (old new : TallyValue)
    (news : List Record) (frame : Level)
    → frame.start ≤ start → GoOn start old new → IsFrame g part news old frame
    → IsFrame g part news new frame
frame_goes_on g part start old new news frame le on is = search (arith, grow_twice, counts_many, on.told.told)

-- one after the other
pub go_on_twice : (start later : ℕ) (old mid new : TallyValue) → start ≤ later → GoOn later old mid
    → GoOn start mid new → GoOn start old new
go_on_twice start later old mid new le first then = record {
  grown = grow_twice old.ends mid.ends new.ends first.grown then.grown;
  told = record {
    longer = then.told.longer;
    told =
        λ s earlier within short was.
        then.told.told s earlier within (omega (arith, short, first.grown.longer))
        (first.told.told s earlier (omega (arith, within, le)) short was);
  };
}

-- what was counted is added up
pub go_on_gathered : {start : ℕ} {old new : TallyValue} → new.ends ≡ old.ends → KeepsBefore start old new
    → GoOn start old new
go_on_gathered same told = grind (arith, grow_none)

-- ---- a place that the walk comes to

-- it is walked
pub entered_fresh : (g : Setting) (news : List Record) (part : PartValue) (tally : TallyValue)
    (frame : Level)
    → ComesTo (length g.scripts) part (schedule_of news)
    → IsPartWalkedBefore g part (schedule_of news) tally.ends → IsFresh tally frame
    → IsEntered g news part tally tally (Open frame)
entered_fresh g news part tally frame comes walked fresh = (
  refl,
  fresh,
  rw fresh (record {
    comes = comes;
    within = omega arith;
    reached = record {
      old = tally.ends;
      counted = rw (drop_all (length tally.trail) tally.trail (omega arith)) (since_now tally.ends);
      before = walked.counted;
      grown = grow_none tally.ends;
    };
  }),
)

-- where all that go on from there belong to the part
pub entered_within : (g : Setting) (news : List Record) (tally : TallyValue) (frame : Level)
    → IsFresh tally frame
    → IsEnteredWithin g news tally tally (Open frame)
entered_within g news tally frame fresh part all walked = grind (arith, entered_fresh, append-nil)

-- it is another part's, as was found out of its records
pub left_out : (g : Setting) (part : PartValue) (news : List Record) (n : ℕ) (t : TallyValue)
    → n ≡ length g.scripts → part.calls ≤ length news → (IsOfPart n part (schedule_of news) → ⊥)
    → IsPartWalkedBefore g part (schedule_of news) t.ends
    → IsPartWalkedThrough g part (schedule_of news) t.ends × GoOn (length t.trail) t t
left_out g part news n t many long apart walked = (
  done_apart g part (schedule_of news) t.ends
      (none_of (length g.scripts) part (schedule_of news)
      (omega (arith, long, length-map news (λ (r : Record). r.cpu))) (λ of. apart (rw many of))) walked,
  record { grown = grow_none t.ends; told = keeps_none t },
)

-- or all that go on from there do
pub let_in : (g : Setting) (news : List Record) (part : PartValue) (n : ℕ) (old new : TallyValue)
    (treatment : Treatment)
    → n ≡ length g.scripts → part.calls ≤ length news → IsOfPart n part (schedule_of news)
    → IsPartWalkedBefore g part (schedule_of news) old.ends
    → IsEnteredWithin g news old new treatment → IsEntered g news part old new treatment
let_in g news part n old new treatment many long of walked within = grind (arith, all_of, length-map)

-- or what was counted from another place is counted once more, as far as there is room
pub entered_added : (g : Setting) (news : List Record) (old new : TallyValue) (shares : List Share)
    (treatment : Treatment)
    → (AddsShares old.ends shares new.ends → (part : PartValue)
    → AllOfPart (length g.scripts) part (schedule_of news)
    → IsPartWalkedBefore g part (schedule_of news) old.ends
    → IsPartWalkedThrough g part (schedule_of news) new.ends × Grow old.ends new.ends)
    → IsAdded old shares new treatment → IsEnteredWithin g news old new treatment
entered_added g news old new shares Counted walked added part all before =
    let through = walked added.0 part all before in
    (through.0, record { grown = through.1; told = added.1 })
entered_added g news old new shares (Open frame) walked added part all before =
    rw added.0 (entered_within g news old frame added.1 part all before)
