-- The causes of faults of a part's search; and the search of the only part of one.
use Rattle.std.proofs.Common.{◌≡◌, ℕ, ◌≤◌, List, [], ◌∷◌, ◌++◌, Some, length, refl, inr}
use Rattle.std.specs.Prelude.{sum_by}
use Rattle.hp_schedules.specs.Ends.{AreCounted}
use Rattle.hp_explore.specs.Faults.{FillsHistory, FillsPart, IsCause, IsCauseHere, IsCausePart, IsCausePartWithin, IsCauseWithin}
use Rattle.hp_schedules.specs.Orders.{HasMoreThan}
use Rattle.hp_explore.specs.Fronts.{AreFirst, AreFirstInPart}
use Rattle.hp_schedules.specs.Outcomes.{OutcomeValue}
use Rattle.hp_schedules.specs.Parts.{ComesTo, EndsInPart, IsCompleteInPart, PartValue}
use Rattle.hp_schedules.specs.Schedules.{EndsWith, IsComplete, Setting, plays, schedule_of}
use Rattle.hp_states.specs.Walks.{Before, BeforeInPart, IsPartWalkedBefore, IsPartWalkedThrough}
use Rattle.hp_explore.specs.declared.exploring.ExploreFault.{ExploreFault}
use Rattle.hp_explore.specs.declared.exploring.ExploreFault.TheVariants.{HistoryFull, OutOfMemory}
use Rattle.hp_schedules.specs.declared.tally.Ending.{Ending}
use Rattle.hp_schedules.proofs.Counts.{same_counted}
use Rattle.hp_schedules.proofs.Uniqueness.{no_more}
use Rattle.hp_units.specs.declared.replies.Record.{Record}
use Rattle.hp_states.proofs.OfPart.{whole}

-- the cause of a fault of a call that the search makes, where all before it was walked
pub cause_within : (g : Setting) (part : PartValue) (news : List Record) (cpu : ℕ) (ends : List Ending)
    (limit : ℕ) (fault : ExploreFault)
    → plays g (schedule_of news) ≡ Some news → ComesTo (length g.scripts) part (schedule_of news)
    → IsPartWalkedBefore g part (schedule_of news ++ cpu ∷ []) ends
    → sum_by (λ (e : Ending). e.count) ends ≤ limit → IsCauseHere g news cpu fault
    → IsCausePartWithin g part limit fault
cause_within g part news cpu ends limit HistoryFull played comes walked within full = record {
  place = schedule_of news;
  call = record { news = news; cpu = cpu; event = full.0; played = played; asked = full.1; full = full.2 };
  comes = comes;
  first = walked.room;
  few =
      no_more (λ s. (x : OutcomeValue) × BeforeInPart g part (schedule_of news ++ cpu ∷ []) s x)
      (sum_by (λ (e : Ending). e.count) ends) limit within walked.counted.total;
}
cause_within g part news cpu ends limit OutOfMemory played comes walked within any = tt

-- it is one of the part's search, whatever the limit
pub cause_part : (g : Setting) (part : PartValue) (limit : ℕ) (fault : ExploreFault)
    → IsCausePartWithin g part limit fault → IsCausePart g part fault
cause_part g part limit HistoryFull cause = (cause.place, cause.call, cause.comes)
cause_part g part limit OutOfMemory any = tt

-- after all no call of a part fills the history
pub none_fills : (g : Setting) (part : PartValue) (ends : List Ending) → IsPartWalkedThrough g part [] ends
    → FillsPart g part → ⊥
none_fills g part ends w fills = w.onward fills.0 fills.1 fills.2 (fills.0, refl)

-- ---- the only part of one

pub whole_counted : (g : Setting) (ends : List Ending) → AreCounted (EndsInPart g whole) ends
    → AreCounted (EndsWith g) ends
whole_counted g ends ok =
    same_counted (EndsInPart g whole) (EndsWith g) ends (λ s x h. h.0) (λ s x h. (h, refl)) ok

pub whole_first : (g : Setting) (limit : ℕ) (ends : List Ending) → AreFirstInPart g whole limit ends
    → AreFirst g limit ends
whole_first g limit ends first = record {
  place = first.place;
  next = (first.next.0, first.next.1.0);
  walked = record {
    counted =
        same_counted (BeforeInPart g whole first.place) (Before g first.place) ends
        (λ s x h. (h.0, h.1.0)) (λ s x h. (h.0, (h.1, refl))) first.walked.counted;
    ordered = first.walked.ordered;
    room = λ s h b. first.walked.room s h (inr refl) b;
  };
  full = first.full;
}

pub whole_more : (g : Setting) (n : ℕ) → HasMoreThan (IsCompleteInPart g whole) n
    → HasMoreThan (IsComplete g) n
whole_more g n more = (
  more.0,
  record { each = λ i s h. ((more.1.each i s h).0, (more.1.each i s h).1.0); once = more.1.once },
  more.2,
)

pub more_whole : (g : Setting) (n : ℕ) → HasMoreThan (IsComplete g) n
    → HasMoreThan (IsCompleteInPart g whole) n
more_whole g n more = (
  more.0,
  record { each = λ i s h. ((more.1.each i s h).0, ((more.1.each i s h).1, refl)); once = more.1.once },
  more.2,
)

pub fills_whole : (g : Setting) → FillsHistory g → FillsPart g whole
fills_whole g fills = (fills.0, fills.1, inr refl)

pub cause_whole : (g : Setting) (fault : ExploreFault) → IsCausePart g whole fault → IsCause g fault
cause_whole g HistoryFull cause = (cause.0, cause.1)
cause_whole g OutOfMemory cause = tt

pub within_whole : (g : Setting) (limit : ℕ) (fault : ExploreFault) → IsCausePartWithin g whole limit fault
    → IsCauseWithin g limit fault
within_whole g limit HistoryFull cause = record {
  place = cause.place;
  call = cause.call;
  first = λ s h b. cause.first s h (inr refl) b;
  few =
      λ more. cause.few (
        more.0,
        record {
          each =
              λ i s h. (
                (more.1.each i s h).0,
                ((more.1.each i s h).1.0, ((more.1.each i s h).1.1, refl)),
              );
          once = more.1.once;
        },
        more.2,
      );
}
within_whole g limit OutOfMemory any = tt
