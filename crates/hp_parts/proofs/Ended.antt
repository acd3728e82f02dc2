-- How a schedule is followed, and how it ends.
use Rattle.std.proofs.Common.{◌≡◌, ℕ, ◌+◌, ◌<◌, Bool, true, false, List, ◌∷◌, ◌++◌, length, get_or, take, drop, Option, Some, None, sym, ◌∙◌, append_assoc}
use Rattle.std.proofs.lemmas.List.{drop_more, take-append-drop, take_more}
use Rattle.std.proofs.lemmas.Option.{none-some}
use Rattle.hp_schedules.specs.Outcomes.{OutcomeValue, outcome}
use Rattle.hp_explore.specs.Faults.{FillsAlong, FillsHere}
use Rattle.hp_explore.specs.Paths.{IsForth, IsOver, PathValue, state_at}
use Rattle.hp_schedules.specs.Schedules.{Setting, outcome_after, plays, record_of_call, schedule_of}
use Rattle.hp_explore.proofs.Framing.{longer_schedule}
use Rattle.hp_schedules.proofs.Plays.{caller, stops}
use Rattle.hp_schedules.specs.Parts.{IsOfPart, PartValue}
use Rattle.hp_parts.specs.Ends.{IsEndOf, IsFollowed}

-- a schedule by the calls before one, that one, and those after it
whole : (schedule : List ℕ) (index cpu : ℕ) → index < length schedule → cpu ≡ get_or schedule index cpu
    → take index schedule ++ cpu ∷ drop (index + 1) schedule ≡ schedule
whole schedule index cpu lt is = rw (is, ← drop_more schedule index cpu lt, take-append-drop)

module _ (g : Setting) (schedule : List ℕ) (index cpu : ℕ) (p : PathValue) (lt : index < length schedule)
    (is : cpu ≡ get_or schedule index cpu) (here : p.setting ≡ g)
    (so_far : schedule_of p.news ≡ take index schedule) where
  -- a call more of a schedule
  pub followed : (q : PathValue) → IsForth p cpu true q
      → (q.setting ≡ g) × (schedule_of q.news ≡ take (index + 1) schedule)
  followed q forth = (
    rw forth.3 here,
    rw (
      forth.3,
      longer_schedule p.news (record_of_call p.setting p.news cpu forth.0),
      so_far,
      caller p.setting p.news cpu forth.0,
      is,
    ) (sym (take_more schedule index cpu lt)),
  )

  -- or its processor has no call to make
  pub unfollowed : (q : PathValue) → plays p.setting (schedule_of p.news) ≡ Some p.news
      → IsForth p cpu false q → plays g schedule ≡ None
  unfollowed q played forth =
      rw (← whole schedule index cpu lt is)
      (stops g (take index schedule) (drop (index + 1) schedule) p.news cpu (rw (← here, ← so_far) played)
      (rw (← here) forth.0))

  -- or the history has no room for it
  pub filled : plays p.setting (schedule_of p.news) ≡ Some p.news → FillsHere p.setting p.news cpu
      → FillsAlong g schedule
  filled played full = (
    take index schedule,
    record {
      news = p.news;
      cpu = cpu;
      event = full.0;
      played = rw (← here, ← so_far) played;
      asked = rw (← here) full.1;
      full = rw (← here) full.2;
    },
    (drop (index + 1) schedule, rw (append_assoc, whole schedule index cpu lt is)),
  )

-- it was followed to its end
pub ended : (part : PartValue) (p : PathValue) (processors : ℕ) (x : OutcomeValue)
    → plays p.setting (schedule_of p.news) ≡ Some p.news → IsOver p
    → IsOfPart (length p.setting.scripts) part (schedule_of p.news) → processors ≡ length p.setting.scripts
    → x ≡ outcome processors p.news p.setting.layout (state_at p)
    → IsEndOf p.setting part (schedule_of p.news) (Some x)
unfolding outcome_after
ended part p processors x played over of all is =
    (record { news = p.news; played = played; over = over; ends = rw (← all) (sym is) }, of)

-- a schedule that was not followed to its end
pub unplayed : (g : Setting) (part : PartValue) (schedule : List ℕ) (p q : PathValue) (led : Bool)
    → IsFollowed p.setting schedule led q → led ≡ false → p.setting ≡ g → IsEndOf g part schedule None
unplayed g part schedule p q led way not_led same = λ x ends.
    none-some _ (sym (rw (not_led, same) at way) ∙ ends.0.played)

-- one that was ends as the path does that it led to
pub led_to : (g : Setting) (part : PartValue) (schedule : List ℕ) (p q : PathValue) (led : Bool)
    (x : Option OutcomeValue) → IsFollowed p.setting schedule led q → led ≡ true → p.setting ≡ g
    → IsEndOf q.setting part (schedule_of q.news) x → IsEndOf g part schedule x
led_to g part schedule p q led x way is_led same ends =
    let at = rw is_led at way in rw (← at.1, ← same, ← at.0) ends
