-- Answers to what a line asks for.
use Rattle.std.proofs.Common.{arith, ◌≡◌, ℕ, List, [], ◌∷◌, ◌++◌, Option, Some, None, Result, refl, ap, inl, inr}
use Rattle.std.specs.Prelude.{◌⊎◌, length, option_map, OnErr}
use Rattle.hp_units.specs.declared.events.Event.{Event}
use Rattle.hp_units.specs.declared.plans.Item.{Item}
use Rattle.hp_units.specs.declared.replies.OpEnd.{OpEnd}
use Rattle.hp_machine.specs.Machine.{MachineValue, sealed}
use Rattle.hp_machine.specs.MachinePorts.{IsPlanRun}
use Rattle.hp_requests.specs.declared.fault.ControlFault.{ControlFault}
use Rattle.hp_scenario.specs.Asked as asks
use Rattle.hp_scenario.specs.Asked.{asked_by}
use Rattle.hp_scenario.specs.Names.{Numbered, line_in}
use Rattle.hp_scenario.specs.declared.lines.Line.{Line}
use Rattle.hp_text.specs.FileFaults.{write_fault_line}
use Rattle.hp_text.specs.Plans.{plan_line}
use Rattle.hp_commands.specs.Files.{cat_text}
use Rattle.hp_scripts.specs.Bindings.{Bound, bound_after}
use Rattle.hp_scripts.specs.declared.bindings.Naming.{Naming}
use Rattle.hp_scripts.specs.declared.plain.PlainLine.{PlainLine}
use Rattle.hp_live.specs.Answers.{AnswerValue, Answers, IsDone, IsEventDone, IsPlanTold, did_text}
use Rattle.hp_live.specs.Results.{IsKnown, Typed, number_asked, typed_by, typed_in}
use Rattle.hp_live.specs.Sessions.{AnswersRead, AnswersText, IsLostTyped, RunsLine, SessionValue}
use Rattle.hp_live.specs.Talks.{IsLostText, StatesValue}
use Rattle.hp_live.specs.declared.answers.Did.{Did}
use Rattle.hp_live.specs.declared.answers.Did.TheVariants as did
use Rattle.hp_live.specs.declared.session.Lack.{Lack}
use Rattle.hp_live.specs.declared.session.Lack.TheVariants as lack
use Rattle.hp_live.proofs.Rowed.{typed_is}

pub plan_answered : (m new : MachineValue) (cpu turns : ℕ) (plan : List Item) (a : AnswerValue)
    → IsPlanTold m cpu turns plan a new → Answers m cpu (asks.plan plan turns) a new
plan_answered m new cpu turns plan a t = ((t.0, t.1, ap (λ (x : AnswerValue). x.text) t.2), t)

-- ---- what was done, though there was no memory to write it

-- with an error or without
pub on_err : {T E P : Type 0} (r : Result T E) → P → OnErr r P
on_err r p = grind arith

pub event_done : (m new : MachineValue) (cpu : ℕ) (event : Event) (d said : Did) → said ≡ d
    → IsEventDone m cpu event d new → IsDone m cpu (asks.event event) said new
event_done m new cpu event d said same done = rw same (did_text d, done.0, done.1)

pub plan_done : (m new : MachineValue) (cpu turns : ℕ) (plan : List Item) (d : Did)
    → (end : OpEnd) × IsPlanRun m cpu turns plan end new → IsDone m cpu (asks.plan plan turns) d new
plan_done m new cpu turns plan d ran = (plan_line ran.0, (ran.0, ran.1, refl), tt)

pub not_taken_done : (m : MachineValue) (cpu : ℕ) (fault : ControlFault) (d : Did)
    → IsDone m cpu (asks.not_taken fault) d m
not_taken_done m cpu fault d = (write_fault_line fault, (refl, refl), tt)

pub file_done : (m : MachineValue) (cpu : ℕ) (path : List ℕ) (d : Did) → IsDone m cpu (asks.cat path) d m
file_done m cpu path d = (cat_text m path, (inl refl, refl), tt)

pub seal_done : (m new : MachineValue) (cpu : ℕ) (d : Did) → new ≡ sealed m → IsDone m cpu asks.seal d new
seal_done m new cpu d goes = (did_text (did.Sealed (length m.history)), (refl, goes), tt)

-- ---- a line that was answered

-- what was done is what the answer says
pub answer_done : (m new : MachineValue) (cpu : ℕ) (meaning : asks.Meaning) (a : AnswerValue)
    → Answers m cpu meaning a new → IsDone m cpu meaning a.did new
answer_done m new cpu (asks.event event) a answered = (a.text, answered.0, answered.1.1)
answer_done m new cpu meaning a answered = (a.text, answered.0, tt)

-- ---- a line that was run and is kept, but not answered

pub lost_line : (given : Lack) (names after : List (List ℕ)) (lines kept : List Line) (bound noted : Bound)
    (m new : MachineValue) (plain : PlainLine) (found : Option Line) (line : Line) (d : Did) (number : ℕ)
    → given ≡ lack.Answer
    → IsDone m line.cpu (asked_by line.work) d new → number ≡ number_asked (asked_by line.work) d
    → found ≡ Some line
    → option_map {T = Line} {U = Numbered} (λ l. record { names = after; line = l }) found
    ≡ line_in names plain.text
    → kept ≡ lines ++ line ∷ [] → IsKnown bound plain.naming (length lines) number noted
    → IsLostTyped given (record { names = names; lines = lines; bound = bound; machine = m })
    (typed_by names plain)
    (record { names = after; lines = kept; bound = noted; machine = new })
lost_line given names after lines kept bound noted m new plain found line d number same done is at read keeps
    known =
    rw same (
      record { numbered = record { names = after; line = line }; naming = plain.naming },
      done.0,
      typed_is names after plain found line at read,
      record { did = d; done = done; ran = done.1; names = refl; lines = keeps; bound = rw (← is) known },
    )

-- ---- a line that was answered, but whose reply was lost

known_after : (old new : Bound) (naming : Option Naming) (line number : ℕ)
    → new ≡ bound_after old naming line number → IsKnown old naming line number new
known_after old new None line number is = is
known_after old new (Some naming) line number is = inl is

answered_run : (typed : Option Typed) (s new : SessionValue) (a : AnswerValue) → AnswersRead s typed a new
    → (new ≡ s) ⊎ ((t : Typed) × (written : List ℕ) × (typed ≡ Some t) × RunsLine s t written new)
answered_run None s new a answered = inl answered.1
answered_run (Some t) s new a answered =
    let line = t.numbered.line in
    inr (
      t,
      a.text,
      refl,
      record {
        did = a.did;
        done = answer_done s.machine new.machine line.cpu (asked_by line.work) a answered.0;
        ran = answered.0.0;
        names = ap (λ (x : SessionValue). x.names) answered.1;
        lines = ap (λ (x : SessionValue). x.lines) answered.1;
        bound =
            known_after s.bound new.bound t.naming (length s.lines) (number_asked (asked_by line.work) a.did)
            (ap (λ (x : SessionValue). x.bound) answered.1);
      },
    )

pub shown_lost : (s new shown : SessionValue) (states after : StatesValue) (text : List ℕ) (a : AnswerValue)
    → AnswersText s text a new → shown ≡ new → after ≡ states
    → IsLostText (record { session = s; states = states }) text
    (record { session = shown; states = after })
shown_lost s new shown states after text a answered same stay = (
  rw same (answered_run (typed_in s.names s.bound text) s new a answered),
  stay,
)
