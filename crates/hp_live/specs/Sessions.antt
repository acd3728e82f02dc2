-- A session, the answer to a text, and the effect of a sequence of answers.
use Rattle.std.specs.Prelude.{◌≡◌, ℕ, ◌-◌, ◌^◌, List, [], ◌∷◌, ◌++◌, length, Option, Some, None}
use Rattle.hp_units.specs.LayoutParts.{LayoutParts}
use Rattle.hp_machine.specs.Machine.{MachineValue, booted}
use Rattle.hp_scenario.specs.Asked.{asked_by}
use Rattle.hp_scripts.specs.Bindings.{Bound, bound_after}
use Rattle.hp_scripts.specs.Named.{NamedValue}
use Rattle.hp_scripts.specs.Plain.{plain_in}
use Rattle.hp_scripts.specs.Resolved.{Resolves}
use Rattle.hp_scenario.specs.Scenario.{Script}
use Rattle.hp_scenario.specs.declared.lines.Line.{Line}
use Rattle.hp_commands.specs.Serial.{WritesLine, WritesLines}
use Rattle.hp_live.specs.Answers.{AnswerValue, Answers, IsDone, untold}
use Rattle.hp_live.specs.Results.{IsKnown, Typed, number_asked, typed_in}
use Rattle.hp_live.specs.declared.answers.Did.{Did}
use Rattle.hp_live.specs.declared.session.Lack.{Lack}
use Rattle.hp_live.specs.declared.session.Lack.TheVariants as lack

-- the owners' names, all lines so far with numbers in place of names for results, the bindings of
-- names, and the machine after the lines
pub record SessionValue : Type 0 where
  pub names : List (List ℕ)
  pub lines : List Line
  pub bound : Bound
  pub machine : MachineValue

-- a layout's session at boot
abbrev pub started : LayoutParts → SessionValue
started l = record { names = []; lines = []; bound = []; machine = booted l }

-- a session after one more line, with the number of its result and the machine after it
abbrev pub with_line : SessionValue → Typed → (number : ℕ) → MachineValue → SessionValue
with_line s t number machine = record {
  names = t.numbered.names;
  lines = s.lines ++ t.numbered.line ∷ [];
  bound = bound_after s.bound t.naming (length s.lines) number;
  machine = machine;
}

-- a line was run and is kept, and its text is the one that `hotplug serial` writes for it
pub record RunsLine (s : SessionValue) (t : Typed) (text : List ℕ) (new : SessionValue) : Type 0 where
  pub did : Did
  pub done :
      IsDone s.machine t.numbered.line.cpu (asked_by t.numbered.line.work) did new.machine
  pub ran : WritesLine s.machine t.numbered.line text new.machine
  pub names : new.names ≡ t.numbered.names
  pub lines : new.lines ≡ s.lines ++ t.numbered.line ∷ []
  pub bound :
      IsKnown s.bound t.naming (length s.lines) (number_asked (asked_by t.numbered.line.work) did) new.bound

-- the session after a scenario's lines, which were run from boot on with plain numbers
pub record IsResumed (s : NamedValue) (new : SessionValue) : Type 0 where
  pub plain : NamedValue
  pub resolved : Resolves (2 ^ 64 - 1) s plain
  pub text : List ℕ
  pub run : WritesLines (booted s.scenario.layout) plain.scenario.lines text new.machine
  pub names : new.names ≡ plain.scenario.names
  pub lines : new.lines ≡ plain.scenario.lines
  pub bound : new.bound ≡ plain.bound

-- ---- one text

-- the answer to a text, given the line in it; None if it cannot be read as a line. Such a text gets an
-- empty answer, and changes nothing
abbrev pub AnswersRead : SessionValue → Option Typed → AnswerValue → (new : SessionValue) → Type 0
AnswersRead s None a new = (a ≡ untold) × (new ≡ s)
AnswersRead s (Some t) a new =
    Answers s.machine t.numbered.line.cpu (asked_by t.numbered.line.work) a new.machine
    × (new ≡ with_line s t (number_asked (asked_by t.numbered.line.work) a.did) new.machine)

-- the answer to a text, and the session after it
abbrev pub AnswersText : SessionValue → (text : List ℕ) → AnswerValue → (new : SessionValue) → Type 0
AnswersText s text a new = AnswersRead s (typed_in s.names s.bound text) a new

-- the session after memory ran out. If the line could not be kept, the session is as before. If the
-- answer could not be made, the text is a line, which was run and is kept
abbrev pub IsLostTyped : Lack → SessionValue → Option Typed → (new : SessionValue) → Type 0
IsLostTyped lack.Line s typed new = new ≡ s
IsLostTyped lack.Answer s typed new =
    (t : Typed) × (written : List ℕ) × (typed ≡ Some t) × RunsLine s t written new

-- the session after memory ran out in the answer to this text
abbrev pub IsLost : Lack → SessionValue → (text : List ℕ) → (new : SessionValue) → Type 0
IsLost given s text new = IsLostTyped given s (typed_in s.names s.bound text) new

-- ---- one text after another

-- the texts were answered one after another; `written` are the answers' texts, joined
unfoldable pub AnswersAll : SessionValue → (texts : List (List ℕ)) → (written : List ℕ) → (new : SessionValue)
    → Type 0
AnswersAll s [] written new = (written ≡ []) × (new ≡ s)
AnswersAll s (text ∷ texts) written new =
    (a : AnswerValue) × (next : SessionValue) × (rest : List ℕ) × AnswersText s text a next
    × (written ≡ a.text ++ rest) × AnswersAll next texts rest new

-- the texts `more`, with the text `plain` in front of them if it is a line
abbrev pub took : Option Typed → (plain : List ℕ) → (more : List (List ℕ)) → List (List ℕ)
took None plain more = more
took (Some t) plain more = plain ∷ more

-- the texts that can be read as lines, with numbers in place of names for results
unfoldable pub taken : (s : SessionValue) → (texts : List (List ℕ)) → (written : List ℕ)
    → (new : SessionValue) → AnswersAll s texts written new → List (List ℕ)
unfolding AnswersAll
taken s [] written new all = []
taken s (text ∷ texts) written new all =
    took (typed_in s.names s.bound text) (plain_in s.bound text).text (taken all.1 texts all.2 new all.5)

-- a session's names and lines, in the form of a scenario's `calls`
abbrev pub script_of : SessionValue → Script
script_of s = record { names = s.names; lines = s.lines }
