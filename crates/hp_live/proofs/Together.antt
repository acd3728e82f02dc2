-- Answers in a row.
use Rattle.std.proofs.Common.{arith, ◌≡◌, ℕ, List, [], ◌∷◌, ◌++◌, Option, Ok, refl, sym, ap, append-nil, append_assoc}
use Rattle.hp_units.specs.LayoutParts.{LayoutParts}
use Rattle.hp_machine.specs.Machine.{MachineValue, booted}
use Rattle.hp_scenario.specs.Names.{Numbered, line_in}
use Rattle.hp_scenario.specs.Scenario.{lines_from, nothing, scenario_in}
use Rattle.hp_scripts.specs.Named.{NamedValue}
use Rattle.hp_scripts.specs.Plain.{plain_in}
use Rattle.hp_scripts.specs.declared.plain.PlainLine.{PlainLine}
use Rattle.hp_commands.specs.Serial.{WritesLines}
use Rattle.hp_commands.specs.Served.{IsTextOf}
use Rattle.hp_commands.proofs.Lines.{one_more}
use Rattle.hp_commands.proofs.Served.{ran_text}
use Rattle.hp_text.specs.State.{state_text}
use Rattle.hp_live.specs.Answers.{AnswerValue}
use Rattle.hp_live.specs.Results.{Typed, typed_in, typed_of}
use Rattle.hp_live.specs.Sessions.{AnswersAll, AnswersRead, IsResumed, SessionValue, script_of, started, taken, took}

-- ---- what is written

-- the lines of a scenario
pub resumed_run : (scenario : NamedValue) (s : SessionValue) → (begun : IsResumed scenario s)
    → WritesLines (booted scenario.scenario.layout) s.lines begun.text s.machine
resumed_run scenario s begun = rw begun.lines begun.run

-- the lines so far, and one text more
pub one_answer : (t : Option Typed) (m : MachineValue) (s next : SessionValue) (a : AnswerValue)
    (before : List ℕ)
    → WritesLines m s.lines before s.machine → AnswersRead s t a next
    → WritesLines m next.lines (before ++ a.text) next.machine
one_answer t m s next a before ran answered = grind (arith, append-nil, one_more)

-- and all texts
all_answers : (texts : List (List ℕ)) (m : MachineValue) (s new : SessionValue) (before written : List ℕ)
    → WritesLines m s.lines before s.machine → AnswersAll s texts written new
    → WritesLines m new.lines (before ++ written) new.machine
unfolding AnswersAll
all_answers [] m s new before written ran all = grind (arith, append-nil)
all_answers (text ∷ texts) m s new before written ran all =
    grind (
      arith,
      append_assoc,
      one_answer,
      (all_answers texts m all.1 new (before ++ all.0.text) all.2
          (one_answer (typed_in s.names s.bound text) m s all.1 all.0 before ran all.3) all.5),
    )

pub answers_write : (l : LayoutParts) (texts : List (List ℕ)) (written : List ℕ) (s : SessionValue)
    → AnswersAll (started l) texts written s → WritesLines (booted l) s.lines written s.machine
unfolding WritesLines
answers_write l texts written s all =
    all_answers texts (booted l) (started l) s [] written (refl, refl) all

-- after the lines of a scenario
pub answers_resume : (scenario : NamedValue) (texts : List (List ℕ)) (written : List ℕ)
    (first s : SessionValue)
    → (begun : IsResumed scenario first) → AnswersAll first texts written s
    → WritesLines (booted scenario.scenario.layout) s.lines (begun.text ++ written) s.machine
answers_resume scenario texts written first s begun all = grind (arith, all_answers, resumed_run)

-- with the state after them it is a text of `hotplug serial`
pub answers_serve : (l : LayoutParts) (texts : List (List ℕ)) (written : List ℕ) (s : SessionValue)
    → AnswersAll (started l) texts written s → (input : List ℕ)
    → scenario_in input ≡ Ok (record { layout = l; names = s.names; lines = s.lines })
    → IsTextOf input (written ++ state_text s.machine.layout s.names s.machine.state)
answers_serve l texts written s all input read =
    ran_text input (record { layout = l; names = s.names; lines = s.lines }) (booted l) s.machine s.lines
    (record { layout = s.machine.layout; memory = s.machine.state }) [] written
    (written ++ state_text s.machine.layout s.names s.machine.state) read refl refl refl
    (record { text = written; grown = refl; is = answers_write l texts written s all }) refl refl

-- ---- what is read

-- a plain text that is a line
first_taken : (n : Option Numbered) (plain : PlainLine) (more : List (List ℕ)) (at : ℕ)
    (s next new : SessionValue) (a : AnswerValue)
    → line_in s.names plain.text ≡ n → AnswersRead s (typed_of plain n) a next
    → ((k : ℕ) → lines_from k (script_of next) more ≡ Ok (script_of new))
    → lines_from at (script_of s) (took (typed_of plain n) plain.text more) ≡ Ok (script_of new)
unfolding lines_from
first_taken n plain more at s next new a is answered rest = grind arith

all_taken : (texts : List (List ℕ)) (at : ℕ) (s new : SessionValue) (written : List ℕ)
    → (all : AnswersAll s texts written new)
    → lines_from at (script_of s) (taken s texts written new all) ≡ Ok (script_of new)
unfolding AnswersAll lines_from taken
all_taken [] at s new written all = ap (λ (x : SessionValue). Ok (script_of x)) (sym all.1)
all_taken (text ∷ texts) at s new written all =
    let plain = plain_in s.bound text in
    first_taken (line_in s.names plain.text) plain (taken all.1 texts all.2 new all.5) at s all.1 new all.0
    refl all.3 (λ k. all_taken texts k all.1 new all.2 all.5)

pub answers_read : (l : LayoutParts) (texts : List (List ℕ)) (written : List ℕ) (s : SessionValue)
    → (all : AnswersAll (started l) texts written s)
    → lines_from 1 nothing (taken (started l) texts written s all) ≡ Ok (script_of s)
answers_read l texts written s all = all_taken texts 1 (started l) s written all
