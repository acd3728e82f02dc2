-- The reply to a line of a talk, in rows.
use Rattle.std.specs.Prelude.{◌≡◌, ◌+◌, ◌-◌, ◌^◌, ◌⊎◌, ℕ, Bool, List, [], ◌∷◌, ◌++◌, codes, flat_map, length, Option, Some, None}
use Rattle.std.specs.List.{AllByRecursion}
use Rattle.hp_scripts.specs.Bindings.{Bound, bound_after}
use Rattle.hp_scripts.specs.Named.{NamedValue}
use Rattle.hp_scripts.specs.Resolved.{Resolves}
use Rattle.hp_scenario.specs.Asked.{asked_by}
use Rattle.hp_scenario.specs.Scenario.{ScenarioValue}
use Rattle.hp_scenario.specs.declared.lines.Line.{Line}
use Rattle.hp_text.specs.Scenarios.{scenario_text}
use Rattle.hp_text.specs.State.{state_text}
use Rattle.hp_trace.specs.Lives.{IsBegun, LiveValue, LivesOn, without_text}
use Rattle.hp_trace.specs.Traces.{IsTraceOf}
use Rattle.hp_trace.specs.declared.view.View.{View}
use Rattle.hp_live.specs.Results.{IsKnown, Typed, number_left, typed_in}
use Rattle.hp_live.specs.Talks.{IsUnread, word_of}
use Rattle.hp_live.specs.declared.live_words.LiveWord.{LiveWord}
use Rattle.hp_live.specs.declared.live_words.LiveWord.TheVariants as word

-- the reply if memory ran out
abbrev pub lost_row : List ℕ
lost_row = codes "fault OutOfMemory\n"

-- the owners' names, the lines so far with plain numbers, the bindings of names, the machine with the
-- rows of the last line, and the last reply
pub record RowsSession : Type 0 where
  pub names : List (List ℕ)
  pub lines : List Line
  pub bound : Bound
  pub trace : LiveValue
  pub text : List ℕ

-- the view (the rows that are shown, and how) of all lines after those of a scenario
abbrev pub later_view : ScenarioValue → (width : ℕ) → (orders : Bool) → View
later_view s width orders =
    record { from = length s.lines + 1; to = 2 ^ 64 - 1; every = 1; width = width; orders = orders }

-- the scenario's lines were run with plain numbers, and no other line was
pub record RowsBegun (s : NamedValue) (width : ℕ) (orders : Bool) (new : RowsSession) : Type 0 where
  pub plain : NamedValue
  pub resolved : Resolves (2 ^ 64 - 1) s plain
  pub names : new.names ≡ plain.scenario.names
  pub lines : new.lines ≡ plain.scenario.lines
  pub bound : new.bound ≡ plain.bound
  pub begun : IsBegun (later_view plain.scenario width orders) plain.scenario new.trace

-- the session before a reply, without rows and text
abbrev pub cleared : RowsSession → RowsSession
cleared s = record {
  names = s.names;
  lines = s.lines;
  bound = s.bound;
  trace = without_text s.trace;
  text = [];
}

-- nothing was run: everything stays but the text of the reply
pub record Stays (s new : RowsSession) : Type 0 where
  pub names : new.names ≡ s.names
  pub lines : new.lines ≡ s.lines
  pub bound : new.bound ≡ s.bound
  pub trace : new.trace ≡ s.trace

-- the number of the result of a line that was run
abbrev pub number_run : RowsSession → Typed → (new : RowsSession) → ℕ
number_run s t new = number_left (asked_by t.numbered.line.work) s.trace.machine new.trace.machine

-- the line was kept
pub record KeepsLine (s : RowsSession) (t : Typed) (new : RowsSession) : Type 0 where
  pub names : new.names ≡ t.numbered.names
  pub lines : new.lines ≡ s.lines ++ t.numbered.line ∷ []

-- the line was run and kept, and its rows are the reply
pub record RowsRun (s : RowsSession) (t : Typed) (reply : List ℕ) (new : RowsSession) : Type 0 where
  pub keeps : KeepsLine s t new
  pub lives : LivesOn t.numbered.names (length new.lines) t.numbered.line s.trace new.trace
  pub is : reply ≡ new.trace.rows.text
  pub bound : new.bound ≡ bound_after s.bound t.naming (length s.lines) (number_run s t new)

-- either the text cannot be read as a line, and nothing was run, or the line was run and kept, and its
-- rows are the reply
abbrev pub RowsRead : Option Typed → RowsSession → (reply : List ℕ) → (new : RowsSession) → Type 0
RowsRead None s reply new = Stays s new
RowsRead (Some t) s reply new = RowsRun s t reply new

-- the reply to a text of this kind; a command word changes nothing
abbrev pub RowsWord : LiveWord → RowsSession → (text reply : List ℕ) → (new : RowsSession) → Type 0
RowsWord word.Nothing s text reply new = (reply ≡ []) × Stays s new
RowsWord word.Help s text reply new = Stays s new
RowsWord word.State s text reply new =
    (reply ≡ state_text s.trace.machine.layout s.names s.trace.machine.state) × Stays s new
RowsWord word.Scenario s text reply new =
    (reply ≡ scenario_text s.trace.machine.layout s.names s.lines []) × Stays s new
RowsWord word.Line s text reply new = RowsRead (typed_in s.names s.bound text) s reply new

-- either the line is not UTF-8 or too long, and nothing was run, or it gets the reply to its text
abbrev pub RowsText : RowsSession → (line reply : List ℕ) → (new : RowsSession) → Type 0
RowsText s line reply new = (IsUnread line × Stays s new) ⊎ RowsWord (word_of line) s line reply new

-- memory ran out: either nothing was run, or the line is kept and may have been run in part
abbrev pub IsLostTyped : RowsSession → Option Typed → (new : RowsSession) → Type 0
IsLostTyped s typed new =
    Stays s new
    ⊎ ((t : Typed) × (typed ≡ Some t) × KeepsLine s t new
    × IsKnown s.bound t.naming (length s.lines) (number_run s t new) new.bound)

-- memory ran out in the reply to a line, as IsLostTyped states
abbrev pub IsLostRow : RowsSession → (line : List ℕ) → (new : RowsSession) → Type 0
IsLostRow s line new = IsLostTyped s (typed_in s.names s.bound line) new

-- the reply to a line, if there was memory for it
abbrev pub RepliesWhole : RowsSession → (line reply : List ℕ) → (new : RowsSession) → Type 0
RepliesWhole s line reply new = RowsText (cleared s) line reply new

-- the reply to a line: either memory sufficed, or the reply reports that it ran out
abbrev pub RepliesRows : RowsSession → (line reply : List ℕ) → (new : RowsSession) → Type 0
RepliesRows s line reply new =
    RepliesWhole s line reply new ⊎ ((reply ≡ lost_row) × IsLostRow (cleared s) line new)

-- ---- the rows in replies

-- a reply, and the rows in it: either the whole reply, or none
abbrev pub HasRows : List ℕ × List ℕ → Type 0
HasRows pair = (pair.1 ≡ pair.0) ⊎ (pair.1 ≡ [])

-- the first row of a talk and the rows in its replies, one below another, make one trace. It is the
-- trace of the talk's scenario and of the talk's lines after it, from the first of these lines on
pub record DrawsTrace (s : ScenarioValue) (width : ℕ) (orders : Bool) (first text : List ℕ)
    (new : RowsSession) : Type 0 where
  pub told : List (List ℕ × List ℕ)
  pub replies : text ≡ flat_map (λ pair. pair.0) told
  pub rows : AllByRecursion HasRows told
  pub trace :
      IsTraceOf (later_view s width orders) (record {
        layout = s.layout;
        names = new.names;
        lines = new.lines;
      }) (first ++ flat_map (λ pair. pair.1) told)
