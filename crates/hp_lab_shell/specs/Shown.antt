-- What is shown of a scenario.
use Rattle.std.specs.Prelude.{ℕ, ◌≡◌, ◌-◌, ◌^◌, List, ◌++◌}
use Rattle.hp_judge.specs.declared.events.LogEvent.{LogEvent}
use Rattle.hp_map.specs.Rows.{RowValue}
use Rattle.hp_lab_shell.specs.declared.words.JsonForm.{JsonForm}
use Rattle.hp_lab_shell.specs.declared.words.JsonForm.TheVariants.{Lines, Page}
use Rattle.hp_svg.specs.Pages.{viewer_after, viewer_before}
use Rattle.hp_scenario.specs.Scenario.{ScenarioValue}
use Rattle.hp_search.specs.Holding.{InScenario}
use Rattle.hp_trace.specs.Logs.{IsLogOfScenario}
use Rattle.hp_trace.specs.Traces.{AreRowsOf, IsJoinedTraceOf, IsJsonOf}
use Rattle.hp_trace.specs.declared.view.View.{View}

-- the bytes are a scenario, and `P` holds of it with plain numbers in place of the names for results
abbrev pub InPlain : (input : List ℕ) → (ScenarioValue → Type 0) → Type 0
InPlain input P = InScenario input (2 ^ 64 - 1) (λ s. P s.scenario)

-- the bytes are a scenario, and the text is its trace
abbrev pub HasTrace : View → (input text : List ℕ) → Type 0
HasTrace view input text = InPlain input (λ s. IsJoinedTraceOf view s text)

-- the text is these lines of JSON alone, or the page that steps through them
abbrev pub IsJsonText : JsonForm → (lines text : List ℕ) → Type 0
IsJsonText Lines lines text = text ≡ lines
IsJsonText Page lines text = text ≡ viewer_before ++ lines ++ viewer_after

-- the bytes are a scenario, and the text is its trace as JSON, in lines or in a page
abbrev pub HasJson : JsonForm → (input text : List ℕ) → Type 0
HasJson form input text =
    InPlain input (λ s. (lines : List ℕ) × IsJsonOf s lines × IsJsonText form lines text)

-- the bytes are a scenario, and its trace has rows
abbrev pub HasRows : View → (input : List ℕ) → Type 0
HasRows view input = InPlain input (λ s. (rows : List RowValue) × AreRowsOf view s rows)

-- the bytes are a scenario, and its run has a log
abbrev pub HasLog : (input : List ℕ) → Type 0
HasLog input =
    InPlain input (λ s.
    (block_frames : ℕ) × (events : List LogEvent) × IsLogOfScenario s block_frames events)
