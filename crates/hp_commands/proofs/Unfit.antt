-- Reading a scenario answers no fault that is one of running it, and parting its lines no other.
use Rattle.std.proofs.Common.{◌≡◌, ℕ, ◌+◌, List, [], ◌∷◌, Option, Some, None, Result, Ok, Err}
use Rattle.std.specs.Prelude.{⊤}
use Rattle.hp_units.specs.LayoutParts.{LayoutParts, layout_fault}
use Rattle.hp_units.specs.declared.layouts.LayoutFault.{LayoutFault}
use Rattle.hp_scenario.specs.Form.{Form, form_of}
use Rattle.hp_scenario.specs.Gives.{◌>>=◌, or_fault}
use Rattle.hp_scenario.specs.Names.{line_in}
use Rattle.hp_scenario.specs.Scenario.{ScenarioValue, Script, json_of, layout_or, lines_from, nothing, scenario_in, scenario_of, scenario_with, with_line}
use Rattle.hp_scenario.specs.Scripts.{first_unfit, scripts_of, scripts_unless}
use Rattle.hp_scenario.specs.declared.fault.ScenarioFault.{ScenarioFault}
use Rattle.hp_scenario.specs.declared.fault.ScenarioFault.TheVariants.{NotJson, BadShape, BadLine, NotForRun}

-- ---- reading

-- a fault of reading
abbrev IsUnread : ScenarioFault → Type 0
IsUnread (NotForRun line) = ⊥
IsUnread _ = ⊤

abbrev Reads : {A : Type 0} → Result A ScenarioFault → Type 0
Reads (Ok x) = ⊤
Reads (Err fault) = IsUnread fault

bind_reads : {A B : Type 0} (r : Result A ScenarioFault) (f : A → Result B ScenarioFault) → Reads r
    → ((x : A) → Reads (f x)) → Reads (r >>= f)
bind_reads (Ok x) f h k = k x
bind_reads (Err fault) f h k = h

or_reads : {A : Type 0} (fault : ScenarioFault) (o : Option A) → IsUnread fault → Reads (or_fault fault o)
or_reads fault None h = h
or_reads fault (Some x) h = tt

lines_read : (texts : List (List ℕ)) (at : ℕ) (script : Script) → Reads (lines_from at script texts)
unfolding lines_from
lines_read [] at script = tt
lines_read (text ∷ texts) at script =
    bind_reads (or_fault (BadLine at) (line_in script.names text)) (λ n.
    lines_from (at + 1) (with_line script n) texts) (or_reads (BadLine at) (line_in script.names text) tt)
    (λ n. lines_read texts (at + 1) (with_line script n))

layout_reads : (parts : LayoutParts) (fault : Option LayoutFault) → Reads (layout_or parts fault)
layout_reads parts None = tt
layout_reads parts (Some fault) = tt

form_reads : (form : Form) → Reads (scenario_with form)
unfolding scenario_with
form_reads form =
    bind_reads (layout_or form.parts (layout_fault form.parts)) _
    (layout_reads form.parts (layout_fault form.parts))
    (λ layout.
    bind_reads (lines_from 1 nothing form.calls) _ (lines_read form.calls 1 nothing) (λ script. tt))

scenario_reads : (input : List ℕ) → Reads (scenario_in input)
unfolding scenario_in scenario_of
scenario_reads input =
    bind_reads (or_fault NotJson (json_of input)) scenario_of (or_reads NotJson (json_of input) tt)
    (λ d.
    bind_reads (or_fault BadShape (form_of d)) scenario_with (or_reads BadShape (form_of d) tt) form_reads)

pub never_not_for_run : (input : List ℕ) (line : ℕ) → scenario_in input ≡ Err (NotForRun line) → ⊥
never_not_for_run input line e = rw e at (scenario_reads input)

-- ---- parting

-- the fault of parting
abbrev pub IsUnfit : ScenarioFault → Type 0
IsUnfit (NotForRun line) = ⊤
IsUnfit _ = ⊥

unfit_is : (s : ScenarioValue) (at : Option ℕ) (fault : ScenarioFault) → scripts_unless s at ≡ Err fault
    → IsUnfit fault
unfit_is s None fault e = absurd cc
unfit_is s (Some at) fault e = let same : NotForRun (at + 1) ≡ fault = cc in rw (← same) tt

pub only_not_for_run : (s : ScenarioValue) (fault : ScenarioFault) → scripts_of s ≡ Err fault → IsUnfit fault
unfolding scripts_of
only_not_for_run s fault e = unfit_is s (first_unfit s.layout.cpus s.lines) fault e
