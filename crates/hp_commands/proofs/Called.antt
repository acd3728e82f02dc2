-- Lines that are run as they are read.
use Rattle.std.proofs.Common.{◌≡◌, ℕ, List, [], ◌∷◌, ◌++◌, IfOk, IfSome, Option, Some, None, Result, Ok, Err, String, string_bytes, sym, ap, refl, ◌∙◌, append_assoc, append-nil}
use Rattle.std.specs.declared.alloc.Global.{Global}
use Rattle.hp_units.specs.LayoutParts.{LayoutParts}
use Rattle.hp_machine.specs.Machine.{MachineValue, booted}
use Rattle.hp_plain.specs.Image.{Pictured}
use Rattle.hp_scenario.specs.Calls.{HasPassed, IsOpened}
use Rattle.hp_scenario.specs.declared.calls.Calls.{Calls}
use Rattle.hp_scenario.specs.declared.lines.Line.{Line}
use Rattle.hp_scenario.proofs.CallsPassed.{none_passed, one_passed, with_all}
use Rattle.hp_scenario.specs.Calls.{Passes}
use Rattle.hp_text.specs.State.{state_text}
use Rattle.hp_commands.specs.Called.{WritesAll}
use Rattle.hp_commands.specs.Serial.{GrowsBy, WritesLine, WritesLines}
use Rattle.hp_commands.specs.Served.{IsTextOf}
use Rattle.hp_commands.proofs.Lines.{one_more}
use Rattle.hp_commands.proofs.Served.{ran_text}

-- the lines that were taken so far were run
abbrev pub WritesSome : (old new : Calls) → (written grown : List ℕ) → (before after : MachineValue) → Type 0
WritesSome old new written grown before after =
    (lines : List Line) × HasPassed old lines new
    × GrowsBy written grown (λ (text : List ℕ). WritesLines before lines text after)

-- no line yet
pub called_none : (calls : Calls) (written : List ℕ) (m : MachineValue)
    → WritesSome calls calls written written m m
unfolding WritesLines
called_none calls written m =
    ([], none_passed calls, record { text = []; grown = sym (append-nil written); is = (refl, refl) })

-- one more line
pub called_more : (start now next : Calls) (line : Line) (written grown new : List ℕ)
    (m mid after : MachineValue)
    → WritesSome start now written grown m mid → Passes now line next
    → GrowsBy grown new (λ (text : List ℕ). WritesLine mid line text after)
    → WritesSome start next written new m after
called_more start now next line written grown new m mid after so_far one ran = (
  so_far.0 ++ line ∷ [],
  one_passed start now next so_far.0 line so_far.1 one,
  record {
    text = so_far.2.text ++ ran.text;
    grown = rw (ran.grown, so_far.2.grown) (append_assoc written so_far.2.text ran.text);
    is = one_more so_far.0 line m mid after so_far.2.text ran.text so_far.2.is ran.is;
  },
)

-- all lines that were taken and run are those of the scenario
pub called_text : (input : List ℕ) (start new : Calls) (layout : LayoutParts) (names : List (List ℕ))
    (first m : MachineValue) (image : Pictured) (old out text : List ℕ)
    → IsOpened input start → layout ≡ start.layout → names ≡ new.names.keys → first ≡ booted layout → old ≡ []
    → WritesAll start new old out first m
    → image ≡ record { layout = m.layout; memory = m.state }
    → text ≡ out ++ state_text image.layout names image.memory → IsTextOf input text
called_text input start new layout names first m image old out text opened laid named boot none ran
    pictured e =
    let lines = ran.0 in
    let same : layout ≡ new.layout = laid ∙ sym (ran.1.2.2 ∙ ran.1.1.3) in
    ran_text input (record { layout = new.layout; names = new.names.keys; lines = lines }) first m
    lines image old out text (with_all input start new lines lines opened ran.1 refl)
    (boot ∙ ap booted same) refl none ran.2 pictured (rw named at e)

-- what is a text for every input that was opened so, is one for this input
pub text_of_opened : {E : Type 0} (input : List ℕ) (calls : Calls) (r : Result (Option (String Global)) E)
    → IsOpened input calls
    → IfOk r (λ out. IfSome out
    (λ out. (i : List ℕ) → IsOpened i calls → IsTextOf i (string_bytes out)))
    → IfOk r (λ out. IfSome out (λ out. IsTextOf input (string_bytes out)))
text_of_opened input calls (Ok (Some out)) opened h = h input opened
text_of_opened input calls (Ok None) opened h = tt
text_of_opened input calls (Err e) opened h = tt
