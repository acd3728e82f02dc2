-- Scenarios that are read: line by line, and without names as ever.
use Rattle.std.proofs.Common.{◌≡◌, ℕ, ◌+◌, ◌≤◌, Bool, true, false, cond, List, [], ◌∷◌, ◌++◌, length, slice_get, drop, Option, Some, None, Result, Ok, Err, refl, sym, ap, ◌∙◌, append_assoc, arith, option_map}
use Rattle.std.specs.Prelude.{⊤, replicate}
use Rattle.std.proofs.lemmas.List.{append-nil, drop_all, length-append}
use Rattle.hp_units.specs.LayoutParts.{LayoutParts, layout_fault}
use Rattle.hp_scenario.specs.Form.{form_of, parts_of}
use Rattle.hp_scenario.specs.Gives.{Fails, ◌>>=◌, or_fault}
use Rattle.hp_scenario.specs.Names.{Numbered, line_in}
use Rattle.hp_scenario.specs.Scenario.{ScenarioValue, Script, json_of, layout_or, scenario_in, scenario_of, scenario_with, with_line as with_plain_line, nothing as no_lines, lines_from as plain_lines_from}
use Rattle.hp_schedules.proofs.Asked.{lines_here}
use Rattle.hp_scenario.specs.declared.fault.ScenarioFault.{ScenarioFault}
use Rattle.hp_scenario.specs.declared.fault.ScenarioFault.TheVariants.{NotJson, BadShape, BadLine, OutOfMemory}
use Rattle.hp_scripts.specs.Named.{NamedValue, ReadingValue, lines_from, named_in, named_of, named_with, nothing, plainly, with_line, with_plain, with_text}
use Rattle.hp_scripts.specs.Plain.{unchanged}
use Rattle.hp_scripts.proofs.PlainTexts.{line_unchanged}

-- what the exits of `named_from` unfold
unfoldable pub named_of_values : ⊤
unfolding named_of form_of parts_of
named_of_values = tt

-- ---- line by line

-- a text that is a line: what is left goes on after it
pub line_goes_on : (xs : List (List ℕ)) (i : ℕ) (text : List ℕ) (r next : ReadingValue) (b : Bool)
    (total : Result ReadingValue ScenarioFault) → slice_get xs i ≡ Some text
    → with_text r text ≡ cond b (Some next) None → b ≡ true
    → lines_from (i + 1) r (drop i xs) ≡ total
    → lines_from ((i + 1) + 1) next (drop (i + 1) xs) ≡ total
unfolding lines_from
line_goes_on xs i text r next b total at h is so_far =
    rw (lines_here xs i text at, h, is) at so_far

-- a text that is no line: the reading ends there
pub line_stops : (xs : List (List ℕ)) (i : ℕ) (text : List ℕ) (r next : ReadingValue) (b : Bool)
    (total : Result ReadingValue ScenarioFault) → slice_get xs i ≡ Some text
    → with_text r text ≡ cond b (Some next) None → b ≡ false
    → lines_from (i + 1) r (drop i xs) ≡ total → total ≡ Err (BadLine (i + 1))
unfolding lines_from
line_stops xs i text r next b total at h is so_far =
    sym (rw (lines_here xs i text at, h, is) at so_far)

-- no text is left
pub lines_done : (xs : List (List ℕ)) (i : ℕ) (r : ReadingValue)
    (total : Result ReadingValue ScenarioFault)
    → length xs ≤ i → lines_from (i + 1) r (drop i xs) ≡ total → total ≡ Ok r
unfolding lines_from
lines_done xs i r total le so_far = sym so_far ∙ ap (lines_from (i + 1) r) (drop_all _ _ le)

-- ---- lines without names

-- the fault of a line
abbrev pub IsOfLine : ScenarioFault → Type 0
IsOfLine f = (line : ℕ) × (f ≡ BadLine line)

abbrev script_of : ReadingValue → Script
script_of r = record { names = r.names; lines = r.lines }

-- after `n` lines more, none of which has a source
record IsPlain (r : ReadingValue) (n : ℕ) (s : Script) (new : ReadingValue) : Type 0 where
  script : script_of new ≡ s
  sources : new.sources ≡ r.sources ++ replicate n None
  bound : new.bound ≡ r.bound
  count : length new.lines ≡ length r.lines + n

-- what is read without names is the same with them, unless it is the fault of a line
abbrev ReadsAlike : ℕ → ReadingValue → List (List ℕ) → Result Script ScenarioFault → Type 0
ReadsAlike at r texts (Ok s) =
    (new : ReadingValue) × (lines_from at r texts ≡ Ok new) × IsPlain r (length texts) s new
ReadsAlike at r texts (Err f) = IsOfLine f

-- one line more
one_alike : (at : ℕ) (r : ReadingValue) (text : List ℕ) (texts : List (List ℕ)) (o : Option Numbered)
    → line_in r.names text ≡ o
    → ((next : ReadingValue)
    → ReadsAlike (at + 1) next texts (plain_lines_from (at + 1) (script_of next) texts))
    → ReadsAlike at r (text ∷ texts) (or_fault (BadLine at) o
    >>= λ n. plain_lines_from (at + 1) (with_plain_line (script_of r) n) texts)
unfolding lines_from
one_alike at r text texts None is rest = (at, refl)
one_alike at r text texts (Some n) is rest =
    after (plain_lines_from (at + 1) (script_of next) texts) (rest next)
  where
    next : ReadingValue
    next = with_line r (unchanged text) n

    says : with_text r text ≡ Some next
    says =
        ap (with_plain r) (line_unchanged r.bound r.names text n is)
        ∙ ap (option_map (with_line r (unchanged text))) is

    after : (x : Result Script ScenarioFault) → ReadsAlike (at + 1) next texts x
        → ReadsAlike at r (text ∷ texts) x
    after (Err f) lost = lost
    after (Ok s) more = (
      more.0,
      ap (λ (o : Option ReadingValue). or_fault (BadLine at) o >>= λ n. lines_from (at + 1) n texts) says
          ∙ more.1,
      record {
        script = more.2.script;
        sources = more.2.sources ∙ append_assoc r.sources (None ∷ []) (replicate (length texts) None);
        bound = more.2.bound;
        count = omega (arith, more.2.count, length-append r.lines (n.line ∷ []));
      },
    )

all_alike : (texts : List (List ℕ)) (at : ℕ) (r : ReadingValue)
    → ReadsAlike at r texts (plain_lines_from at (script_of r) texts)
unfolding lines_from plain_lines_from
all_alike [] at r =
    let none = sym (append-nil r.sources) in
    (r, refl, record { script = refl; sources = none; bound = refl; count = omega arith })
all_alike (text ∷ texts) at r =
    one_alike at r text texts (line_in r.names text) refl (λ next. all_alike texts (at + 1) next)

-- ---- whole scenarios

-- a scenario that is read without names is the same with them, and so is a fault that is no line's
abbrev Alike : Result ScenarioValue ScenarioFault → Result NamedValue ScenarioFault → Type 0
Alike (Ok s) named = named ≡ Ok (plainly s)
Alike (Err f) named = (IsOfLine f → ⊥) → named ≡ Err f

then_alike : {A : Type 0} (x : Result A ScenarioFault) (f : A → Result ScenarioValue ScenarioFault)
    (g : A → Result NamedValue ScenarioFault) → ((a : A) → Alike (f a) (g a)) → Alike (x >>= f) (x >>= g)
then_alike (Ok a) f g alike = alike a
then_alike (Err e) f g alike = λ other. refl

-- the lines of a scenario
lines_alike : (layout : LayoutParts) (texts : List (List ℕ)) (l : Result Script ScenarioFault)
    → ReadsAlike 1 nothing texts l
    → Alike (l >>= λ s. Ok (record { layout = layout; names = s.names; lines = s.lines }))
    (lines_from 1 nothing texts >>= λ r. Ok (record {
      scenario = record { layout = layout; names = r.names; lines = r.lines };
      sources = r.sources;
      bound = r.bound;
    }))
lines_alike layout texts (Err f) lost = λ other. absurd (other lost)
lines_alike layout texts (Ok s) more =
    let count : length texts ≡ length more.0.lines = omega (arith, more.2.count) in
    rw (more.1, ← more.2.script, more.2.sources, more.2.bound, ← count) refl

scenarios_alike : (bytes : List ℕ) → Alike (scenario_in bytes) (named_in bytes)
unfolding scenario_in named_in scenario_of named_of scenario_with named_with
scenarios_alike bytes =
    then_alike (or_fault NotJson (json_of bytes)) scenario_of named_of
    (λ d. then_alike (or_fault BadShape (form_of d)) scenario_with named_with
    (λ form. then_alike (layout_or form.parts (layout_fault form.parts)) _ _
    (λ layout. lines_alike layout form.calls (plain_lines_from 1 no_lines form.calls)
    (all_alike form.calls 1 nothing))))

pub reads_plainly : (bytes : List ℕ) (s : ScenarioValue) → scenario_in bytes ≡ Ok s
    → named_in bytes ≡ Ok (plainly s)
reads_plainly bytes s h = rw h at (scenarios_alike bytes)

pub lost : (bytes : List ℕ) (f : ScenarioFault) → scenario_in bytes ≡ Err f → (IsOfLine f → ⊥)
    → named_in bytes ≡ Err f
lost bytes f h = rw h at (scenarios_alike bytes)

pub fails_alike : (bytes : List ℕ) (f : ScenarioFault) → Fails f (scenario_in bytes) → (IsOfLine f → ⊥)
    → Fails f (named_in bytes)
fails_alike bytes OutOfMemory h other = tt
fails_alike bytes f h other = lost bytes f h other
