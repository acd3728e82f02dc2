-- The first finding is the fault that reading gives, and each has its cause.
use Rattle.std.proofs.Common.{◌≡◌, ℕ, ◌+◌, ◌≤◌, Bool, true, cond, List, [], ◌∷◌, codes, count_by, length, Option, Some, None, Result, Ok, is_some, refl, arith}
use Rattle.std.specs.List.{All}
use Rattle.std.specs.Option.{option_map, option_or}
use Rattle.std.proofs.lemmas.List.Elements.{All-head, All-nil, All-tail, All-weaker}
use Rattle.std.proofs.lemmas.List.Sums.{sum_by-cons}
use Rattle.std.proofs.lemmas.Option.{same_Some}
use Rattle.serde_json.specs.Data.{Data}
use Rattle.hp_units.specs.LayoutParts.{LayoutParts, layout_fault}
use Rattle.hp_units.specs.declared.layouts.LayoutFault.{LayoutFault}
use Rattle.hp_scenario.specs.Form.{Form, form_of, parts_of, texts_at}
use Rattle.hp_scenario.specs.Gives.{◌>>=◌, or_fault}
use Rattle.hp_scenario.specs.Scenario.{json_of, layout_or}
use Rattle.hp_scenario.specs.declared.fault.ScenarioFault.{ScenarioFault}
use Rattle.hp_scenario.specs.declared.fault.ScenarioFault.TheVariants.{NotJson, BadShape, Layout}
use Rattle.hp_scripts.specs.Named.{NamedValue, ReadingValue, lines_from, named_in, named_of, named_with, nothing}
use Rattle.hp_check.specs.Adds.{Adds, IsLayout, IsNotJson, IsRepeat, IsShape, IsWarning, ValueCause, fault_in, lacks, limit_fault_of}
use Rattle.hp_check.specs.Calls.{IsBadCall, calls_fault, entries_in}
use Rattle.hp_check.specs.Checking.{Agrees, Begins, HasCause, HaveCauses, IsFindingOf, IsPastLimits}
use Rattle.hp_check.specs.Findings.{is_fault}
use Rattle.hp_check.specs.Ranges.{parts_in}
use Rattle.hp_check.specs.declared.finding.Finding.{Finding}
use Rattle.hp_check.specs.declared.finding.Finding.TheVariants as finding
use Rattle.hp_check.proofs.Added.{both_added, by_cause, of_fault}
use Rattle.hp_check.proofs.Entries.{calls_stop}

-- ---- what a form comes of

-- its parts are those that are looked at, and its texts the entries of `calls`
pub record IsMade (d : Data) (form : Form) : Type 0 where
  pub parts : parts_in d ≡ Some form.parts
  pub calls : texts_at (codes "calls") d ≡ Some form.calls

form_is_made : (d : Data) (form : Form) → form_of d ≡ Some form → IsMade d form
unfolding form_of parts_of parts_in
form_is_made d form h = grind (arith, same_Some)

-- ---- the first fault of a value

abbrev pub with_script : LayoutParts → Result ReadingValue ScenarioFault → Result NamedValue ScenarioFault
with_script layout read =
    read >>= λ r. Ok (record {
      scenario = record { layout = layout; names = r.names; lines = r.lines };
      sources = r.sources;
      bound = r.bound;
    })

abbrev pub after_layout : Form → Option LayoutFault → Result NamedValue ScenarioFault
after_layout form o =
    layout_or form.parts o >>= λ layout. with_script layout (lines_from 1 nothing form.calls)

form_fault : (form : Form) → named_with form ≡ after_layout form (layout_fault form.parts)
unfolding named_with
form_fault form = refl

layout_then_lines : (form : Form) (lines : Option ScenarioFault) (o : Option LayoutFault)
    → lines ≡ fault_in (lines_from 1 nothing form.calls)
    → option_or (option_map Layout o) lines ≡ fault_in (after_layout form o)
layout_then_lines form lines o e = grind arith

abbrev pub all_faults : Data → Bool → Option LayoutParts → Option ScenarioFault
all_faults d fine parts =
    option_or (option_or (lacks fine) (limit_fault_of parts)) (calls_fault 0 [] (entries_in d))

value_fault_of : (d : Data) (o : Option Form) → form_of d ≡ o
    → all_faults d (is_some o) (parts_in d) ≡ fault_in (or_fault BadShape o >>= named_with)
value_fault_of d None e = refl
value_fault_of d (Some form) e =
    let m = form_is_made d form e in
    rw (m.parts, form_fault form) (layout_then_lines form (calls_fault 0 [] (entries_in d))
    (layout_fault form.parts) (calls_stop d form.calls m.calls))

value_fault : (d : Data) → all_faults d (is_some (form_of d)) (parts_in d) ≡ fault_in (named_of d)
unfolding named_of
value_fault d = value_fault_of d (form_of d) refl

-- ---- causes

-- where findings were added there is a fault
by_fault : {P Q : Finding → Type 0} (fault : Option ScenarioFault) {old new : List Finding}
    → (is_some fault ≡ true → (f : Finding) → P f → Q f) → Adds P fault old new → Adds Q fault old new
by_fault {P} {Q} None why h = grind (arith, All-nil)
by_fault (Some fault) why h = by_cause (why refl) h

shape_cause : (d : Data) → is_some (lacks (is_some (form_of d))) ≡ true
    → (f : Finding) → IsShape f → ValueCause d f
shape_cause d h f is = grind arith

past_limits : (d : Data) (parts : Option LayoutParts) → parts_in d ≡ parts
    → is_some (limit_fault_of parts) ≡ true → IsPastLimits d
past_limits d None e h = absurd cc
past_limits d (Some l) e h = (l, e, some_fault_of (layout_fault l) h)
  where
    some_fault_of : (o : Option LayoutFault) → is_some (option_map Layout o) ≡ true → is_some o ≡ true
    some_fault_of None h = absurd cc
    some_fault_of (Some fault) h = refl

layout_cause : (d : Data) → is_some (limit_fault_of (parts_in d)) ≡ true
    → (f : Finding) → IsLayout f → ValueCause d f
layout_cause d h (finding.Layout out) is = past_limits d (parts_in d) refl h
layout_cause d h f is = absurd is

call_cause : (d : Data) (f : Finding) → IsBadCall (entries_in d) f → ValueCause d f
call_cause d f is = grind arith

-- all that is wrong with a value: its shape, its layout, its lines
pub value_found : (d : Data) (old shape limits new : List Finding)
    → Adds IsShape (lacks (is_some (form_of d))) old shape
    → Adds IsLayout (limit_fault_of (parts_in d)) shape limits
    → Adds (IsBadCall (entries_in d)) (calls_fault 0 [] (entries_in d)) limits new
    → Adds (ValueCause d) (fault_in (named_of d)) old new
value_found d old shape limits new one two three =
    of_fault (value_fault d)
    (both_added (both_added (by_fault _ (shape_cause d) one) (by_fault _ (layout_cause d) two))
    (by_cause (call_cause d) three))

-- the faults of a text that is JSON, and of one that is none
pub text_found : (input : List ℕ) (d : Data) (found : List Finding) → json_of input ≡ Some d
    → Adds (ValueCause d) (fault_in (named_of d)) [] found
    → Adds (HasCause input) (fault_in (named_in input)) [] found
unfolding named_in
text_found input d found e h = grind (arith, of_fault, by_cause)

pub no_json_found : (input : List ℕ) (found : List Finding) → json_of input ≡ None
    → Adds IsNotJson (Some NotJson) [] found
    → Adds (HasCause input) (fault_in (named_in input)) [] found
unfolding named_in
no_json_found input found e h = grind (arith, of_fault, by_cause)

-- ---- what is promised

pub repeats_are_warnings : (lines : ℕ) (found : List Finding) → All IsRepeat found
    → All (IsWarning lines) found
repeats_are_warnings lines found all = grind (arith, All-weaker)

pub warnings_have_causes : (input : List ℕ) (s : NamedValue) (found : List Finding)
    → named_in input ≡ Ok s → All (IsWarning (length s.scenario.lines)) found → HaveCauses input found
warnings_have_causes input s found e all = grind (arith, All-weaker)

counted : (f : Finding) (fs : List Finding)
    → count_by is_fault (f ∷ fs) ≡ cond (is_fault f) 1 0 + count_by is_fault fs
counted f fs = sum_by-cons (λ x. cond (is_fault x) 1 0) f fs

none_counted : (lines : ℕ) (found : List Finding) → All (IsWarning lines) found → count_by is_fault found ≡ 0
none_counted lines [] all = refl
none_counted lines (f ∷ fs) all =
    grind (arith, counted, All-head, (none_counted lines fs (All-tail (IsWarning lines) f fs all)))

pub warnings_agree : (input : List ℕ) (s : NamedValue) (found : List Finding) → named_in input ≡ Ok s
    → All (IsWarning (length s.scenario.lines)) found → Agrees (named_in input) found
warnings_agree input s found e all = rw e (none_counted (length s.scenario.lines) found all)

first_is_fault : (fault : ScenarioFault) (f : Finding) → IsFindingOf fault f → is_fault f ≡ true
first_is_fault fault f h = grind arith

some_fault : (fault : ScenarioFault) (found : List Finding) → Begins fault found → 1 ≤ count_by is_fault found
some_fault fault [] h = absurd h
some_fault fault (f ∷ fs) h = grind (arith, counted, first_is_fault)

pub faults_agree : (input : List ℕ) (found : List Finding)
    → Adds (HasCause input) (fault_in (named_in input)) [] found → Agrees (named_in input) found
faults_agree input found h = grind (arith, some_fault)

pub faults_have_causes : (input : List ℕ) (found : List Finding)
    → Adds (HasCause input) (fault_in (named_in input)) [] found → HaveCauses input found
faults_have_causes input found h = grind arith
