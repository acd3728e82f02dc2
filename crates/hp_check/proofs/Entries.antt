-- The first entry of `calls` that is no line is the line that reading stops at.
use Rattle.std.proofs.Common.{◌≡◌, ℕ, ◌+◌, ◌<◌, cond, List, [], ◌∷◌, ◌++◌, codes, length, get_or, map, slice_get, take, Option, Some, None, Result, is_some, option_and_then, refl, sym, ap, ◌∙◌, arith}
use Rattle.std.specs.Option.{option_map, option_or}
use Rattle.std.proofs.lemmas.List.{get_or-map, length-append, length-take, take_more}
use Rattle.std.proofs.lemmas.Option.{same_Some, slice_get_read}
use Rattle.serde_json.specs.Data.{Data, Items, no_items, item}
use Rattle.serde_json.specs.Find.{get, as_array, as_str}
use Rattle.serde_json.specs.View.{view, items_of, items_view}
use Rattle.serde_json.specs.declared.value.Value.{Value}
use Rattle.hp_scenario.specs.Form.{each_in, texts_at}
use Rattle.hp_scenario.specs.Gives.{◌>>=◌, or_fault}
use Rattle.hp_scenario.specs.Lines.{Said, line_says}
use Rattle.hp_scenario.specs.Names.{line_in, numbered}
use Rattle.hp_scenario.specs.declared.fault.ScenarioFault.{ScenarioFault}
use Rattle.hp_scenario.specs.declared.fault.ScenarioFault.TheVariants.{BadLine}
use Rattle.hp_scripts.specs.Bindings.{Bound, bound_after}
use Rattle.hp_scripts.specs.Named.{ReadingValue, lines_from, nothing, with_line}
use Rattle.hp_scripts.specs.Plain.{plain_in}
use Rattle.hp_scripts.specs.declared.plain.PlainLine.{PlainLine}
use Rattle.hp_check.specs.Adds.{Adds, fault_in}
use Rattle.hp_check.specs.Calls.{IsBadCall, IsBadText, bound_past, bound_text, bound_through, calls_fault, data_of, entries_in, entry_fault, items_or_none, text_fault}
use Rattle.hp_check.specs.declared.finding.Finding.{Finding}
use Rattle.hp_check.specs.declared.finding.Finding.TheVariants as finding
use Rattle.hp_check.proofs.Added.{both_added, by_cause, or_assoc, or_none}

-- ---- entries

items_are : (ds : List Data) → data_of (items_of ds) ≡ ds
items_are [] = refl
items_are (d ∷ ds) = ap (λ (rest : List Data). d ∷ rest) (items_are ds)

pub items_seen : (vs : List Value) → data_of (items_view vs) ≡ map view vs
items_seen vs = items_are (map view vs)

-- the entry at a place
pub entry_there : (vs : List Value) (i : ℕ) (v : Value) → i < length vs → v ≡ get_or vs i v
    → view v ≡ get_or (map view vs) i (view v)
entry_there vs i v lt at = ap view at ∙ sym (get_or-map view vs i v (view v) lt)

-- ---- one entry more

bound_more : (place : ℕ) (bound : Bound) (ds : List Data) (d : Data)
    → bound_through place bound (ds ++ d ∷ [])
    ≡ bound_past (place + length ds) (bound_through place bound ds) d
bound_more place bound [] d = grind arith
bound_more place bound (e ∷ ds) d = grind (arith, (bound_more (place + 1) (bound_past place bound e) ds d))

fault_more : (place : ℕ) (bound : Bound) (ds : List Data) (d : Data)
    → calls_fault place bound (ds ++ d ∷ [])
    ≡ option_or (calls_fault place bound ds)
    (entry_fault (place + length ds) (bound_through place bound ds) d)
fault_more place bound [] d = grind (arith, or_none)
fault_more place bound (e ∷ ds) d =
    grind (arith, or_assoc, (fault_more (place + 1) (bound_past place bound e) ds d))

-- what is wrong with one entry is wrong with that entry of all
bad_entry : (ds : List Data) (at : ℕ) (d : Data) → slice_get ds at ≡ Some d
    → (f : Finding) → IsBadText at (bound_through 0 [] (take at ds)) d f → IsBadCall ds f
bad_entry ds at d here (finding.BadCall number text names) h =
    record { at = at; entry = d; counted = h.0; here = here; is_text = h.1; no_line = h.2 }
bad_entry ds at d here f h = absurd h

-- the entries up to a place were looked at, and the names are those of their lines
pub record AreLookedAt (ds : List Data) (i : ℕ) (old now : List Finding) (bound : Bound) : Type 0 where
  pub found : Adds (IsBadCall ds) (calls_fault 0 [] (take i ds)) old now
  pub names : bound ≡ bound_through 0 [] (take i ds)

pub entry_added : (ds : List Data) (i : ℕ) (d : Data) (bound last : Bound) {old now next : List Finding}
    → i < length ds → d ≡ get_or ds i d → AreLookedAt ds i old now bound
    → Adds (IsBadText i bound d) (entry_fault i bound d) now next → last ≡ bound_past i bound d
    → AreLookedAt ds (i + 1) old next last
entry_added ds i d bound last {old} {now} {next} lt at so_far more is =
    let cause = bad_entry ds i d (slice_get_read ds (length ds) i d refl lt at) in
    let counted : 0 + length (take i ds) ≡ i = omega (arith, length-take i ds) in
    let front : take (i + 1) ds ≡ take i ds ++ d ∷ [] = rw (take_more ds i d lt, ← at) in
    record {
      found = rw (front, fault_more 0 [] (take i ds) d, counted, ← so_far.names)
          (both_added so_far.found (by_cause (rw so_far.names cause) more));
      names = rw (front, bound_more 0 [] (take i ds) d, counted, ← so_far.names) is;
    }

-- ---- where reading stops

abbrev goes_on : (n : ℕ) → (xs : List (List ℕ)) → ReadingValue → PlainLine → Option Said
    → Result ReadingValue ScenarioFault
goes_on n xs r plain says =
    or_fault (BadLine n) (option_map (with_line r plain) (option_map (numbered r.names) says)) >>= λ next.
    lines_from (n + 1) next xs

first_line : (n : ℕ) (x : List ℕ) (xs : List (List ℕ)) (r : ReadingValue)
    → lines_from n r (x ∷ xs) ≡ goes_on n xs r (plain_in r.bound x) (line_says (plain_in r.bound x).text)
unfolding lines_from line_in
first_line n x xs r = refl

no_line : (n : ℕ) (r : ReadingValue) → fault_in (lines_from n r []) ≡ None
unfolding lines_from
no_line n r = refl

one_step : (n place : ℕ) (xs : List (List ℕ)) (r : ReadingValue) (plain : PlainLine) (says : Option Said)
    (later : Bound → Option ScenarioFault)
    → n ≡ place + 1 → place ≡ length r.lines
    → ((said : Said) → later (bound_after r.bound plain.naming (length r.lines) 0)
    ≡ fault_in (lines_from (n + 1) (with_line r plain (numbered r.names said)) xs))
    → option_or (cond (is_some says) None (Some (BadLine (place + 1))))
    (later (cond (is_some says) (bound_after r.bound plain.naming place 0) r.bound))
    ≡ fault_in (goes_on n xs r plain says)
one_step n place xs r plain None later number at rest = ap (λ (k : ℕ). Some (BadLine k)) (sym number)
one_step n place xs r plain (Some said) later number at rest = rw at (rest said)

text_step : (n place : ℕ) (r : ReadingValue) (texts : List (List ℕ)) (o : Option (List ℕ))
    (more : Option (List (List ℕ))) (later : Bound → Option ScenarioFault)
    → n ≡ place + 1 → place ≡ length r.lines
    → option_and_then (λ x. option_and_then (λ xs. Some (x ∷ xs)) more) o ≡ Some texts
    → ((next : ReadingValue) (xs : List (List ℕ)) → place + 1 ≡ length next.lines → more ≡ Some xs
    → later next.bound ≡ fault_in (lines_from (n + 1) next xs))
    → option_or (text_fault place r.bound o) (later (bound_text place r.bound o))
    ≡ fault_in (lines_from n r texts)
text_step n place r texts None more later number at t rest = absurd cc
text_step n place r texts (Some x) None later number at t rest = absurd cc
text_step n place r texts (Some x) (Some xs) later number at t rest =
    let plain = plain_in r.bound x in
    rw (← same_Some (x ∷ xs) texts t, first_line n x xs r) (one_step n place xs r plain (line_says plain.text)
    later number at (λ said. rest (with_line r plain (numbered r.names said)) xs
    (omega (arith, at, length-append r.lines ((numbered r.names said).line ∷ []))) refl))

entries_stop : (ds : Items) (n place : ℕ) (r : ReadingValue) (texts : List (List ℕ))
    → n ≡ place + 1 → place ≡ length r.lines → each_in as_str ds ≡ Some texts
    → calls_fault place r.bound (data_of ds) ≡ fault_in (lines_from n r texts)
unfolding each_in
entries_stop no_items n place r texts number at t = rw (← no_line n r, same_Some [] texts t)
entries_stop (item d ds) n place r texts number at t =
    text_step n place r texts (as_str d) (each_in as_str ds)
    (λ bound. calls_fault (place + 1) bound (data_of ds)) number at t
    (λ next xs counted e. entries_stop ds (n + 1) (place + 1) next xs (omega (arith, number)) counted e)

list_stops : (o : Option Items) (texts : List (List ℕ)) → option_and_then (each_in as_str) o ≡ Some texts
    → calls_fault 0 [] (items_or_none o) ≡ fault_in (lines_from 1 nothing texts)
list_stops None texts t = absurd cc
list_stops (Some ds) texts t = entries_stop ds 1 0 nothing texts refl refl t

pub calls_stop : (d : Data) (texts : List (List ℕ)) → texts_at (codes "calls") d ≡ Some texts
    → calls_fault 0 [] (entries_in d) ≡ fault_in (lines_from 1 nothing texts)
unfolding texts_at entries_in
calls_stop d texts t = list_stops (option_and_then as_array (get (codes "calls") d)) texts t
