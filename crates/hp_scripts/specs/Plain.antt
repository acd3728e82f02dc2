-- A line's text without names: `as NAME` is taken off, and `$NAME` is replaced by its result's
-- number. A name that is not understood stays, and the text then cannot be read as a line.
use Rattle.std.specs.Prelude.{ℕ, List, [], ◌∷◌, Option, Some, None, if◌then◌else◌, option_and_then}
use Rattle.std.specs.Fmt.{decimal}
use Rattle.hp_scenario.specs.Words.{words_of}
use Rattle.hp_scripts.specs.Bindings.{Bound, key_of, result_at}
use Rattle.hp_scripts.specs.NamedWords.{after_dollar, before_name, joined, name_at_end}
use Rattle.hp_scripts.specs.Results.{same_kind, use_of_verb}
use Rattle.hp_scripts.specs.declared.plain.PlainLine.{PlainLine}
use Rattle.hp_scripts.specs.declared.results.NamedResult.{NamedResult}
use Rattle.hp_scripts.specs.declared.results.NameUse.{NameUse}
use Rattle.hp_scripts.specs.declared.results.NameUse.TheVariants.{Gives, Takes}
use Rattle.hp_scripts.specs.declared.results.ResultKind.{ResultKind}

-- a text that is left unchanged
abbrev pub unchanged : List ℕ → PlainLine
unchanged text = record { text = text; source = None; naming = None }

-- ---- `begin` and `kalloc`

-- the text of a line whose result may have a name, without ` as NAME` at its end
abbrev pub naming_line : (text : List ℕ) → (words : List (List ℕ)) → (cpu : List ℕ) → ResultKind
    → Option (List ℕ) → PlainLine
naming_line text words cpu kind None = unchanged text
naming_line text words cpu kind (Some name) = record {
  text = joined (before_name words);
  source = None;
  naming = Some (record { key = key_of cpu name; kind = kind });
}

-- ---- `drainfor`, `migrate`, `commit`, `cancel` and `kfree`

-- the result, if it has this kind
abbrev pub of_kind : ResultKind → NamedResult → Option NamedResult
of_kind kind r = if same_kind r.kind kind then Some r else None

-- the result that the word `$NAME` names: the processor's latest result with that name, if it has
-- this kind
abbrev pub result_named : Bound → (cpu : List ℕ) → ResultKind → (word : List ℕ) → Option NamedResult
result_named bound cpu kind word =
    option_and_then (of_kind kind) (option_and_then (result_at bound cpu) (after_dollar word))

-- the text with a result's number in place of the word after the verb; unchanged without a result
abbrev pub numbered_line : (text cpu verb : List ℕ) → (rest : List (List ℕ)) → Option NamedResult → PlainLine
numbered_line text cpu verb rest None = unchanged text
numbered_line text cpu verb rest (Some r) = record {
  text = joined (cpu ∷ verb ∷ decimal r.number ∷ rest);
  source = Some r.line;
  naming = None;
}

-- the text of a line that works on a result, with the result's number in place of its name;
-- unchanged if the line gives no name of such a result
abbrev pub working_line : Bound → (text cpu verb : List ℕ) → ResultKind → (args : List (List ℕ)) → PlainLine
working_line bound text cpu verb kind [] = unchanged text
working_line bound text cpu verb kind (word ∷ rest) =
    numbered_line text cpu verb rest (result_named bound cpu kind word)

-- ---- any line

-- a line's text without names; the last argument is how lines of its verb use names
abbrev pub line_by_use : Bound → (text cpu verb : List ℕ) → (args : List (List ℕ)) → Option NameUse
    → PlainLine
line_by_use bound text cpu verb args None = unchanged text
line_by_use bound text cpu verb args (Some (Gives kind)) =
    naming_line text (cpu ∷ verb ∷ args) cpu kind (name_at_end args)
line_by_use bound text cpu verb args (Some (Takes kind)) = working_line bound text cpu verb kind args

-- the text, which has these words, without its names; `bound` has the names of results of the lines
-- before it
unfoldable pub plain_of : Bound → (text : List ℕ) → (words : List (List ℕ)) → PlainLine
plain_of bound text [] = unchanged text
plain_of bound text (cpu ∷ []) = unchanged text
plain_of bound text (cpu ∷ verb ∷ args) =
    line_by_use bound text cpu verb args (use_of_verb verb)

-- a text without its names; `bound` has the names of results of the lines before it
abbrev pub plain_in : Bound → List ℕ → PlainLine
plain_in bound text = plain_of bound text (words_of text)
