-- The results that names are bound to.
use Rattle.std.specs.Prelude.{ℕ, List, ◌∷◌, ◌++◌, map, slice_get, unwrap_or, Option, Some, None}
use Rattle.std.specs.Map.{lookup}
use Rattle.std.specs.Str.{bytes_eq}
use Rattle.indexmap.specs.IndexMap.{insert_entry}
use Rattle.hp_scripts.specs.declared.bindings.Naming.{Naming}
use Rattle.hp_scripts.specs.declared.results.NamedResult.{NamedResult}

-- the bindings of names to results. A key is a processor's word, a space and a name; its value is
-- the latest result of this processor with this name
abbrev pub Bound : Type 0
Bound = List (List ℕ × NamedResult)

-- the key of a processor's word and a name
abbrev pub key_of : (cpu name : List ℕ) → List ℕ
key_of cpu name = cpu ++ 32 ∷ name

-- the processor's latest result that has this name
abbrev pub result_at : Bound → (cpu name : List ℕ) → Option NamedResult
result_at bound cpu name = lookup (bytes_eq (key_of cpu name)) bound

-- the bindings after a name is bound to the result of line `line`; an earlier result of the same
-- processor loses the name
abbrev pub bound_to : Bound → Naming → (line number : ℕ) → Bound
bound_to bound naming line number =
    insert_entry bytes_eq bound naming.key (record { kind = naming.kind; line = line; number = number })

-- a result with its number, if `numbers` has it; `numbers` has the numbers of the results of the
-- first lines
abbrev pub numbered_result : List ℕ → NamedResult → NamedResult
numbered_result numbers r =
    record { kind = r.kind; line = r.line; number = unwrap_or (slice_get numbers r.line) r.number }

-- a binding with the number of its result, if `numbers` has it
abbrev pub numbered_entry : List ℕ → List ℕ × NamedResult → List ℕ × NamedResult
numbered_entry numbers entry = (entry.0, numbered_result numbers entry.1)

-- the bindings with the numbers of their results, as far as `numbers` has them
abbrev pub numbered : List ℕ → Bound → Bound
numbered numbers bound = map (numbered_entry numbers) bound

-- the bindings after a line, which may name its result
abbrev pub bound_after : Bound → Option Naming → (line number : ℕ) → Bound
bound_after bound None line number = bound
bound_after bound (Some naming) line number = bound_to bound naming line number
