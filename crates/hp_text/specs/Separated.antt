-- Texts of a list with a separator between every two.
use Rattle.std.specs.Prelude.{ℕ, Bool, false, if◌then◌else◌, List, [], ◌∷◌, ◌++◌}

-- the separator before a text, unless it is the first
abbrev pub mark_before : (mark : List ℕ) → (first : Bool) → List ℕ
mark_before mark first = if first then [] else mark

-- the texts of a list's items, with a separator before each; none comes before the first if `first`
abbrev pub separated : {X : Type 0} → (mark : List ℕ) → (text : X → List ℕ) → (first : Bool) → List X → List ℕ
separated mark text first [] = []
separated mark text first (x ∷ xs) = mark_before mark first ++ text x ++ separated mark text false xs
