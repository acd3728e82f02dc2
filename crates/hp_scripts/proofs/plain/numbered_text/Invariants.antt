use Rattle.std.proofs.Common.{◌≡◌, ℕ, List, ◌∷◌, Bor, map, take, string_bytes}
use Rattle.std.specs.Fmt.{decimal}
use Rattle.hp_scripts.specs.NamedWords.{joined}
use Rattle.hp_scripts.proofs.plain.numbered_text.Given as goal

abbrev pub invariant-loop-word : goal.invariant-loop-word
invariant-loop-word l =
    string_bytes l.text
    ≡ joined (l.fn.cpu ∷ l.fn.verb ∷ decimal l.fn.number
    ∷ map (λ (w : Bor (List ℕ)). w.now) (take l.word-index l.rest))
