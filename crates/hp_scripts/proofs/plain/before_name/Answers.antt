use Rattle.std.proofs.Common.{ℕ, ◌-◌, List, Bor, map, take, sym, ap, ◌∙◌}
use Rattle.std.proofs.lemmas.List.{length-map, take-map}
use Rattle.hp_scripts.proofs.plain.before_name.Goals as goal

pub returns : goal.returns
returns c =
    let now = λ (w : Bor (List ℕ)). w.now in
    let words = c.args.words.now in
    sym (take-map now c.saturating_sub.result words)
    ∙ ap (λ (n : ℕ). take n (map now words))
    (c.saturating_sub.ensures ∙ ap (λ (n : ℕ). n - 2) (sym (length-map words now)))
