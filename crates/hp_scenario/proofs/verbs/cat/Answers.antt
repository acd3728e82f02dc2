use Rattle.std.proofs.Common.{◌≡◌, ◌∙◌, ◌==◌, ◌<◌, ◌≤◌, ℕ, true, false, List, [], ◌∷◌, length, map, get_or, Some, None, option_map, refl, sym, ap, arith}
use Rattle.std.specs.Borrow.{Bor}
use Rattle.std.proofs.lemmas.Bool.{eqb-true}
use Rattle.hp_scenario.specs.Lines.{Request, cat_of, plain, text_of}
use Rattle.hp_scenario.specs.declared.lines.Work.TheVariants as work
use Rattle.hp_scenario.proofs.verbs.cat.Goals as goal

abbrev cat : List ℕ → Request
cat path = plain (work.Cat path)

text_there : (t : List ℕ) → (length t == 0) ≡ false → text_of t ≡ Some t
text_there [] long = absurd cc
text_there (b ∷ bs) long = refl

text_missing : (t : List ℕ) → (length t == 0) ≡ true → text_of t ≡ None
text_missing [] none = refl
text_missing (b ∷ bs) none = absurd (omega (arith, eqb-true (length (b ∷ bs)) 0 none))

only_word : (words : List (Bor (List ℕ))) (d : Bor (List ℕ)) → 1 ≤ length words → length words < 2
    → cat_of (map (λ w. w.now) words)
    ≡ option_map cat (text_of (get_or words 0 d).now)
unfolding cat_of
only_word [] d least below = absurd (omega (arith, least))
only_word (w ∷ []) d least below = refl
only_word (w ∷ v ∷ words) d least below = absurd (omega (arith, below))

pub returns : goal.returns
returns c =
    ap (λ (t : List ℕ). Some (cat t)) (c.new-path.ensures ∙ c.in_ok-from_str.ensures.ok)
    ∙ sym (only_word c.args.args.now _ c.in-len1.len_at_least c.in-len1.len_below
    ∙ ap (option_map cat) (text_there _ (sym c.is_empty.ensures ∙ c.if-is_empty.false)))

pub returns-then-is_empty : goal.returns-then-is_empty
returns-then-is_empty c =
    sym (only_word c.args.args.now _ c.in-len1.len_at_least c.in-len1.len_below
    ∙ ap (option_map cat) (text_missing _ (sym c.is_empty.ensures ∙ c.if-is_empty.true)))
