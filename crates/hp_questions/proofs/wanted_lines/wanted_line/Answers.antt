use Rattle.std.proofs.Common.{◌≡◌, ℕ, true, List, ◌++◌, codes, drop, Option, option_map, ap, rules}
use Rattle.std.specs.List.{starts_with}
use Rattle.std.specs.Prelude.{nat_eq}
use Rattle.std.proofs.lemmas.Result.{IfOk-weaker}
use Rattle.hp_questions.specs.declared.wanted.Wanted.{Wanted}
use Rattle.hp_questions.specs.declared.wanted.Wanted.TheVariants.{Lacks}
use Rattle.hp_questions.specs.WantedLines.{end_line, wanted_line}
use Rattle.hp_questions.proofs.wanted_lines.wanted_line.Goals as goal

lacks : (text rest : List ℕ) (x : ℕ) (line : Option Wanted) → x ≡ 4 → text ≡ codes "not " ++ drop x text
    → rest ≡ drop x text → line ≡ option_map (λ l. Lacks l) (end_line rest) → line ≡ wanted_line text
unfolding wanted_line
lacks text rest x line four whole left is =
    let has : starts_with nat_eq text (codes "not ") ≡ true =
    ap (λ (t : List ℕ). starts_with nat_eq t (codes "not ")) whole in
    rw (has, is, left, four)

pub returns-in-Some : goal.returns-in-Some
returns-in-Some c =
    let h = c.in-Some.ensures.cases in
    IfOk-weaker c.lacking_line.result _ _
    (λ line is. lacks c.args.text.now c.in-Some.rest.now h.0 line h.1.0 h.1.1 h.2 is) c.lacking_line.ensures

pub returns-in-None : goal.returns-in-None
unfolding wanted_line
returns-in-None c = search rules
