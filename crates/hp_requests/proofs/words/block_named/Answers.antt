use Rattle.std.proofs.Common.{◌≡◌, ◌∙◌, ℕ, true, List, ◌++◌, codes, drop, Option}
use Rattle.std.specs.List.{starts_with}
use Rattle.std.specs.Prelude.{nat_eq}
use Rattle.hp_units.specs.NumberWords.{number_of}
use Rattle.hp_requests.specs.Words.{block_named}
use Rattle.hp_requests.proofs.words.block_named.Goals as goal

named : (name rest : List ℕ) (x : ℕ) (n : Option ℕ) → x ≡ 6 → name ≡ codes "memory" ++ drop x name
    → rest ≡ drop x name → n ≡ number_of 32 rest → n ≡ block_named name
unfolding block_named
named name rest x n six whole left number =
    let has : starts_with nat_eq name (codes "memory") ≡ true = rw whole in
    rw (has, number, left, six)

pub returns-in_err-number32 : goal.returns-in_err-number32
returns-in_err-number32 c =
    let h = c.in_ok-strip_prefix.ensures.cases in
    c.from_residual-in_err-number32.ensures
    ∙ named c.args.name.now c.in_ok-strip_prefix.field-0.now h.0 _ h.1.0 h.1.1 h.2 c.in_err-number32.ensures

pub returns : goal.returns
returns c =
    let h = c.in_ok-strip_prefix.ensures.cases in
    named c.args.name.now c.in_ok-strip_prefix.field-0.now h.0 _ h.1.0 h.1.1 h.2
    c.in_ok-number32.ensures
