use Rattle.std.proofs.Common.{ℕ, ◌+◌, ap, rules, take, tests, ◌∙◌}
use Rattle.std.specs.Prelude.{◌==◌}
use Rattle.std.proofs.lemmas.Iterator.{YieldsList-from_slice}
use Rattle.std.proofs.lemmas.Iterator.Consumers.{YieldsList-from_filter, count_from_yields_List}
use Rattle.std.proofs.lemmas.List.Sums.{length-filter}
use Rattle.hp_parts.proofs.cuts.line_number.Goals as goal

pub returns : goal.returns
returns c =
    let before = take c.args.place c.args.input.now in
    ap (λ (n : ℕ). n + 1)
    (count_from_yields_List c.filter.result _ c.count.ensures.ran
    (YieldsList-from_filter _ (λ byte. byte == 10) (YieldsList-from_slice before cc)
    c.filter.ensures.closure (λ x b q k. search (rules, tests)))
    ∙ length-filter (λ byte. byte == 10) before)
