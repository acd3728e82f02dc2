use Rattle.std.proofs.lemmas.List.Sorted.{IsNonDecreasingBy-from_sort_by_key}
use Rattle.std.proofs.Common.{rules}
use Rattle.hp_parts.specs.Gathering.{PartEndsValue}
use Rattle.hp_parts.proofs.ordering.sorted.Goals as goal

pub returns-clause-rising : goal.returns-clause-rising
returns-clause-rising c =
    IsNonDecreasingBy-from_sort_by_key (λ (p : PartEndsValue). p.number) _ c.in_ok-sort_by_key.ensures.sorted
    (λ a r q k. search rules)
