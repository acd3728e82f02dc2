use Rattle.std.proofs.Common.{◌≤◌}
use Rattle.std.proofs.lemmas.List.Sorted.{All-permutation}
use Rattle.hp_parts.specs.Gathering.{PartEndsValue}
use Rattle.hp_parts.proofs.ordering.ends_by_number.Goals as goal

pub check_numbers-requires-clause-within : goal.check_numbers-requires-clause-within
check_numbers-requires-clause-within c =
    rw c.deref.ensures.value
    (All-permutation (λ (p : PartEndsValue). (1 ≤ p.number) × (p.number ≤ c.args.of)) _ _
    c.in_ok-parts.ensures.moved c.requires)
