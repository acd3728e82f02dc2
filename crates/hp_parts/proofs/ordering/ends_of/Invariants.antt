use Rattle.std.proofs.Common.{◌≡◌, map}
use Rattle.hp_parts.specs.Gathering.{PartEndsValue}
use Rattle.hp_parts.specs.Ordering.{lists_of}
use Rattle.hp_parts.proofs.ordering.ends_of.Given as goal

abbrev pub invariant-loop-part : goal.invariant-loop-part
invariant-loop-part l = lists_of l.lists.items ≡ map (λ (p : PartEndsValue). p.ends) l.yielded
