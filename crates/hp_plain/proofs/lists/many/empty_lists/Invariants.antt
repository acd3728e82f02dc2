use Rattle.std.proofs.Common.{◌≡◌, replicate, []}
use Rattle.hp_plain.proofs.lists.many.empty_lists.Given as goal

abbrev pub invariant-loop-number : goal.invariant-loop-number
invariant-loop-number l = l.lists.items ≡ replicate l._number []
