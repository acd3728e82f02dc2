use Rattle.std.proofs.Common.{◌≡◌, take}
use Rattle.hp_plain.proofs.lists.many.copy_of_lists.Given as goal

abbrev pub invariant-loop-list : goal.invariant-loop-list
invariant-loop-list l = l.copy.items ≡ take l.list-index l.lists
