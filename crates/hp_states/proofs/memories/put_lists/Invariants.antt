use Rattle.std.proofs.Common.{◌≡◌, ◌≤◌, ◌++◌, drop}
use Rattle.hp_states.specs.Parts.{lists_code}
use Rattle.hp_states.proofs.memories.put_lists.Given as goal

abbrev pub invariant-loop-number : goal.invariant-loop-number
invariant-loop-number l = record {
  code : (l.code ++ lists_code l.gap (drop l.number l.links.lists))
      ≡ (l.initial.code ++ lists_code 0 l.links.lists);
  gap : l.gap ≤ l.number;
}
