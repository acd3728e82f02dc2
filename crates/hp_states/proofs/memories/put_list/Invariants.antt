use Rattle.std.proofs.Common.{◌≡◌, ◌++◌, slice_get, take}
use Rattle.std.specs.List.{flat_map}
use Rattle.hp_buddy.specs.LinkedLists.{list_at}
use Rattle.hp_states.specs.Numbers.{number_code}
use Rattle.hp_states.proofs.memories.put_list.Given as goal

abbrev pub invariant-loop-number : goal.invariant-loop-number
invariant-loop-number l = record {
  code : l.code ≡ (l.initial.code ++ flat_map number_code (take l._number (list_at l.links l.fn.list)));
  ahead : l.ahead ≡ slice_get (list_at l.links l.fn.list) l._number;
}
