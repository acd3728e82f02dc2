use Rattle.std.proofs.Common.{◌≡◌, ◌-◌, length, drop}
use Rattle.hp_buddy.specs.Cpus.{with_list_of}
use Rattle.hp_memory.proofs.loads.processors.load_list.Given as goal

abbrev pub invariant-loop-number : goal.invariant-loop-number
invariant-loop-number l = record {
  lists : l.cpus ≡ with_list_of l.initial.cpus l.cpu l.pool (drop (length l.frames - l.number) l.frames);
}
