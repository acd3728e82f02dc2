use Rattle.std.proofs.Common.{◌≡◌, [], drop, take}
use Rattle.hp_scripts.specs.Resolved.{RunsFront}
use Rattle.hp_scripts.proofs.resolve.run_front.Given as goal

abbrev pub invariant-loop-index : goal.invariant-loop-index
invariant-loop-index l = record {
  ran : RunsFront l.initial.machine [] l.sources (take l.index l.initial.lines) (take l.index l.lines)
      l.machine l.numbers.items;
  later : drop l.index l.lines ≡ drop l.index l.initial.lines;
}
