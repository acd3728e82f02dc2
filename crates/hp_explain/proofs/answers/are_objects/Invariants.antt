use Rattle.std.proofs.Common.{◌≡◌, drop}
use Rattle.hp_explain.specs.Answers.{are_objects}
use Rattle.hp_explain.proofs.answers.are_objects.Given as goal

abbrev pub invariant-loop-byte : goal.invariant-loop-byte
invariant-loop-byte l = are_objects l.input ≡ are_objects (drop l.byte-index l.input)
