use Rattle.std.proofs.Common.{◌≡◌, take}
use Rattle.hp_scripts.specs.Begins.{last_begun}
use Rattle.hp_scripts.proofs.begins.last_begun.Given as goal

abbrev pub invariant-loop-begin : goal.invariant-loop-begin
invariant-loop-begin l = l.op ≡ last_begun l.cpu (take l.begin-index l.begins)
