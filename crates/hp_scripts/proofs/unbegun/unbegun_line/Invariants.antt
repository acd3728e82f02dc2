use Rattle.std.proofs.Common.{◌≡◌, drop}
use Rattle.hp_scripts.specs.Unbegun.{unbegun_at}
use Rattle.hp_scripts.proofs.unbegun.unbegun_line.Given as goal

abbrev pub invariant-loop-index : goal.invariant-loop-index
invariant-loop-index l =
    unbegun_at l.cpu l.setup l.index (drop l.index l.lines) ≡ unbegun_at l.cpu l.setup 0 l.lines
