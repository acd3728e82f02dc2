use Rattle.std.proofs.Common.{◌≡◌, ◌+◌, drop}
use Rattle.hp_scripts.specs.Named.{lines_from, nothing}
use Rattle.hp_scripts.proofs.reading.Reading.add_all.Given as goal

abbrev pub invariant-loop-index : goal.invariant-loop-index
invariant-loop-index l = lines_from (l.index + 1) l.self (drop l.index l.texts) ≡ lines_from 1 nothing l.texts
