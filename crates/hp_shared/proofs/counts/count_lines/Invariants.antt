use Rattle.std.proofs.Common.{◌≡◌, ◌+◌, take}
use Rattle.hp_shared.specs.Seals.{seals_in}
use Rattle.hp_shared.proofs.counts.count_lines.Given as goal

abbrev pub invariant-loop-line : goal.invariant-loop-line
invariant-loop-line l = l.count ≡ l.fn.before + seals_in (take l.line-index l.lines)
