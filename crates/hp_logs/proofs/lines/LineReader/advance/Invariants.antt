use Rattle.std.proofs.Common.{◌≡◌, ◌+◌, ◌≤◌}
use Rattle.hp_logs.proofs.lines.LineReader.advance.Given as goal

abbrev pub invariant-loop-read : goal.invariant-loop-read
invariant-loop-read g l =
    (g.R.Source.failures l.source ≡ g.R.Source.failures l.fn.source)
    × (l.self.start + l.searched ≤ l.self.end)
