use Rattle.std.proofs.Common.{◌≡◌, ℕ, ◌<◌, get_or, length}
use Rattle.hp_plain.specs.Placing.{unplugged}
use Rattle.hp_plain.proofs.marks.Marks.of_unplugged.Given as goal

abbrev pub invariant-loop-number : goal.invariant-loop-number
invariant-loop-number l = record {
  long : length l.frames.items ≡ l.number;
  each : (k : ℕ) → k < l.number → get_or l.frames.items k 1 ≡ unplugged l.layout l.rows k;
}
