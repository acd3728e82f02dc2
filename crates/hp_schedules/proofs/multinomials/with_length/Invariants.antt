-- The coefficient with the turns so far.
use Rattle.std.proofs.Common.{◌<◌, ◌^◌}
use Rattle.hp_schedules.specs.Multinomials.{IsMultinomialWith}
use Rattle.hp_schedules.proofs.multinomials.with_length.Given as goal

abbrev pub invariant-loop-turn : goal.invariant-loop-turn
invariant-loop-turn l = record {
  coefficient : IsMultinomialWith l.count l.total l.turn l.reached;
  fits : l.reached < 2 ^ 64;
}
