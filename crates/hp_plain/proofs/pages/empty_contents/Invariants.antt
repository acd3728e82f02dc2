use Rattle.std.proofs.Common.{◌≡◌, replicate, None}
use Rattle.hp_plain.proofs.pages.empty_contents.Given as goal

abbrev pub invariant-loop-owner : goal.invariant-loop-owner
invariant-loop-owner l = l.contents.items ≡ replicate l._owner (replicate l.pages None)
