-- What was found so far is the lists so far.
use Rattle.std.proofs.Common.{◌≡◌, Some, map}
use Rattle.hp_parts.proofs.jobs.all_of.Given as goal

abbrev pub invariant-loop-ends : goal.invariant-loop-ends
invariant-loop-ends l = l.yielded ≡ map (λ v. Some v) l.lists.items
