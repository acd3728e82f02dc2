-- The changes so far.
use Rattle.std.proofs.Common.{◌≡◌, ◌<◌, take}
use Rattle.hp_explore.specs.Changes.{changes}
use Rattle.hp_explore.proofs.changes.changes_of.Given as goal

abbrev pub invariant-loop-index : goal.invariant-loop-index
invariant-loop-index l =
    record { so_far : l.count ≡ changes (take l.index l.schedule); few : l.count < l.index }
