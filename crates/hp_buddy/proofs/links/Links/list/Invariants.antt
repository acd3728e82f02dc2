use Rattle.std.proofs.Common.{◌-◌, length}
use Rattle.hp_buddy.specs.LinkedLists.{list_at}
use Rattle.hp_buddy.proofs.Walks.{IsWalked}
use Rattle.hp_buddy.proofs.links.Links.list.Given as goal

abbrev pub invariant-loop-ahead : goal.invariant-loop-ahead
invariant-loop-ahead l = IsWalked (list_at l.self l.fn.list) l.frames.items l.ahead

abbrev pub decreases-loop-ahead : goal.decreases-loop-ahead
decreases-loop-ahead l = length (list_at l.self l.fn.list) - length l.frames.items
