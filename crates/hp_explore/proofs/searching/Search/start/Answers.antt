-- Nothing is visited before any call.
use Rattle.std.proofs.Common.{refl}
use Rattle.hp_explore.proofs.searching.Search.start.Goals as goal

pub returns : goal.returns
returns c = record {
  path = c.in_ok-path.ensures;
  schedule = c.new.ensures;
  next = refl;
  none = c.in_ok-visited.ensures.none;
  mergeable = c.in_ok-visited.ensures.mergeable;
  way = c.in_ok-visited.ensures.way;
  base = c.in_ok-visited.ensures.base;
}
