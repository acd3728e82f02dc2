-- The group comes after the others.
use Rattle.hp_search.proofs.groups.Groups.begin.Goals as goal

pub returns-clause-ok : goal.returns-clause-ok
returns-clause-ok c = record {
  group = c.in_ok-group.group;
  none = c.requires.none;
  outcome = c.in_ok-group.ensures.outcome;
  count = c.in_ok-group.ensures.count;
  first = c.in_ok-group.ensures.first;
  new_is = rw (← c.self.view_is, c.push_reserved.ensures.items, c.in_ok-reserve.ensures.items);
}
