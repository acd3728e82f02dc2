-- The place is that of the end's group, or there is no such group.
use Rattle.std.proofs.Common.{inl}
use Rattle.hp_search.proofs.groups.Groups.add.Goals as goal

pub returns-in-Some-clause-ok : goal.returns-in-Some-clause-ok
returns-in-Some-clause-ok c =
    inl (record {
      place = c.in-Some.place;
      has =
          rw (← c.self.view_is)
          (rw (c.in-Some.is, c.as_slice.ensures.value) at c.in_ok-place.ensures.some);
      counted = c.join.ensures.added;
    })
