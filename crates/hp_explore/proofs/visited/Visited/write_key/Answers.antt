-- The key has the numbers and the state of the place.
use Rattle.std.proofs.Common.{◌∙◌, refl}
use Rattle.hp_explore.proofs.LatestNumbers.{numbers_here}
use Rattle.hp_explore.proofs.visited.Visited.write_key.Goals as goal

pub returns-clause-ok : goal.returns-clause-ok
returns-clause-ok g c =
    let v = c.write_numbers.new.self in
    let p = c.args.path.now in
    let way = c.in_ok-write_numbers.ensures.way (c.in_ok-write_numbers.ensures.same.0 ∙ c.requires.on) in
    let numbered =
    numbers_here p.setting p.news v.fixed v.latest c.here.result.now way.2 c.here.ensures way.1 in
    λ told. (
      record {
        numbers = v.numbers.items;
        are = c.in_ok-write_numbers.ensures.ok c.if-not-branch.false;
        key_is = rw (c.in_ok-write.ensures.ok, c.as_slice-numbers.ensures.value, numbered, c.memory.ensures);
        shaped = rw (numbered, c.memory.ensures) at c.in_ok-write.ensures.shaped;
      },
      refl,
    )
