-- The end that is read is the one at the place.
use Rattle.std.proofs.Common.{length, refl}
use Rattle.std.proofs.lemmas.Option.{slice_get_read}
use Rattle.hp_parts.proofs.merged_ends.is_end_at.Goals as goal

pub returns-in-Some : goal.returns-in-Some
returns-in-Some c =
    let here =
    slice_get_read c.args.ends.now (length c.args.ends.now) c.args.place c.in-Some.end.now refl
    c.in-Some.ensures.lookup.3.0 c.in-Some.ensures.lookup.1 in
    λ is. (c.in-Some.end.now, here, c.same.ensures.0 is)
