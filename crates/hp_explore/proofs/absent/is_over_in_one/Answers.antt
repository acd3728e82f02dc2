-- One of the threads came to the end of its walk.
use Rattle.std.proofs.Common.{◌≡◌, ◌<◌, Bool, List, Some, arith, false, slice_get, subst, true}
use Rattle.std.proofs.lemmas.Option.{get_or_from_slice_get, slice_get_within}
use Rattle.hp_explore.proofs.absent.is_over_in_one.Goals as goal

pub returns-in-Ok-map_indices : goal.returns-in-Ok-map_indices
returns-in-Ok-map_indices g c =
    let found = c.in-Ok-map_indices.found.items in
    λ told.
    let one = c.is_one.ensures told in
    let there : slice_get found one.0 ≡ Some true =
    subst (λ (xs : List Bool). slice_get xs one.0 ≡ Some true) c.as_slice.ensures.value one.1 in
    let less : one.0 < c.args.jobs =
    omega (arith, slice_get_within found one.0 true there, c.in-Ok-map_indices.ensures.len) in
    (c.in-Ok-map_indices.ensures.each one.0 false less).1.met
    (get_or_from_slice_get found one.0 true false there)
