-- The share is added to its end's sum, or is the first of its end.
use Rattle.std.proofs.Common.{◌≡◌, ◌<◌, Some, ap, arith, length, refl, slice_get, sym, ◌∙◌}
use Rattle.std.proofs.lemmas.Option.{same_Some, slice_get_read}
use Rattle.hp_schedules.specs.declared.trail.Trail.{Trail}
use Rattle.hp_schedules.proofs.Trails.{sum_fits, summed_first, summed_with}
use Rattle.hp_schedules.proofs.trail.Trail.sum_up.Goals.{then-share-len, else-share-len}
use Rattle.hp_schedules.proofs.trail.Trail.sum_up.Goals as goal

pub overflow_add-index_mut : goal.overflow_add-index_mut
overflow_add-index_mut c =
    let within : c.in-Some.place < length c.args.self.now.shares.items =
    omega (arith, c.in-Some.ensures.below, c.requires.end, c.requires.at) in
    omega (
      arith,
      sum_fits c.args.self.now.shares.items c.args.end c.args.at c.in-Some.place 18446744073709551616
          c.index-share.result.now c.index_mut.result.now
          (slice_get_read _ _ _ _ refl c.requires.at c.index-share.ensures)
          (slice_get_read _ _ _ _ refl within c.index_mut.ensures.value)
          c.in-Some.ensures.below c.requires.end c.requires.fits,
    )

pub returns-in-Some : goal.returns-in-Some
returns-in-Some c =
    let all = c.args.self.now.shares.items in
    let within : c.in-Some.place < length all =
    omega (arith, c.in-Some.ensures.below, c.requires.end, c.requires.at) in
    let there : slice_get all c.in-Some.place ≡ Some c.index_mut.result.now =
    slice_get_read _ _ _ _ refl within c.index_mut.ensures.value in
    let of = c.in-Some.ensures.of in
    let same : of.0 ≡ c.index_mut.result.now = same_Some of.0 c.index_mut.result.now (sym of.1 ∙ there) in
    summed_with all _ c.args.start c.args.end c.args.at c.in-Some.place c.index-share.result.now
    c.index_mut.result.now (slice_get_read _ _ _ _ refl c.requires.at c.index-share.ensures)
    there (rw same at of.2) c.in-Some.ensures.from c.in-Some.ensures.below c.requires.end refl

pub returns : goal.returns
returns c =
    summed_first c.args.self.now.shares.items c.if-share-len.self.shares.items c.args.start c.args.end
    c.args.at c.index-share.result.now (slice_get_read _ _ _ _ refl c.requires.at c.index-share.ensures)
    c.requires.start c.requires.end (elim c.if-share-len.branch [
      | then-share-len w ↦ ap (λ (t : Trail). t.shares.items) w.self-is
      | else-share-len w ↦ ap (λ (t : Trail). t.shares.items) w.self-is
    ])
