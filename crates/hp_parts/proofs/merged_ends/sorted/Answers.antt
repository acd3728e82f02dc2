-- The order of two schedules is a total one.
use Rattle.std.proofs.Common.{◌≡◌, Bool, rules}
use Rattle.std.specs.Cmp.Lexicographic.{slice_cmp, nat_list_cmp_total}
use Rattle.std.specs.Ordering.{is_lt, nat_cmp}
use Rattle.std.proofs.lemmas.List.Sorted.{answers_always, ranks_by}
use Rattle.hp_schedules.specs.declared.tally.Ending.{Ending}
use Rattle.hp_parts.proofs.merged_ends.sorted.Goals as goal

abbrev less : Ending → Ending → Bool
less e f = is_lt (slice_cmp nat_cmp e.first.items f.first.items)

pub returns : goal.returns
returns c = record {
  moved = c.sort_unstable_by.ensures.permutation;
  sorted =
      c.sort_unstable_by.ensures.sorted less (ranks_by nat_list_cmp_total (λ (e : Ending). e.first.items))
      (answers_always _ (λ a r. is_lt r ≡ less a.0.now a.1.0.now) _ (λ f a r f' k. search rules));
}
