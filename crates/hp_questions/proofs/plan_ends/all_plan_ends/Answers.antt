-- One script more.
use Rattle.std.proofs.Common.{◌≡◌, [], slice_index_or, arith, sym, ◌∙◌}
use Rattle.std.proofs.lemmas.List.FromFn.{map-range_with_len_more}
use Rattle.std.proofs.lemmas.Option.{same_Some, slice_get-get_or}
use Rattle.hp_questions.specs.PlanEnds.{plan_ends_of}
use Rattle.hp_questions.proofs.Below.{read_here}
use Rattle.hp_questions.proofs.plan_ends.all_plan_ends.Goals as goal

pub loop-index-preserved : goal.loop-index-preserved
loop-index-preserved c =
    let cpus = c.args.cpus in
    let scripts = c.args.scripts.now in
    let index = c.loop-index.index in
    let script = c.index-scripts-index.result in
    let here : slice_index_or scripts index [] ≡ script =
    same_Some (slice_index_or scripts index []) script
    (sym (slice_get-get_or scripts index [] c.loop-index-test.true)
    ∙ read_here _ _ _ c.loop-index-test.true c.index-scripts-index.is) in
    rw (
      c.push_reserved.ensures.items,
      c.in_ok-reserve.ensures.items,
      c.loop-index.invariant,
      c.in_ok-own.ensures,
      ← here,
      c.replies_of.ensures,
      map-range_with_len_more (plan_ends_of cpus scripts c.args.all.now) 0 index index (omega arith),
    )
