use Rattle.std.proofs.Common.{◌≡◌, ◌/◌, Some, ap, ◌∙◌}
use Rattle.hp_trace_json.specs.Changes.{SplicesFree, is_free_list}
use Rattle.hp_trace_json.specs.Parts.{free_list_at}
use Rattle.hp_trace_json.proofs.Equal.{is_key, is_other}
use Rattle.hp_trace_json.proofs.ListNumbers.{free_key, free_same}
use Rattle.hp_trace_json.proofs.Tellings.{values_more, values_none}
use Rattle.hp_trace_json.proofs.lists.free_lists_told.Goals as goal

pub loop-number-init : goal.loop-number-init
loop-number-init c =
    values_none is_free_list SplicesFree (free_list_at c.args.was.now) (free_list_at (Some c.args.now.now))
    c.new-told.result.items c.new-told.ensures.items

pub loop-number-preserved : goal.loop-number-preserved
loop-number-preserved c =
    let n = c.loop-number.number in
    let number = free_key c.numbered-class.result n c.numbered-class.ensures in
    values_more is_free_list SplicesFree (free_list_at c.args.was.now) (free_list_at (Some c.args.now.now))
    (λ x. (x.class ≡ c.numbered-class.result) × (x.order ≡ n / 5)) n c.free_list_in.result.now
    c.list-list.result.now _ _
    (c.free_list_in.ensures ∙ ap (free_list_at c.args.was.now) number)
    (c.list-list.ensures ∙ ap (free_list_at (Some c.args.now.now)) number)
    (λ x e. is_key _ n (free_same x.class x.order c.numbered-class.result (n / 5) e.0 e.1 ∙ number))
    (λ k x other e.
    is_other _ n k (free_same x.class x.order c.numbered-class.result (n / 5) e.0 e.1 ∙ number) other)
    c.loop-number.invariant c.in_ok-tell_free_list.ensures
