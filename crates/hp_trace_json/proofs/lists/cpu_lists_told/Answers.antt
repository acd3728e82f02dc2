use Rattle.std.proofs.Common.{◌≡◌, ◌/◌, Some, ap, ◌∙◌}
use Rattle.hp_trace_json.specs.Changes.{SplicesCpu, is_cpu_list}
use Rattle.hp_trace_json.specs.Parts.{cpu_list_at}
use Rattle.hp_trace_json.proofs.Equal.{is_key, is_other}
use Rattle.hp_trace_json.proofs.ListNumbers.{cpu_key, cpu_same}
use Rattle.hp_trace_json.proofs.Tellings.{values_more, values_none}
use Rattle.hp_trace_json.proofs.lists.cpu_lists_told.Goals as goal

pub loop-number-init : goal.loop-number-init
loop-number-init c =
    values_none is_cpu_list SplicesCpu (cpu_list_at c.args.was.now) (cpu_list_at (Some c.args.now.now))
    c.new-told.result.items c.new-told.ensures.items

pub loop-number-preserved : goal.loop-number-preserved
loop-number-preserved c =
    let n = c.loop-number.number in
    let number = cpu_key c.pool_numbered-pool.result n c.pool_numbered-pool.ensures in
    values_more is_cpu_list SplicesCpu (cpu_list_at c.args.was.now) (cpu_list_at (Some c.args.now.now))
    (λ x. (x.cpu ≡ n / 3) × (x.pool ≡ c.pool_numbered-pool.result)) n c.cpu_list_in.result.now
    c.cpu_list-list.result.now _ _
    (c.cpu_list_in.ensures ∙ ap (cpu_list_at c.args.was.now) number)
    (c.cpu_list-list.ensures ∙ ap (cpu_list_at (Some c.args.now.now)) number)
    (λ x e. is_key _ n (cpu_same x.cpu x.pool (n / 3) c.pool_numbered-pool.result e.0 e.1 ∙ number))
    (λ k x other e.
    is_other _ n k (cpu_same x.cpu x.pool (n / 3) c.pool_numbered-pool.result e.0 e.1 ∙ number) other)
    c.loop-number.invariant c.in_ok-tell_cpu_list.ensures
