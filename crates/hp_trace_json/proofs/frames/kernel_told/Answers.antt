use Rattle.std.proofs.Common.{◌≡◌, Some}
use Rattle.hp_trace_json.specs.Changes.{SetsOrder, is_kernel}
use Rattle.hp_trace_json.specs.Parts.{kernel_in}
use Rattle.hp_trace_json.proofs.Equal.{is_key, is_other}
use Rattle.hp_trace_json.proofs.Tellings.{values_more, values_none}
use Rattle.hp_trace_json.proofs.frames.kernel_told.Goals as goal

pub loop-number-init : goal.loop-number-init
loop-number-init c =
    values_none is_kernel SetsOrder (kernel_in c.args.was.now) (kernel_in (Some c.args.now.now))
    c.new-told.result.items c.new-told.ensures.items

pub loop-number-preserved : goal.loop-number-preserved
loop-number-preserved c =
    let n = c.loop-number.number in
    values_more is_kernel SetsOrder (kernel_in c.args.was.now) (kernel_in (Some c.args.now.now))
    (λ x. x.frame ≡ n) n c.kernel_in.result c.kernel_at.result _ _ c.kernel_in.ensures c.kernel_at.ensures
    (λ x e. is_key x.frame n e) (λ k x other e. is_other x.frame n k e other) c.loop-number.invariant
    c.in_ok-tell_kernel.ensures
