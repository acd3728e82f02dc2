use Rattle.std.proofs.Common.{refl}
use Rattle.hp_trace_json.proofs.Splicing.{splices}
use Rattle.hp_trace_json.proofs.splices.splice_between.Goals as goal

pub returns : goal.returns
returns c =
    splices c.args.was.now c.args.now.now c.in_ok-put.put.items c.common_start-at.result
    c.common_end-end.result _ c.common_start-at.ensures c.common_end-end.ensures refl
    c.in_ok-put.ensures.items
