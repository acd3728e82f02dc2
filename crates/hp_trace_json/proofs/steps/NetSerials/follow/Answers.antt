use Rattle.std.proofs.Common.{◌∙◌}
use Rattle.hp_trace_json.proofs.Following.{dropped}
use Rattle.hp_trace_json.proofs.steps.NetSerials.follow.Goals as goal

pub returns-clause-dropped : goal.returns-clause-dropped
returns-clause-dropped c =
    dropped c.args.self.now c.deref.result.now _ c.kept_of-kept.result c.args.count
    (c.deref.ensures.value ∙ c.self.view_is) c.in_ok-dropped.ensures.items c.kept_of-kept.ensures.low
    c.kept_of-kept.ensures.most
