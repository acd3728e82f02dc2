use Rattle.std.proofs.Common.{sym, ◌∙◌, arith}
use Rattle.hp_layers.proofs.Drained.{drain_for-done}
use Rattle.hp_layers.proofs.Placed.{tidy-placed}
use Rattle.hp_layers.proofs.layers.Layers.drain_for.Goals as goal

pub drain-requires-clause-tidy : goal.drain-requires-clause-tidy
drain-requires-clause-tidy c = tidy-placed c.args.self.now c.requires.placed

pub returns-clause-ok : goal.returns-clause-ok
returns-clause-ok c =
    drain_for-done c.args.self.now c.drain.new.self c.args.op c.args.drained c.reserve.new.self
    c.drain.new.tape c.requires.placed c.reserve.ensures.deltas
    (omega (arith, c.if-drained-cpus.false, c.cpus.ensures.is, c.drained.view_is))
    (sym c.is_live.ensures ∙ c.if-not-is_live.false) c.drain.ensures
