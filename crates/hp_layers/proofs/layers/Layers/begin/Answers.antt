use Rattle.std.proofs.Common.{◌≡◌, None}
use Rattle.hp_units.specs.Choices.{first_some}
use Rattle.hp_units.specs.Refusals.{plan_refusals}
use Rattle.hp_layers.specs.Layers.{state_of}
use Rattle.hp_layers.proofs.Begun.{begin-done}
use Rattle.hp_layers.proofs.Placed.{tidy-placed}
use Rattle.hp_layers.proofs.Unclaimed.{plan-unclaimed}
use Rattle.hp_layers.proofs.layers.Layers.begin.Goals as goal

pub begin_plan-requires-clause-tidy : goal.begin_plan-requires-clause-tidy
begin_plan-requires-clause-tidy c = tidy-placed c.args.self.now c.requires.placed

pub begin_plan-requires-clause-free : goal.begin_plan-requires-clause-free
begin_plan-requires-clause-free c =
    let m = c.args.self.now in
    let none : first_some (plan_refusals m.layout (state_of m) c.args.plan.now) ≡ None =
    cc c.in_default.ensures in
    plan-unclaimed m.layout (state_of m) c.args.plan.now none

pub returns-clause-ok : goal.returns-clause-ok
returns-clause-ok c =
    let m = c.args.self.now in
    let none : first_some (plan_refusals m.layout (state_of m) c.args.plan.now) ≡ None =
    cc c.in_default.ensures in
    begin-done m c.begin_plan.new.self c.args.op c.args.plan.now c.reserve.new.self c.begin_plan.new.tape
    c.requires.placed c.reserve.ensures.deltas none c.begin_plan.ensures
