use Rattle.std.proofs.Common.{◌≡◌, ◌+◌, ◌-◌}
use Rattle.hp_units.specs.FreeAreas.{least_order}
use Rattle.hp_buddy.proofs.buddy.Buddy.least_order.Given as goal

abbrev pub invariant-loop-order : goal.invariant-loop-order
invariant-loop-order l =
    least_order l.self.areas l.class l.fn.first (l.self.layout.order + 1 - l.fn.first)
    ≡ least_order l.self.areas l.class l.order (l.self.layout.order + 1 - l.order)
