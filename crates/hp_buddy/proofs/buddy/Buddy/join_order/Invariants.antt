use Rattle.std.proofs.Common.{◌≡◌, ◌-◌}
use Rattle.hp_units.specs.FreeAreas.{join_order}
use Rattle.hp_buddy.proofs.buddy.Buddy.join_order.Given as goal

abbrev pub invariant-loop-order : goal.invariant-loop-order
invariant-loop-order l =
    join_order l.self.areas l.class l.fn.frame l.fn.first (l.self.layout.order - l.fn.first)
    ≡ join_order l.self.areas l.class l.fn.frame l.order (l.self.layout.order - l.order)
