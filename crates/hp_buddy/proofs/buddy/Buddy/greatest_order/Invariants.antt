use Rattle.std.proofs.Common.{◌≡◌, ◌+◌, ◌-◌}
use Rattle.hp_units.specs.FreeAreas.{greatest_order}
use Rattle.hp_buddy.proofs.buddy.Buddy.greatest_order.Given as goal

abbrev pub invariant-loop-order : goal.invariant-loop-order
invariant-loop-order l =
    greatest_order l.self.areas l.class l.fn.first (l.self.layout.order + 1 - l.fn.first)
    ≡ greatest_order l.self.areas l.class l.fn.first (l.order - l.fn.first)
