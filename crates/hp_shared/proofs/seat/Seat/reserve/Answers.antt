use Rattle.std.proofs.Common.{List, length, ap, sym, ◌∙◌}
use Rattle.hp_units.specs.declared.replies.Receipt.{Receipt}
use Rattle.hp_shared.proofs.seat.Seat.reserve.Goals as goal

pub invariant_of-self : goal.invariant_of-self
invariant_of-self g c = (
  c.self.invariant.0,
  c.self.invariant.1,
  c.self.invariant.2 ∙ ap (λ (rs : List Receipt). length rs) (sym c.reserve.ensures.items),
  c.self.invariant.3,
  c.self.invariant.4,
  c.self.invariant.5,
)

pub returns : goal.returns
returns g c = rw c.reserve.ensures.items c.self.view_is
