use Rattle.std.proofs.Common.{◌≡◌, Bool, subst, sym}
use Rattle.std.specs.Prelude.{IsTrue, ◌↔◌}
use Rattle.hp_units.proofs.DerivedEq.{plans_equal}
use Rattle.hp_units.proofs.plans.Plan.same.Goals as goal

pub returns : goal.returns
returns c =
    subst (λ (told : Bool). IsTrue told ↔ (c.args.self.now ≡ c.args.other.now)) (sym c.eq.ensures)
    (plans_equal c.args.self.now c.args.other.now)
