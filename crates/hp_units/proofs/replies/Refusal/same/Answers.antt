use Rattle.std.proofs.Common.{◌≡◌, Bool, subst, sym}
use Rattle.std.specs.Prelude.{IsTrue, ◌↔◌}
use Rattle.hp_units.proofs.DerivedEq.{refusals_equal}
use Rattle.hp_units.proofs.replies.Refusal.same.Goals as goal

pub returns : goal.returns
returns c =
    subst (λ (told : Bool). IsTrue told ↔ (c.args.self ≡ c.args.other)) (sym c.eq.ensures)
    (refusals_equal c.args.self c.args.other)
