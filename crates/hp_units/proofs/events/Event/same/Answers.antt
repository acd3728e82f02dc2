use Rattle.std.proofs.Common.{◌≡◌, Bool, List, ap, subst, sym, rules}
use Rattle.std.specs.Prelude.{IsTrue, ◌↔◌}
use Rattle.std.specs.Cmp.Lexicographic.{pointwise}
use Rattle.hp_units.specs.declared.plans.Item.{Item}
use Rattle.hp_units.specs.contracts.events.Event.{enum}
use Rattle.hp_units.specs.contracts.plans.ItemPartialEq.TheImpl.{ghosts}
use Rattle.hp_units.proofs.DerivedEq.{plans_equal, tells_equal}
use Rattle.hp_units.proofs.events.Event.same.Goals as goal

planned : (x y : List Item × Unit {0}) → IsTrue (pointwise ghosts.eq x.0 y.0) ↔ (x ≡ y)
planned x y = (
  λ same. ap (λ (p : List Item). (p, tt)) ((plans_equal x.0 y.0).0 same),
  λ equal. (plans_equal x.0 y.0).1 (ap (λ (p : List Item × Unit {0}). p.0) equal),
)

pub returns : goal.returns
returns c =
    subst (λ (told : Bool). IsTrue told ↔ (c.args.self.now ≡ c.args.other.now)) (sym c.eq.ensures)
    (tells_equal enum _ (search rules, (search rules, (search rules, (search rules, (search rules, (search rules, (search rules, (search rules, (planned, (search rules, (search rules, (search rules, (search rules, (search rules, (search rules, (search rules, (search rules, tt)))))))))))))))))
    c.args.self.now c.args.other.now)
