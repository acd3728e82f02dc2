use Rattle.std.proofs.Common.{◌≡◌, Bool, ap, subst, sym, rules}
use Rattle.std.specs.Prelude.{IsTrue, ◌↔◌}
use Rattle.hp_units.specs.declared.replies.Refusal.{Refusal}
use Rattle.hp_units.specs.contracts.replies.Reply.{enum}
use Rattle.hp_units.specs.contracts.replies.RefusalPartialEq.TheImpl.{ghosts}
use Rattle.hp_units.proofs.DerivedEq.{refusals_equal, tells_equal}
use Rattle.hp_units.proofs.replies.Reply.same.Goals as goal

refused : (x y : Refusal × Unit {0}) → IsTrue (ghosts.eq x.0 y.0) ↔ (x ≡ y)
refused x y = (
  λ same. ap (λ (r : Refusal). (r, tt)) ((refusals_equal x.0 y.0).0 same),
  λ equal. (refusals_equal x.0 y.0).1 (ap (λ (r : Refusal × Unit {0}). r.0) equal),
)

pub returns : goal.returns
returns c =
    subst (λ (told : Bool). IsTrue told ↔ (c.args.self.now ≡ c.args.other.now)) (sym c.eq.ensures)
    (tells_equal enum _ (
      search rules,
      (
        search rules,
        (
          search rules,
          (
            search rules,
            (
              search rules,
              (
                search rules,
                (
                  search rules,
                  (search rules, (refused, tt)),
                ),
              ),
            ),
          ),
        ),
      ),
    )
    c.args.self.now c.args.other.now)
