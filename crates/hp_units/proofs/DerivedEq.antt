-- The derived `==` of an enum is true exactly for equal values, if the `==` of each variant's
-- fields is.
use Rattle.std.proofs.Common.{◌≡◌, Bool, true, false, List, [], ◌∷◌, refl, ap, subst, inl, inr, rules}
use Rattle.std.specs.Prelude.{IsTrue, ◌↔◌}
use Rattle.hp_units.specs.declared.replies.Refusal.{Refusal}
use Rattle.std.specs.Bool.{Decides}
use Rattle.std.specs.Cmp.Lexicographic.{pointwise, pointwise_decides}
use Rattle.hp_units.specs.declared.plans.Item.{Item}
use Rattle.hp_units.specs.contracts.plans.ItemPartialEq.TheImpl as item
use Rattle.hp_units.specs.contracts.replies.Refusal.{enum}
use Rattle.hp_units.specs.contracts.replies.RefusalPartialEq.TheImpl.{ghosts}
use denote.Struct.Field.{Field}
use denote.Struct.Values.{Values}
use denote.Enum.Compared.{Each, by}
use denote.Enum.Declared.{Choice, Record, values_one}

-- the test of each variant's fields is true exactly for equal fields
abbrev pub TellEqual : (Fss : List (List Field)) → Each Bool Fss → Type 0
TellEqual [] each = Unit {0}
TellEqual (Fs ∷ Fss) each = ((x y : Values Fs) → IsTrue (each.0 x y) ↔ (x ≡ y)) × TellEqual Fss each.1

false_true : false ≡ true → ⊥
false_true same = search rules

choices_equal : (Fss : List (List Field)) (each : Each Bool Fss) → TellEqual Fss each → (c d : Choice Fss)
    → IsTrue (by false false Fss each c d) → c ≡ d
choices_equal [] each tell c d same = absurd c
choices_equal (Fs ∷ Fss) each tell (inl x) (inl y) same = ap inl ((tell.0 x y).0 same)
choices_equal (Fs ∷ Fss) each tell (inl x) (inr y) same = absurd (false_true same)
choices_equal (Fs ∷ Fss) each tell (inr x) (inl y) same = absurd (false_true same)
choices_equal (Fs ∷ Fss) each tell (inr x) (inr y) same =
    ap inr (choices_equal Fss each.1 tell.1 x y same)

choice_same : (Fss : List (List Field)) (each : Each Bool Fss) → TellEqual Fss each → (c : Choice Fss)
    → IsTrue (by false false Fss each c c)
choice_same [] each tell c = absurd c
choice_same (Fs ∷ Fss) each tell (inl x) = (tell.0 x x).1 refl
choice_same (Fs ∷ Fss) each tell (inr x) = choice_same Fss each.1 tell.1 x

pub tells_equal : (N : Record) (each : Each Bool N.parts) → TellEqual N.parts each → (x y : N.D)
    → IsTrue (by false false N.parts each (N.as_values x) (N.as_values y)) ↔ (x ≡ y)
tells_equal N each tell x y = (
  λ same. values_one N x y (choices_equal N.parts each tell (N.as_values x) (N.as_values y) same),
  λ equal. subst (λ (z : N.D). IsTrue (by false false N.parts each (N.as_values x) (N.as_values z))) equal
      (choice_same N.parts each tell (N.as_values x)),
)

pub refusals_equal : (x y : Refusal) → IsTrue (ghosts.eq x y) ↔ (x ≡ y)
refusals_equal x y = tells_equal enum _ (search rules) x y

items_decided : (x y : Item) → Decides (item.ghosts.eq x y) (x ≡ y)
items_decided x y = search rules

pub plans_equal : (x y : List Item) → IsTrue (pointwise item.ghosts.eq x y) ↔ (x ≡ y)
plans_equal x y = pointwise_decides items_decided x y
