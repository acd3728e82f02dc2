use Rattle.std.proofs.Common.{◌≡◌, ◌∙◌, List, ◌∷◌, codes, refl, sym, ap, subst}
use Rattle.json.specs.Lex.{tokens}
use Rattle.json.specs.Token.{Token, key, begin_object, begin_array}
use Rattle.hp_units.specs.LayoutParts.{LayoutParts}
use Rattle.hp_scenario.specs.Calls.{IsFront}
use Rattle.hp_scenario.specs.Usual.{IsLayoutAt}
use Rattle.hp_scenario.proofs.UsualForm.{there}
use Rattle.hp_scenario.proofs.calls.Calls.open.Goals as goal

front : (layout : LayoutParts) (old a b d new : List Token) → old ≡ begin_object ∷ a
    → a ≡ key (codes "layout") ∷ b → IsLayoutAt layout b d
    → d ≡ key (codes "calls") ∷ begin_array ∷ new → IsFront layout old new
front layout old a b d new opened named placed calls = (
  b,
  opened ∙ ap (λ (t : List Token). begin_object ∷ t) named,
  subst (λ (t : List Token). IsLayoutAt layout b t) calls placed,
)

pub returns : goal.returns
returns c =
    let reader = c.new-reader.ensures ∙ ap tokens c.in-Ok.ensures.0 in (
      c.in-Ok.ensures.1,
      front c.in-Some.layout _ c.takes_object.new.reader c.takes_key.new.reader c.layout_after.new.reader
          c.takes_array.new.reader (sym reader ∙ c.if-not-takes_object.ensures refl)
          (c.if-not-takes_key.ensures refl)
          (there c.in_ok-layout.field-0 c.in-Some.layout
          (λ l. IsLayoutAt l c.takes_key.new.reader c.layout_after.new.reader) c.in-Some.is
          c.in_ok-layout.ensures) (c.if-not-takes_array.ensures refl),
      c.new.ensures.empty,
    )
