use Rattle.std.proofs.Common.{◌≡◌, ◌∙◌, true, ℕ, List, Option, Some, None, Ok, Bor, codes, option_map, refl, sym, ap}
use Rattle.serde_json.specs.Data.{Data}
use Rattle.serde_json.specs.Find.{get}
use Rattle.serde_json.specs.View.{view}
use Rattle.serde_json.specs.declared.value.Value.{Value}
use Rattle.hp_units.specs.LayoutParts.{LayoutParts}
use Rattle.hp_units.specs.declared.rows.Boot.{Boot}
use Rattle.hp_scenario.specs.Form.{boots_at, form_of, has_keys, parts_of, parts_with, texts_at}
use Rattle.hp_scenario.specs.Gives.{or_fault}
use Rattle.hp_scenario.specs.declared.fault.ScenarioFault.TheVariants.{BadShape}
use Rattle.hp_scripts.specs.Named.{named_if, named_of}
use Rattle.hp_scripts.proofs.named.named_from.Goals as goal

there : (o : Option (List Boot)) (boot : List Boot) → or_fault BadShape o ≡ Ok boot → o ≡ Some boot
there None boot e = absurd cc
there (Some x) boot e = cc

-- the scenario of the parts that a JSON value has
of_parts : (d layout : Data) (boot : List Boot) (p : Option LayoutParts) (calls : Option (List (List ℕ)))
    → true ≡ has_keys 2 d → Some layout ≡ get (codes "layout") d → true ≡ has_keys 11 layout
    → or_fault BadShape (boots_at (codes "boot") layout) ≡ Ok boot
    → p ≡ parts_with boot layout → calls ≡ texts_at (codes "calls") d → named_if p calls ≡ named_of d
unfolding named_of form_of parts_of
of_parts d layout boot p calls two named eleven placed parts texts =
    rw (parts, texts, sym two, sym named, sym eleven, there _ _ placed) refl

pub returns : goal.returns
returns c =
    let layout = c.in_ok-layout.layout in
    let named =
    ap (option_map (λ (v : Bor Value). view v.now)) (sym c.in_ok-layout.ensures.ok_part) ∙ c.get.ensures in
    rw (← (of_parts (view c.args.value.now) (view layout.now) c.in_ok-boot.boot.items _ c.texts_at.result
    c.if-not-has_keys.ensures named c.if-not-has_keys-2.ensures c.in_ok-boot.ensures
    (c.parts_with.ensures ∙ ap (λ (boot : List Boot). parts_with boot (view layout.now))
    c.deref.ensures.value) c.texts_at.ensures)) c.named_with.ensures
