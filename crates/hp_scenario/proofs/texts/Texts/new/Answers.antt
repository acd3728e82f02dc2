use Rattle.std.proofs.Common.{◌≡◌, true, false, List, get_or, sym, subst, ◌∙◌}
use Rattle.std.specs.List.{list_all}
use Rattle.std.proofs.lemmas.List.{take_all}
use Rattle.std.proofs.lemmas.List.Folds.{list_all_at}
use Rattle.serde_json.specs.declared.value.Value.{Value}
use Rattle.hp_scenario.specs.Form.{is_text}
use Rattle.hp_scenario.proofs.TextLists.{all_texts, not_all_texts}
use Rattle.hp_scenario.proofs.texts.Texts.new.Goals as goal

pub returns-then-not-is_string : goal.returns-then-not-is_string
returns-then-not-is_string c =
    let values = c.as_slice-values.result.now in
    let at = c.loop-value.value-index in
    let value = c.value-item.result in
    let other : is_text (get_or values at value) ≡ false =
    rw (← c.value-item.is) (sym c.is_string.ensures ∙ c.if-not-is_string.true) in
    sym (not_all_texts c.args.values.now.items (subst (λ (vs : List Value). list_all is_text vs ≡ false)
    c.as_slice-values.ensures.value (list_all_at is_text values at value c.loop-value-test.true other)))

pub returns : goal.returns
returns c =
    let values = c.as_slice-values.result.now in
    let whole = take_all c.loop-value.value-index values c.loop-value-test.false in
    let all : list_all is_text values ≡ true = rw (← whole) c.loop-value.invariant in
    rw (← all_texts values all, c.as_slice-values.ensures.value)
