use Rattle.std.proofs.Common.{sym}
use Rattle.std.proofs.lemmas.Result.{on_ok_weaker}
use Rattle.serde_json.specs.View.{view}
use Rattle.hp_check.specs.Adds.{IsShape}
use Rattle.hp_check.proofs.Added.{both_lack, none_added}
use Rattle.hp_check.proofs.Forms.{layout_form, layout_formless}
use Rattle.hp_check.proofs.shape.push_layout.Goals as goal

pub returns-in_default : goal.returns-in_default
returns-in_default c = rw c.in_default.is (none_added IsShape _)

pub returns-in_default-as_object : goal.returns-in_default-as_object
returns-in_default-as_object c =
    rw (c.in-Some.is, layout_formless (view c.in-Some.layout.now) (sym c.in_default-as_object.ensures))
    c.push.ensures

pub returns : goal.returns
returns c =
    rw (c.in-Some.is, ← layout_form (view c.in-Some.layout.now) _ (sym c.in-Some-as_object.ensures))
    (on_ok_weaker c.push_boot.result
    (both_lack _ _ (both_lack _ _ c.in_ok-push_keys.ensures c.in_ok-push_numbers.ensures))
    (rw c.get.ensures at c.push_boot.ensures))
