use Rattle.std.proofs.Common.{sym}
use Rattle.std.proofs.lemmas.Result.{on_ok_weaker}
use Rattle.serde_json.specs.View.{view}
use Rattle.hp_check.proofs.Added.{both_lack}
use Rattle.hp_check.proofs.Forms.{whole_form, whole_formless}
use Rattle.hp_check.proofs.shape.push_shape.Goals as goal

pub returns-in_default : goal.returns-in_default
returns-in_default c =
    rw (whole_formless (view c.args.value.now) (sym c.in_default.ensures)) c.push.ensures

pub returns : goal.returns
returns c =
    rw (← whole_form (view c.args.value.now) _ (sym c.in-Some.ensures))
    (on_ok_weaker c.push_calls.result
    (both_lack _ _ (both_lack _ _ c.in_ok-push_keys.ensures (rw c.get.ensures at c.in_ok-push_layout.ensures)))
    (rw c.get-2.ensures at c.push_calls.ensures))
