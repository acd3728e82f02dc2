use Rattle.std.proofs.Common.{sym, ◌∙◌}
use Rattle.std.proofs.lemmas.Result.{on_ok_weaker}
use Rattle.serde_json.specs.View.{view}
use Rattle.hp_check.specs.Adds.{IsShape}
use Rattle.hp_check.proofs.Added.{both_lack, none_added}
use Rattle.hp_check.proofs.Forms.{counted_keys, wrong_keys}
use Rattle.hp_check.proofs.shape.push_keys.Goals as goal

pub returns-then-has_its_keys : goal.returns-then-has_its_keys
returns-then-has_its_keys c =
    rw (
      ← counted_keys c.args.place (view c.args.value.now) _ _ c.len-count.ensures.len,
      ← c.has_its_keys.ensures,
      c.if-has_its_keys.true,
    ) (none_added IsShape _)

pub returns : goal.returns
returns c =
    rw (
      ← counted_keys c.args.place (view c.args.value.now) _ _ c.len-count.ensures.len,
      ← wrong_keys _ c.in_ok-push_unknown.ensures.0 _ (sym c.if-has_its_keys.false ∙ c.has_its_keys.ensures),
    )
    (on_ok_weaker c.push_missing.result
    (both_lack _ _ (both_lack _ _ (rw c.keys_of.ensures at c.in_ok-push_unless.ensures)
    c.in_ok-push_unknown.ensures.1)) c.push_missing.ensures)
