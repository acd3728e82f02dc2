use Rattle.std.proofs.Common.{◌∙◌, ap, option_map, refl}
use Rattle.serde_json.specs.View.{view}
use Rattle.hp_units.specs.PartsSeen.{parts_seen}
use Rattle.hp_scenario.proofs.FormPairs.{of_pairs}
use Rattle.hp_scenario.proofs.form.parts_with.Goals as goal

pub returns-in_err-order : goal.returns-in_err-order
returns-in_err-order c =
    ap (option_map parts_seen) c.from_residual.ensures
    ∙ of_pairs c.args.boot.now (view c.args.layout.now) _ _ _ _ _ c.in_err-order.ensures refl refl refl refl

pub returns-in_err-blocks : goal.returns-in_err-blocks
returns-in_err-blocks c =
    rw c.from_residual-in_err-blocks.ensures (of_pairs c.args.boot.now (view c.args.layout.now) _ _ _ _ _
    c.in_ok-order.ensures c.in_err-blocks.ensures refl refl refl)

pub returns-in_err-batch : goal.returns-in_err-batch
returns-in_err-batch c =
    rw c.from_residual-in_err-batch.ensures (of_pairs c.args.boot.now (view c.args.layout.now) _ _ _ _ _
    c.in_ok-order.ensures c.in_ok-blocks.ensures c.in_err-batch.ensures refl refl)

pub returns-in_err-owners : goal.returns-in_err-owners
returns-in_err-owners c =
    rw c.from_residual-in_err-owners.ensures (of_pairs c.args.boot.now (view c.args.layout.now) _ _ _ _ _
    c.in_ok-order.ensures c.in_ok-blocks.ensures c.in_ok-batch.ensures c.in_err-owners.ensures refl)

pub returns-in_err-words : goal.returns-in_err-words
returns-in_err-words c =
    ap (option_map parts_seen) c.from_residual-in_err-words.ensures
    ∙ of_pairs c.args.boot.now (view c.args.layout.now) _ _ _ _ _ c.in_ok-order.ensures
    c.in_ok-blocks.ensures c.in_ok-batch.ensures c.in_ok-owners.ensures c.in_err-words.ensures

pub returns : goal.returns
returns c =
    of_pairs c.args.boot.now (view c.args.layout.now) _ _ _ _ _ c.in_ok-order.ensures c.in_ok-blocks.ensures
    c.in_ok-batch.ensures c.in_ok-owners.ensures c.in_ok-words.ensures
