use Rattle.std.proofs.Common.{ℕ, List, ap, ◌∙◌}
use Rattle.std.proofs.lemmas.List.{take_all}
use Rattle.serde_json.specs.Find.{get}
use Rattle.serde_json.specs.View.{view}
use Rattle.hp_check.specs.Shape.{if_there, is_number, is_number_at}
use Rattle.hp_check.proofs.Added.{of_test, test_added}
use Rattle.hp_check.proofs.shape.push_numbers.Goals as goal

pub loop-key-preserved : goal.loop-key-preserved
loop-key-preserved c =
    let value = view c.args.layout.now in
    test_added (is_number_at value) _ _ _ c.loop-key-test.true c.loop-key.invariant
    (of_test (c.may_be_number-is_fine.ensures
    ∙ ap (if_there is_number) (c.get.ensures ∙ ap (λ (n : List ℕ). get n value) c.name.ensures))
    c.in_ok-push_unless.ensures)

pub returns : goal.returns
returns c = rw (take_all _ _ c.loop-key-test.false, c.number_keys-keys.ensures) at c.loop-key.invariant
