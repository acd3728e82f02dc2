use Rattle.std.proofs.Common.{◌∙◌}
use Rattle.hp_parts.proofs.Ordered.{comes_twice, is_missing}
use Rattle.hp_parts.proofs.ordering.check_number.Goals as goal

pub returns-then-number-next-clause-err : goal.returns-then-number-next-clause-err
returns-then-number-next-clause-err c =
    comes_twice _ _ _ _ _ c.requires.index c.index-parts-index.is (c.from-number.ensures ∙ c.number.ensures)
    c.requires.within c.requires.rising c.requires.placed c.if-number-next.true

pub returns-then-number-next-2-clause-err : goal.returns-then-number-next-2-clause-err
returns-then-number-next-2-clause-err c =
    is_missing _ _ _ _ _ c.requires.index c.index-parts-index.is (c.from-number.ensures ∙ c.number.ensures)
    c.requires.within c.requires.rising c.requires.placed c.if-number-next-2.true
