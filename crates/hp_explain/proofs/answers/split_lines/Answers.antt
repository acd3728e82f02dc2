-- The lines are empty at first, so what goes in is all that they are.
use Rattle.std.proofs.Common.{ap, ◌∙◌}
use Rattle.std.specs.Str.Iter.{lines_rest}
use Rattle.std.proofs.lemmas.Iterator.Adapters.{fact_from_extend}
use Rattle.std.proofs.lemmas.Iterator.Splits.{YieldsList-from_lines}
use Rattle.hp_explain.proofs.answers.split_lines.Goals as goal

pub returns : goal.returns
returns c =
    fact_from_extend (λ w. w.now) c.extend.result c.extend.ensures.ran
    (λ it b. YieldsList-from_lines c.args.text.now (ap lines_rest b ∙ c.lines.ensures.rest))
    (λ xs e h. rw (h.0, c.clear.ensures.items) e)
