-- The room is empty at first, so what goes in is all that it holds.
use Rattle.std.proofs.Common.{ℕ, List, ◌++◌, Bor, lit<, ap, map, ◌∙◌}
use Rattle.std.specs.Str.Iter.{split_text, split_has_more, split_pattern}
use Rattle.std.proofs.lemmas.Iterator.Adapters.{fact_from_extend}
use Rattle.std.proofs.lemmas.Iterator.Splits.{YieldsList-from_str_split}
use Rattle.hp_questions.proofs.wanted_lines.split_parts.Goals as goal

pub returns : goal.returns
returns c =
    fact_from_extend (λ w. w.now) c.extend.result c.extend.ensures.ran
    (λ it b. YieldsList-from_str_split 58 c.args.text.now (lit< tt) (ap split_text b ∙ c.split.ensures.text)
    (ap split_has_more b ∙ c.split.ensures.has_more) (ap split_pattern b ∙ c.split.ensures.pattern))
    (λ xs e h. ap (λ (ws : List (Bor (List ℕ))). map (λ w. w.now) ws)
    (h.0 ∙ ap (λ (ws : List (Bor (List ℕ))). ws ++ xs) c.clear.ensures.items) ∙ e)
