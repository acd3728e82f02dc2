use Rattle.std.proofs.Common.{ℕ, List, ap, ◌∙◌}
use Rattle.std.specs.List.{starts_with}
use Rattle.std.specs.Prelude.{nat_eq}
use Rattle.std.proofs.lemmas.Str.Pattern.{starts_text}
use Rattle.hp_map.proofs.rounds.asks.Goals as goal

pub returns : goal.returns
returns c =
    starts_text _ _ _ c.starts_with.ensures.cases
    ∙ ap (λ (text : List ℕ). starts_with nat_eq text c.args.words.now) c.asked.ensures
