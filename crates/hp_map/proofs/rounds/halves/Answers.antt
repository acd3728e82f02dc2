use Rattle.std.proofs.Common.{lit<}
use Rattle.std.proofs.lemmas.Str.Pattern.{split_once_first}
use Rattle.hp_map.proofs.RoundTexts.{halves_are}
use Rattle.hp_map.proofs.rounds.halves.Goals as goal

pub returns : goal.returns
returns c = halves_are _ _ (split_once_first 58 c.args.answer.now _ c.split_once.ensures.cases (lit< tt))
