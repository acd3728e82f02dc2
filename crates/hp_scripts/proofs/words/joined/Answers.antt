use Rattle.std.proofs.Common.{◌∙◌}
use Rattle.hp_scripts.proofs.NamedLists.{joined_seen}
use Rattle.hp_scripts.proofs.words.joined.Goals as goal

pub returns : goal.returns
returns c = c.new.ensures ∙ (c.in_ok-join.ensures.ok ∙ joined_seen c.args.words.now)
