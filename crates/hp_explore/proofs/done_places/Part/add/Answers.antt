-- The place that is added is done.
use Rattle.std.proofs.Common.{None}
use Rattle.hp_explore.specs.Withins.{aim_within}
use Rattle.hp_explore.proofs.PathKeysKept.{done_added}
use Rattle.hp_explore.proofs.done_places.Part.add.Goals as goal

pub invariant_of-self-2 : goal.invariant_of-self-2
invariant_of-self-2 g c =
    done_added g.Q.Question.setting (aim_within g.Q.Question.setting g.Q.Question.wanted None)
    c.self.inside.places c.find_or_add.new.self c.args.place.now c.in_ok-_was_here._was_here
    c.self.invariant c.requires c.in_ok-_was_here.ensures.ok
