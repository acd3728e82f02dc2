-- Where the digest has no place, no end has the outcome.
use Rattle.hp_schedules.proofs.Known.{unknown}
use Rattle.hp_parts.proofs.merged_ends.place_of.Goals as goal

pub returns-in_default-clause-none : goal.returns-in_default-clause-none
returns-in_default-clause-none c =
    unknown c.args.ends.now c.args.outcome.now c.args.latest.now c.args.digest c.requires.known
    c.requires.digest c.in_default.ensures.value
