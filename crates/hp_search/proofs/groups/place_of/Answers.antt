-- Where the hash has no place, no group is the outcome's.
use Rattle.hp_search.proofs.GroupsFound.{unknown}
use Rattle.hp_search.proofs.groups.place_of.Goals as goal

pub returns-in_default-clause-none : goal.returns-in_default-clause-none
returns-in_default-clause-none c =
    unknown c.args.by.now c.args.groups.now c.args.outcome.now c.args.latest.now
    c.args.digest c.requires.known
    c.requires.digest c.in_default.ensures.value
