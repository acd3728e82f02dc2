-- A mark takes the step back; steps that were kept are those from before it.
use Rattle.std.proofs.Common.{◌∙◌, subst}
use Rattle.hp_explore.specs.Paths.{IsWayOver}
use Rattle.hp_explore.specs.declared.ways.Way.{Way}
use Rattle.hp_explore.proofs.ways.Way.lead_back.Goals as goal

pub take_back-requires : goal.take_back-requires
take_back-requires c = (
  c.requires.0,
  c.requires.1,
  subst (λ (way : Way). IsWayOver way c.requires.0 c.requires.1 c.args.here.now) c.in-Mark.is c.requires.2,
)

pub returns-in-Mark : goal.returns-in-Mark
returns-in-Mark c =
    λ old r over. c.take_back.ensures old r
    (subst (λ (way : Way). IsWayOver way old r c.args.here.now) c.in-Mark.is over)

pub returns-in-Kept : goal.returns-in-Kept
returns-in-Kept c =
    λ old r over. c.into_inner.ensures
    ∙ (subst (λ (way : Way). IsWayOver way old r c.args.here.now) c.in-Kept.is over).0
