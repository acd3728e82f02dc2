use Rattle.std.proofs.Common.{rules}
use Rattle.hp_live.proofs.Shown.{unchanged_told}
use Rattle.hp_live.proofs.states.join_objects.Goals as goal

pub returns-then-eq : goal.returns-then-eq
returns-then-eq c front change ends told =
    unchanged_told front change c.args.object.now.items c.args.more.now c.after_bracket-keys.result.now ends
    told (c.after_bracket-keys.ensures change told) (search rules)
