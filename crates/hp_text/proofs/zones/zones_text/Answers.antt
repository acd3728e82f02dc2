use Rattle.std.proofs.Common.{rules}
use Rattle.hp_text.specs.Zones.{buddyinfo_text}
use Rattle.hp_text.proofs.zones.zones_text.Goals as goal

pub returns-in_err-write_zone : goal.returns-in_err-write_zone
returns-in_err-write_zone c = search rules

pub returns : goal.returns
unfolding buddyinfo_text
returns c = search rules
