use Rattle.std.proofs.Common.{length, ap}
use Rattle.hp_units.specs.Memory.{free_list}
use Rattle.hp_buddy.specs.Buddy.{BuddyValue}
use Rattle.hp_buddy.proofs.buddy.Buddy.len.Goals as goal

pub returns : goal.returns
returns c =
    rw (c.len.ensures, c.area_list.ensures)
    (ap (λ (v : BuddyValue). length (free_list v.areas c.args.class c.args.order)) c.self.view_is)
