use Rattle.std.proofs.Common.{subst}
use Rattle.hp_units.specs.Memory.{Memory}
use Rattle.hp_plain.specs.Placing.{AreListsJoined}
use Rattle.hp_plain.proofs.Values.{memory_value}
use Rattle.hp_plain.proofs.WellPlaced.{decided}
use Rattle.hp_plain.proofs.image.Image.is_well_placed.Goals as goal

pub returns : goal.returns
returns c =
    let in_ = c.self.inside in
    let s : Memory = memory_value in_.free in_.pages in_.kernel.items in_.blocks in
    let rows = rw c.rows-rows.ensures at c.if-not-are_rows.ensures in
    let kinds =
    rw (c.kinds.ensures, c.areas.ensures, c.rows-rows.ensures) at c.if-not-are_kinds.ensures in
    let said = rw c.if-not-joined.false at c.in_ok-joined.ensures in
    let joined = subst (AreListsJoined in_.layout) c.areas-2.ensures said in
    let once = rw (← c.self.view_is) at c.is_each_once.ensures in
    rw (← c.self.view_is) (decided in_.layout s c.is_each_once.result c.self.invariant rows kinds joined once)
