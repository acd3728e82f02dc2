use Rattle.std.proofs.Common.{◌∙◌}
use Rattle.hp_buddy.proofs.Searches.{seen-is_free, seen-not_free}
use Rattle.hp_buddy.proofs.buddy.Buddy.is_free.Goals as goal

pub returns-in-Some : goal.returns-in-Some
returns-in-Some c =
    let b = c.self.inside in
    c.eq.ensures
    ∙ seen-is_free c.args.self.now b.layout b.links b.kinds.items c.args.class c.args.order c.args.frame
    c.in-Some.list c.area_list.result
    (record { is = c.self.view_is; kept = c.self.invariant }) c.in-Some.ensures.listed c.in-Some.ensures.apart
    c.area_list.ensures

pub returns-in-None : goal.returns-in-None
returns-in-None c =
    let b = c.self.inside in
    seen-not_free c.args.self.now b.layout b.links b.kinds.items c.args.class c.args.order c.args.frame
    (record { is = c.self.view_is; kept = c.self.invariant }) c.in-None.ensures.free
