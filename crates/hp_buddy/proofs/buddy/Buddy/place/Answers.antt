use Rattle.std.proofs.Common.{◌≡◌, ◌+◌, ◌*◌, ◌∙◌}
use Rattle.std.proofs.lemmas.Option.{same_Some}
use Rattle.hp_units.specs.Memory.{class_index}
use Rattle.hp_buddy.proofs.Standing.{seen-place, seen-no_place, seen-on, seen-free, number_class, number_order}
use Rattle.hp_buddy.proofs.buddy.Buddy.place.Goals as goal

pub returns-in-Some-clause-place : goal.returns-in-Some-clause-place
returns-in-Some-clause-place c =
    let b = c.self.inside in
    seen-place c.args.self.now b.layout b.links b.kinds.items c.args.frame c.in-Some.list c.list.inside.0
    c.numbered.result
    (record { is = c.self.view_is; kept = c.self.invariant }) c.in-Some.ensures.listed c.in-Some.ensures.apart
    c.list.view_is c.numbered.ensures

pub returns-in-Some-clause-on : goal.returns-in-Some-clause-on
returns-in-Some-clause-on c = λ class order on.
    let b = c.self.inside in
    let found =
    c.in-Some.ensures.on (5 * order + class_index class) (seen-on c.args.self.now b.layout b.links
    b.kinds.items class order c.args.frame (record { is = c.self.view_is; kept = c.self.invariant })
    on) in
    let number : c.list.inside.0 ≡ 5 * order + class_index class =
    c.list.view_is ∙ same_Some c.in-Some.list (5 * order + class_index class) found in
    let class_is : c.numbered.result ≡ class =
    c.numbered.ensures ∙ number_class class order c.list.inside.0 number in
    rw (class_is, number_order class order c.list.inside.0 number)

pub returns-in-Some-clause-free : goal.returns-in-Some-clause-free
returns-in-Some-clause-free c =
    let b = c.self.inside in
    seen-free c.args.self.now b.layout b.links b.kinds.items c.args.frame c.in-Some.list c.list.inside.0
    c.numbered.result
    (record { is = c.self.view_is; kept = c.self.invariant }) c.in-Some.ensures.listed c.list.view_is
    c.numbered.ensures

pub returns-in-None-clause-place : goal.returns-in-None-clause-place
returns-in-None-clause-place c =
    let b = c.self.inside in
    seen-no_place c.args.self.now b.layout b.links b.kinds.items c.args.frame
    (record { is = c.self.view_is; kept = c.self.invariant }) c.in-None.ensures.free

pub returns-in-None-clause-on : goal.returns-in-None-clause-on
returns-in-None-clause-on c = λ class order on.
    let b = c.self.inside in
    absurd (c.in-None.ensures.free _ (seen-on c.args.self.now b.layout b.links b.kinds.items class order
    c.args.frame (record { is = c.self.view_is; kept = c.self.invariant }) on))
