-- Each delta by its own lemma.
use Rattle.std.proofs.Common.{ℕ, ap, sym, ◌∙◌}
use Rattle.std.proofs.lemmas.List.{length-set}
use Rattle.hp_units.specs.Memory.{with_kind}
use Rattle.hp_tape.specs.declared.deltas.Delta.{Delta}
use Rattle.hp_tape.specs.declared.deltas.Delta.TheVariants.{Link, Unlink}
use Rattle.hp_tape.specs.declared.deltas.ListId.{ListId}
use Rattle.hp_tape.specs.Deltas.{areas_undo}
use Rattle.hp_buddy.specs.Buddy.{BuddyValue}
use Rattle.hp_buddy.proofs.Notes.{kept-off, kept-with, seen-listed}
use Rattle.hp_buddy.proofs.Backs.{linked-on, link-undone, unlinked-after, unlink-undone}
use Rattle.hp_buddy.proofs.buddy.Buddy.back_by.Goals as goal

pub unlink-requires : goal.unlink-requires
unlink-requires c =
    let b = c.self.inside in
    seen-listed c.args.self.now b.layout b.links b.kinds.items c.in-Area.class c.in-Area.order c.in-Link.frame
    (record { is = c.self.view_is; kept = c.self.invariant })
    (linked-on c.args.self.now.areas c.args.delta.now c.in-Link.list c.in-Area.class c.in-Area.order
    c.in-Link.frame c.in-Link.after c.in-Link.is c.in-Area.is c.requires.fits)

pub returns-in-Area-clause-back : goal.returns-in-Area-clause-back
returns-in-Area-clause-back c =
    let b = c.self.inside in
    let u = c.unlink.ensures in
    link-undone c.args.self.now b.layout b.links c.unlink.new.self b.kinds.items c.args.delta.now
    c.in-Link.list
    c.in-Area.class c.in-Area.order c.in-Link.frame c.in-Link.after c.unlink.result
    (record { is = c.self.view_is; kept = c.self.invariant }) c.in-Link.is c.in-Area.is c.requires.fits
    c.requires.numbers
    (record { free = u.free; one_list = u.one_list; before_on = u.before_on; undone = u.undone })

pub relink_after-requires-clause-after_on : goal.relink_after-requires-clause-after_on
relink_after-requires-clause-after_on c =
    let b = c.self.inside in
    unlinked-after c.args.self.now b.layout b.links b.kinds.items c.args.delta.now c.in-Unlink.list
    c.in-Area-list.class c.in-Area-list.order c.in-Unlink.frame c.area_list-number.result
    c.in-Unlink.after
    (record { is = c.self.view_is; kept = c.self.invariant }) c.in-Unlink.is c.in-Area-list.is c.requires.fits
    (rw (c.area_list-number.ensures, c.from.ensures))

pub returns-in-Area-list-clause-back : goal.returns-in-Area-list-clause-back
returns-in-Area-list-clause-back c =
    let b = c.self.inside in
    unlink-undone c.args.self.now b.layout b.links c.relink_after.new.self b.kinds.items c.args.delta.now
    c.in-Unlink.list c.in-Area-list.class c.in-Area-list.order c.in-Unlink.frame c.area_list-number.result
    c.in-Unlink.after
    (record { is = c.self.view_is; kept = c.self.invariant }) c.in-Unlink.is c.in-Area-list.is
    (rw (c.area_list-number.ensures, c.from.ensures)) c.relink_after.ensures

pub invariant_of-self : goal.invariant_of-self
invariant_of-self c = kept-off _ c.self.invariant c.unlink.ensures.links

pub returns-in-Area-clause-layout : goal.returns-in-Area-clause-layout
returns-in-Area-clause-layout c = ap (λ (v : BuddyValue). v.layout) c.self.view_is

pub returns-in_default-list-clause-back : goal.returns-in_default-list-clause-back
returns-in_default-list-clause-back c =
    ap (λ (d : Delta). areas_undo d c.args.self.now.areas) (sym (c.in-Link.is
    ∙ ap (λ (k : ListId). Link k c.in-Link.frame c.in-Link.after) c.in_default-list.is))

pub returns-in-Area-list-clause-layout : goal.returns-in-Area-list-clause-layout
returns-in-Area-list-clause-layout c = ap (λ (v : BuddyValue). v.layout) c.self.view_is

pub invariant_of-self-in-Area-list : goal.invariant_of-self-in-Area-list
invariant_of-self-in-Area-list c = kept-with _ _ c.self.invariant c.relink_after.ensures

pub returns-in_default-list-2-clause-back : goal.returns-in_default-list-2-clause-back
returns-in_default-list-2-clause-back c =
    ap (λ (d : Delta). areas_undo d c.args.self.now.areas) (sym (c.in-Unlink.is
    ∙ ap (λ (k : ListId). Unlink k c.in-Unlink.frame c.in-Unlink.after) c.in_default-list-2.is))

pub returns-in-Kind-clause-layout : goal.returns-in-Kind-clause-layout
returns-in-Kind-clause-layout c = ap (λ (v : BuddyValue). v.layout) c.self.view_is

pub returns-in-Kind-clause-back : goal.returns-in-Kind-clause-back
returns-in-Kind-clause-back c =
    let a = c.args.self.now.areas in
    ap (λ (v : BuddyValue). with_kind v.areas c.at.inside.0 c.in-Kind.was) c.self.view_is
    ∙ ap (λ (n : ℕ). with_kind a n c.in-Kind.was) c.at.view_is
    ∙ ap (λ (d : Delta). areas_undo d a) (sym c.in-Kind.is)

pub invariant_of-self-in-Kind : goal.invariant_of-self-in-Kind
invariant_of-self-in-Kind c =
    let k = c.self.invariant in
    record {
      layout = k.layout;
      frame_count = k.frame_count;
      list_count = k.list_count;
      kind_count = (simp length-set) ∙ k.kind_count;
    }
