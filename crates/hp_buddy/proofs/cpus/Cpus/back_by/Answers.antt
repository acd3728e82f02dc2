-- Each delta by its own lemma.
use Rattle.std.proofs.Common.{ℕ, ap, sym, ◌∙◌, ◌+◌, ◌*◌}
use Rattle.hp_units.specs.Memory.{pool_index}
use Rattle.hp_tape.specs.declared.deltas.Delta.{Delta}
use Rattle.hp_tape.specs.declared.deltas.Delta.TheVariants.{Link, Unlink}
use Rattle.hp_tape.specs.declared.deltas.ListId.{ListId}
use Rattle.hp_tape.specs.Deltas.{cached_undo}
use Rattle.hp_buddy.specs.Cpus.{CpusValue, frames_of}
use Rattle.hp_buddy.proofs.CpuEdits.{kept-off, kept-with, seen-listed}
use Rattle.hp_buddy.proofs.CpuBacks.{linked-on, link-undone, unlinked-after, unlink-undone}
use Rattle.hp_buddy.proofs.cpus.Cpus.back_by.Goals as goal

pub unlink-requires : goal.unlink-requires
unlink-requires c =
    let b = c.self.inside in
    seen-listed c.args.self.now b.layout b.links c.in-Cpu.cpu c.in-Cpu.pool c.in-Link.frame
    (record { is = c.self.view_is; kept = c.self.invariant })
    (linked-on c.args.self.now c.requires.fits.0 c.args.delta.now c.in-Link.list
    c.in-Cpu.cpu c.in-Cpu.pool
    c.in-Link.frame c.in-Link.after c.in-Link.is c.in-Cpu.is c.requires.fits.1)

pub returns-in-Cpu-clause-back : goal.returns-in-Cpu-clause-back
returns-in-Cpu-clause-back c =
    let b = c.self.inside in
    let u = c.unlink.ensures in
    link-undone c.args.self.now b.layout b.links c.unlink.new.self c.args.delta.now c.in-Link.list
    c.in-Cpu.cpu
    c.in-Cpu.pool c.in-Link.frame c.in-Link.after c.unlink.result c.requires.fits.0
    (record { is = c.self.view_is; kept = c.self.invariant }) c.in-Link.is c.in-Cpu.is c.requires.fits.1
    c.requires.numbers
    (record { free = u.free; one_list = u.one_list; before_on = u.before_on; undone = u.undone })

pub relink_after-requires-clause-after_on : goal.relink_after-requires-clause-after_on
relink_after-requires-clause-after_on c =
    let b = c.self.inside in
    unlinked-after c.args.self.now b.layout b.links c.args.delta.now c.in-Unlink.list c.in-Cpu-list.cpu
    c.in-Cpu-list.pool c.in-Unlink.frame c.cpu_list-number.result c.in-Unlink.after c.requires.fits.0
    (record { is = c.self.view_is; kept = c.self.invariant }) c.in-Unlink.is c.in-Cpu-list.is
    c.requires.fits.1
    (c.cpu_list-number.ensures ∙ ap (λ (n : ℕ). 3 * n + pool_index c.in-Cpu-list.pool) c.from.ensures)

pub returns-in-Cpu-list-clause-back : goal.returns-in-Cpu-list-clause-back
returns-in-Cpu-list-clause-back c =
    let b = c.self.inside in
    unlink-undone c.args.self.now b.layout b.links c.relink_after.new.self c.args.delta.now c.in-Unlink.list
    c.in-Cpu-list.cpu c.in-Cpu-list.pool c.in-Unlink.frame c.cpu_list-number.result c.in-Unlink.after
    (record { is = c.self.view_is; kept = c.self.invariant }) c.in-Unlink.is c.in-Cpu-list.is
    (c.cpu_list-number.ensures ∙ ap (λ (n : ℕ). 3 * n + pool_index c.in-Cpu-list.pool) c.from.ensures)
    c.relink_after.ensures

pub invariant_of-self : goal.invariant_of-self
invariant_of-self c = kept-off _ c.self.invariant c.unlink.ensures.links

pub returns-in-Cpu-clause-layout : goal.returns-in-Cpu-clause-layout
returns-in-Cpu-clause-layout c = ap (λ (v : CpusValue). v.layout) c.self.view_is

pub returns-in_default-list-clause-back : goal.returns-in_default-list-clause-back
returns-in_default-list-clause-back c areas =
    ap (λ (d : Delta). cached_undo d (frames_of areas c.args.self.now)) (sym (c.in-Link.is
    ∙ ap (λ (k : ListId). Link k c.in-Link.frame c.in-Link.after) c.in_default-list.is))

pub invariant_of-self-in-Cpu-list : goal.invariant_of-self-in-Cpu-list
invariant_of-self-in-Cpu-list c = kept-with _ _ c.self.invariant c.relink_after.ensures

pub returns-in-Cpu-list-clause-layout : goal.returns-in-Cpu-list-clause-layout
returns-in-Cpu-list-clause-layout c = ap (λ (v : CpusValue). v.layout) c.self.view_is

pub returns-in_default-list-2-clause-back : goal.returns-in_default-list-2-clause-back
returns-in_default-list-2-clause-back c areas =
    ap (λ (d : Delta). cached_undo d (frames_of areas c.args.self.now)) (sym (c.in-Unlink.is
    ∙ ap (λ (k : ListId). Unlink k c.in-Unlink.frame c.in-Unlink.after) c.in_default-list-2.is))
