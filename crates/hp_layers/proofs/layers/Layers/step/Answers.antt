-- Each event's answer is that of its step.
use Rattle.std.proofs.Common.{ℕ, ◌<◌, Ok, ◌≡◌, refl, sym, ◌∙◌, ap, arith}
use Rattle.hp_units.specs.declared.events.Event.TheVariants.{KernelAlloc, KernelFree, Map, Unmap, Write, Read, Migrate, Drain, Online, Begin, DrainFor, Commit, Cancel, UndoAfter, Probe, Remove, SetAuto}
use Rattle.hp_units.specs.declared.replies.Refusal.TheVariants.{NoCpu}
use Rattle.hp_units.specs.declared.replies.Reply.TheVariants.{Done}
use Rattle.hp_plain.specs.Asked.{asked, opened}
use Rattle.hp_plain.proofs.Begins.{begins}
use Rattle.hp_layers.specs.Layers.{state_of, view_of}
use Rattle.hp_layers.proofs.Answers.{none-noted, refused, stays}
use Rattle.hp_layers.proofs.Steps.{answered, step-asked, step-no_cpu}
use Rattle.hp_layers.proofs.layers.Layers.step.Goals as goal
use Rattle.hp_layers.proofs.layers.Layers.step.Goals.{Else-cpu-cpus}

low : (c : Else-cpu-cpus) → c.args.cpu < c.args.self.now.layout.cpus
low c = omega (arith, c.if-cpu-cpus.false, c.cpus.ensures.is, c.cpu.view_is)

pub returns-then-cpu-cpus-clause-ok : goal.returns-then-cpu-cpus-clause-ok
returns-then-cpu-cpus-clause-ok c =
    let m = c.args.self.now in
    refused m c.args.event.now _ c.args.tape.now.deltas c.args.tape.now.deltas NoCpu c.requires.placed
    (step-no_cpu m.layout (state_of m) c.args.serial c.args.cpu c.args.event.now
    (omega (arith, c.if-cpu-cpus.true, c.cpus.ensures.is, c.cpu.view_is))) refl

pub returns-in-KernelAlloc-clause-ok : goal.returns-in-KernelAlloc-clause-ok
returns-in-KernelAlloc-clause-ok c =
    let m = c.args.self.now in
    answered m _ c.args.event.now (KernelAlloc c.in-KernelAlloc.order) c.args.serial c.args.cpu _ _ _
    c.kernel_alloc.result c.in-KernelAlloc.is
    (step-asked m.layout (state_of m) c.args.serial c.args.cpu c.args.cpu (KernelAlloc c.in-KernelAlloc.order)
    (low (goal.at.returns-in-KernelAlloc-clause-ok c).Else-cpu-cpus) refl refl) c.kernel_alloc.ensures.ok

pub returns-in-KernelFree-clause-ok : goal.returns-in-KernelFree-clause-ok
returns-in-KernelFree-clause-ok c =
    let m = c.args.self.now in
    answered m _ c.args.event.now (KernelFree c.in-KernelFree.frame) c.args.serial c.args.cpu _ _ _
    c.kernel_free.result c.in-KernelFree.is
    (step-asked m.layout (state_of m) c.args.serial c.args.cpu c.args.cpu (KernelFree c.in-KernelFree.frame)
    (low (goal.at.returns-in-KernelFree-clause-ok c).Else-cpu-cpus) refl refl) c.kernel_free.ensures.ok

pub returns-in-Map-clause-ok : goal.returns-in-Map-clause-ok
returns-in-Map-clause-ok c =
    let m = c.args.self.now in
    answered m _ c.args.event.now (Map c.in-Map.owner c.in-Map.page) c.args.serial c.args.cpu _ _ _
    c.map.result c.in-Map.is
    (step-asked m.layout (state_of m) c.args.serial c.args.cpu c.args.cpu (Map c.in-Map.owner c.in-Map.page)
    (low (goal.at.returns-in-Map-clause-ok c).Else-cpu-cpus) refl refl) c.map.ensures.ok

pub returns-in-Unmap-clause-ok : goal.returns-in-Unmap-clause-ok
returns-in-Unmap-clause-ok c =
    let m = c.args.self.now in
    answered m _ c.args.event.now (Unmap c.in-Unmap.owner c.in-Unmap.page) c.args.serial c.args.cpu _ _ _
    c.unmap.result c.in-Unmap.is
    (step-asked m.layout (state_of m) c.args.serial c.args.cpu c.args.cpu
    (Unmap c.in-Unmap.owner c.in-Unmap.page) (low (goal.at.returns-in-Unmap-clause-ok c).Else-cpu-cpus) refl
    refl) c.unmap.ensures.ok

pub returns-in-Write-clause-ok : goal.returns-in-Write-clause-ok
returns-in-Write-clause-ok c =
    let m = c.args.self.now in
    let event = Write c.in-Write.owner c.in-Write.page c.in-Write.index c.in-Write.value in
    answered m _ c.args.event.now event c.args.serial c.args.cpu _ _ _ c.write.result c.in-Write.is
    (step-asked m.layout (state_of m) c.args.serial c.args.cpu 0 event
    (low (goal.at.returns-in-Write-clause-ok c).Else-cpu-cpus) refl refl) c.write.ensures.ok

pub returns-in-Read-clause-ok : goal.returns-in-Read-clause-ok
returns-in-Read-clause-ok c =
    let m = c.args.self.now in
    let event = Read c.in-Read.owner c.in-Read.page c.in-Read.index in
    answered m m c.args.event.now event c.args.serial c.args.cpu (asked m.layout (state_of m) 0 event)
    c.args.tape.now.deltas c.args.tape.now.deltas {E = ℕ} (Ok c.read.result) c.in-Read.is
    (step-asked m.layout (state_of m) c.args.serial c.args.cpu 0 event
    (low (goal.at.returns-in-Read-clause-ok c).Else-cpu-cpus) refl refl)
    (c.read.ensures c.args.tape.now.deltas)

pub returns-in-Migrate-clause-ok : goal.returns-in-Migrate-clause-ok
returns-in-Migrate-clause-ok c =
    let m = c.args.self.now in
    answered m _ c.args.event.now (Migrate c.in-Migrate.op) c.args.serial c.args.cpu _ _ _ c.migrate.result
    c.in-Migrate.is
    (step-asked m.layout (state_of m) c.args.serial c.args.cpu 0 (Migrate c.in-Migrate.op)
    (low (goal.at.returns-in-Migrate-clause-ok c).Else-cpu-cpus) refl refl) c.migrate.ensures.ok

pub returns-in-Drain-clause-ok : goal.returns-in-Drain-clause-ok
returns-in-Drain-clause-ok c =
    let m = c.args.self.now in
    answered m _ c.args.event.now (Drain c.in-Drain.drained) c.args.serial c.args.cpu _ _ _ c.drain.result
    c.in-Drain.is
    (step-asked m.layout (state_of m) c.args.serial c.args.cpu 0 (Drain c.in-Drain.drained)
    (low (goal.at.returns-in-Drain-clause-ok c).Else-cpu-cpus) refl refl) c.drain.ensures.ok

pub returns-in-DrainFor-clause-ok : goal.returns-in-DrainFor-clause-ok
returns-in-DrainFor-clause-ok c =
    let m = c.args.self.now in
    answered m _ c.args.event.now (DrainFor c.in-DrainFor.op c.in-DrainFor.drained) c.args.serial c.args.cpu _
    _ _ c.drain_for.result c.in-DrainFor.is
    (step-asked m.layout (state_of m) c.args.serial c.args.cpu 0
    (DrainFor c.in-DrainFor.op c.in-DrainFor.drained)
    (low (goal.at.returns-in-DrainFor-clause-ok c).Else-cpu-cpus) refl refl) c.drain_for.ensures.ok

pub returns-in-Begin-clause-ok : goal.returns-in-Begin-clause-ok
returns-in-Begin-clause-ok c =
    let m = c.args.self.now in
    let event = Begin c.as_slice.result.now in
    let is : c.args.event.now ≡ event = c.in-Begin.is ∙ ap Begin (sym c.as_slice.ensures) in
    answered m _ c.args.event.now event c.args.serial c.args.cpu
    (opened m.layout (state_of m) c.args.serial c.as_slice.result.now) _ _ c.begin.result is
    (sym (begins m.layout (state_of m) c.args.serial c.args.cpu c.as_slice.result.now event
    (low (goal.at.returns-in-Begin-clause-ok c).Else-cpu-cpus) refl)) c.begin.ensures.ok

pub returns-in-Commit-clause-ok : goal.returns-in-Commit-clause-ok
returns-in-Commit-clause-ok c =
    let m = c.args.self.now in
    answered m _ c.args.event.now (Commit c.in-Commit.op) c.args.serial c.args.cpu _ _ _ c.commit.result
    c.in-Commit.is
    (step-asked m.layout (state_of m) c.args.serial c.args.cpu 0 (Commit c.in-Commit.op)
    (low (goal.at.returns-in-Commit-clause-ok c).Else-cpu-cpus) refl refl) c.commit.ensures.ok

pub returns-in-Cancel-clause-ok : goal.returns-in-Cancel-clause-ok
returns-in-Cancel-clause-ok c =
    let m = c.args.self.now in
    answered m _ c.args.event.now (Cancel c.in-Cancel.op) c.args.serial c.args.cpu _ _ _ c.cancel.result
    c.in-Cancel.is
    (step-asked m.layout (state_of m) c.args.serial c.args.cpu 0 (Cancel c.in-Cancel.op)
    (low (goal.at.returns-in-Cancel-clause-ok c).Else-cpu-cpus) refl refl) c.cancel.ensures.ok

pub returns-in-UndoAfter-clause-ok : goal.returns-in-UndoAfter-clause-ok
returns-in-UndoAfter-clause-ok c =
    let m = c.args.self.now in
    let event = UndoAfter c.in-UndoAfter.serial in
    answered m m c.args.event.now event c.args.serial c.args.cpu (asked m.layout (state_of m) 0 event)
    c.args.tape.now.deltas c.args.tape.now.deltas {E = ℕ} (Ok Done) c.in-UndoAfter.is
    (step-asked m.layout (state_of m) c.args.serial c.args.cpu 0 event
    (low (goal.at.returns-in-UndoAfter-clause-ok c).Else-cpu-cpus) refl refl)
    (record {
      led = stays m c.requires.placed;
      reply = refl;
      noted = none-noted m.layout _ c.args.tape.now.deltas c.args.tape.now.deltas (view_of m) refl;
    })

pub returns-in-Online-clause-ok : goal.returns-in-Online-clause-ok
returns-in-Online-clause-ok c =
    let m = c.args.self.now in
    answered m _ c.args.event.now (Online c.in-Online.block c.in-Online.zone) c.args.serial c.args.cpu _ _ _
    c.online.result c.in-Online.is
    (step-asked m.layout (state_of m) c.args.serial c.args.cpu 0 (Online c.in-Online.block c.in-Online.zone)
    (low (goal.at.returns-in-Online-clause-ok c).Else-cpu-cpus) refl refl) c.online.ensures.ok

pub returns-in-Probe-clause-ok : goal.returns-in-Probe-clause-ok
returns-in-Probe-clause-ok c =
    let m = c.args.self.now in
    answered m _ c.args.event.now (Probe c.in-Probe.address) c.args.serial c.args.cpu _ _ _ c.probe.result
    c.in-Probe.is
    (step-asked m.layout (state_of m) c.args.serial c.args.cpu 0 (Probe c.in-Probe.address)
    (low (goal.at.returns-in-Probe-clause-ok c).Else-cpu-cpus) refl refl) c.probe.ensures.ok

pub returns-in-Remove-clause-ok : goal.returns-in-Remove-clause-ok
returns-in-Remove-clause-ok c =
    let m = c.args.self.now in
    answered m _ c.args.event.now (Remove c.in-Remove.block) c.args.serial c.args.cpu _ _ _ c.remove.result
    c.in-Remove.is
    (step-asked m.layout (state_of m) c.args.serial c.args.cpu 0 (Remove c.in-Remove.block)
    (low (goal.at.returns-in-Remove-clause-ok c).Else-cpu-cpus) refl refl) c.remove.ensures.ok

pub returns-in-SetAuto-clause-ok : goal.returns-in-SetAuto-clause-ok
returns-in-SetAuto-clause-ok c =
    let m = c.args.self.now in
    answered m _ c.args.event.now (SetAuto c.in-SetAuto.auto) c.args.serial c.args.cpu _ _ _ c.set_auto.result
    c.in-SetAuto.is
    (step-asked m.layout (state_of m) c.args.serial c.args.cpu 0 (SetAuto c.in-SetAuto.auto)
    (low (goal.at.returns-in-SetAuto-clause-ok c).Else-cpu-cpus) refl refl) c.set_auto.ensures.ok
