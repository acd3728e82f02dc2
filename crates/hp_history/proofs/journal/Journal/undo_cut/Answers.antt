-- The three replies to an undo, and where each cuts.
use Rattle.std.proofs.Common.{◌≡◌, ◌<◌, ◌≤◌, ◌-◌, true, false, List, length, ap, sym, ◌∙◌, arith}
use Rattle.hp_units.specs.LayoutParts.{LayoutParts}
use Rattle.hp_history.specs.declared.entries.Entry.{Entry}
use Rattle.hp_history.specs.Entries.{tags_of}
use Rattle.hp_history.specs.Kept.{is_gone}
use Rattle.hp_history.specs.Seen.{seen}
use Rattle.hp_history.proofs.Cuts.{all_steps, entries_numbered, undo_done, undo_gone, undo_no_cpu}
use Rattle.hp_history.proofs.journal.Journal.undo_cut.Goals as goal

pub kept_len-keep-requires : goal.kept_len-keep-requires
kept_len-keep-requires c =
    rw c.as_slice-entries.ensures.value (entries_numbered (seen c.self.inside) c.self.inside.entries.items
    c.self.inside.deltas.deltas c.self.invariant.0)

pub returns-then-cpu-cpus : goal.returns-then-cpu-cpus
returns-then-cpu-cpus c =
    let out : c.self.inside.memory.layout.cpus ≤ c.args.cpu =
    omega (
      arith,
      c.if-cpu-cpus.true,
      c.cpus.ensures.is,
      ap (λ (l : LayoutParts). l.cpus) c.layout.ensures,
      c.cpu.view_is,
    ) in
    rw (← c.self.view_is)
    (undo_no_cpu (seen c.self.inside) c.args.cpu c.args.serial (all_steps c.self.invariant.0 (ap
    (λ (es : List Entry). length es) c.as_slice-entries.ensures.value)) out)

pub returns-then-is_gone : goal.returns-then-is_gone
returns-then-is_gone c =
    let inside : c.args.cpu < c.self.inside.memory.layout.cpus =
    omega (
      arith,
      c.if-cpu-cpus.false,
      c.cpus.ensures.is,
      ap (λ (l : LayoutParts). l.cpus) c.layout.ensures,
      c.cpu.view_is,
    ) in
    let gone : is_gone (seen c.self.inside) c.args.serial ≡ true =
    rw (← c.self.view_is) at (sym c.is_gone.ensures ∙ c.if-is_gone.true) in
    rw (← c.self.view_is)
    (undo_gone (seen c.self.inside) c.args.cpu c.args.serial (all_steps c.self.invariant.0
    (rw c.as_slice-entries.ensures.value)) inside gone)

pub returns-else-is_gone : goal.returns-else-is_gone
returns-else-is_gone c =
    let inside : c.args.cpu < c.self.inside.memory.layout.cpus =
    omega (
      arith,
      c.if-cpu-cpus.false,
      c.cpus.ensures.is,
      ap (λ (l : LayoutParts). l.cpus) c.layout.ensures,
      c.cpu.view_is,
    ) in
    let there : is_gone (seen c.self.inside) c.args.serial ≡ false =
    rw (← c.self.view_is) at (sym c.is_gone.ensures ∙ c.if-is_gone.false) in
    let len = ap (λ (es : List Entry). length es) c.as_slice-entries.ensures.value in
    let keep = c.kept_len-keep.result in
    let same : tags_of c.self.inside.before c.as_slice-entries.result.now
    ≡ tags_of c.self.inside.before c.self.inside.entries.items = rw c.as_slice-entries.ensures.value in
    rw (← c.self.view_is) (undo_done c.args.cpu c.args.serial keep
    ((length c.as_slice-entries.result.now) - keep) c.self.invariant.0 inside there
    (omega (arith, c.kept_len-keep.ensures.within, len)) (omega (arith, c.kept_len-keep.ensures.within, len))
    (rw (← same) c.kept_len-keep.ensures.above) (rw (← same) c.kept_len-keep.ensures.below))
