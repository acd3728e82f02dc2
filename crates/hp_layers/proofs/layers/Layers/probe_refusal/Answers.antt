use Rattle.std.proofs.Common.{ℕ, ◌%◌, ◌/◌, ◌<◌, not, refl, sym, subst, ◌∙◌, ap, arith}
use Rattle.std.specs.Prelude.{◌==◌}
use Rattle.std.proofs.lemmas.Bool.{lt-leb}
use Rattle.hp_units.specs.Arithmetic.{block_bytes}
use Rattle.hp_units.specs.Memory.{row_of}
use Rattle.hp_units.specs.Rows.{is_absent}
use Rattle.hp_layers.proofs.layers.Layers.probe_refusal.Goals as goal

pub returns-then-not-is_absent : goal.returns-then-not-is_absent
returns-then-not-is_absent c =
    let m = c.args.self.now in
    let bytes = block_bytes m.layout in
    let low : c.args.address / bytes < m.layout.blocks =
    subst (λ (n : ℕ). c.args.address / n < m.layout.blocks) c.block_bytes-bytes.ensures.is
    (omega (arith, c.if-address-bytes.false, c.from.ensures, c.blocks-2.ensures.is)) in
    rw c.block_at-block.ensures
    (rw (ap (λ (n : ℕ). not (c.args.address % n == 0)) (sym c.block_bytes-bytes.ensures.is) ∙ ap
    (λ (n : ℕ). not (n == 0)) c.if-address-bytes-ne0.false)
    (rw (lt-leb m.layout.blocks (c.args.address / bytes) low) (rw (sym (c.if-not-is_absent.ensures ∙ ap
    is_absent (c.row.ensures.row ∙ ap (row_of m.blocks.blocks) c.block_at-block.ensures))) refl)))
