use Rattle.std.proofs.Common.{sym, ap, ◌∙◌, ◌<◌, length, arith, ℕ}
use Rattle.hp_units.specs.Boot.{boot_block, empty_memory}
use Rattle.hp_units.specs.Memory.{Memory}
use Rattle.hp_plain.specs.Names.{Boot, OfflineBoot}
use Rattle.hp_plain.proofs.Walks.{fold-enumerate_more}
use Rattle.hp_plain.proofs.image.Image.boot.Goals as goal

pub loop-number-preserved : goal.loop-number-preserved
loop-number-preserved c =
    let l = c.args.layout.now in
    let below : c.loop-number.number < length l.boot =
    omega (arith, ap length c.boot-boot-items.ensures.is) in
    record {
      layout = c.in_ok-boot_block.ensures.layout ∙ c.loop-number.invariant.layout;
      memory =
          c.in_ok-boot_block.ensures.memory ∙ rw (
            c.loop-number.invariant.layout,
            c.loop-number.invariant.memory,
            c.boot-boot-items.ensures.is,
          )
          (sym (fold-enumerate_more (λ (s : Memory) (entry : ℕ × Boot). boot_block l s entry.0 entry.1)
          (empty_memory l) l.boot c.loop-number.number OfflineBoot below));
    }
