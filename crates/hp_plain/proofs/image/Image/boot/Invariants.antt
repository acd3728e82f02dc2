use Rattle.std.proofs.Common.{◌≡◌, take}
use Rattle.std.specs.List.{fold, enumerate_from}
use Rattle.hp_units.specs.Boot.{boot_block, empty_memory}
use Rattle.hp_plain.proofs.image.Image.boot.Given as goal

abbrev pub invariant-loop-number : goal.invariant-loop-number
invariant-loop-number l = record {
  layout : l.image.layout ≡ l.layout;
  memory : l.image.memory ≡ fold (λ s entry. boot_block l.layout s entry.0 entry.1) (empty_memory l.layout)
      (enumerate_from 0 (take l.number l.layout.boot));
}
