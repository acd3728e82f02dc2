use Rattle.std.proofs.Common.{◌≡◌, ◌++◌, codes, drop, string_bytes, true}
use Rattle.hp_text.specs.Layouts.{boot_entry}
use Rattle.hp_text.specs.Separated.{separated}
use Rattle.hp_text.proofs.layouts.write_boots.Given as goal

abbrev pub invariant-loop-boot : goal.invariant-loop-boot
invariant-loop-boot l =
    string_bytes l.out ++ separated (codes ", ") boot_entry l.is_first (drop l.boot-index l.boots)
    ≡ string_bytes l.fn.out ++ separated (codes ", ") boot_entry true l.boots
