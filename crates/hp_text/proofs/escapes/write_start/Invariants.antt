use Rattle.std.proofs.Common.{◌≡◌, ◌≤◌, ◌++◌, flat_map, length, string_bytes}
use Rattle.hp_text.specs.Escapes.{escaped}
use Rattle.hp_text.proofs.escapes.write_start.Given as goal

abbrev pub invariant-loop-c : goal.invariant-loop-c
invariant-loop-c l =
    (string_bytes l.out ≡ string_bytes l.fn.out ++ flat_map (escaped l.brackets) l.yielded)
    × (l.written ≡ length l.yielded) × (l.written ≤ l.most)
