use Rattle.std.proofs.Common.{◌≡◌, ◌++◌, codes, drop, string_bytes, true}
use Rattle.std.specs.Fmt.{decimal}
use Rattle.hp_text.specs.Separated.{separated}
use Rattle.hp_parts.proofs.processors.write_processors.Given as goal

abbrev pub invariant-loop-cpu : goal.invariant-loop-cpu
invariant-loop-cpu l =
    string_bytes l.out ++ separated (codes ", ") decimal l.is_first (drop l.cpu-index l.schedule)
    ≡ string_bytes l.fn.out ++ separated (codes ", ") decimal true l.schedule
