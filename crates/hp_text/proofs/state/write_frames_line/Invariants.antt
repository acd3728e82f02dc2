use Rattle.std.proofs.Common.{◌≡◌, ◌++◌, string_bytes, take}
use Rattle.std.specs.List.{flat_map}
use Rattle.hp_text.specs.State.{number_word}
use Rattle.hp_text.proofs.state.write_frames_line.Given as goal

abbrev pub invariant-loop-frame : goal.invariant-loop-frame
invariant-loop-frame l =
    string_bytes l.out ≡ string_bytes l.fn.out ++ flat_map number_word (take l.frame-index l.frames)
