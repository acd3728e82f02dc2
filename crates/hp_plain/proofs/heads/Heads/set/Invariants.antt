use Rattle.std.proofs.Common.{◌≡◌, ℕ, cond, get_or, length, take}
use Rattle.hp_units.specs.FreeAreas.{is_on}
use Rattle.hp_plain.proofs.heads.Heads.set.Given as goal

abbrev pub invariant-loop-frame : goal.invariant-loop-frame
invariant-loop-frame l = record {
  long : length l.self-inside.frames.items ≡ length l.fn.self;
  each : (f : ℕ) → get_or l.self-inside.frames.items f 0
      ≡ cond (is_on f (take l.frame-index l.frames)) l.number (get_or l.fn.self f 0);
}
