use Rattle.std.proofs.Common.{◌≡◌, drop, map}
use Rattle.hp_svg.specs.Marks.{fill_in}
use Rattle.hp_svg.proofs.marks.fill_in.Given as goal

-- none of the entries so far has the character
abbrev pub invariant-loop-known : goal.invariant-loop-known
invariant-loop-known l =
    fill_in (map (λ entry. (entry.0, entry.1.now)) (drop l.known-index l.fills)) l.mark
    ≡ fill_in (map (λ entry. (entry.0, entry.1.now)) l.fills) l.mark
