use Rattle.std.specs.Prelude.{◌≡◌, ◌==◌, true, take}
use Rattle.std.specs.List.{list_all}
use Rattle.hp_scenario.proofs.scripts.only_place.Given as goal

abbrev pub invariant-loop-line : goal.invariant-loop-line
invariant-loop-line l = list_all (λ line. line.cpu == l.place) (take l.line-index l.lines) ≡ true
