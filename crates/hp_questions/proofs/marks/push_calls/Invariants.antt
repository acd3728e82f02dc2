-- How many replies the processors so far got.
use Rattle.std.proofs.Common.{◌≡◌, ◌++◌, length, map}
use Rattle.std.specs.List.{range_with_len}
use Rattle.hp_schedules.specs.Outcomes.{replies_to}
use Rattle.hp_questions.proofs.marks.push_calls.Given as goal

abbrev pub invariant-loop-cpu : goal.invariant-loop-cpu
invariant-loop-cpu l =
    l.numbers.items
    ≡ l.initial.numbers.items ++ map (λ cpu. length (replies_to cpu l.records)) (range_with_len 0 l.cpu)
