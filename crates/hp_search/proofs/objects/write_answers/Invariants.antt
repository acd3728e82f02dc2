use Rattle.std.proofs.Common.{◌≡◌, ◌++◌, codes, drop, string_bytes, true}
use Rattle.hp_text.specs.Separated.{separated}
use Rattle.hp_search.specs.Objects.{answer_list}
use Rattle.hp_search.proofs.objects.write_answers.Given as goal

abbrev pub invariant-loop-answers : goal.invariant-loop-answers
invariant-loop-answers l =
    string_bytes l.out ++ separated (codes ", ") answer_list l.is_first (drop l.answers-index l.all)
    ≡ string_bytes l.fn.out ++ separated (codes ", ") answer_list true l.all
