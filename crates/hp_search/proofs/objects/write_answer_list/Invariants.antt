use Rattle.std.proofs.Common.{◌≡◌, ◌++◌, codes, drop, string_bytes, true}
use Rattle.hp_text.specs.Separated.{separated}
use Rattle.hp_search.specs.Objects.{reply_string}
use Rattle.hp_search.proofs.objects.write_answer_list.Given as goal

abbrev pub invariant-loop-reply : goal.invariant-loop-reply
invariant-loop-reply l =
    string_bytes l.out ++ separated (codes ", ") reply_string l.is_first (drop l.reply-index l.replies)
    ≡ (string_bytes l.fn.out ++ codes "[") ++ separated (codes ", ") reply_string true l.replies
