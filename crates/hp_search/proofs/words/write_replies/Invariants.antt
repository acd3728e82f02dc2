use Rattle.std.proofs.Common.{◌≡◌, ◌++◌, string_bytes, take}
use Rattle.std.specs.List.{flat_map}
use Rattle.hp_text.specs.Answers.{bare_reply_line}
use Rattle.hp_search.proofs.words.write_replies.Given as goal

abbrev pub invariant-loop-reply : goal.invariant-loop-reply
invariant-loop-reply l =
    string_bytes l.out ≡ string_bytes l.fn.out ++ flat_map bare_reply_line (take l.reply-index l.replies)
