-- Both lines are equal, so both are without their newline.
use Rattle.std.proofs.Common.{◌≡◌, List, ℕ, [], ◌++◌, sym, true, ◌∙◌}
use Rattle.std.specs.Str.{bytes_eq}
use Rattle.std.proofs.lemmas.List.{append_cancel_right}
use Rattle.std.proofs.lemmas.Slice.Eq.{bytes_eq-Decides}
use Rattle.hp_text.specs.State.{newline}
use Rattle.hp_explain.specs.Answers.{answer_text}
use Rattle.hp_explain.proofs.answer_words.is_spelled.Goals as goal

same_words : (text words line written left right old : List ℕ) → line ≡ text ++ newline
    → written ≡ old ++ (words ++ newline) → old ≡ [] → left ≡ line → right ≡ written
    → bytes_eq left right ≡ true → text ≡ words
same_words text words line written left right old first second none here there same =
    append_cancel_right text words newline
    (rw (← first, ← here, (bytes_eq-Decides left right).0 same, there, second, none))

pub returns : goal.returns
returns c =
    λ same. same_words c.args.text.now (answer_text c.args.answer.now) _ _ c.as_str.result.now
    c.as_str-2.result.now _ c.in_ok-line.ensures.ok c.in_ok-write_answer_line.ensures
    c.new-written.ensures.bytes c.as_str.ensures.value c.as_str-2.ensures.value (sym c.eq.ensures ∙ same)
