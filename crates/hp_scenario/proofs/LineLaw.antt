-- Both directions of the law on lines.
use Rattle.std.proofs.Common.{◌≡◌, ℕ, List, Some, ◌↔◌, sym, ap, ◌∙◌, arith}
use Rattle.std.specs.Fmt.{decimal}
use Rattle.std.specs.List.{join_with_byte, slice_split}
use Rattle.std.proofs.lemmas.List.Splits.{join_with_byte-slice_split}
use Rattle.hp_scenario.specs.Lines.{Said, line_says}
use Rattle.hp_scenario.specs.Spelling.{request_words, line_text, CanBeSaid}
use Rattle.hp_scenario.proofs.LinesRead.{read_said, spaceless_request}
use Rattle.hp_scenario.proofs.LinesSpelled.{said_spelled}
use Rattle.hp_scenario.proofs.WordsSpelled.{is_space, split_joined, split_spaceless, decimal_spaceless}

line_was : (text : List ℕ) (said : Said) → line_says text ≡ Some said
    → (text ≡ line_text said) × CanBeSaid said
unfolding line_says
line_was text said e =
    let s = said_spelled (slice_split is_space text) said (split_spaceless text) e in
    (sym (join_with_byte-slice_split 32 text) ∙ ap (join_with_byte 32) s.0, s.1)

line_is : (text : List ℕ) (said : Said) → (text ≡ line_text said) × CanBeSaid said
    → line_says text ≡ Some said
unfolding line_says
line_is text said h =
    rw h.0 (rw (split_joined (decimal said.cpu) (request_words said.request) (decimal_spaceless said.cpu
    (omega (arith, h.1.0))) (spaceless_request said.request h.1.1)) (read_said said h.1))

pub lines_law : (text : List ℕ) (said : Said)
    → (line_says text ≡ Some said) ↔ ((text ≡ line_text said) × CanBeSaid said)
lines_law text said = (line_was text said, line_is text said)
