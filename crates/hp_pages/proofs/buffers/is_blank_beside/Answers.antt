use Rattle.std.proofs.Common.{◌+◌, sym, ◌∙◌}
use Rattle.std.proofs.Math.Numerals.{add-one}
use Rattle.std.proofs.lemmas.List.{take_rest}
use Rattle.hp_pages.proofs.Blanks.{blank-beside}
use Rattle.hp_pages.proofs.buffers.is_blank_beside.Goals as goal

pub returns-then-is_blank : goal.returns-then-is_blank
returns-then-is_blank c =
    let words = c.args.words.now in
    let index = c.args.index in
    rw (c.is_blank-then-is_blank.ensures, take_rest words (index + 1), add-one index)
    (sym (rw (blank-beside words index c.requires, ← c.is_blank.ensures, c.if-is_blank.true)))

pub returns-else-is_blank : goal.returns-else-is_blank
returns-else-is_blank c =
    let index = c.args.index in
    c.if-is_blank.false
    ∙ sym (rw (blank-beside c.args.words.now index c.requires, ← c.is_blank.ensures, c.if-is_blank.false))
