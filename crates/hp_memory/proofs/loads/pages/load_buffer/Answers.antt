use Rattle.std.proofs.Common.{sym, ◌∙◌, ap}
use Rattle.std.specs.Option.{option_and_then}
use Rattle.hp_tape.specs.Deltas.{buffer_for}
use Rattle.hp_pages.proofs.Blanks.{none-needed, some-needed}
use Rattle.hp_pages.proofs.FrameViews.{page_buffer}
use Rattle.hp_memory.proofs.Pages.{buffer-none, buffer-some, words-by}
use Rattle.hp_memory.proofs.loads.pages.load_buffer.Goals as goal

pub returns-in_default : goal.returns-in_default
returns-in_default c =
    let ps = c.args.image.now.memory.pages in
    buffer-none c.args.image.now.layout ps c.args.pages.now c.requires.frame c.requires.none (words-by ps
    c.args.frame
    c.requires.table c.page_at.ensures.page ∙ ap (option_and_then (page_buffer ps)) c.in_default.is)

pub returns-in_default-words : goal.returns-in_default-words
returns-in_default-words c =
    let ps = c.args.image.now.memory.pages in
    buffer-none c.args.image.now.layout ps c.args.pages.now c.requires.frame c.requires.none (words-by ps
    c.args.frame
    c.requires.table c.page_at.ensures.page ∙ (ap (option_and_then (page_buffer ps)) c.in-Some.is ∙ ap
    (option_and_then buffer_for) (sym c.in_default-words.ensures)))

pub returns-then-is_blank : goal.returns-then-is_blank
returns-then-is_blank c =
    let ps = c.args.image.now.memory.pages in
    buffer-none c.args.image.now.layout ps c.args.pages.now c.requires.frame c.requires.none (words-by ps
    c.args.frame
    c.requires.table c.page_at.ensures.page ∙ (ap (option_and_then (page_buffer ps)) c.in-Some.is ∙ ap
    (option_and_then buffer_for) (sym c.in-Some-words.ensures)) ∙ none-needed c.in-Some-words.slice.now
    (sym c.is_blank.ensures ∙ c.if-is_blank.true))

pub returns : goal.returns
returns c =
    let ps = c.args.image.now.memory.pages in
    buffer-some c.args.image.now.layout ps c.args.pages.now c.back.new.self c.in-Some-words.slice.now
    c.requires.frame (words-by ps
    c.args.frame c.requires.table c.page_at.ensures.page ∙ (ap (option_and_then (page_buffer ps)) c.in-Some.is
    ∙ ap (option_and_then buffer_for) (sym c.in-Some-words.ensures)) ∙ some-needed c.in-Some-words.slice.now
    (sym c.is_blank.ensures ∙ c.if-is_blank.false)) c.back.ensures.layout
    (rw (c.back.ensures.back, c.in_ok-words.ensures ∙ c.in_ok-from_slice.ensures.items))
