use Rattle.hp_units.specs.Pages.{frame_at, words_at}
use Rattle.hp_text.specs.State.{name_of, page_text}
use Rattle.hp_text.proofs.Texts.{texts_none, texts_more}
use Rattle.hp_text.proofs.state.pages.write_owner.Goals as goal

pub loop-number-init : goal.loop-number-init
loop-number-init c =
    texts_none (λ page. page_text (name_of c.args.names.now.keys c.args.owner) page
    (frame_at c.args.image.now.memory.pages c.args.owner page)
    (words_at c.args.image.now.memory.pages c.args.owner page)) _

pub loop-number-preserved : goal.loop-number-preserved
loop-number-preserved c =
    texts_more (λ page. page_text (name_of c.args.names.now.keys c.args.owner) page (frame_at
    c.args.image.now.memory.pages c.args.owner page) (words_at c.args.image.now.memory.pages c.args.owner
    page)) c.loop-number.number _ _ _ _ c.loop-number.invariant c.in_ok-write_page.ensures
    (rw (c.name_of-name.ensures, c.frame_at.ensures, c.words.ensures))
