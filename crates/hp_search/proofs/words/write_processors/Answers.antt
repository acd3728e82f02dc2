use Rattle.std.proofs.Common.{Bor, ap, slice_get}
use Rattle.hp_schedules.specs.declared.outcomes.Replies.{Replies}
use Rattle.hp_search.specs.Words.{answers_text}
use Rattle.hp_text.proofs.Texts.{texts_none, texts_more}
use Rattle.hp_units.proofs.Lists.{item_read}
use Rattle.hp_search.proofs.words.write_processors.Goals as goal

pub loop-number-init : goal.loop-number-init
loop-number-init c = texts_none (λ cpu. answers_text cpu (slice_get c.args.replies.now cpu)) _

pub loop-number-preserved : goal.loop-number-preserved
loop-number-preserved c =
    let here =
    item_read (λ (x : Bor Replies). x.now) c.args.replies.now c.loop-number.number c.get.result
    c.get.ensures.lookup.0 c.get.ensures.lookup.1 in
    texts_more (λ cpu. answers_text cpu (slice_get c.args.replies.now cpu)) c.loop-number.number _ _ _ _
    c.loop-number.invariant c.in_ok-write_answers.ensures (ap (answers_text c.loop-number.number) here)
