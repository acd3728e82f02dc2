-- The part of the bytes that ends where the text does.
use Rattle.std.proofs.Common.{Bor, List, ℕ, refl}
use Rattle.hp_states.proofs.InRows.{row_shown, row_there}
use Rattle.hp_states.proofs.texts.text_in.Goals as goal

pub returns-clause-some : goal.returns-clause-some
returns-clause-some c =
    row_shown (λ (text : Bor (List ℕ)). text.now) c.get.result _ c.args.number _ c.args.bytes.now _
    c.args.ends.now _ refl refl refl c.if-number-ends.false c.start_of-start.ensures c.get.ensures.lookup

pub returns-clause-none : goal.returns-clause-none
returns-clause-none c =
    row_there (λ (text : Bor (List ℕ)). text.now) c.get.result _ c.args.number _ c.args.bytes.now _
    c.args.ends.now _ c.requires refl refl c.if-number-ends.false c.start_of-start.ensures
    c.get.ensures.lookup
