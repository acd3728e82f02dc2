-- The word at hand is searched, and the empty ones after it are passed.
use Rattle.std.proofs.Common.{◌≡◌, ◌<◌, ℕ, ◌+◌, ◌*◌, ◌/◌, ◌%◌, List, None, eqb, false, get_or, length, sym, ap, ◌∙◌, subst, arith}
use Rattle.std.specs.Int.{bit_at}
use Rattle.std.proofs.lemmas.Grind.{get_or_default_zero}
use Rattle.hp_pages.specs.FrameSets.{IsLowest, FindsLowest, has}
use Rattle.hp_pages.proofs.FrameSets.{found_in_word, none_in_word, none_in_words}
use Rattle.hp_pages.proofs.frame_set.FrameSet.lowest.Goals as goal

-- what was read is the word
word_is : (words : List ℕ) (i read : ℕ) → read ≡ get_or words i read → i < length words
    → read ≡ get_or words i 0
word_is words i read e within = e ∙ get_or_default_zero words i read within

pub loop-at-init : goal.loop-at-init
loop-at-init c = record { low = omega arith; before = λ n low high. absurd (omega arith) }

pub returns-then-found-past : goal.returns-then-found-past
returns-then-found-past c =
    let words = c.self.inside.words.items in
    let at = c.loop-at.at in
    let size : length words ≡ length c.args.self.now = ap length c.self.view_is in
    let lowest =
    subst (λ (word : ℕ). IsLowest (λ i. eqb (bit_at word i) 1) (at % 64) 64 c.in-Some.bit)
    (word_is words (at / 64) c.index.result.now c.index.ensures
    (omega (arith, c.requires.within, c.loop-at-test.true))) c.in-Some.ensures in
    subst (λ (ws : List ℕ). IsLowest (has ws) c.args.first c.args.past (at / 64 * 64 + c.in-Some.bit))
    c.self.view_is (found_in_word words c.args.first at c.in-Some.bit c.loop-at.invariant.low
    c.loop-at.invariant.before lowest c.args.past c.if-found-past.true)

pub returns-else-found-past : goal.returns-else-found-past
returns-else-found-past c n low high =
    let words = c.self.inside.words.items in
    let at = c.loop-at.at in
    let size : length words ≡ length c.args.self.now = ap length c.self.view_is in
    let lowest =
    subst (λ (word : ℕ). IsLowest (λ i. eqb (bit_at word i) 1) (at % 64) 64 c.in-Some.bit)
    (word_is words (at / 64) c.index.result.now c.index.ensures
    (omega (arith, c.requires.within, c.loop-at-test.true))) c.in-Some.ensures in
    let found =
    found_in_word words c.args.first at c.in-Some.bit c.loop-at.invariant.low c.loop-at.invariant.before
    lowest (at / 64 * 64 + c.in-Some.bit + 1) (omega arith) in
    subst (λ (ws : List ℕ). has ws n ≡ false) c.self.view_is (found.below n low
    (omega (arith, c.if-found-past.false)))

pub loop-at-preserved : goal.loop-at-preserved
loop-at-preserved c =
    let words = c.self.inside.words.items in
    let at = c.loop-at.at in
    let size : length words ≡ length c.args.self.now = ap length c.self.view_is in
    let none =
    subst (λ (word : ℕ). FindsLowest (λ i. eqb (bit_at word i) 1) (at % 64) 64 None)
    (word_is words (at / 64) c.index.result.now c.index.ensures
    (omega (arith, c.requires.within, c.loop-at-test.true))) c.in_default.ensures in
    record {
      low = omega (arith, c.skip_empty-at.ensures.low, c.loop-at.invariant.low);
      before =
          λ n low high.
          none_in_words words c.args.first at c.skip_empty-at.result
          (none_in_word words c.args.first at c.loop-at.invariant.before none)
          (λ k from below. subst (λ (ws : List ℕ). get_or ws k 0 ≡ 0) (sym c.self.view_is)
          (c.skip_empty-at.ensures.empty k from below)) n low high;
    }

pub returns : goal.returns
returns c n low high =
    rw (← c.self.view_is) (c.loop-at.invariant.before n low (omega (arith, c.loop-at-test.false)))
