use Rattle.std.proofs.Common.{◌≡◌, arith}
use Rattle.hp_trace_json.specs.Changes.{SetsWord, is_word}
use Rattle.hp_trace_json.specs.Parts.{word_of}
use Rattle.hp_trace_json.proofs.Equal.{are_words, last_word, other_word}
use Rattle.hp_trace_json.proofs.Tellings.{silent_added, silent_none, values_more, values_none}
use Rattle.hp_trace_json.proofs.words.pages_words_told.Goals as goal

pub loop-index-init : goal.loop-index-init
loop-index-init c = (
  values_none (is_word c.args.owner c.args.page) SetsWord (word_of c.args.was.now) (word_of c.args.now.now)
      c.new-told.result.items c.new-told.ensures.items,
  λ o p other index. silent_none (is_word o p index) c.new-told.result.items c.new-told.ensures.items,
)

pub loop-index-preserved : goal.loop-index-preserved
loop-index-preserved c =
    let n = c.loop-index.index in
    let o = c.args.owner in
    let p = c.args.page in (
      values_more (is_word o p) SetsWord (word_of c.args.was.now) (word_of c.args.now.now)
          (λ x. (x.owner ≡ o) × (x.page ≡ p) × (x.index ≡ n)) n c.word_of.result
          c.word_of-in-loop-index.result _ _ c.word_of.ensures c.word_of-in-loop-index.ensures
          (λ x e. are_words x.owner x.page x.index o p n e.0 e.1 e.2)
          (λ k x other e. last_word x.owner x.page x.index o p n k e.2 other) c.loop-index.invariant.0
          c.in_ok-tell_word.ensures,
      λ a b other index. silent_added (is_word a b index)
          (λ x. (x.owner ≡ o) × (x.page ≡ p) × (x.index ≡ n)) SetsWord c.word_of.result
          c.word_of-in-loop-index.result _ _
          (λ x e. other_word x.owner x.page x.index o p a b index e.0 e.1 other)
          (c.loop-index.invariant.1 a b other index) c.in_ok-tell_word.ensures,
    )

pub returns-clause-told : goal.returns-clause-told
returns-clause-told c =
    let all : c.loop-index.index ≡ c.args.count = omega (arith, c.loop-index-test.false) in
    rw (← all) c.loop-index.invariant.0
