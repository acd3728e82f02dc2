use Rattle.std.proofs.Common.{◌≡◌, ◌+◌, length, ap, ◌∙◌, append_assoc, refl, sym, string_bytes, arith}
use Rattle.std.proofs.lemmas.Option.{slice_get_read}
use Rattle.std.proofs.lemmas.Result.{err_from_is_err_and}
use Rattle.hp_text.proofs.Texts.{texts_more, texts_none}
use Rattle.hp_search.specs.Prepared.{names_of, setting_of}
use Rattle.hp_search.specs.Texts.{end_at_text, numbered_text}
use Rattle.hp_search.proofs.prepared.Prepared.write_words.Goals as goal

pub loop-index-init : goal.loop-index-init
loop-index-init c =
    c.in_ok-write_counts.ensures ∙ texts_none
    (end_at_text (names_of c.args.self.now) (setting_of c.args.self.now) c.args.ends.now) _

pub loop-index-preserved : goal.loop-index-preserved
loop-index-preserved c =
    let names = names_of c.args.self.now in
    let g = setting_of c.args.self.now in
    let ends = c.args.ends.now in
    let here =
    slice_get_read ends (length ends) c.loop-index.index c.index-ends-index.result refl
    c.loop-index-test.true c.index-ends-index.is in
    texts_more (end_at_text names g ends) c.loop-index.index _ _ _ _ c.loop-index.invariant
    c.in_ok-write_numbered.ensures.ok (ap (numbered_text names g (c.loop-index.index + 1)) (sym here))

pub returns-clause-ok : goal.returns-clause-ok
returns-clause-ok c =
    let all : c.loop-index.index ≡ length c.args.ends.now =
    omega (arith, c.loop-index.auto.index-end, c.loop-index-test.false) in
    rw (all, append_assoc (string_bytes c.args.out.now)) at c.loop-index.invariant

pub returns-in_err-write_numbered-clause-along : goal.returns-in_err-write_numbered-clause-along
returns-in_err-write_numbered-clause-along c =
    let ends = c.args.ends.now in
    let p =
    err_from_is_err_and c.from_residual-in_err-write_numbered.result
    c.from_residual-in_err-write_numbered.ensures.1 in
    rw (p.1, p.2) (λ full. (
      c.loop-index.index,
      c.index-ends-index.result,
      slice_get_read ends (length ends) c.loop-index.index c.index-ends-index.result refl
          c.loop-index-test.true c.index-ends-index.is,
      c.in_err-write_numbered.ensures.along full,
    ))
