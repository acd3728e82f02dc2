use Rattle.std.proofs.Common.{string_bytes, ◌+◌, ◌++◌, codes, length, ap, refl, sym, append_assoc}
use Rattle.std.proofs.lemmas.Option.{slice_get_read}
use Rattle.std.proofs.lemmas.Result.{err_from_is_err_and}
use Rattle.hp_text.proofs.Texts.{texts_more, texts_none}
use Rattle.hp_search.specs.Prepared.{names_of, setting_of}
use Rattle.hp_search.specs.Texts.{end_keys, numbered_object, object_at}
use Rattle.hp_search.proofs.prepared.Prepared.write_objects.Goals as goal

pub loop-index-init : goal.loop-index-init
loop-index-init c =
    texts_none (object_at (names_of c.args.self.now) (setting_of c.args.self.now) c.args.ends.now) _

pub loop-index-preserved : goal.loop-index-preserved
loop-index-preserved c =
    let names = names_of c.args.self.now in
    let g = setting_of c.args.self.now in
    let ends = c.args.ends.now in
    let index = c.loop-index.index in
    let e = c.index-ends-index.result in
    let here =
    slice_get_read ends (length ends) index e refl c.loop-index-test.true c.index-ends-index.is in
    texts_more (object_at names g ends) index _ _ _ (end_keys names g (index + 1) e ++ codes "}\n")
    c.loop-index.invariant
    (rw (c.in_ok-write_end_keys.ensures.ok, append_assoc (string_bytes c.loop-index.out))
    at c.in_ok-push_str.ensures.bytes)
    (ap (numbered_object names g (index + 1)) (sym here))

pub returns-in_err-write_end_keys-clause-along : goal.returns-in_err-write_end_keys-clause-along
returns-in_err-write_end_keys-clause-along c =
    let ends = c.args.ends.now in
    let p = err_from_is_err_and c.from_residual.result c.from_residual.ensures.1 in
    rw (p.1, p.2) (λ full. (
      c.loop-index.index,
      c.index-ends-index.result,
      slice_get_read ends (length ends) c.loop-index.index c.index-ends-index.result refl
          c.loop-index-test.true c.index-ends-index.is,
      c.in_err-write_end_keys.ensures.along full,
    ))
