use Rattle.std.proofs.Common.{inl, inr}
use Rattle.std.proofs.lemmas.Result.{IfErr-weaker, IfOk-weaker, err_from_is_err_and}
use Rattle.hp_parts.specs.Ordering.{lists_of}
use Rattle.hp_parts.proofs.summing.sum_on.Goals as goal

pub returns-in_err-ends-clause-err : goal.returns-in_err-ends-clause-err
returns-in_err-ends-clause-err c =
    let p = err_from_is_err_and c.from_residual-in_err-ends.result c.from_residual-in_err-ends.ensures.1 in
    rw (p.1, p.2)
    (inr (inr (inr (inr (record {
      parts = c.in_ok-parts.parts.items;
      read = c.in_ok-parts.ensures.ok;
      cause = inr (
        lists_of c.in_ok-lists.lists.items,
        rw (← c.head.view_is, ← c.search.view_is) c.in_ok-lists.ensures.ok,
        rw c.deref.ensures.value at c.in_err-ends.ensures.err,
      );
    })))))

pub returns-in_err-lists-clause-err : goal.returns-in_err-lists-clause-err
returns-in_err-lists-clause-err c =
    let p = err_from_is_err_and c.from_residual-in_err-lists.result c.from_residual-in_err-lists.ensures.1 in
    rw (p.1, p.2)
    (inr (inr (inr (inr (record {
      parts = c.in_ok-parts.parts.items;
      read = c.in_ok-parts.ensures.ok;
      cause = inl (rw (← c.head.view_is, ← c.search.view_is) c.in_err-lists.ensures.err);
    })))))

pub returns-clause-err : goal.returns-clause-err
returns-clause-err c = IfErr-weaker c.told.result _ _ (λ fault h. inl h) c.told.ensures.err

pub returns-clause-ok : goal.returns-clause-ok
returns-clause-ok c =
    IfOk-weaker c.told.result _ _
    (λ f h. record {
      parts = c.in_ok-parts.parts.items;
      lists = lists_of c.in_ok-lists.lists.items;
      ends = c.in_ok-ends.ends.items;
      read = c.in_ok-parts.ensures.ok;
      all = rw (← c.head.view_is, ← c.search.view_is) c.in_ok-lists.ensures.ok;
      sum = rw c.deref.ensures.value at c.in_ok-ends.ensures.ok;
      told = rw (← c.deref-2.ensures.value) h;
    }) c.told.ensures.ok
