use Rattle.std.proofs.Common.{ap, arith, inl, inr, sym, ◌∙◌}
use Rattle.hp_parts.specs.Heads.{HeadValue}
use Rattle.std.proofs.lemmas.Bool.{false≢true}
use Rattle.hp_parts.proofs.Read.{all_read, last_cut, line_passed}
use Rattle.hp_parts.proofs.taking.gather.Goals as goal

pub loop-place-preserved : goal.loop-place-preserved
loop-place-preserved c =
    let taken = rw (ap (λ (h : HeadValue). h.search) c.head.view_is) at c.in-Ok.ensures.ok in record {
      within = omega (arith, c.in-Some.ensures.within);
      so_far =
          rw (line_passed _ _ c.in-Some.text.now c.loop-place.invariant.within c.in-Some.ensures.is)
          (taken _ c.loop-place.invariant.so_far);
    }

pub returns-in_default-clause-err : goal.returns-in_default-clause-err
returns-in_default-clause-err c =
    inr (inr (inl (
      c.loop-place.place,
      c.loop-place.gathered,
      c.loop-place-test.true,
      rw c.line_number.ensures,
      c.in_default.ensures.none,
      c.loop-place.invariant.so_far,
    )))

pub returns-in-Err-clause-err : goal.returns-in-Err-clause-err
returns-in-Err-clause-err c =
    inr (inl (
      c.loop-place.place,
      c.in-Some.text.now,
      c.loop-place.gathered,
      c.in-Err.fault,
      rw c.line_number-in-Err.ensures at c.of_line.ensures,
      c.in-Some.ensures.is,
      c.loop-place.invariant.so_far,
      rw (← c.head.view_is) c.in-Err.ensures.err,
    ))

pub returns-then-not-is_whole-clause-err : goal.returns-then-not-is_whole-clause-err
returns-then-not-is_whole-clause-err c =
    last_cut _ _ _ _ _ _ _ c.loop-place-test.false c.loop-place.invariant.so_far c.number.ensures
    (λ whole. false≢true (sym c.if-not-is_whole.true ∙ c.is_whole.ensures.1 whole))

pub returns-clause-ok : goal.returns-clause-ok
returns-clause-ok c =
    all_read _ _ _ _ _ _ _ c.loop-place-test.false c.loop-place.invariant.so_far
    (c.is_whole.ensures.0 c.if-not-is_whole.false) c.in_ok-parts.ensures
