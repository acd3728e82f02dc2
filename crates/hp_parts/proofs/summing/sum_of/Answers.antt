use Rattle.std.proofs.Common.{◌≡◌, Some, inl, inr, refl, sym, ◌∙◌}
use Rattle.std.specs.Prelude.{option_and_then}
use Rattle.std.proofs.lemmas.Bool.{false≢true}
use Rattle.std.proofs.lemmas.Option.{same_Some}
use Rattle.std.proofs.lemmas.Result.{IfErr-weaker, IfOk-weaker}
use Rattle.hp_scenario.specs.Scenario.{json_of}
use Rattle.hp_parts.specs.Faults.{BeginsWith}
use Rattle.hp_parts.specs.Heads.{HeadValue, head_from, head_line}
use Rattle.hp_parts.proofs.summing.sum_of.Goals as goal

pub sum_after-requires : goal.sum_after-requires
sum_after-requires c =
    let head : HeadValue = c.in-Some.head in
    let line : c.args.text.now ≡ head_line head.search head.number head.ends =
    rw (← c.head.view_is) (c.in_ok-is_head.ensures.0 c.if-not-branch.false) in
    record { line = rw line at c.requires.line; start = rw line; number = c.in-Some.ensures.number }

pub returns-then-not-branch-clause-err : goal.returns-then-not-branch-clause-err
returns-then-not-branch-clause-err c =
    let known : option_and_then head_from (json_of c.args.text.now) ≡ Some c.in-Some.head =
    rw (← c.requires.value, ← c.in-Some.ensures.is) in
    let other =
    λ (h : HeadValue) (has : option_and_then head_from (json_of c.args.text.now) ≡ Some h)
    (line : c.args.text.now ≡ head_line h.search h.number h.ends).
    false≢true (sym c.if-not-branch.true ∙ c.in_ok-is_head.ensures.1
    (rw (same_Some h c.in-Some.head (sym has ∙ known), ← c.head.view_is) at line)) in
    inl (inl (refl, inr (c.args.text.now, c.requires.line, λ h is. other h is.0 is.1)))

pub returns-clause-ok : goal.returns-clause-ok
returns-clause-ok c =
    let begins : BeginsWith c.args.input.now c.in-Some.head = (
      c.args.text.now,
      c.requires.line,
      (
        rw (← c.requires.value, ← c.in-Some.ensures.is),
        rw (← c.head.view_is) (c.in_ok-is_head.ensures.0 c.if-not-branch.false),
      ),
    ) in
    IfOk-weaker c.sum_after.result _ _ (λ f h. (c.in-Some.head, begins, h)) c.sum_after.ensures.ok

pub returns-clause-err : goal.returns-clause-err
returns-clause-err c =
    let begins : BeginsWith c.args.input.now c.in-Some.head = (
      c.args.text.now,
      c.requires.line,
      (
        rw (← c.requires.value, ← c.in-Some.ensures.is),
        rw (← c.head.view_is) (c.in_ok-is_head.ensures.0 c.if-not-branch.false),
      ),
    ) in
    IfErr-weaker c.sum_after.result _ _ (λ fault h. inr (c.in-Some.head, begins, h)) c.sum_after.ensures.err
