use Rattle.std.proofs.Common.{◌≡◌, ap, sym, ◌∙◌, arith}
use Rattle.std.proofs.lemmas.Bool.{false≢true}
use Rattle.hp_parts.specs.Heads.{SearchValue}
use Rattle.hp_parts.proofs.Read.{head_taken}
use Rattle.hp_parts.proofs.taking.take_head.Goals as goal

pub returns-then-not-is_whole-clause-err : goal.returns-then-not-is_whole-clause-err
returns-then-not-is_whole-clause-err c =
    let of : c.from-of.result ≡ c.args.search.now.of =
    c.from-of.ensures ∙ ap (λ (s : SearchValue). s.of) c.search.view_is in
    λ names g. (
      (c.number.ensures, λ whole. false≢true (sym c.if-not-is_whole.true ∙ c.is_whole.ensures.1 whole)),
      c.args.number,
      c.args.ends,
      (
        (omega (arith, c.if-number-lt1.false), omega (arith, of, c.if-number-of.false)),
        c.in_ok-is_head.ensures.0 c.if-not-branch.false,
      ),
    )

pub returns-clause-ok : goal.returns-clause-ok
returns-clause-ok c =
    let s = c.args.search.now in
    let of : c.from-of.result ≡ s.of = c.from-of.ensures ∙ ap (λ (v : SearchValue). v.of) c.search.view_is in
    λ names g. head_taken names g s c.args.gathered.now c.begin.new.self c.args.number c.args.ends
    c.args.text.now (c.in_ok-is_head.ensures.0 c.if-not-branch.false)
    (omega (arith, c.if-number-lt1.false), omega (arith, of, c.if-number-of.false))
    (c.is_whole.ensures.0 c.if-not-is_whole.false) c.in_ok-begin.ensures.ok
