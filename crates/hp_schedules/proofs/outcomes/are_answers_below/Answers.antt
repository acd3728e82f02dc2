-- Where there are more or fewer, they are not the same.
use Rattle.std.proofs.Common.{◌≡◌, ◌∙◌, false, true, length, refl, sym, arith}
use Rattle.std.proofs.lemmas.Bool.{iff_false}
use Rattle.std.proofs.lemmas.Option.{slice_get_read}
use Rattle.std.proofs.lemmas.List.FromFn.{length-map-range_with_len}
use Rattle.hp_schedules.proofs.Compared.{answered_at, answered_more}
use Rattle.hp_schedules.proofs.outcomes.are_answers_below.Goals as goal

pub returns-then-answers-processors : goal.returns-then-answers-processors
returns-then-answers-processors c = (
  λ wrong. absurd (let f : false ≡ true = wrong in cc),
  λ is. absurd (let as_many : length c.args.answers.now ≡ c.args.processors =
      rw (is, length-map-range_with_len) in
      omega (arith, as_many, c.if-answers-processors.true)),
)

pub returns-then-not-are_replies_to : goal.returns-then-not-are_replies_to
returns-then-not-are_replies_to c = (
  λ yes. absurd cc,
  λ is. absurd (iff_false c.are_replies_to.ensures c.if-not-are_replies_to.true
      (c.as_slice.ensures ∙ answered_at c.args.answers.now c.args.records.now c.args.processors c.loop-cpu.cpu
      c.index-answers-cpu.result c.loop-cpu-test.true c.index-answers-cpu.is is)),
)

pub loop-cpu-preserved : goal.loop-cpu-preserved
loop-cpu-preserved c =
    answered_more c.args.answers.now c.args.records.now c.loop-cpu.cpu c.index-answers-cpu.result
    (slice_get_read c.args.answers.now (length c.args.answers.now) c.loop-cpu.cpu c.index-answers-cpu.result
    refl (omega (arith, c.loop-cpu-test.true, c.if-answers-processors.false)) c.index-answers-cpu.is)
    (sym c.as_slice.ensures ∙ c.are_replies_to.ensures.0 c.if-not-are_replies_to.false) c.loop-cpu.invariant
