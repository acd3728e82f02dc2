-- Each processor's part is added in its turn.
use Rattle.std.proofs.Common.{ℕ, ap, arith, subst, ◌∙◌}
use Rattle.hp_states.specs.Standing.{IsBegunCode, StandingValue}
use Rattle.hp_states.proofs.Keys.{code_more}
use Rattle.hp_states.proofs.Stood.{number_inside, number_read}
use Rattle.hp_states.proofs.standing.Standing.push_parts.Goals as goal

pub bounds-numbers-cpu : goal.bounds-numbers-cpu
bounds-numbers-cpu c =
    let stand = c.requires.standing in
    number_inside stand.0 stand.1 c.args.self.now c.numbers-numbers.result.now c.loop-cpu.cpu
    (c.numbers-numbers.ensures ∙ ap (λ (s : StandingValue). s.exchanged.here) c.self.view_is)
    (omega (arith, c.loop-cpu-test.true, c.requires.processors, stand.2.many)) stand.3

pub loop-cpu-preserved : goal.loop-cpu-preserved
loop-cpu-preserved c =
    λ g news at stands count state openings begun.
    code_more c.args.self.now news count state openings c.loop-cpu.cpu _ _ _ _ _
    (c.loop-cpu.invariant g news at stands count state openings begun) c.in_ok-number.ensures
    c.in_ok-number-2.ensures
    (number_read g news c.args.self.now c.numbers-numbers.result.now c.loop-cpu.cpu
    (c.numbers-numbers.ensures ∙ ap (λ (s : StandingValue). s.exchanged.here) c.self.view_is)
    (omega (arith, c.loop-cpu-test.true, c.requires.processors, at.many)) stands)
    (c.begun.view_is ∙ c.operation-begun.ensures g news at)

pub returns : goal.returns
returns c =
    λ g news at stands count state openings begun.
    subst (λ (cpus : ℕ). IsBegunCode c.args.self.now news count state openings cpus c.loop-cpu.key)
    (omega (arith, c.loop-cpu-test.false, c.loop-cpu.auto.cpu-end))
    (c.loop-cpu.invariant g news at stands count state openings begun)
