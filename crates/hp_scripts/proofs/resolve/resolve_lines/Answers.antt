use Rattle.std.proofs.Common.{ℕ, List, ◌++◌, drop, take, ap, ◌∙◌}
use Rattle.hp_scripts.specs.Bindings.{numbered}
use Rattle.hp_scripts.specs.Resolved.{lines_after, sources_after}
use Rattle.hp_scripts.proofs.FrontRuns.{numbers_put}
use Rattle.hp_scripts.proofs.resolve.resolve_lines.Goals as goal

pub returns : goal.returns
returns c =
    let front = c.front_len-front.result in
    let lines = c.run_front.new.lines in
    let sources = c.args.sources.now in
    numbers_put c.args.layout.now c.args.count front c.args.lines.now lines c.put_numbers.new.lines sources
    c.take_away.new.sources c.args.bound.now c.number.new.self c.in_ok-numbers.numbers.items
    c.in_ok-numbers.ensures.run.0 c.front_len-front.ensures c.in_ok-numbers.ensures.run.1
    c.in_ok-numbers.ensures.later
    (c.put_numbers.ensures ∙ ap (λ (numbers : List ℕ). take front lines
    ++ lines_after numbers (drop front sources) (drop front lines)) c.as_slice.ensures.value)
    (c.take_away.ensures
    ∙ ap (λ (numbers : List ℕ). sources_after numbers sources) c.as_slice-2.ensures.value)
    (c.number.ensures
    ∙ ap (λ (numbers : List ℕ). numbered numbers c.args.bound.now) c.as_slice-3.ensures.value)
