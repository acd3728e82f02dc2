-- The calls that a schedule makes, read off the machine that it leads to.
use Rattle.std.proofs.Common.{◌≡◌, ℕ, List, length, Option, Some, None, sym, ap, ◌∙◌, arith}
use Rattle.std.proofs.lemmas.List.{length-append}
use Rattle.hp_units.specs.declared.replies.Record.{Record}
use Rattle.hp_machine.specs.Machine.{MachineValue}
use Rattle.hp_schedules.specs.Schedules.{Setting, plays}
use Rattle.hp_explore.specs.Walks.{IsPlayed, news_in}
use Rattle.hp_search.specs.Prepared.{GoesOn, calls_in}

-- the history begins with the records that were there
pub goes_on : (g : Setting) (schedule : List ℕ) (p : Option MachineValue) → IsPlayed g schedule p → GoesOn g p
goes_on g schedule None played = tt
goes_on g schedule (Some n) played =
    let whole = ap (λ (rs : List Record). length rs) played.0.history in
    omega (arith, whole, length-append g.start (news_in g n))

-- the calls are those after them
pub calls_are : (g : Setting) (schedule : List ℕ) (p : Option MachineValue) → IsPlayed g schedule p
    → calls_in g p ≡ plays g schedule
calls_are g schedule None played = sym played
calls_are g schedule (Some n) played = sym (ap (plays g) (sym played.1) ∙ played.0.played)
