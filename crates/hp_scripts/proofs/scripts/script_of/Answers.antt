use Rattle.std.proofs.Common.{◌≡◌, ◌||◌, ℕ, ◌+◌, Bool, List, ◌++◌, Option, Some, drop, slice_get, append_assoc, refl}
use Rattle.std.proofs.lemmas.Option.{slice_get_read}
use Rattle.hp_scenario.specs.Asked.{asked_by}
use Rattle.hp_scenario.specs.declared.lines.Line.{Line}
use Rattle.hp_schedules.specs.declared.scripts.Step as step
use Rattle.hp_schedules.proofs.Asked.{lines_here}
use Rattle.hp_scripts.specs.Begins.{line_begins}
use Rattle.hp_scripts.specs.ScriptResults.{named_at}
use Rattle.hp_scripts.specs.Scripts.{step_for, steps_in, steps_of}
use Rattle.hp_scripts.proofs.scripts.script_of.Goals as goal
use Rattle.hp_scripts.proofs.scripts.script_of.Goals.{then-has_begun, else-has_begun}

-- one more line of a processor is a step
one_more : (lines : List Line) (sources : List (Option ℕ)) (i : ℕ) (line : Line) (cpu op : ℕ) (begun : Bool)
    (steps more whole : List step.Step) → slice_get lines i ≡ Some line
    → more
    ≡ steps ++ steps_of (step_for cpu op begun (named_at cpu lines sources i (asked_by line.work)) line)
    → steps ++ steps_in cpu op begun lines sources i (drop i lines) ≡ whole
    → more ++ steps_in cpu op (begun || line_begins cpu line) lines sources (i + 1) (drop (i + 1) lines)
    ≡ whole
one_more lines sources i line cpu op begun steps more whole at pushed so_far =
    rw (pushed, append_assoc steps) (rw (lines_here lines i line at) at so_far)

pub loop-place-preserved : goal.loop-place-preserved
loop-place-preserved c =
    let begun = c.loop-place.has_begun in
    let line = c.index-lines-place.result in
    let here = slice_get_read _ _ _ _ refl c.loop-place-test.true c.index-lines-place.is in
    let later : c.if-has_begun.has_begun ≡ (begun || line_begins c.args.cpu line) =
    elim c.if-has_begun.branch [
      | then-has_begun w ↦ rw (w.has_begun-is, w.if-has_begun.true)
      | else-has_begun w ↦ rw (w.has_begun-is, w.line_begins-has_begun.ensures, w.if-has_begun.false)
    ] in
    rw later (one_more c.args.lines.now c.args.sources.now c.loop-place.place line c.args.cpu
    c.last_begun-op.result begun c.loop-place.steps.items c.push_some.new.steps.items _ here
    (rw (← c.in_ok-step.ensures line here) c.in_ok-push_some.ensures) c.loop-place.invariant)
