use Rattle.std.proofs.Common.{◌≡◌, ◌++◌, ℕ, List, ap, ◌∙◌}
use Rattle.hp_trace.specs.Calls.{remark_text}
use Rattle.hp_trace.proofs.calls.note.Goals as goal

pub returns : goal.returns
returns c =
    let text : c.as_str.result.now ≡ remark_text c.args.remark =
    c.as_str.ensures.value ∙ c.in_ok-write_remark.ensures
    ∙ ap (λ (t : List ℕ). t ++ remark_text c.args.remark) c.new-out.ensures.bytes in
    rw (← text) c.note.ensures
