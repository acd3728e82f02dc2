-- The shares and the ends have the row at their ends.
use Rattle.std.proofs.Common.{◌++◌, ◌∷◌, [], List, ap, ◌∙◌}
use Rattle.hp_schedules.specs.declared.trail.Share.{Share}
use Rattle.hp_states.proofs.Joined.{texts_are, texts_on}
use Rattle.hp_states.proofs.rows.Rows.push.Goals as goal

pub invariant_of-self-2 : goal.invariant_of-self-2
invariant_of-self-2 c =
    texts_on _ c.args.row.now _ _ _ _ c.self.invariant c.in_ok-extend_from_slice.ensures.items
    (rw c.reserve.ensures.items at c.push_reserved.ensures.items)
    (c.len-end.ensures ∙ c.extend_from_slice.new.self.ok.0)

pub returns-clause-ok : goal.returns-clause-ok
returns-clause-ok c =
    texts_are _ c.args.row.now _ _ _ _ c.self.invariant c.in_ok-extend_from_slice.ensures.items
    (rw c.reserve.ensures.items at c.push_reserved.ensures.items)
    (c.len-end.ensures ∙ c.extend_from_slice.new.self.ok.0)
    ∙ ap (λ (rows : List (List Share)). rows ++ c.args.row.now ∷ []) c.self.view_is
