-- The place is one call further on the path.
use Rattle.std.proofs.Common.{[], ◌∷◌, ◌++◌, ◌-◌, ℕ, List, ap, sym, ◌∙◌}
use Rattle.hp_explore.specs.LatestOps.{last_of, ops_after}
use Rattle.hp_explore.proofs.LatestNumbers.{here_at, last_range, latest_more, ops_end, ops_stay}
use Rattle.hp_explore.proofs.latest_ops.LatestOps.go_on.Goals as goal

pub returns-in_ok-push_operations : goal.returns-in_ok-push_operations
returns-in_ok-push_operations c =
    λ g news at are. (
      are.0,
      latest_more g news c.args.call.now c.args.self.now c.push_operations.new.ops.items
          (ops_after g (news ++ c.args.call.now ∷ []))
          (c.in_ok-push_operations.ensures g (news ++ c.args.call.now ∷ []) at)
          (sym (ops_end g news c.args.call.now (sym c.leaves_nothing.ensures ∙ c.if-leaves_nothing.true)))
          are,
    )

pub returns-in_ok-extend_from_within : goal.returns-in_ok-extend_from_within
returns-in_ok-extend_from_within c =
    let l = c.args.self.now in
    λ g news at are. (
      are.0,
      latest_more g news c.args.call.now l c.extend_from_within.new.self.items
          (last_of l.processors l.ops.items)
          (c.in_ok-extend_from_within.ensures.items
          ∙ ap (λ (more : List ℕ). l.ops.items ++ more)
          (last_range l.processors c.saturating_sub-first.result l.ops.len l.ops.items l.ops.ok.0
          (c.saturating_sub-first.ensures ∙ ap (λ (n : ℕ). n - l.processors) c.len.ensures)))
          (here_at g news l are ∙ sym (ops_stay g news c.args.call.now
          (sym c.leaves_nothing.ensures ∙ c.if-leaves_nothing.false))) are,
    )
