-- The place before it on the way is known again.
use Rattle.std.proofs.Common.{◌-◌, ℕ, ap, take, ◌∙◌}
use Rattle.hp_explore.proofs.LatestNumbers.{latest_less}
use Rattle.hp_explore.proofs.latest_ops.LatestOps.go_back.Goals as goal

pub returns : goal.returns
returns c =
    λ g news r are. (
      are.0,
      c.truncate.ensures.items
          ∙ (ap (λ (n : ℕ). take n c.args.self.now.ops.items)
          (c.saturating_sub-left.ensures ∙ ap (λ (n : ℕ). n - c.args.self.now.processors)
          (c.len.ensures ∙ c.args.self.now.ops.ok.0))
          ∙ latest_less g news r c.args.self.now are),
    )
