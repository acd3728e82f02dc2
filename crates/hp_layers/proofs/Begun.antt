-- Operations that begin.
use Rattle.std.proofs.Common.{◌≡◌, ℕ, ◌*◌, ◌≤◌, List, length, None, ap, arith}
use Rattle.std.specs.Prelude.{min}
use Rattle.std.proofs.Math.Nat.{le-min, mul-le-mul_right}
use Rattle.hp_units.specs.declared.events.Event.TheVariants.{Begin}
use Rattle.hp_units.specs.declared.plans.Item.{Item}
use Rattle.hp_units.specs.declared.replies.Reply.TheVariants.{Opened}
use Rattle.hp_units.specs.Choices.{first_some}
use Rattle.hp_units.specs.Refusals.{plan_refusals}
use Rattle.hp_units.specs.Rows.{begin_plan}
use Rattle.hp_units.specs.Step.{answer}
use Rattle.hp_tape.specs.declared.deltas.Delta.{Delta}
use Rattle.hp_tape.specs.Bounds.{moved_block_bound}
use Rattle.hp_tape.specs.Tapes.{TapeValue}
use Rattle.hp_plain.specs.Asked.{opened}
use Rattle.hp_layers.specs.declared.layers.Layers.{Layers}
use Rattle.hp_layers.specs.Layers.{ArePlaced, IsAnswered, state_of}
use Rattle.hp_layers.specs.Operations.{IsReworked, claimed_below}
use Rattle.hp_layers.proofs.Plans.{claimed-below, claimed-few}
use Rattle.hp_layers.proofs.Releases.{reworked-answered}
use Rattle.hp_layers.proofs.Releases.{reworked-answered}

-- room for as many items as the plan has, and no more than the layout has blocks
pub plan-room : (plan : List Item) (blocks each items most size : ℕ) → items ≡ min most size
    → length plan ≤ most → blocks ≤ size → claimed_below plan blocks * each ≤ items * each
plan-room plan blocks each items most size is few below =
    mul-le-mul_right each (rw is (le-min (let a = claimed-few plan blocks in omega (arith, a, few))
    (let b = claimed-below plan blocks in omega (arith, b, below))))

pub begin-done : {before : List Delta} (m new : Layers) (op : ℕ) (plan : List Item) (was now : TapeValue)
    → ArePlaced m → was.deltas ≡ before
    → first_some (plan_refusals m.layout (state_of m) plan) ≡ None
    → IsReworked m (begin_plan m.layout (state_of m) op plan)
    (claimed_below plan m.layout.blocks * moved_block_bound m.layout) new was now
    → IsAnswered m (Begin plan) (opened m.layout (state_of m) op plan) new before now.deltas (Opened op)
begin-done {before} m new op plan was now p same none r =
    rw (ap (answer m.layout (state_of m) op 0 (Begin plan)) none)
    (reworked-answered m new (Begin plan) (begin_plan m.layout
    (state_of m) op plan) (Opened op) (claimed_below plan m.layout.blocks * moved_block_bound m.layout) was
    now p same (mul-le-mul_right (moved_block_bound m.layout) (claimed-few plan m.layout.blocks)) r)
