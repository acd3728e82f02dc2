-- Memory blocks that no operation holds before one begins.
use Rattle.std.proofs.Common.{◌≡◌, ◌≢◌, ℕ, List, Option, Some, None, IfSome, refl, ap, ◌∙◌, eqb-true, ◌==◌}
use Rattle.std.specs.Prelude.{find}
use Rattle.std.specs.Option.{option_map, option_map_or}
use Rattle.std.proofs.lemmas.List.{get_or-set_other}
use Rattle.hp_units.specs.declared.plans.Item.{Item}
use Rattle.hp_units.specs.declared.rows.Wish.{Wish}
use Rattle.hp_units.specs.declared.rows.Wish.TheVariants.{Off as OffWish, Normal as NormalWish, Movable as MovableWish}
use Rattle.hp_units.specs.Choices.{first_some}
use Rattle.hp_units.specs.LayoutParts.{LayoutParts}
use Rattle.hp_units.specs.Memory.{Blocks, Memory, offline_row, row_of}
use Rattle.hp_units.specs.Refusals.{plan_refusals}
use Rattle.hp_units.specs.Rows.{begin_block, claim_block, claimed_row, is_claimed, wish_of}
use Rattle.hp_laws.proofs.EventSteps.{not_there as not-some}
use Rattle.hp_laws.proofs.Options.{found_fails, found_passes, map_none}
use Rattle.hp_laws.proofs.OwnedContents.{all_none}
use Rattle.hp_layers.specs.declared.layers.Layers.{Layers}
use Rattle.hp_layers.specs.Layers.{state_of}
use Rattle.hp_layers.specs.Operations.{AreHeldByNone, IsHeldByNone}

-- ---- blocks that are claimed one after another

-- no other block's row changes
claim-others : (l : LayoutParts) (op : ℕ) (s : Memory) (block other : ℕ) (o : Option Wish) → other ≢ block
    → row_of (option_map_or (claim_block l op s block) o s).blocks other ≡ row_of s.blocks other
claim-others l op s block other None ne = refl
claim-others l op s block other (Some OffWish) ne =
    get_or-set_other s.blocks.rows block other (claimed_row (row_of s.blocks block) op OffWish) offline_row ne
claim-others l op s block other (Some NormalWish) ne =
    get_or-set_other s.blocks.rows block other (claimed_row (row_of s.blocks block) op NormalWish) offline_row
    ne
claim-others l op s block other (Some MovableWish) ne =
    get_or-set_other s.blocks.rows block other (claimed_row (row_of s.blocks block) op MovableWish)
    offline_row ne

-- so a later block's row is as it was at first
pub later-stays : (m n o : Layers) (op : ℕ) (plan : List Item) (number other : ℕ) → other ≢ number
    → state_of o ≡ begin_block n.layout op plan (state_of n) number
    → row_of n.blocks.blocks other ≡ row_of m.blocks.blocks other
    → row_of o.blocks.blocks other ≡ row_of m.blocks.blocks other
later-stays m n o op plan number other ne is earlier =
    ap (λ (s : Memory). row_of s.blocks other) is
    ∙ (claim-others n.layout op (state_of n) number other (wish_of plan number) ne ∙ earlier)

-- and no operation holds it
pub unclaimed-still : (plan : List Item) (bs first : Blocks) (block : ℕ)
    → row_of bs block ≡ row_of first block → AreHeldByNone plan first → IsHeldByNone plan bs block
unclaimed-still plan bs first block same none = rw same (none block)

-- ---- a plan that isn't refused

-- no operation holds any of its blocks
pub plan-unclaimed : (l : LayoutParts) (s : Memory) (plan : List Item)
    → first_some (plan_refusals l s plan) ≡ None → AreHeldByNone plan s.blocks
plan-unclaimed l s plan e block =
    let none = all_none (plan_refusals l s plan) e in
    by_item (find (λ item. item.block == block) plan) refl
    (map_none _ (find (λ item. is_claimed (row_of s.blocks item.block)) plan) none.1.1.1.0)
  where
    by_item : (o : Option Item) → find (λ item. item.block == block) plan ≡ o
        → find (λ item. is_claimed (row_of s.blocks item.block)) plan ≡ None
        → IfSome (option_map (λ item. item.wish) o) (λ wish. (row_of s.blocks block).claim ≡ None)
    by_item None is none = tt
    by_item (Some item) is none =
        rw (← (eqb-true item.block block (found_passes (λ i. i.block == block) plan item is)))
        (not-some (row_of s.blocks item.block).claim
        (found_fails (λ i. is_claimed (row_of s.blocks i.block)) (λ i. i.block == block) plan item none is))
