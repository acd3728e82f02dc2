-- The blocks that a plan names, and some of a plan's refusals.
use Rattle.std.specs.Prelude.{ℕ, Bool, not, ◌&&◌, List, [], ◌∷◌, Option, find, map, nat_le}
use Rattle.std.specs.List.{list_any}
use Rattle.std.specs.Option.{option_map}
use Rattle.hp_units.specs.declared.replies.Refusal.{Refusal}
use Rattle.hp_units.specs.declared.replies.Refusal.TheVariants.{Busy, NotOnline, NotOffline, Unmovable as HoldsUnmovable}
use Rattle.hp_units.specs.Choices.{first_some}
use Rattle.hp_units.specs.LayoutParts.{LayoutParts}
use Rattle.hp_units.specs.Memory.{Memory, row_of}
use Rattle.hp_units.specs.Refusals.{kernel_frame_in}
use Rattle.hp_units.specs.Rows.{is_claimed, is_off, is_offline, is_online}
use Rattle.hp_units.specs.declared.plans.Item.{Item}

-- the plan names a block outside the layout
abbrev pub names_no_block : LayoutParts → List Item → Bool
names_no_block l plan = list_any (λ item. nat_le l.blocks item.block) plan

-- the blocks of the items, last first, followed by `before`
abbrev pub blocks_in : List ℕ → List Item → List ℕ
blocks_in before [] = before
blocks_in before (item ∷ items) = blocks_in (item.block ∷ before) items

-- the last two refusals of a plan: a block that is to go online is not offline; a block that is to
-- go offline has a kernel block
abbrev pub change_refusals : LayoutParts → Memory → List Item → List (Option Refusal)
change_refusals l s plan =
    option_map (λ item. NotOffline item.block)
    (find (λ item. not (is_off item.wish) && not (is_offline (row_of s.blocks item.block))) plan)
    ∷ option_map HoldsUnmovable (first_some (map (kernel_frame_in l s) plan))
    ∷ []

-- the refusal for a block that is to go offline but is not online, followed by `change_refusals`
abbrev pub state_refusals : LayoutParts → Memory → List Item → List (Option Refusal)
state_refusals l s plan =
    option_map (λ item. NotOnline item.block)
    (find (λ item. is_off item.wish && not (is_online (row_of s.blocks item.block))) plan)
    ∷ change_refusals l s plan

-- the refusals of a plan that names only blocks of the layout, each once
abbrev pub claim_refusals : LayoutParts → Memory → List Item → List (Option Refusal)
claim_refusals l s plan =
    option_map (λ item. Busy item.block) (find (λ item. is_claimed (row_of s.blocks item.block)) plan)
    ∷ state_refusals l s plan
