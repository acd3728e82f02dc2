-- What operations on memory blocks do to the layers, and how many blocks a plan claims.
use Rattle.std.specs.Prelude.{ℕ, zero, suc, ◌≡◌, ◌+◌, List, IfSome, None, is_some, if◌then◌else◌}
use Rattle.hp_units.specs.declared.plans.Item.{Item}
use Rattle.hp_units.specs.Memory.{Blocks, Memory, row_of}
use Rattle.hp_units.specs.Rows.{wish_of}
use Rattle.hp_tape.specs.Tapes.{TapeValue}
use Rattle.hp_layers.specs.declared.layers.Layers.{Layers}
use Rattle.hp_layers.specs.Frames.{IsTidy}
use Rattle.hp_layers.specs.Layers.{AreOfOneLayout, NotesView, state_of, view_of}

-- the free frames and the rows are those of the state `s`, nothing else changed, and at most `most`
-- deltas were noted
pub record IsReworked (m : Layers) (s : Memory) (most : ℕ) (new : Layers) (was now : TapeValue) : Type 0 where
  pub one : AreOfOneLayout new
  pub layout : new.layout ≡ m.layout
  pub pages : new.pages ≡ m.pages
  pub kernel : new.kernel ≡ m.kernel
  pub tidy : IsTidy new.frames
  pub state : state_of new ≡ s
  pub notes : NotesView m.layout most was now (view_of new) (view_of m)

-- if the plan has a wish for the block, no operation holds it
abbrev pub IsHeldByNone : List Item → Blocks → ℕ → Type 0
IsHeldByNone plan bs block = IfSome (wish_of plan block) (λ wish. (row_of bs block).claim ≡ None)

-- no operation holds a block for which the plan has a wish
abbrev pub AreHeldByNone : List Item → Blocks → Type 0
AreHeldByNone plan bs = (block : ℕ) → IsHeldByNone plan bs block

-- 1 if the plan has a wish for the block, otherwise 0
abbrev pub claimed_at : List Item → ℕ → ℕ
claimed_at plan block = if is_some (wish_of plan block) then 1 else 0

-- how many blocks with numbers below this one have a wish in the plan
abbrev pub claimed_below : List Item → ℕ → ℕ
claimed_below plan zero = 0
claimed_below plan (suc block) = claimed_below plan block + claimed_at plan block
