-- What the free areas alone must be, given the class of each pageblock.
use Rattle.std.proofs.Common.{◌≡◌, ℕ, ◌+◌, ◌*◌, ◌<◌, ◌≤◌, true, false, length, Option}
use Rattle.hp_units.specs.declared.rows.Class.{Class}
use Rattle.hp_units.specs.LayoutParts.{LayoutParts}
use Rattle.hp_units.specs.Arithmetic.{buddy}
use Rattle.hp_units.specs.Memory.{FreeAreas, free_list}
use Rattle.hp_units.specs.FreeAreas.{is_on}
use Rattle.hp_units.specs.Placement.{free_places, IsBlockOf}

-- no frame is in two free blocks, each is aligned and of its pageblock's class, and no two buddies
-- are free in one class
pub record AreOrdered (l : LayoutParts) (class_at : ℕ → Option Class) (a : FreeAreas) : Type 0 where
  pub lists : length a.lists ≡ 5 * (l.order + 1)
  pub few : (frame : ℕ) → free_places a frame ≤ 1
  pub blocks : (class : Class) (order first : ℕ) → is_on first (free_list a class order) ≡ true
      → IsBlockOf l class_at class order first
  pub joined : (class : Class) (order first : ℕ) → order < l.order
      → is_on first (free_list a class order) ≡ true
      → is_on (buddy first order) (free_list a class order) ≡ false
