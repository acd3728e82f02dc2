-- Each operation keeps the lengths of the lists, and most keep the kinds.
use Rattle.std.proofs.Common.{◌≡◌, ℕ, zero, suc, List, length, refl, ◌∙◌, length-set}
use Rattle.hp_units.specs.declared.rows.Class.{Class}
use Rattle.hp_units.specs.declared.rows.Kind.{Kind}
use Rattle.hp_units.specs.Memory.{FreeAreas, with_free_list, with_kind}
use Rattle.hp_units.specs.FreeAreas.{with_halves, without_buddies}

-- two states of the free areas have lists of the same lengths
pub record SameAreas (a b : FreeAreas) : Type 0 where
  pub lists : length b.lists ≡ length a.lists
  pub kinds : length b.kinds ≡ length a.kinds

-- a state and itself
pub same_areas : (a : FreeAreas) → SameAreas a a
same_areas a = record { lists = refl; kinds = refl }

-- one state and another, by way of a third
pub same_areas-then : {a b c : FreeAreas} → SameAreas a b → SameAreas b c → SameAreas a c
same_areas-then h k = record { lists = k.lists ∙ h.lists; kinds = k.kinds ∙ h.kinds }

-- one list is written
pub with_free_list-size : (a : FreeAreas) (class : Class) (order : ℕ) (frames : List ℕ)
    → SameAreas a (with_free_list a class order frames)
with_free_list-size a class order frames = record { lists = length-set a.lists _ frames; kinds = refl }

-- one kind is written
pub with_kind-size : (a : FreeAreas) (pageblock : ℕ) (kind : Kind) → SameAreas a (with_kind a pageblock kind)
with_kind-size a pageblock kind = record { lists = refl; kinds = length-set a.kinds pageblock kind }

-- a block is split
pub with_halves-size : (a : FreeAreas) (class : Class) (frame last count : ℕ)
    → SameAreas a (with_halves a class frame last count)
with_halves-size a class frame last zero = same_areas a
with_halves-size a class frame last (suc count) =
    same_areas-then (with_halves-size a class frame _ count) (with_free_list-size _ class last _)

-- buddies leave
pub without_buddies-size : (a : FreeAreas) (class : Class) (frame order count : ℕ)
    → SameAreas a (without_buddies a class frame order count)
without_buddies-size a class frame order zero = same_areas a
without_buddies-size a class frame order (suc count) =
    same_areas-then (without_buddies-size a class frame order count) (with_free_list-size _ class _ _)

-- a split changes no kind
pub halves-kinds : (a : FreeAreas) (class : Class) (frame last count : ℕ)
    → (with_halves a class frame last count).kinds ≡ a.kinds
halves-kinds a class frame last zero = refl
halves-kinds a class frame last (suc count) = halves-kinds a class frame _ count

-- nor do buddies that leave
pub buddies-kinds : (a : FreeAreas) (class : Class) (first order count : ℕ)
    → (without_buddies a class first order count).kinds ≡ a.kinds
buddies-kinds a class first order zero = refl
buddies-kinds a class first order (suc count) = buddies-kinds a class first order count
