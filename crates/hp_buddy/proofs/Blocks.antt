-- Whole pageblocks, added and removed.
use Rattle.std.proofs.Common.{◌≡◌, ℕ, ◌≤◌, true, sym, subst}
use Rattle.hp_units.specs.declared.rows.Class.{Class}
use Rattle.hp_units.specs.declared.rows.Kind.{Kind}
use Rattle.hp_units.specs.LayoutParts.{LayoutParts}
use Rattle.hp_units.specs.Memory.{FreeAreas, free_list, with_kind}
use Rattle.hp_units.specs.FreeAreas.{is_on, with_back, without_free}
use Rattle.hp_buddy.specs.Buddy.{AreApart, MayBeGiven, HasBlockMore}
use Rattle.hp_buddy.proofs.Apart.{has_order, back-apart, kind-apart}
use Rattle.hp_units.proofs.ListParts.{with_back-places}
use Rattle.hp_units.proofs.Joins.{without_free-places}
use Rattle.hp_buddy.proofs.Gives.{Gives, without_free-apart}

-- a block that is added at the back
pub block_added : (l : LayoutParts) (a new : FreeAreas) (class : Class) (order top first at : ℕ) → order ≡ top
    → first ≡ at → new ≡ with_back a class order first
    → MayBeGiven l a top at → AreApart l a → Gives l a top at new
block_added l a new class order top first at order_is first_is is block h =
    let pushed : new ≡ with_back a class top at = rw (is, order_is, first_is) in
    subst (λ (b : FreeAreas). Gives l a top at b) (sym pushed) (record {
      apart = back-apart l a class top at block h;
      places = λ frame. with_back-places a class top at frame (has_order l a top h block.in_order);
    })

-- a free block that is removed, and a kind that changes
pub record Removes (l : LayoutParts) (a : FreeAreas) (order first : ℕ) (after : FreeAreas) : Type 0 where
  pub apart : AreApart l after
  pub places : HasBlockMore a after order first

-- a block that is removed
pub block_removed : (l : LayoutParts) (a mid new : FreeAreas) (class : Class)
    (order top first at pageblock : ℕ) (kind : Kind)
    → order ≡ top → first ≡ at → top ≤ l.order
    → is_on at (free_list a class top) ≡ true → mid ≡ without_free a class order first
    → new ≡ with_kind mid pageblock kind → AreApart l a → Removes l a top at new
block_removed l a mid new class order top first at pageblock kind order_is first_is low on left is h =
    let gone : mid ≡ without_free a class top at = rw (left, order_is, first_is) in
    let same : new ≡ with_kind (without_free a class top at) pageblock kind = rw (is, gone) in
    subst (λ (b : FreeAreas). Removes l a top at b) (sym same) (record {
      apart =
          kind-apart l (without_free a class top at) pageblock kind
          (without_free-apart l a class top at low h);
      places =
          λ frame. sym (without_free-places a class top at frame (has_order l a top h low) (h.once at) on);
    })
