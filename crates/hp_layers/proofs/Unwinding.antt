-- Deltas that are undone one after another, latest first.
use Rattle.std.proofs.Common.{◌≡◌, ℕ, ◌<◌, ◌≤◌, List, [], ◌∷◌, ◌++◌, drop, length, take, sym, ap, subst, arith}
use Rattle.std.proofs.lemmas.List.{drop-append-le, length-append, take-append-le}
use Rattle.std.specs.List.{AllByRecursion}
use Rattle.hp_units.specs.LayoutParts.{LayoutParts}
use Rattle.hp_tape.specs.declared.deltas.Delta.{Delta}
use Rattle.hp_tape.specs.Deltas.{AllFit, Fits, FrameView, IsDeltaOf, undo, undo_all}
use Rattle.hp_tape.proofs.Leads.{all-latest, all_fit-latest, undo_all-append}

-- what a step of undoing keeps
pub record IsUnwound (l : LayoutParts) (deltas : List Delta) (now first : FrameView) : Type 0 where
  pub fits : AllFit Fits undo deltas now
  pub numbers : AllByRecursion (IsDeltaOf l) deltas
  pub ends : undo_all undo deltas now ≡ first

-- the latest delta
pub record IsLatest (l : LayoutParts) (delta : Delta) (now : FrameView) : Type 0 where
  pub fits : Fits delta now
  pub numbers : IsDeltaOf l delta

-- the latest delta fits, and its numbers are in the layout
pub latest : (l : LayoutParts) (all deltas : List Delta) (delta : Delta) (now first : FrameView)
    → IsUnwound l all now first → all ≡ deltas ++ delta ∷ [] → IsLatest l delta now
latest l all deltas delta now first u is = record {
  fits =
      (all_fit-latest Fits undo deltas delta now
      (subst (λ (ds : List Delta). AllFit Fits undo ds now) is u.fits)).0;
  numbers =
      (all-latest (IsDeltaOf l) deltas delta
      (subst (λ (ds : List Delta). AllByRecursion (IsDeltaOf l) ds) is u.numbers)).0;
}

-- the others, when the latest is undone
pub unwound : (l : LayoutParts) (all deltas : List Delta) (delta : Delta) (now new first : FrameView)
    → IsUnwound l all now first → all ≡ deltas ++ delta ∷ [] → new ≡ undo delta now
    → IsUnwound l deltas new first
unwound l all deltas delta now new first u is undone =
    subst (λ (w : FrameView). IsUnwound l deltas w first) (sym undone) (record {
      fits =
          (all_fit-latest Fits undo deltas delta now
          (subst (λ (ds : List Delta). AllFit Fits undo ds now) is u.fits)).1;
      numbers =
          (all-latest (IsDeltaOf l) deltas delta
          (subst (λ (ds : List Delta). AllByRecursion (IsDeltaOf l) ds) is u.numbers)).1;
      ends = rw (← undo_all-append undo deltas (delta ∷ []) now, ← is) u.ends;
    })

-- ---- a tape's deltas past a mark

pub past-length : (mark : ℕ) (all deltas : List Delta) (delta : Delta) → mark < length all
    → all ≡ deltas ++ delta ∷ [] → mark ≤ length deltas
past-length mark all deltas delta more is =
    omega (arith, more, ap (λ (ds : List Delta). length ds) is, length-append deltas (delta ∷ []))

pub past-drop : (mark : ℕ) (all deltas : List Delta) (delta : Delta) → mark < length all
    → all ≡ deltas ++ delta ∷ [] → drop mark all ≡ drop mark deltas ++ delta ∷ []
past-drop mark all deltas delta more is =
    rw is (drop-append-le mark deltas (delta ∷ []) (past-length mark all deltas delta more is))

pub past-take : (mark : ℕ) (all deltas : List Delta) (delta : Delta) → mark < length all
    → all ≡ deltas ++ delta ∷ [] → take mark deltas ≡ take mark all
past-take mark all deltas delta more is =
    sym (rw is (take-append-le mark deltas (delta ∷ []) (past-length mark all deltas delta more is)))
