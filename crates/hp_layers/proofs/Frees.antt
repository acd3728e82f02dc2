-- What a frame's place shows about the free lists.
use Rattle.std.proofs.Common.{◌≡◌, ℕ, Bool, true, false, [], ◌∷◌, Option, Some, None, IfSome, refl, sym, ◌∙◌, ap, subst, inl, inr, ◌==◌, eq-eqb, ne_eqb}
use Rattle.std.specs.List.{list_any}
use Rattle.std.specs.Option.{option_map_or}
use Rattle.std.proofs.lemmas.Bool.{cases_eq, false_from_ne_true}
use Rattle.std.proofs.lemmas.Option.{same_Some}
use Rattle.hp_units.specs.declared.rows.Class.{Class}
use Rattle.hp_units.specs.declared.rows.Class.TheVariants.{Nu, Nm, Mm, IsoN, IsoM}
use Rattle.hp_units.specs.FreeAreas.{is_on}
use Rattle.hp_units.specs.Memory.{FreeAreas, free_list}
use Rattle.hp_units.specs.Refusals.{is_free_start}
use Rattle.hp_laws.proofs.ConsequencesCommits.{on_class}

-- the class and the order of the free block that starts at a frame, if one does
pub record IsPlaceOf (a : FreeAreas) (frame : ℕ) (place : Option (Class × ℕ)) : Type 0 where
  pub on : (class : Class) (order : ℕ) → is_on frame (free_list a class order) ≡ true
      → place ≡ Some (class, order)
  pub free : IfSome place (λ p. is_on frame (free_list a p.0 p.1) ≡ true)

-- ---- of all classes

no-class : (p : Class → Bool) → ((class : Class) → p class ≡ false)
    → list_any p (Nu ∷ Nm ∷ Mm ∷ IsoN ∷ IsoM ∷ []) ≡ false
no-class p none = rw (none Nu, none Nm, none Mm, none IsoN, none IsoM) refl

-- ---- the place of a frame

-- a frame on no list
off-list : (a : FreeAreas) (frame : ℕ) (class : Class) (order : ℕ) → IsPlaceOf a frame None
    → is_on frame (free_list a class order) ≡ false
off-list a frame class order h =
    false_from_ne_true (is_on frame (free_list a class order))
    (λ on. nothing (class, order) (h.on class order on))
  where
    nothing : (p : Class × ℕ) → None ≡ Some p → ⊥
    nothing p e = cc

-- a frame on one list is on no other
other-list : (a : FreeAreas) (frame : ℕ) (class : Class) (order : ℕ) (p : Class × ℕ)
    → IsPlaceOf a frame (Some p) → (p.1 ≡ order → ⊥) → is_on frame (free_list a class order) ≡ false
other-list a frame class order p h ne =
    false_from_ne_true (is_on frame (free_list a class order))
    (λ on. ne (ap (λ (q : Class × ℕ). q.1) (same_Some p (class, order) (h.on class order on))))

-- whether a free block of an order starts at a frame, by the frame's place
pub start-place : (a : FreeAreas) (frame order : ℕ) (place : Option (Class × ℕ)) → IsPlaceOf a frame place
    → option_map_or (λ p. p.1 == order) place false ≡ is_free_start a order frame
start-place a frame order None h =
    sym (no-class (λ class. is_on frame (free_list a class order)) (λ class. off-list a frame class order h))
start-place a frame order (Some p) h = elim (cases_eq p.1 order) [
  | inl same ↦
      eq-eqb p.1 order same
      ∙ sym (on_class (λ class. is_on frame (free_list a class order)) p.0
      (subst (λ (n : ℕ). is_on frame (free_list a p.0 n) ≡ true) same h.free))
  | inr ne ↦
      ne_eqb p.1 order ne ∙ sym (no-class (λ class. is_on frame (free_list a class order))
      (λ class. other-list a frame class order p h ne))
]
