-- Lists that are compared by `==`.
use Rattle.std.proofs.Common.{◌≡◌, ◌≢◌, ℕ, List, Bool, true, false, Option, Some, Decides, MatchBool, ap, nat_eq, refl, rules, ◌&&◌}
use Rattle.std.specs.Cmp.Lexicographic.{pointwise, pointwise_decides}
use Rattle.std.specs.Option.{option_eq}
use Rattle.hp_units.specs.declared.rows.Claim.{Claim}
use Rattle.hp_units.specs.declared.rows.Row.{Row}
use Rattle.hp_units.specs.declared.rows.Zone.{Zone}
use Rattle.hp_units.specs.contracts.rows.ClaimPartialEq.TheImpl as claim
use Rattle.hp_units.specs.contracts.rows.RowPartialEq.TheImpl as row
use Rattle.hp_units.specs.contracts.rows.ZonePartialEq.TheImpl as zone
use Rattle.std.proofs.lemmas.Bool.{false≢true}
use Rattle.std.proofs.lemmas.Bool.Decides.{Decides-eqb}
use Rattle.std.proofs.lemmas.Slice.Eq.{slice_eq-Decides}

told : {P : Type 0} (r : Bool) → Decides r P → MatchBool r P (P → ⊥)
told true d = d.0 refl
told false d = λ same. false≢true (d.1 same)

-- `==` decides whether two lists are the same, if `==` of their items decides it for these
pub lists_told : {A : Type 0} {E : A → A → Bool} → ((x y : A) → Decides (E x y) (x ≡ y)) → (xs ys : List A)
    → (r : Bool) → r ≡ pointwise E xs ys → MatchBool r (xs ≡ ys) (xs ≢ ys)
lists_told decides xs ys r is = told r (slice_eq-Decides decides xs ys r is)

pub options_decided : {A : Type 0} {E : A → A → Bool} → ((x y : A) → Decides (E x y) (x ≡ y))
    → (x y : Option A) → Decides (option_eq E x y) (x ≡ y)
options_decided decides (Some x) (Some y) = search (decides x y, rules)
options_decided decides _ _ = search rules

pub numbers_decided : (xs ys : List ℕ) → Decides (pointwise nat_eq xs ys) (xs ≡ ys)
numbers_decided xs ys = pointwise_decides Decides-eqb xs ys

zones_decided : (x y : Zone) → Decides (zone.ghosts.eq x y) (x ≡ y)
zones_decided x y = search rules

claims_decided : (x y : Claim) → Decides (claim.ghosts.eq x y) (x ≡ y)
claims_decided x y = search rules

both_decided : {P Q : Type 0} (a b : Bool) → Decides a P → Decides b Q → Decides (a && b) (P × Q)
both_decided true b p q = (λ t. (p.0 refl, q.0 t), λ both. q.1 both.1)
both_decided false b p q = (λ t. absurd (false≢true t), λ both. absurd (false≢true (p.1 both.0)))

pub rows_decided : (x y : Row) → Decides (row.ghosts.eq x y) (x ≡ y)
rows_decided x y =
    let parts = both_decided _ _ (search rules) (both_decided _ _
    (options_decided zones_decided x.zone y.zone) (options_decided claims_decided x.claim y.claim)) in (
      λ same. let p = parts.0 same in search (p, rules),
      λ equal. parts.1 (
        ap (λ (r : Row). r.state) equal,
        (ap (λ (r : Row). r.zone) equal, ap (λ (r : Row). r.claim) equal),
      ),
    )
