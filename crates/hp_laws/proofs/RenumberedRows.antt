-- Rows in which operations have other numbers: what is read of them, and what is written.
use Rattle.std.proofs.Common.{◌≡◌, ℕ, false, List, [], ◌∷◌, map, Option, Some, None, refl, ap, ◌∙◌, eqb, eqb-true, inl, inr}
use Rattle.std.specs.Prelude.{is_some, unwrap_or}
use Rattle.std.specs.List.{list_any}
use Rattle.std.specs.Option.{option_map, option_map_or}
use Rattle.std.proofs.Math.ListN.{get_or-map}
use Rattle.std.proofs.lemmas.Bool.{cases_Bool, eq-eqb, eqb-false, false_from_ne_true}
use Rattle.std.proofs.lemmas.List.{map-set}
use Rattle.hp_units.specs.LayoutParts.{LayoutParts}
use Rattle.hp_units.specs.Memory.{Blocks, offline_row, row_of, with_row}
use Rattle.hp_units.specs.Rows.{blocks_of, going_blocks, is_absent, is_claimed, is_claimed_by, is_going, is_live, is_offline, is_online, zone_of_block}
use Rattle.hp_units.specs.declared.rows.Claim.{Claim}
use Rattle.hp_units.specs.declared.rows.Row.{Row}
use Rattle.hp_units.specs.declared.rows.Zone.TheVariants.{Normal as NormalZone}
use Rattle.hp_laws.specs.Renumbered.{IsOneToOne, renumbered_blocks, renumbered_claim, renumbered_row}

-- two numbers are equal exactly if those that they become are
pub number_same : (f : ℕ → ℕ) → IsOneToOne f → (a b : ℕ) → eqb (f a) (f b) ≡ eqb a b
number_same f one a b =
    elim (cases_Bool (eqb a b)) [
      | inl is ↦ rw is (eq-eqb (f a) (f b) (ap f (eqb-true a b is)))
      | inr is ↦ rw is (false_from_ne_true (eqb (f a) (f b))
          (λ same. eqb-false a b is (one a b (eqb-true (f a) (f b) same))))
    ]

-- ---- reading

-- a row of the state is the row with the other number
pub row_same : (f : ℕ → ℕ) (bs : Blocks) (block : ℕ)
    → row_of (renumbered_blocks f bs) block ≡ renumbered_row f (row_of bs block)
row_same f bs block = get_or-map (renumbered_row f) bs.rows block offline_row

pub claimed_row_same : (f : ℕ → ℕ) (claim : Option Claim)
    → is_some (option_map (renumbered_claim f) claim) ≡ is_some claim
claimed_row_same f None = refl
claimed_row_same f (Some claim) = refl

pub claimed_same : (f : ℕ → ℕ) (bs : Blocks) (block : ℕ)
    → is_claimed (row_of (renumbered_blocks f bs) block) ≡ is_claimed (row_of bs block)
claimed_same f bs block = ap is_claimed (row_same f bs block) ∙ claimed_row_same f (row_of bs block).claim

pub online_same : (f : ℕ → ℕ) (bs : Blocks) (block : ℕ)
    → is_online (row_of (renumbered_blocks f bs) block) ≡ is_online (row_of bs block)
online_same f bs block = ap is_online (row_same f bs block)

pub offline_same : (f : ℕ → ℕ) (bs : Blocks) (block : ℕ)
    → is_offline (row_of (renumbered_blocks f bs) block) ≡ is_offline (row_of bs block)
offline_same f bs block = ap is_offline (row_same f bs block)

pub absent_same : (f : ℕ → ℕ) (bs : Blocks) (block : ℕ)
    → is_absent (row_of (renumbered_blocks f bs) block) ≡ is_absent (row_of bs block)
absent_same f bs block = ap is_absent (row_same f bs block)

pub going_same : (f : ℕ → ℕ) (bs : Blocks) (block : ℕ)
    → is_going (row_of (renumbered_blocks f bs) block) ≡ is_going (row_of bs block)
going_same f bs block = ap is_going (row_same f bs block)

pub zone_same : (f : ℕ → ℕ) (bs : Blocks) (block : ℕ)
    → zone_of_block (renumbered_blocks f bs) block ≡ zone_of_block bs block
zone_same f bs block = ap (λ (row : Row). unwrap_or row.zone NormalZone) (row_same f bs block)

-- the operation's claim is that of its other number
claims_same : (f : ℕ → ℕ) → IsOneToOne f → (op : ℕ) (claim : Option Claim)
    → option_map_or (λ c. eqb c.op (f op)) (option_map (renumbered_claim f) claim) false
    ≡ option_map_or (λ c. eqb c.op op) claim false
claims_same f one op None = refl
claims_same f one op (Some claim) = number_same f one claim.op op

pub claimed_by_same : (f : ℕ → ℕ) → IsOneToOne f → (op : ℕ) (row : Row)
    → is_claimed_by (f op) (renumbered_row f row) ≡ is_claimed_by op row
claimed_by_same f one op row = claims_same f one op row.claim

any_claimed : (f : ℕ → ℕ) → IsOneToOne f → (op : ℕ) (rows : List Row)
    → list_any (is_claimed_by (f op)) (map (renumbered_row f) rows) ≡ list_any (is_claimed_by op) rows
any_claimed f one op [] = refl
any_claimed f one op (row ∷ rows) = rw (claimed_by_same f one op row) (rw (any_claimed f one op rows) refl)

-- an operation is live, and holds its blocks, by its other number
pub live_same : (f : ℕ → ℕ) → IsOneToOne f → (bs : Blocks) (op : ℕ)
    → is_live (renumbered_blocks f bs) (f op) ≡ is_live bs op
live_same f one bs op = any_claimed f one op bs.rows

pub blocks_same : (f : ℕ → ℕ) → IsOneToOne f → (l : LayoutParts) (bs : Blocks) (op : ℕ)
    → blocks_of l (renumbered_blocks f bs) (f op) ≡ blocks_of l bs op
blocks_same f one l bs op = simp (row_same f bs, claimed_by_same f one op)

pub going_blocks_same : (f : ℕ → ℕ) → IsOneToOne f → (l : LayoutParts) (bs : Blocks) (op : ℕ)
    → going_blocks l (renumbered_blocks f bs) (f op) ≡ going_blocks l bs op
going_blocks_same f one l bs op = simp (blocks_same f one l bs op, going_same f bs)

-- ---- writing

pub with_row_same : (f : ℕ → ℕ) (bs : Blocks) (block : ℕ) (row : Row)
    → with_row (renumbered_blocks f bs) block (renumbered_row f row)
    ≡ renumbered_blocks f (with_row bs block row)
with_row_same f bs block row = rw map-set
