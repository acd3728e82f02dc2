-- A table that is copied entry by entry.
use Rattle.std.proofs.Common.{ℕ, ◌≡◌, ◌+◌, ◌*◌, ◌^◌, ◌<◌, ◌≤◌, Fits, w32, List, length, get_or, set, replicate, sym, ◌∙◌, ap, arith, inl, inr}
use Rattle.std.proofs.Math.Nat.{mul-le-mul}
use Rattle.std.proofs.Math.Pow.{pow_mono}
use Rattle.std.proofs.lemmas.Bool.{cases_eq}
use Rattle.std.proofs.lemmas.List.{ext_get_or, get_or-replicate, get_or-set_other, get_or-set_same, length-replicate, length-set}
use Rattle.hp_units.specs.LayoutParts.{LayoutParts, IsLayout}
use Rattle.hp_units.specs.Memory.{Blocks}
use Rattle.hp_memory.specs.Tables.{AreCopied}

-- nothing is copied to an empty table
pub copied-none : {A : Type 0} (past none : A) (size : ℕ) (wanted now : List A) → now ≡ replicate size none
    → length wanted ≡ size → AreCopied past none 0 wanted now
copied-none past none size wanted now e is = record {
  size = ap length e ∙ (length-replicate size none ∙ sym is);
  done = λ at low. absurd (omega arith);
  later =
      λ at low below.
      ap (λ xs. get_or xs at past) e ∙ get_or-replicate size at none past (omega (arith, below, is));
}

-- one entry more
pub copied-next : {A : Type 0} {past none : A} {number : ℕ} {wanted now new : List A} → number < length wanted
    → AreCopied past none number wanted now → new ≡ set now number (get_or wanted number past)
    → AreCopied past none (number + 1) wanted new
copied-next {past = past} {number = number} {wanted = wanted} {now = now} low c e = record {
  size = rw (e, length-set now number (get_or wanted number past), c.size);
  done = λ at below. ap (λ xs. get_or xs at past) e ∙ here at below;
  later = λ at above inside.
      ap (λ xs. get_or xs at past) e ∙ (get_or-set_other now number at (get_or wanted number past) past
      (λ same. omega arith) ∙ c.later at (omega arith) inside);
}
  where
    here : (at : ℕ) → at < number + 1
        → get_or (set now number (get_or wanted number past)) at past ≡ get_or wanted at past
    here at below = elim (cases_eq at number) [
      | inl same ↦
          rw same (get_or-set_same now number (get_or wanted number past) past (omega (arith, c.size, low)))
      | inr apart ↦
          get_or-set_other now number at (get_or wanted number past) past apart ∙ c.done at (omega arith)
    ]

-- all entries
pub copied-all : {A : Type 0} {past none : A} {number : ℕ} {wanted now : List A} → length wanted ≤ number
    → AreCopied past none number wanted now → now ≡ wanted
copied-all {past = past} {wanted = wanted} {now = now} all c =
    ext_get_or past now wanted c.size (λ at low. c.done at (omega (arith, low, c.size, all)))

-- ---- where a loop ends

-- all of so many times so many
pub product-end : {a b c d size : ℕ} (number : ℕ)
    → a ≡ c → b ≡ d → size ≡ c * d → a * b ≤ number → size ≤ number
product-end {b = b} {c = c} number e f is all = grind arith

-- one of so many times so many
pub product-low : {a b c d : ℕ} (number : ℕ) → a ≡ c → b ≡ d → number < a * b → number < c * d
product-low {b = b} {c = c} number e f low = grind arith

-- the number of all pageblocks fits a u32
pub pageblocks-fit : {a b : ℕ} {l : LayoutParts} → IsLayout l → a ≡ l.blocks → b ≡ l.pageblocks
    → Fits w32 (a * b)
pageblocks-fit {a = a} {b = b} layout e f =
    let each : 2 ^ layout.pageblocks.0 ≤ 2 ^ 6 = pow_mono layout.pageblocks.1 in
    let most : a * b ≤ 256 * 64 =
    mul-le-mul {n₁ = a} {m₁ = b} {n₂ = 256} {m₂ = 64} (omega (arith, e, layout.blocks))
    (omega (arith, f, each, layout.pageblocks.2)) in
    omega (arith, most)

-- blocks of the same rows
pub same_blocks : (v w : Blocks) → v.rows ≡ w.rows → v.auto ≡ w.auto → v ≡ w
same_blocks v w rows auto = rw (rows, auto)
