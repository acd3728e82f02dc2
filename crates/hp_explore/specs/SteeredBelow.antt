-- The numbers of the processors' positions, compared at two places processor by processor.
use Rattle.std.proofs.Common.{◌≡◌, ℕ, zero, suc, ◌<◌, ◌≤◌, List, ◌++◌, length, ap, sym, subst, ◌∙◌, append_assoc, arith, inl, inr}
use Rattle.std.specs.Prelude.{◌⊎◌}
use Rattle.std.proofs.lemmas.Bool.{cases_lt}
use Rattle.hp_units.specs.declared.replies.Record.{Record}
use Rattle.hp_schedules.specs.Cursors.{IsSteered}
use Rattle.hp_schedules.specs.Schedules.{Setting}
use Rattle.hp_schedules.proofs.Steering.{parts_apart}
use Rattle.hp_explore.specs.Aims.{AreSteered}

-- two equal lists, each of two parts and a rest, stay equal when the second part is joined to the rest
regrouped : (xs ys a b c d rest more : List ℕ) → xs ≡ a ++ b → ys ≡ c ++ d → xs ++ rest ≡ ys ++ more
    → a ++ (b ++ rest) ≡ c ++ (d ++ more)
regrouped xs ys a b c d rest more first second is =
    sym (append_assoc a b rest)
    ∙ (ap (λ (zs : List ℕ). zs ++ rest) (sym first)
    ∙ (is ∙ (ap (λ (zs : List ℕ). zs ++ more) second ∙ append_assoc c d more)))

-- two equal lists begin with the numbers of the processors' positions at two places. Then these
-- numbers are equal, and so is the rest of the lists
pub steered_apart : (p q : ℕ → ℕ) (g : Setting) (h k : List Record) (n : ℕ) (xs ys rest more : List ℕ)
    → n ≤ length g.scripts
    → AreSteered p g n h xs → AreSteered q g n k ys → xs ++ rest ≡ ys ++ more → (xs ≡ ys) × (rest ≡ more)
steered_apart p q g h k zero xs ys rest more within a b is =
    (a ∙ sym b, ap (λ (zs : List ℕ). zs ++ rest) (sym a) ∙ (is ∙ ap (λ (zs : List ℕ). zs ++ more) b))
steered_apart p q g h k (suc n) xs ys rest more within a b is =
    joined (steered_apart p q g h k n a.0 b.0 (a.1 ++ rest) (b.1 ++ more) (omega (arith, within)) a.4 b.4
    (regrouped xs ys a.0 a.1 b.0 b.1 rest more a.2 b.2 is))
  where
    joined : (a.0 ≡ b.0) × (a.1 ++ rest ≡ b.1 ++ more) → (xs ≡ ys) × (rest ≡ more)
    joined before =
        let last = parts_apart p q g n h k a.1 b.1 rest more (omega (arith, within)) a.3 b.3 before.1 in (
          a.2 ∙ (ap (λ (zs : List ℕ). zs ++ a.1) before.0
              ∙ (ap (λ (zs : List ℕ). b.0 ++ zs) last.0 ∙ sym b.2)),
          last.1,
        )

-- if the lists of the numbers of positions are equal at two places, the numbers are equal for each
-- processor
steered_below : (p q : ℕ → ℕ) (g : Setting) (h k : List Record) (n : ℕ) (xs ys : List ℕ)
    → n ≤ length g.scripts → xs ≡ ys
    → AreSteered p g n h xs → AreSteered q g n k ys → (cpu : ℕ) → cpu < n
    → (part : List ℕ) × IsSteered p g cpu h part × IsSteered q g cpu k part
steered_below p q g h k zero xs ys all is a b cpu less = absurd (omega (arith, less))
steered_below p q g h k (suc n) xs ys all is a b cpu less =
    by_place (cases_lt cpu n) (λ below. steered_below p q g h k n a.0 b.0 within same.0 a.4 b.4 cpu below)
  where
    within : n ≤ length g.scripts
    within = omega (arith, all)

    same : (a.0 ≡ b.0) × (a.1 ≡ b.1)
    same =
        let before = steered_apart p q g h k n a.0 b.0 a.1 b.1 within a.4 b.4 (sym a.2 ∙ (is ∙ b.2)) in
        (before.0, before.1)

    by_place : (cpu < n) ⊎ (n ≤ cpu)
        → (cpu < n → (part : List ℕ) × IsSteered p g cpu h part × IsSteered q g cpu k part)
        → (part : List ℕ) × IsSteered p g cpu h part × IsSteered q g cpu k part
    by_place (inl below) before = before below
    by_place (inr past) before =
        let last : n ≡ cpu = omega (arith, less, past) in
        subst (λ (c : ℕ). (part : List ℕ) × IsSteered p g c h part × IsSteered q g c k part) last
        (a.1, a.3, subst (IsSteered q g n k) (sym same.1) b.3)

pub steered_at : (p q : ℕ → ℕ) (g : Setting) (h k : List Record) (xs ys : List ℕ) → xs ≡ ys
    → AreSteered p g (length g.scripts) h xs → AreSteered q g (length g.scripts) k ys → (cpu : ℕ)
    → cpu < length g.scripts → (part : List ℕ) × IsSteered p g cpu h part × IsSteered q g cpu k part
steered_at p q g h k xs ys is a b cpu less =
    steered_below p q g h k (length g.scripts) xs ys (omega arith) is a b cpu less
