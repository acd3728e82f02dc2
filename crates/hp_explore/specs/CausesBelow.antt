-- The last refusals that the plans in progress met, as numbers. From two places with the same key and
-- the same numbers, the same further records give the same answers.
use Rattle.std.proofs.Common.{◌≡◌, ℕ, zero, suc, ◌<◌, ◌≤◌, List, [], ◌++◌, length, map, refl, ap, sym, subst, ◌∙◌, arith, inl, inr}
use Rattle.std.specs.Prelude.{◌⊎◌}
use Rattle.std.proofs.lemmas.Bool.{cases_lt}
use Rattle.std.proofs.lemmas.List.{length-append}
use Rattle.std.proofs.lemmas.Option.{slice_get_past}
use Rattle.hp_units.specs.declared.replies.Record.{Record}
use Rattle.hp_schedules.specs.Causes.{AnswerAlike, IsCaused}
use Rattle.hp_schedules.specs.Continuing.{anonymous_record}
use Rattle.hp_schedules.specs.LineAnswers.{answers_at}
use Rattle.hp_schedules.specs.Schedules.{Setting}
use Rattle.hp_schedules.proofs.Caused.{answer_alike}
use Rattle.hp_explore.specs.Aims.{HaveSameKey}
use Rattle.hp_schedules.specs.Starts.{same_starts}
use Rattle.hp_explore.specs.SteeredBelow.{steered_at}

-- two numbers per processor below `cpus`: the last refusal that its plan in progress met
abbrev pub AreCausedBelow : Setting → (cpus : ℕ) → List Record → List ℕ → Type 0
AreCausedBelow g zero news numbers = numbers ≡ []
AreCausedBelow g (suc cpus) news numbers =
    (rest : List ℕ) × (part : List ℕ) × (numbers ≡ rest ++ part) × (length part ≡ 2)
    × IsCaused g cpus news part × AreCausedBelow g cpus news rest

-- ---- the numbers of refusals

caused_long : (g : Setting) (h k : List Record) (n : ℕ) (xs ys : List ℕ) → AreCausedBelow g n h xs
    → AreCausedBelow g n k ys → length xs ≡ length ys
caused_long g h k zero xs ys a b = ap (λ (zs : List ℕ). length zs) (a ∙ sym b)
caused_long g h k (suc n) xs ys a b =
    omega (
      arith,
      ap (λ (zs : List ℕ). length zs) a.2,
      ap (λ (zs : List ℕ). length zs) b.2,
      length-append a.0 a.1,
      length-append b.0 b.1,
      a.3,
      b.3,
      caused_long g h k n a.0 b.0 a.5 b.5,
    )

-- if the lists of the numbers of refusals are equal at two places, the numbers are equal for each
-- processor
caused_at : (g : Setting) (h k : List Record) (n : ℕ) (xs ys : List ℕ) → xs ≡ ys
    → AreCausedBelow g n h xs → AreCausedBelow g n k ys → (cpu : ℕ) → cpu < n
    → (part : List ℕ) × IsCaused g cpu h part × IsCaused g cpu k part
caused_at g h k zero xs ys is a b cpu less = absurd (omega (arith, less))
caused_at g h k (suc n) xs ys is a b cpu less =
    by_place (cases_lt cpu n) (λ below. caused_at g h k n a.0 b.0 same.0 a.5 b.5 cpu below)
  where
    same : (a.0 ≡ b.0) × (a.1 ≡ b.1)
    same = same_starts a.0 a.1 b.0 b.1 (caused_long g h k n a.0 b.0 a.5 b.5) (sym a.2 ∙ (is ∙ b.2))

    by_place : (cpu < n) ⊎ (n ≤ cpu)
        → (cpu < n → (part : List ℕ) × IsCaused g cpu h part × IsCaused g cpu k part)
        → (part : List ℕ) × IsCaused g cpu h part × IsCaused g cpu k part
    by_place (inl below) before = before below
    by_place (inr past) before =
        let last : n ≡ cpu = omega (arith, less, past) in
        subst (λ (c : ℕ). (part : List ℕ) × IsCaused g c h part × IsCaused g c k part) last
        (a.1, a.4, subst (IsCaused g n k) (sym same.1) b.4)

-- ---- answers after the same further records

-- a processor without a script has no answers
none_at : (g : Setting) (cpu : ℕ) (news : List Record) → length g.scripts ≤ cpu → answers_at g cpu news ≡ []
unfolding answers_at
none_at g cpu news past = rw (slice_get_past g.scripts cpu past) refl

pub answered_alike : (g : Setting) (h k more others : List Record) (xs ys : List ℕ) → xs ≡ ys
    → HaveSameKey g h k → map anonymous_record more ≡ map anonymous_record others
    → AreCausedBelow g (length g.scripts) h xs → AreCausedBelow g (length g.scripts) k ys
    → (cpu : ℕ) → AnswerAlike g cpu h k more others
answered_alike g h k more others xs ys causes same are a b cpu = by_place (cases_lt cpu (length g.scripts))
  where
    by_place : (cpu < length g.scripts) ⊎ (length g.scripts ≤ cpu) → AnswerAlike g cpu h k more others
    by_place (inl below) =
        let steered = steered_at same.first_numbers same.second_numbers g h k same.steering same.steering refl
        same.first_steered same.second_steered cpu below in
        let caused = caused_at g h k (length g.scripts) xs ys causes a b cpu below in
        answer_alike same.first_numbers same.second_numbers g cpu h k more others steered.0 caused.0 steered.1
        steered.2 caused.1 caused.2 are
    by_place (inr past) = record {
      many = ap length (none_at g cpu h past ∙ sym (none_at g cpu k past));
      later = [];
      first = rw (none_at g cpu h past) (none_at g cpu (h ++ more) past);
      second = rw (none_at g cpu k past) (none_at g cpu (k ++ others) past);
    }
