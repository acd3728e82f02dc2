-- How many schedules there are in which each processor stands as often as wanted.
use Rattle.std.proofs.Common.{◌≡◌, ℕ, zero, suc, ◌+◌, ◌*◌, ◌<◌, ◌≤◌, Bool, true, false, cond, eqb, List, [], ◌∷◌, length, take, set, get_or, refl, ap, sym, subst, ◌∙◌, arith, inl, inr}
use Rattle.std.specs.Prelude.{◌⊎◌}
use Rattle.std.proofs.lemmas.Bool.{cases_Bool, cases_eq, cases_lt, eq-eqb, eqb-false, eqb-true}
use Rattle.std.proofs.lemmas.List.{get_or-set_same, get_or-set_other, get_or_past, take_all}
use Rattle.std.proofs.Math.Nat.{add-mul, mul_assoc, mul_left_comm}
use Rattle.std.proofs.lemmas.List.Sums.{sum_by-cons, sum_by-set, sum_by_more}
use Rattle.hp_schedules.specs.Orders.{HasCount}
use Rattle.hp_schedules.specs.Multinomials.{IsMultinomial, factorial, factorials, sum, turns_of}
use Rattle.hp_schedules.proofs.Counting.{Fronted, either_listed, fronted_listed, none_listed, same_count, this_listed}

-- each processor stands as often as its number says, and none past the last
abbrev pub HasTurns : List ℕ → List ℕ → Type 0
HasTurns ns s = (cpu : ℕ) → turns_of cpu s ≡ get_or ns cpu 0

-- one turn more in front
pub turns_cons : (cpu c : ℕ) (s : List ℕ) (own : Bool) → eqb c cpu ≡ own
    → turns_of cpu (c ∷ s) ≡ cond own 1 0 + turns_of cpu s
turns_cons cpu c s own is =
    sum_by-cons (λ (d : ℕ). cond (eqb d cpu) 1 0) c s ∙ ap (λ (b : Bool). cond b 1 0 + turns_of cpu s) is

-- ---- one turn less

-- a processor's number is one less in the list with it one less
less_sum : (ns : List ℕ) (c k n : ℕ) → c < length ns → get_or ns c 0 ≡ suc k → sum ns ≡ suc n
    → sum (set ns c k) ≡ n
less_sum ns c k n within is all = omega (arith, sum_by-set (λ (m : ℕ). m) ns c k 0 within, is, all)

less_factorials : (ns : List ℕ) (c k : ℕ) → c < length ns → get_or ns c 0 ≡ suc k
    → factorials ns ≡ suc k * factorials (set ns c k)
less_factorials [] c k within is = absurd (omega arith)
less_factorials (n ∷ ns) zero k within is =
    ap (λ (m : ℕ). factorial m * factorials ns) is ∙ mul_assoc (suc k) (factorial k) (factorials ns)
less_factorials (n ∷ ns) (suc c) k within is =
    rw (less_factorials ns c k (omega arith) is)
    (mul_left_comm (factorial n) (suc k) (factorials (set ns c k)))

-- another processor's number stays
other_stays : (ns : List ℕ) (c cpu k : ℕ) → eqb c cpu ≡ false → get_or (set ns c k) cpu 0 ≡ get_or ns cpu 0
other_stays ns c cpu k e = get_or-set_other ns c cpu k 0 (λ same. eqb-false c cpu e (sym same))

-- the schedules that begin with a processor are those with one turn of its less
front_to : (ns : List ℕ) (c k : ℕ) (s : List ℕ) → c < length ns → get_or ns c 0 ≡ suc k
    → Fronted c (HasTurns (set ns c k)) s → HasTurns ns s
front_to ns c k s within is h cpu =
    let turns : turns_of cpu (c ∷ h.0) ≡ get_or ns cpu 0 = elim (cases_Bool (eqb c cpu)) [
      | inl e ↦ subst (λ (d : ℕ). turns_of d (c ∷ h.0) ≡ get_or ns d 0) (eqb-true c cpu e)
          (omega (arith, turns_cons c c h.0 true (eq-eqb c c refl), h.2 c, get_or-set_same ns c k 0 within))
      | inr e ↦ omega (arith, turns_cons cpu c h.0 false e, h.2 cpu, other_stays ns c cpu k e)
    ] in
    rw h.1 turns

front_from : (ns : List ℕ) (c k : ℕ) (s t : List ℕ) → c < length ns → get_or ns c 0 ≡ suc k → s ≡ c ∷ t
    → HasTurns ns s → HasTurns (set ns c k) t
front_from ns c k s t within is front h cpu =
    elim (cases_Bool (eqb c cpu)) [
      | inl e ↦ (let turns = rw front at (h c) in rw (← eqb-true c cpu e)
          (omega (arith, turns_cons c c t true (eq-eqb c c refl), turns, get_or-set_same ns c k 0 within)))
      | inr e ↦ omega (arith, turns_cons cpu c t false e, rw front at (h cpu), other_stays ns c cpu k e)
    ]

-- ---- where no turn is left

none_at : (ns : List ℕ) (c : ℕ) → sum ns ≡ 0 → get_or ns c 0 ≡ 0
none_at [] c none = refl
none_at (n ∷ ns) zero none = omega (arith, sum_by-cons (λ (m : ℕ). m) n ns, none)
none_at (n ∷ ns) (suc c) none = none_at ns c (omega (arith, sum_by-cons (λ (m : ℕ). m) n ns, none))

none_factorials : (ns : List ℕ) → sum ns ≡ 0 → factorials ns ≡ 1
none_factorials [] none = refl
none_factorials (n ∷ ns) none =
    let both = sum_by-cons (λ (m : ℕ). m) n ns in
    let first : n ≡ 0 = omega (arith, both, none) in
    rw (first, none_factorials ns (omega (arith, both, none)))

none_sum : (ns : List ℕ) → ((c : ℕ) → get_or ns c 0 ≡ 0) → sum ns ≡ 0
none_sum [] none = refl
none_sum (n ∷ ns) none =
    omega (arith, sum_by-cons (λ (m : ℕ). m) n ns, none 0, none_sum ns (λ c. none (suc c)))

turned : (ns : List ℕ) (c : ℕ) (t : List ℕ) → HasTurns ns (c ∷ t) → 0 < get_or ns c 0
turned ns c t h = omega (arith, h c, turns_cons c c t true (eq-eqb c c refl))

only_empty : (ns : List ℕ) → sum ns ≡ 0 → HasCount (HasTurns ns) 1
only_empty ns none =
    same_count (λ s. s ≡ []) (HasTurns ns) 1 (λ s same cpu. rw same (sym (none_at ns cpu none))) empty
    (this_listed [])
  where
    empty : (s : List ℕ) → HasTurns ns s → s ≡ []
    empty [] h = refl
    empty (c ∷ t) h = absurd (let some = turned ns c t h in omega (arith, some, none_at ns c none))

-- ---- by the processor that comes first

-- there are as many schedules as the multinomial coefficient says
abbrev pub AreInterleaved : List ℕ → Type 0
AreInterleaved ns = (m : ℕ) × HasCount (HasTurns ns) m × IsMultinomial ns m

-- those that begin with a processor below a number
abbrev FirstBelow : List ℕ → (below : ℕ) → List ℕ → Type 0
FirstBelow ns below s = (c : ℕ) × (t : List ℕ) × (s ≡ c ∷ t) × (c < below) × HasTurns ns s

abbrev AreBelow : List ℕ → (below n : ℕ) → Type 0
AreBelow ns below n =
    (m : ℕ) × HasCount (FirstBelow ns below) m × (m * factorials ns ≡ sum (take below ns) * factorial n)

below_more : (ns : List ℕ) (c n : ℕ) → sum ns ≡ suc n → ((ms : List ℕ) → sum ms ≡ n → AreInterleaved ms)
    → c < length ns → AreBelow ns c n → AreBelow ns (c + 1) n
below_more ns c n all less within so_far = by_number (get_or ns c 0) refl
  where
    longer : sum (take (c + 1) ns) ≡ sum (take c ns) + get_or ns c 0
    longer = sum_by_more (λ (m : ℕ). m) ns c 0 within

    by_number : (k : ℕ) → get_or ns c 0 ≡ k → AreBelow ns (c + 1) n
    by_number zero is = (
      so_far.0,
      same_count (FirstBelow ns c) (FirstBelow ns (c + 1)) so_far.0 to from so_far.1,
      so_far.2
          ∙ ap (λ (m : ℕ). m * factorial n) (omega (arith, longer, is)),
    )
      where
        to : (s : List ℕ) → FirstBelow ns c s → FirstBelow ns (c + 1) s
        to s h = (h.0, h.1, h.2, omega (arith, h.3), h.4)

        from : (s : List ℕ) → FirstBelow ns (c + 1) s → FirstBelow ns c s
        from s h =
            let some : 0 < get_or ns h.0 0 = turned ns h.0 h.1 (rw h.2 at h.4) in (
              h.0,
              h.1,
              h.2,
              elim (cases_eq h.0 c)
                  [ inl same ↦ absurd (omega (arith, rw same at some)) | inr off ↦ omega (arith, h.3) ],
              h.4,
            )
    by_number (suc k) is =
        let one : AreInterleaved (set ns c k) = less (set ns c k) (less_sum ns c k n within is all) in (
          so_far.0 + one.0,
          same_count (λ s. FirstBelow ns c s ⊎ Fronted c (HasTurns (set ns c k)) s) (FirstBelow ns (c + 1))
              (so_far.0 + one.0) to from
              (either_listed (FirstBelow ns c) (Fronted c (HasTurns (set ns c k))) so_far.0 one.0 apart
              so_far.1 (fronted_listed c (HasTurns (set ns c k)) one.0 one.1)),
          product one.0 one.2,
        )
      where
        apart : (s : List ℕ) → FirstBelow ns c s → Fronted c (HasTurns (set ns c k)) s → ⊥
        apart s h f = let same : h.0 ≡ c = cc (h.2, f.1) in omega (arith, same, h.3)

        to : (s : List ℕ) → FirstBelow ns c s ⊎ Fronted c (HasTurns (set ns c k)) s → FirstBelow ns (c + 1) s
        to s h =
            elim h [
              | inl a ↦ (a.0, a.1, a.2, omega (arith, a.3), a.4)
              | inr b ↦ (c, b.0, b.1, omega arith, front_to ns c k s within is b)
            ]

        from : (s : List ℕ) → FirstBelow ns (c + 1) s
            → FirstBelow ns c s ⊎ Fronted c (HasTurns (set ns c k)) s
        from s h =
            elim (cases_lt h.0 c) [
              | inl l ↦ inl (h.0, h.1, h.2, l, h.4)
              | inr past ↦ (let same : h.0 ≡ c = omega (arith, past, h.3) in
                  let front = rw same at h.2 in
                  inr (h.1, front, front_from ns c k s h.1 within is front h.4))
            ]

        product : (m : ℕ) → m * factorials (set ns c k) ≡ factorial (sum (set ns c k))
            → (so_far.0 + m) * factorials ns ≡ sum (take (c + 1) ns) * factorial n
        product m times =
            rw (add-mul so_far.0 m (factorials ns), so_far.2, less_factorials ns c k within is)
            (rw (mul_left_comm m (suc k) (factorials (set ns c k)), times, less_sum ns c k n within is all)
            (rw (longer, is) (sym (add-mul (sum (take c ns)) (suc k) (factorial n)))))

below_all : (ns : List ℕ) (n : ℕ) → sum ns ≡ suc n → ((ms : List ℕ) → sum ms ≡ n → AreInterleaved ms)
    → (c : ℕ) → c ≤ length ns → AreBelow ns c n
below_all ns n all less zero within = grind (arith, none_listed)
below_all ns n all less (suc c) within =
    let one : c + 1 ≡ suc c = omega arith in
    rw (← one) (below_more ns c n all less (omega arith) (below_all ns n all less c (omega arith)))

-- ---- all

pub interleaved : (n : ℕ) (ns : List ℕ) → sum ns ≡ n → AreInterleaved ns
interleaved zero ns all = (1, only_empty ns all, omega (arith, none_factorials ns all, ap factorial all))
interleaved (suc n) ns all =
    let below : AreBelow ns (length ns) n =
    below_all ns n all (λ ms is. interleaved n ms is) (length ns) (omega arith) in (
      below.0,
      same_count (FirstBelow ns (length ns)) (HasTurns ns) below.0 (λ s h. h.4) from below.1,
      below.2
          ∙ (ap (λ (ms : List ℕ). sum ms * factorial n) (take_all (length ns) ns (omega arith))
          ∙ (ap (λ (m : ℕ). m * factorial n) all ∙ sym (ap factorial all))),
    )
  where
    from : (s : List ℕ) → HasTurns ns s → FirstBelow ns (length ns) s
    from [] h = absurd (let none : sum ns ≡ 0 = none_sum ns (λ c. sym (h c)) in omega (arith, none, all))
    from (c ∷ t) h =
        let some : 0 < get_or ns c 0 = turned ns c t h in (
          c,
          t,
          refl,
          elim (cases_lt c (length ns))
              [ inl l ↦ l | inr past ↦ absurd (omega (arith, some, get_or_past ns c 0 past)) ],
          h,
        )
