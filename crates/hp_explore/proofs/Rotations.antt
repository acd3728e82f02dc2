-- The order in which a search tries the processors: each number below theirs is that of one.
use Rattle.std.proofs.Common.{◌≡◌, ℕ, ◌+◌, ◌-◌, ◌%◌, ◌<◌, ◌≤◌, Bool, true, false, ap, sym, ◌∙◌, arith, cond, refl, inl, inr}
use Rattle.std.specs.Prelude.{nat_lt}
use Rattle.std.proofs.lemmas.Bool.{cases_lt, le-ltb, lt-ltb, ltb-true}
use Rattle.std.proofs.lemmas.Nat.{mod_below}
use Rattle.hp_schedules.specs.Digests.{mixed}
use Rattle.hp_explore.specs.Searches.{cpu_at, first_at, number_at, number_of, turn_of}

first_less : (n seed depth : ℕ) → 0 < n → first_at n seed depth < n
first_less n seed depth some = by_size (nat_lt seed n) refl
  where
    by_size : (b : Bool) → nat_lt seed n ≡ b → cond b seed (mixed seed depth % n) < n
    by_size true less = ltb-true seed n less
    by_size false more = mod_below (mixed seed depth) n some

-- ---- one first processor

turn_early : (n first k : ℕ) → k < n - first → turn_of n first k ≡ first + k
turn_early n first k early =
    ap (λ (b : Bool). cond b (first + k) (k - (n - first))) (lt-ltb k (n - first) early)

turn_late : (n first k : ℕ) → n - first ≤ k → turn_of n first k ≡ k - (n - first)
turn_late n first k late =
    ap (λ (b : Bool). cond b (first + k) (k - (n - first))) (le-ltb k (n - first) late)

number_early : (n first cpu : ℕ) → first ≤ cpu → number_of n first cpu ≡ cpu - first
number_early n first cpu from =
    ap (λ (b : Bool). cond b (cpu + (n - first)) (cpu - first)) (le-ltb cpu first from)

number_late : (n first cpu : ℕ) → cpu < first → number_of n first cpu ≡ cpu + (n - first)
number_late n first cpu below =
    ap (λ (b : Bool). cond b (cpu + (n - first)) (cpu - first)) (lt-ltb cpu first below)

number_less : (n first cpu : ℕ) → first < n → cpu < n → number_of n first cpu < n
number_less n first cpu within less = elim (cases_lt cpu first) [
  | inl below ↦ omega (arith, within, below, number_late n first cpu below)
  | inr from ↦
      let at_least : first ≤ cpu = omega (arith, from) in
      omega (arith, less, number_early n first cpu at_least)
]

turn_number : (n first cpu : ℕ) → first < n → cpu < n → turn_of n first (number_of n first cpu) ≡ cpu
turn_number n first cpu within less = elim (cases_lt cpu first) [
  | inl below ↦
      let is = number_late n first cpu below in
      turn_late n first (number_of n first cpu) (omega (arith, is)) ∙ omega (arith, is)
  | inr from ↦
      let is = number_early n first cpu (omega (arith, from)) in
      turn_early n first (number_of n first cpu) (omega (arith, is, from, less)) ∙ omega (arith, is, from)
]

turn_less : (n first k : ℕ) → first < n → k < n → turn_of n first k < n
turn_less n first k within less = elim (cases_lt k (n - first)) [
  | inl early ↦ omega (arith, within, early, turn_early n first k early)
  | inr late ↦
      let from : n - first ≤ k = omega (arith, late) in
      omega (arith, less, turn_late n first k from)
]

number_turn : (n first k : ℕ) → first < n → k < n → number_of n first (turn_of n first k) ≡ k
number_turn n first k within less = elim (cases_lt k (n - first)) [
  | inl early ↦
      let is = turn_early n first k early in
      number_early n first (turn_of n first k) (omega (arith, is)) ∙ omega (arith, is)
  | inr late ↦
      let is = turn_late n first k (omega (arith, late)) in
      number_late n first (turn_of n first k) (omega (arith, is, less, within))
      ∙ omega (arith, is, late, less, within)
]

-- ---- at a place

-- the processor that is tried next there
pub tried_there : (n seed depth len k cpu : ℕ) → k < n → len ≡ depth → cpu ≡ cpu_at n seed len k
    → (cpu < n) × (number_at n seed depth cpu ≡ k)
tried_there n seed depth len k cpu less long is = rw (is, long) (
  turn_less n (first_at n seed depth) k within less,
  number_turn n (first_at n seed depth) k within less,
)
  where
    within : first_at n seed depth < n
    within = first_less n seed depth (omega (arith, less))

pub number_within : (n seed depth cpu : ℕ) → cpu < n → number_at n seed depth cpu < n
number_within n seed depth cpu less =
    number_less n (first_at n seed depth) cpu (first_less n seed depth (omega (arith, less))) less

-- two processors have two numbers
pub same_cpu : (n seed depth a b : ℕ) → a < n → b < n → number_at n seed depth a ≡ number_at n seed depth b
    → a ≡ b
same_cpu n seed depth a b less other same =
    sym (turn_number n first a within less) ∙ (ap (turn_of n first) same ∙ turn_number n first b within other)
  where
    first : ℕ
    first = first_at n seed depth

    within : first < n
    within = first_less n seed depth (omega (arith, less))

-- with the seed 0, each processor's number is its own
pub own_number : (n depth cpu : ℕ) → 0 < n → number_at n 0 depth cpu ≡ cpu
own_number n depth cpu some =
    ap (λ (b : Bool). number_of n (cond b 0 (mixed 0 depth % n)) cpu) (lt-ltb 0 n some)
    ∙ (number_early n 0 cpu (omega arith) ∙ omega arith)
