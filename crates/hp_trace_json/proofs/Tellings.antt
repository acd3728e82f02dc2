-- How entries tell of more and more keys.
use Rattle.std.proofs.Common.{◌≡◌, ◌≢◌, ℕ, ◌+◌, inl, inr, Bool, true, false, cond, List, [], ◌∷◌, ◌++◌, ap, ◌∙◌, arith}
use Rattle.std.specs.List.{filter}
use Rattle.std.proofs.lemmas.Bool.{cases_eq}
use Rattle.std.proofs.lemmas.List.{append-nil}
use Rattle.std.proofs.lemmas.List.Elements.{filter-append}
use Rattle.hp_trace_json.specs.Told.{AddsIf, IsSilent, Tells, TellsBelow}

-- what is said of a key stays so if nothing is added of it, and nothing of it may come before
pub record Joins {T : Type 0} (Said Silent : List T → Type 0) : Type 0 where
  pub none : Silent []
  pub both : (xs ys : List T) → Silent xs → Silent ys → Silent (xs ++ ys)
  pub before : (xs ys : List T) → Said xs → Silent ys → Said (xs ++ ys)
  pub after : (xs ys : List T) → Silent xs → Said ys → Said (xs ++ ys)

-- ---- one key

silent_first : {T : Type 0} (is : T → Bool) (xs ys : List T) → IsSilent is xs
    → filter is (xs ++ ys) ≡ filter is ys
silent_first is xs ys silent = filter-append is xs ys ∙ ap (λ l. l ++ filter is ys) silent

pub silent_none : {T : Type 0} (is : T → Bool) (xs : List T) → xs ≡ [] → IsSilent is xs
silent_none is xs empty = ap (λ l. filter is l) empty

pub silent_both : {T : Type 0} (is : T → Bool) (xs ys : List T) → IsSilent is xs → IsSilent is ys
    → IsSilent is (xs ++ ys)
silent_both is xs ys first last = silent_first is xs ys first ∙ last

silent_last : {T : Type 0} (is : T → Bool) (xs ys : List T) → IsSilent is ys
    → filter is (xs ++ ys) ≡ filter is xs
silent_last is xs ys silent = rw (filter-append is xs ys, silent, append-nil (filter is xs))

pub key_joins : {T V : Type 0} (is : T → Bool) (Sets : V → V → T → Type 0) (was now : V)
    → Joins (Tells is Sets was now) (IsSilent is)
key_joins is Sets was now = grind (arith, silent_both, silent_last, silent_first)

filter_hit : {T : Type 0} (is : T → Bool) (x : T) → is x ≡ true → filter is (x ∷ []) ≡ x ∷ []
filter_hit is x hit = ap (λ (b : Bool). cond b (x ∷ []) []) hit

filter_miss : {T : Type 0} (is : T → Bool) (x : T) → is x ≡ false → filter is (x ∷ []) ≡ []
filter_miss is x miss = ap (λ (b : Bool). cond b (x ∷ []) []) miss

-- an entry of another key is nothing of this one
pub silent_added : {T V : Type 0} (is : T → Bool) (Is : T → Type 0) (Sets : V → V → T → Type 0) (was now : V)
    (old new : List T) → ((x : T) → Is x → is x ≡ false) → IsSilent is old → AddsIf Is Sets was now old new
    → IsSilent is new
silent_added is Is Sets was now old new other silent x = grind (arith, silent_first, filter_miss)

-- ---- the keys below a number

pub below_joins : {T : Type 0} (Said Silent : ℕ → List T → Type 0) → ((k : ℕ) → Joins (Said k) (Silent k))
    → (n : ℕ) → Joins (TellsBelow Said Silent n) (λ xs. (k : ℕ) → Silent k xs)
below_joins Said Silent joins n = grind arith

pub below_none : {T : Type 0} (Said Silent : ℕ → List T → Type 0) → ((k : ℕ) → Joins (Said k) (Silent k))
    → (xs : List T) → xs ≡ [] → TellsBelow Said Silent 0 xs
below_none Said Silent joins xs empty = grind arith

pub below_more : {T : Type 0} (Said Silent : ℕ → List T → Type 0) → ((k : ℕ) → Joins (Said k) (Silent k))
    → (n : ℕ) (xs ys : List T) → TellsBelow Said Silent n xs → Said n ys
    → ((k : ℕ) → k ≢ n → Silent k ys) → TellsBelow Said Silent (n + 1) (xs ++ ys)
below_more Said Silent joins n xs ys told said silent = grind (arith, cases_eq)

-- ---- keys that have a value each

pub values_join : {T V : Type 0} (is : ℕ → T → Bool) (Sets : V → V → T → Type 0) (was now : ℕ → V) (k : ℕ)
    → Joins (Tells (is k) Sets (was k) (now k)) (IsSilent (is k))
values_join is Sets was now k = key_joins (is k) Sets (was k) (now k)

pub values_none : {T V : Type 0} (is : ℕ → T → Bool) (Sets : V → V → T → Type 0) (was now : ℕ → V)
    → (xs : List T) → xs ≡ []
    → TellsBelow (λ k. Tells (is k) Sets (was k) (now k)) (λ k. IsSilent (is k)) 0 xs
values_none is Sets was now xs empty = grind (arith, below_none, values_join)

pub values_more : {T V : Type 0} (is : ℕ → T → Bool) (Sets : V → V → T → Type 0) (was now : ℕ → V)
    (Is : T → Type 0) (n : ℕ) (before after : V) (old new : List T) → before ≡ was n → after ≡ now n
    → ((x : T) → Is x → is n x ≡ true) → ((k : ℕ) (x : T) → k ≢ n → Is x → is k x ≡ false)
    → TellsBelow (λ k. Tells (is k) Sets (was k) (now k)) (λ k. IsSilent (is k)) n old
    → AddsIf Is Sets before after old new
    → TellsBelow (λ k. Tells (is k) Sets (was k) (now k)) (λ k. IsSilent (is k)) (n + 1) new
values_more is Sets was now Is n before after old new first last hit miss told (inl same) =
    grind (arith, append-nil, below_more, values_join)
values_more is Sets was now Is n before after old new first last hit miss told (inr one) =
    rw one.2 (below_more (λ k. Tells (is k) Sets (was k) (now k)) (λ k. IsSilent (is k)) (values_join is
    Sets was now) n old (one.0 ∷ []) told (rw (← first, ← last)
    (inr (one.0, one.1, filter_hit (is n) one.0 (hit one.0 one.3), one.4)))
    (λ k other. filter_miss (is k) one.0 (miss k one.0 other one.3)))
