-- There is only one number of schedules of a kind.
use Rattle.std.proofs.Common.{◌≡◌, ℕ, ◌<◌, ◌≤◌, List, length, Option, Some, None, slice_get, refl, ap, sym, ◌∙◌, arith}
use Rattle.std.proofs.lemmas.Option.{same_Some, slice_get_within}
use Rattle.indexmap.proofs.IndexTableLemmas.Probe.{pigeonhole}
use Rattle.hp_laws.proofs.Lists.{get_some}
use Rattle.hp_schedules.specs.Orders.{AreSome, HasCount, HasMoreThan, Lists}

-- ---- two lists of the same schedules

-- the place in the one list of what stands at a place of the other
abbrev place_in : (P : List ℕ → Type 0) (xs ys : List (List ℕ)) → AreSome P xs → Lists P ys
    → (i : ℕ) (o : Option (List ℕ)) → slice_get xs i ≡ o → ℕ
place_in P xs ys a b i None e = 0
place_in P xs ys a b i (Some s) e = (b.every s (a.each i s e)).0

place_is : (P : List ℕ → Type 0) (xs ys : List (List ℕ)) (a : AreSome P xs) (b : Lists P ys) (i : ℕ)
    (o : Option (List ℕ)) (e : slice_get xs i ≡ o) (s : List ℕ)
    → o ≡ Some s → slice_get ys (place_in P xs ys a b i o e) ≡ Some s
place_is P xs ys a b i None e s is = absurd cc
place_is P xs ys a b i (Some t) e s is = (b.every t (a.each i t e)).1 ∙ is

no_longer : (P : List ℕ → Type 0) (xs ys : List (List ℕ)) → AreSome P xs → Lists P ys → length xs ≤ length ys
no_longer P xs ys a b = pigeonhole (length xs) (length ys) f low apart
  where
    f : ℕ → ℕ
    f i = place_in P xs ys a b i (slice_get xs i) refl

    there : (i : ℕ) (s : List ℕ) → slice_get xs i ≡ Some s → slice_get ys (f i) ≡ Some s
    there i s is = place_is P xs ys a b i (slice_get xs i) refl s is

    low : (i : ℕ) → i < length xs → f i < length ys
    low i less = let s = get_some xs i less in slice_get_within ys (f i) s.0 (there i s.0 s.1)

    apart : (i j : ℕ) → i < length xs → j < length xs → f i ≡ f j → i ≡ j
    apart i j li lj same =
        let s = get_some xs i li in
        let t = get_some xs j lj in
        let both : s.0 ≡ t.0 =
        same_Some s.0 t.0 (sym (there i s.0 s.1) ∙ (ap (slice_get ys) same ∙ there j t.0 t.1)) in
        a.once i j t.0 (s.1 ∙ ap Some both) t.1

pub only_count : (P : List ℕ → Type 0) (m n : ℕ) → HasCount P m → HasCount P n → m ≡ n
only_count P m n a b =
    let le = no_longer P a.0 b.0 (record { each = a.1.each; once = a.1.once }) b.1 in
    let ge = no_longer P b.0 a.0 (record { each = b.1.each; once = b.1.once }) a.1 in
    omega (arith, a.2, b.2, le, ge)

-- where there are no more than a limit, there are not more
pub no_more : (P : List ℕ → Type 0) (m limit : ℕ) → m ≤ limit → HasCount P m → HasMoreThan P limit → ⊥
no_more P m limit within counted more =
    omega (arith, within, counted.2, more.2, no_longer P more.0 counted.0 more.1 counted.1)
