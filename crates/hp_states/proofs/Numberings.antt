-- Lists by number, as entries make them: each from the list of an earlier number.
use Rattle.std.proofs.Common.{◌≡◌, ℕ, zero, suc, ◌+◌, ◌<◌, List, [], ◌∷◌, ◌++◌, length, get_or, IfNone, IfSome, Option, Some, None, slice_get, refl, ap, sym, subst, arith, inl, inr}
use Rattle.std.specs.Prelude.{fold}
use Rattle.std.specs.Bool.{nat_lt}
use Rattle.std.specs.Option.{is_some}
use Rattle.std.proofs.lemmas.Bool.{ltb-false, ltb-true}
use Rattle.std.proofs.lemmas.List.{length_push}
use Rattle.std.proofs.lemmas.List.Sums.{fold_push}
use Rattle.std.proofs.lemmas.Option.{get_or_from_slice_get, same_Some, slice_get-get_or, slice_get_read, slice_get_within}
use Rattle.hp_laws.proofs.Lists.{get_end, get_push_cases, get_some}
use Rattle.hp_schedules.proofs.Counting.{get_longer}
use Rattle.hp_states.specs.Interned.{IsMadeOf, KeepNumbers, StandOnEarlier, lists_from, with_entry}

module _ {E X : Type 0} (below : E → ℕ) (put : E → List X → List X) where
  -- a list keeps its number
  stays : (entries : List E) (lists : List (List X)) (n : ℕ) (xs : List X) → slice_get lists n ≡ Some xs
      → slice_get (fold (with_entry below put) lists entries) n ≡ Some xs
  stays [] lists n xs h = h
  stays (e ∷ entries) lists n xs h =
      stays entries (with_entry below put lists e) n xs (get_longer lists _ n xs h)

  many : (entries : List E) (lists : List (List X))
      → length (fold (with_entry below put) lists entries) ≡ length lists + length entries
  many [] lists = omega arith
  many (e ∷ entries) lists = grind (arith, many entries (with_entry below put lists e), length_push)

  pub lists_many : (entries : List E) → length (lists_from below put entries) ≡ length entries + 1
  lists_many entries = omega (arith, many entries ([] ∷ []))

  -- an entry's list has its number
  made_in : (entries : List E) (lists : List (List X)) (i : ℕ) (e : E) → slice_get entries i ≡ Some e
      → ((k : ℕ) (f : E) → slice_get entries k ≡ Some f → below f < length lists + k)
      → IsMadeOf below put (fold (with_entry below put) lists entries) (length lists + i) e
  made_in [] lists i e h within = absurd cc
  made_in (f ∷ entries) lists zero e h within =
      subst (λ (x : E).
      IsMadeOf below put (fold (with_entry below put) (with_entry below put lists f) entries)
      (length lists + 0) x) (same_Some f e h) (
        before,
        stays entries (with_entry below put lists f) (below f) before
            (get_longer lists _ (below f) before
            (slice_get-get_or lists (below f) [] (omega (arith, within 0 f refl)))),
        stays entries (with_entry below put lists f) (length lists + 0) (put f before)
            (rw none (get_end lists (put f before))),
      )
    where
      before : List X
      before = get_or lists (below f) []

      none : length lists + 0 ≡ length lists
      none = omega arith
  made_in (f ∷ entries) lists (suc i) e h within =
      let one : List X = put f (get_or lists (below f) []) in
      subst (λ (n : ℕ).
      IsMadeOf below put (fold (with_entry below put) (with_entry below put lists f) entries) n e)
      (omega (arith, length_push lists one))
      (made_in entries (with_entry below put lists f) i e h
      (λ k x found. omega (arith, within (suc k) x found, length_push lists one)))

  pub made_read : (entries : List E) (number i : ℕ) (e : E) → StandOnEarlier below entries
      → slice_get entries i ≡ Some e → number ≡ i + 1
      → IsMadeOf below put (lists_from below put entries) number e
  made_read entries number i e stand h is =
      subst (λ (n : ℕ). IsMadeOf below put (lists_from below put entries) n e) (omega (arith, is))
      (made_in entries ([] ∷ []) i e h (λ k f found. omega (arith, stand k f found)))

  pub first_list : (entries : List E) → slice_get (lists_from below put entries) 0 ≡ Some []
  first_list entries = stays entries ([] ∷ []) 0 [] refl

  pub first_empty : (entries : List E) (number : ℕ) (xs : List X) → number ≡ 0
      → slice_get (lists_from below put entries) number ≡ Some xs → xs ≡ []
  first_empty entries number xs is h = cc (first_list entries)

  pub none_past : (entries : List E) (number : ℕ) (xs : List X) → length entries < number
      → slice_get (lists_from below put entries) number ≡ Some xs → xs ≡ []
  none_past entries number xs past h =
      let within = slice_get_within (lists_from below put entries) number xs h in
      absurd (omega (arith, within, past, lists_many entries))

  -- what `get` reads at the index before a number is the entry that made its list
  pub entry_read : {R : Type 0} (now : R → E) (entries shown : List E) (lists : List (List X)) (number i : ℕ)
      (r : Option R)
      → StandOnEarlier below entries → lists_from below put entries ≡ lists → shown ≡ entries
      → number ≡ i + 1 → is_some r ≡ nat_lt i (length shown)
      → IfSome r (λ x. now x ≡ get_or shown i (now x))
      → IfSome r (λ x. IsMadeOf below put lists number (now x))
  entry_read now entries shown lists number i None stand made same is within here = tt
  entry_read now entries shown lists number i (Some x) stand made same is within here =
      let less = ltb-true i (length shown) (sym within) in
      let read = slice_get_read shown (length shown) i (now x) refl less here in
      rw (← made) (made_read entries number i (now x) stand (rw same at read) is)

  -- and there is none past the last one
  pub none_read : {R : Type 0} (entries shown : List E) (lists : List (List X)) (number i : ℕ) (r : Option R)
      → lists_from below put entries ≡ lists → shown ≡ entries → number ≡ i + 1
      → is_some r ≡ nat_lt i (length shown)
      → IfNone r ((xs : List X) → slice_get lists number ≡ Some xs → xs ≡ [])
  none_read entries shown lists number i (Some x) made same is within = tt
  none_read entries shown lists number i None made same is within =
      let past = ltb-false i (length shown) (sym within) in
      λ xs h. none_past entries number xs (omega (arith, past, is, ap length same)) (rw made h)

  -- ---- one entry more

  pub list_added : (old new : List E) (e : E) → new ≡ old ++ e ∷ []
      → lists_from below put new
      ≡ lists_from below put old ++ put e (get_or (lists_from below put old) (below e) []) ∷ []
  list_added old new e is = rw is (fold_push (with_entry below put) ([] ∷ []) old e)

  pub stand_added : (old new : List E) (e : E) → new ≡ old ++ e ∷ [] → StandOnEarlier below old
      → below e < length (lists_from below put old) → StandOnEarlier below new
  stand_added old new e is stand within i f h =
      elim (get_push_cases old e f i (rw is at h)) [
        | inl before ↦ stand i f before
        | inr last ↦ rw (← last.1) (omega (arith, within, lists_many old, last.0))
      ]

  pub keep_added : (old new : List E) (e : E) → new ≡ old ++ e ∷ []
      → KeepNumbers (lists_from below put old) (lists_from below put new)
  keep_added old new e is n xs h =
      rw (list_added old new e is) (get_longer (lists_from below put old) _ n xs h)

  -- its list has the last number
  pub made_added : (old new : List E) (e : E) (number : ℕ) (xs : List X) → new ≡ old ++ e ∷ []
      → number ≡ length old + 1 → slice_get (lists_from below put old) (below e) ≡ Some xs
      → slice_get (lists_from below put new) number ≡ Some (put e xs)
  made_added old new e number xs is number_is h =
      let here : number ≡ length (lists_from below put old) = omega (arith, number_is, lists_many old) in
      rw (list_added old new e is, here, get_or_from_slice_get (lists_from below put old) (below e) xs [] h)
      (get_end (lists_from below put old) (put e xs))

-- ---- numbers that keep what they mean

pub keep_same : {X : Type 0} (old new : List (List X)) → new ≡ old → KeepNumbers old new
keep_same old new same n xs h = rw same h

pub keep_long : {X : Type 0} (old new : List (List X)) (n : ℕ) → KeepNumbers old new → n < length old
    → n < length new
keep_long old new n keep less =
    let at = get_some old n less in slice_get_within new n at.0 (keep n at.0 at.1)
