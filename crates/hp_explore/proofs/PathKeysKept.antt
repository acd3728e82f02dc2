-- The keys of the places on a walk's path, as it goes on and back, and of those that are done.
use Rattle.std.proofs.Common.{◌≡◌, ℕ, ◌+◌, ◌≤◌, List, [], ◌∷◌, ◌++◌, length, Option, None, Some, get_or, take, ap, sym, subst, ◌∙◌, arith, inl, inr, Bool, true, false, slice_get}
use Rattle.std.proofs.lemmas.Bool.{cases_eq}
use Rattle.std.proofs.lemmas.List.{length_push, take-append-le, take_all}
use Rattle.std.proofs.lemmas.Option.{none-some, same_Some}
use Rattle.hp_units.specs.declared.replies.Record.{Record}
use Rattle.hp_schedules.specs.Schedules.{Setting}
use Rattle.hp_explore.specs.Aims.{AimValue}
use Rattle.hp_explore.specs.DonePlaces.{IsDoneKey, AreDoneKeys}
use Rattle.hp_explore.specs.PathKeys.{ArePathKeys}
use Rattle.hp_explore.specs.Visited.{IsPlaceKey, no_stops}
use Rattle.hp_laws.proofs.Lists.{get_push_cases}
use Rattle.hp_states.specs.Codes.{IsFoundOrAdded}

-- none is kept
pub keys_none : (g : Setting) (aim : AimValue) (news : List Record) (keys : List (Option (List ℕ)))
    → ((calls : ℕ) → get_or keys calls None ≡ None) → ArePathKeys g aim news keys
keys_none g aim news keys none calls key here = absurd (none-some key (sym (none calls) ∙ here))

-- the path gets shorter, and the key of the place that is left is forgotten
pub keys_shorter : (g : Setting) (aim : AimValue) (news : List Record) (r : Record) (calls : ℕ)
    (old new : List (Option (List ℕ)))
    → calls ≡ length news + 1 → get_or new calls None ≡ None
    → ((at : ℕ) → (at ≡ calls → ⊥) → get_or new at None ≡ get_or old at None)
    → ArePathKeys g aim (news ++ r ∷ []) old → ArePathKeys g aim news new
keys_shorter g aim news r calls old new here none others are at key kept = elim (cases_eq at calls) [
  | inl same ↦
      absurd (none-some key (sym none ∙ (ap (λ (i : ℕ). get_or new i None) (sym same) ∙ kept)))
  | inr other ↦ before other
]
  where
    before : (at ≡ calls → ⊥) → (at ≤ length news) × IsPlaceKey g aim no_stops (take at news) key
    before other =
        let was = are at key (sym (others at other) ∙ kept) in
        let low : at ≤ length news = omega (arith, was.0, length_push news r, here, other) in
        (low, rw (take-append-le at news (r ∷ []) low) at was.1)

-- a key is kept for the place at which the walk is
pub key_here : (g : Setting) (aim : AimValue) (news : List Record) (calls : ℕ) (key : List ℕ)
    (old new : List (Option (List ℕ)))
    → calls ≡ length news → get_or new calls None ≡ Some key
    → ((at : ℕ) → (at ≡ calls → ⊥) → get_or new at None ≡ get_or old at None)
    → IsPlaceKey g aim no_stops news key → ArePathKeys g aim news old → ArePathKeys g aim news new
key_here g aim news calls key old new here kept others is are at k there = elim (cases_eq at calls) [
  | inl same ↦ (
    omega (arith, same, here),
    rw (
      take_all at news (omega (arith, same, here)),
      ← same_Some key k (sym kept ∙ (ap (λ (i : ℕ). get_or new i None) (sym same) ∙ there)),
    ) is,
  )
  | inr other ↦ are at k (sym (others at other) ∙ there)
]

-- ---- places that are done

pub done_added : (g : Setting) (aim : AimValue) (old new : List (List ℕ)) (key : List ℕ) (found : Bool)
    → AreDoneKeys g aim old → IsDoneKey g aim key → IsFoundOrAdded old new key found
    → AreDoneKeys g aim new
done_added g aim old new key true are done is = subst (AreDoneKeys g aim) (sym is.0) are
done_added g aim old new key false are done is =
    λ i k here.
    elim (get_push_cases old key k i (ap (λ (ks : List (List ℕ)). slice_get ks i) (sym is) ∙ here)) [
      | inl was ↦ are i k was
      | inr last ↦ subst (IsDoneKey g aim) last.1 done
    ]
