-- The numbers of operations: no two are the same, and which operations keep theirs.
use Rattle.std.proofs.Common.{◌≡◌, ℕ, suc, ◌+◌, ◌*◌, ◌<◌, ◌≤◌, eqb, List, [], ◌∷◌, drop, Option, Some, None, slice_get, refl, ap, sym, ◌∙◌, arith, inl, inr}
use Rattle.std.specs.List.{AllByRecursion}
use Rattle.std.specs.Option.{option_map, option_map_or}
use Rattle.std.specs.Prelude.{nat_le}
use Rattle.std.proofs.lemmas.Bool.{cases_Bool, eqb-true, le-leb}
use Rattle.std.proofs.lemmas.Option.{same_Some}
use Rattle.hp_laws.specs.Numberings.{index_of, number_of, place_of}
use Rattle.hp_laws.specs.Renumbered.{IsOneToOne}
use Rattle.hp_laws.proofs.Options.{cases_option}

-- the entry at the index is the number
index_sound : (op : ℕ) (xs : List ℕ) (i : ℕ) → index_of op xs ≡ Some i → slice_get xs i ≡ Some op
index_sound op [] i is = absurd cc
index_sound op (x ∷ xs) i is =
    elim (cases_Bool (eqb x op)) [
      | inl e ↦ rw (← same_Some 0 i (rw e at is)) (ap Some (eqb-true x op e))
      | inr e ↦ elim (cases_option (index_of op xs)) [
        | inl none ↦ absurd (let no = rw (e, none) at is in cc)
        | inr j ↦ rw (← same_Some (suc j.0) i (rw (e, j.1) at is)) (index_sound op xs j.0 j.1)
      ]
    ]

place_sound : (fixed : ℕ) (latest : List ℕ) (op i : ℕ) → place_of fixed latest op ≡ Some i
    → slice_get latest i ≡ Some op
place_sound fixed latest op i is =
    elim (cases_Bool (nat_le op fixed))
    [ inl e ↦ absurd (let no = rw e at is in cc) | inr e ↦ index_sound op latest i (rw e at is) ]

pub differ : (fixed : ℕ) (latest : List ℕ) → IsOneToOne (number_of fixed latest)
differ fixed latest a b same =
    by_places (place_of fixed latest a) (place_of fixed latest b) refl refl same
  where
    by_places : (o u : Option ℕ) → place_of fixed latest a ≡ o → place_of fixed latest b ≡ u
        → option_map_or (λ place. 2 * place + 1) o (2 * a) ≡ option_map_or (λ place. 2 * place + 1) u (2 * b)
        → a ≡ b
    by_places None None first second are = omega (arith, are)
    by_places None (Some j) first second are = absurd (omega (arith, are))
    by_places (Some i) None first second are = absurd (omega (arith, are))
    by_places (Some i) (Some j) first second are =
        let place : i ≡ j = omega (arith, are) in
        same_Some a b
        (sym (place_sound fixed latest a i first)
        ∙ (ap (slice_get latest) place ∙ place_sound fixed latest b j second))

-- a number that is in no place
none_in : (op : ℕ) (xs : List ℕ) → AllByRecursion (λ other. other < op) xs → index_of op xs ≡ None
none_in op [] all = refl
none_in op (x ∷ xs) all =
    elim (cases_Bool (eqb x op))
    [ inl e ↦ absurd (omega (arith, all.0, eqb-true x op e)) | inr e ↦ rw (e, none_in op xs all.1) ]

pub later : (fixed : ℕ) (latest : List ℕ) (op : ℕ) → AllByRecursion (λ other. other < op) latest
    → number_of fixed latest op ≡ 2 * op
later fixed latest op all =
    elim (cases_Bool (nat_le op fixed)) [ inl e ↦ rw e | inr e ↦ rw (e, none_in op latest all) ]

pub fixed_number : (fixed : ℕ) (latest : List ℕ) (op : ℕ) → op ≤ fixed → number_of fixed latest op ≡ 2 * op
fixed_number fixed latest op below = rw (le-leb op fixed below)

-- ---- looking for the index

-- where it is from an index on
abbrev pub index_from : (from : ℕ) → (op : ℕ) → List ℕ → Option ℕ
index_from from op xs = option_map (λ (i : ℕ). from + i) (index_of op (drop from xs))
