-- Copies of the first items of a list.
use Rattle.std.proofs.Common.{◌≡◌, ℕ, ◌+◌, ◌<◌, List, [], ◌∷◌, ◌++◌, length, map, take, get_or, refl, arith}
use Rattle.std.proofs.lemmas.List.{length-map, length-take-le, map-append}
use Rattle.std.proofs.lemmas.Option.{slice_get_read}
use Rattle.hp_laws.proofs.Replays.{take_one}

-- one item more
pub copied_more : {A : Type 0} (all old new : List A) (at : ℕ) (item copy : A) → at < length all
    → item ≡ get_or all at item → old ≡ take at all → copy ≡ item → new ≡ old ++ copy ∷ []
    → new ≡ take (at + 1) all
copied_more {A} all old new at item copy less read so_far same is =
    rw (is, so_far, same, take_one all at item (slice_get_read all (length all) at item refl less read))

-- the value of one item more
pub mapped_more : {A B : Type 0} (f : A → B) (all : List A) (old new : List B) (at : ℕ) (item : A)
    → at < length all → item ≡ get_or all at item → old ≡ map f (take at all) → new ≡ old ++ f item ∷ []
    → new ≡ map f (take (at + 1) all)
mapped_more {A} {B} f all old new at item less read so_far is =
    rw (is, so_far, take_one all at item (slice_get_read all (length all) at item refl less read), map-append)

-- there is room for the value of one item more
pub has_room : {A B : Type 0} (f : A → B) (all : List A) (so_far : List B) (at capacity : ℕ)
    → at < length all → so_far ≡ map f (take at all) → capacity ≡ length all → length so_far < capacity
has_room {A} {B} f all so_far at capacity less is room = grind (arith, length-map, length-take-le)
