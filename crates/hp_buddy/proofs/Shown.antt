-- What a table that keeps lists shows, and a new table, which keeps empty ones.
use Rattle.std.proofs.Common.{ℕ, zero, suc, ◌≡◌, ◌<◌, ◌+◌, List, [], ◌∷◌, length, get_or, replicate, sym, ◌∙◌, arith}
use Rattle.std.proofs.lemmas.List.{length-replicate}
use Rattle.hp_units.proofs.Lists.{at_replicate}
use Rattle.hp_buddy.specs.Rings.{Table, IsAlone, Member, Linked, Keeps, shown}
use Rattle.hp_buddy.proofs.Linking.{lists_are, Linked-empty}

-- a table that keeps these lists shows them
pub keeps : (frames : ℕ) (t : Table) (lens : List ℕ) (lists : List (List ℕ)) → Linked frames t lens lists
    → Keeps frames t lens
keeps frames t lens lists k = rw (lists_are frames t lens lists k) k

pub shows : (frames : ℕ) (t : Table) (lens : List ℕ) (lists : List (List ℕ)) → Linked frames t lens lists
    → shown frames t lens ≡ record { frame_count = frames; lists = lists }
shows frames t lens lists k = rw (lists_are frames t lens lists k)

-- a frame is on a list only if there is such a list
pub listed_in : (ls : List (List ℕ)) (l x : ℕ) → Member x (get_or ls l []) → l < length ls
listed_in [] l x m = absurd m
listed_in (xs ∷ ls) zero x m = omega arith
listed_in (xs ∷ ls) (suc l) x m = let lt = listed_in ls l x m in omega (arith, lt)

-- a new table keeps empty lists
pub Linked-new : (frames lists : ℕ) (t : Table) (lens : List ℕ) → IsAlone t (frames + lists)
    → lens ≡ replicate lists 0 → Linked frames t lens (replicate lists [])
Linked-new frames lists t lens alone e =
    let n : length lens ≡ lists = rw e (length-replicate lists 0) in
    Linked-empty frames t lens (replicate lists []) (length-replicate lists [] ∙ sym n)
    (λ l. at_replicate lists l []) (λ l. rw e (at_replicate lists l 0)) (rw n alone)
