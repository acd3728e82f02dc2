-- What stays of a chain if the table changes elsewhere, and if a frame is put into the chain or
-- taken out.
use Rattle.std.proofs.Common.{ℕ, ◌≡◌, ◌≢◌, ◌⊎◌, inl, inr, List, [], ◌∷◌, ◌++◌, Some, length, refl, sym, ◌∙◌, ap}
use Rattle.hp_buddy.specs.Rings.{Table, Inserts, Removes, walk, Member, Absent, Distinct, Chain}

-- the last of xs, or d
abbrev pub last_or : ℕ → List ℕ → ℕ
last_or d [] = d
last_or d (x ∷ xs) = last_or x xs

-- the first of xs, or d
abbrev pub first_or : ℕ → List ℕ → ℕ
first_or d [] = d
first_or d (x ∷ xs) = x

-- a table that has the same at the nodes of a chain keeps the chain
pub chain_kept : (t u : Table) (list before : ℕ) (xs : List ℕ) (after : ℕ) → u.next before ≡ t.next before
    → ((x : ℕ) → Member x xs → u.next x ≡ t.next x) → ((x : ℕ) → Member x xs → u.prev x ≡ t.prev x)
    → u.prev after ≡ t.prev after → ((x : ℕ) → Member x xs → u.list x ≡ t.list x)
    → Chain t list before xs after → Chain u list before xs after
chain_kept t u list before [] after n ns ps p ls c = (n ∙ c.0, p ∙ c.1)
chain_kept t u list before (x ∷ xs) after n ns ps p ls c = (
  n ∙ c.0,
  ps x (inl refl) ∙ c.1,
  ls x (inl refl) ∙ c.2,
  chain_kept t u list x xs after (ns x (inl refl)) (λ y m. ns y (inr m)) (λ y m. ps y (inr m)) p
      (λ y m. ls y (inr m)) c.3,
)

-- the ends
pub chain_first : (t : Table) (list before : ℕ) (xs : List ℕ) (after : ℕ) → Chain t list before xs after
    → t.next before ≡ first_or after xs
chain_first t list before [] after c = c.0
chain_first t list before (x ∷ xs) after c = c.0

pub chain_last : (t : Table) (list before : ℕ) (xs : List ℕ) (after : ℕ) → Chain t list before xs after
    → t.prev after ≡ last_or before xs
chain_last t list before [] after c = c.1
chain_last t list before (x ∷ xs) after c = chain_last t list x xs after c.3

-- each frame of a chain is on its list
pub chain_list : (t : Table) (list before : ℕ) (xs : List ℕ) (after : ℕ) → Chain t list before xs after
    → (y : ℕ) → Member y xs → t.list y ≡ Some list
chain_list t list before [] after c y m = absurd m
chain_list t list before (x ∷ xs) after c y (inl e) = rw (← e) c.2
chain_list t list before (x ∷ xs) after c y (inr m) = chain_list t list x xs after c.3 y m

-- a walk over a chain gives its frames
pub walk-chain : (t : Table) (list before : ℕ) (xs : List ℕ) (after : ℕ) → Chain t list before xs after
    → walk t (length xs) (t.next before) ≡ xs
unfolding walk
walk-chain t list before [] after c = refl
walk-chain t list before (x ∷ xs) after c =
    rw (c.0) (ap (λ ys. x ∷ ys) (walk-chain t list x xs after c.3))

-- being absent, and being a member
pub absent_not : (y : ℕ) (xs : List ℕ) → Absent y xs → Member y xs → ⊥
absent_not y [] a m = m
absent_not y (x ∷ xs) a (inl e) = a.0 e
absent_not y (x ∷ xs) a (inr m) = absent_not y xs a.1 m

pub not_absent : (y : ℕ) (xs : List ℕ) → (Member y xs → ⊥) → Absent y xs
not_absent y [] h = tt
not_absent y (x ∷ xs) h = (λ e. h (inl e), not_absent y xs (λ m. h (inr m)))

pub Member-append_left : (y : ℕ) (xs ys : List ℕ) → Member y xs → Member y (xs ++ ys)
Member-append_left y [] ys m = absurd m
Member-append_left y (x ∷ xs) ys (inl e) = inl e
Member-append_left y (x ∷ xs) ys (inr m) = inr (Member-append_left y xs ys m)

pub Member-append_right : (y : ℕ) (xs ys : List ℕ) → Member y ys → Member y (xs ++ ys)
Member-append_right y [] ys m = m
Member-append_right y (x ∷ xs) ys m = inr (Member-append_right y xs ys m)

pub Member-append_cases : (y : ℕ) (xs ys : List ℕ) → Member y (xs ++ ys) → Member y xs ⊎ Member y ys
Member-append_cases y [] ys m = inr m
Member-append_cases y (x ∷ xs) ys (inl e) = inl (inl e)
Member-append_cases y (x ∷ xs) ys (inr m) =
    elim (Member-append_cases y xs ys m) [ inl a ↦ inl (inr a) | inr b ↦ inr b ]

pub Absent-append_left : (y : ℕ) (xs ys : List ℕ) → Absent y (xs ++ ys) → Absent y xs
Absent-append_left y xs ys a = not_absent y xs (λ m. absent_not y (xs ++ ys) a (Member-append_left y xs ys m))

pub Absent-append_right : (y : ℕ) (xs ys : List ℕ) → Absent y (xs ++ ys) → Absent y ys
Absent-append_right y xs ys a =
    not_absent y ys (λ m. absent_not y (xs ++ ys) a (Member-append_right y xs ys m))

pub Absent-append : (y : ℕ) (xs ys : List ℕ) → Absent y xs → Absent y ys → Absent y (xs ++ ys)
Absent-append y xs ys a b =
    not_absent y (xs ++ ys)
    (λ m. elim (Member-append_cases y xs ys m) [ inl k ↦ absent_not y xs a k | inr k ↦ absent_not y ys b k ])

pub Distinct-append_right : (xs ys : List ℕ) → Distinct (xs ++ ys) → Distinct ys
Distinct-append_right [] ys d = d
Distinct-append_right (x ∷ xs) ys d = Distinct-append_right xs ys d.1

-- one more number, which is none of them
pub Distinct-insert : (f : ℕ) (ys zs : List ℕ) → Absent f (ys ++ zs) → Distinct (ys ++ zs)
    → Distinct (ys ++ f ∷ zs)
Distinct-insert f [] zs a d = (a, d)
Distinct-insert f (y ∷ ys) zs a d = (
  Absent-append y ys (f ∷ zs) (Absent-append_left y ys zs d.0)
      (λ e. a.0 (sym e), Absent-append_right y ys zs d.0),
  Distinct-insert f ys zs a.1 d.1,
)

-- one number less
pub Distinct-remove : (f : ℕ) (ys zs : List ℕ) → Distinct (ys ++ f ∷ zs)
    → Absent f (ys ++ zs) × Distinct (ys ++ zs)
Distinct-remove f [] zs d = d
Distinct-remove f (y ∷ ys) zs d =
    let r = Distinct-remove f ys zs d.1 in
    let behind = Absent-append_right y ys (f ∷ zs) d.0 in (
      (λ e. behind.0 (sym e), r.0),
      (Absent-append y ys zs (Absent-append_left y ys (f ∷ zs) d.0) behind.1, r.1),
    )

pub last_or-cases : (d : ℕ) (xs : List ℕ) → (last_or d xs ≡ d) ⊎ Member (last_or d xs) xs
last_or-cases d [] = inl refl
last_or-cases d (x ∷ xs) = elim (last_or-cases x xs) [ inl e ↦ inr (inl (sym e)) | inr m ↦ inr (inr m) ]

pub first_or-cases : (d : ℕ) (xs : List ℕ) → (first_or d xs ≡ d) ⊎ Member (first_or d xs) xs
first_or-cases d [] = inl refl
first_or-cases d (x ∷ xs) = inr (inl refl)

-- one that is absent is not an end
pub not_last : (a d : ℕ) (xs : List ℕ) → d ≢ a → Absent a xs → last_or d xs ≢ a
not_last a d [] h n e = h e
not_last a d (x ∷ xs) h n e = not_last a x xs n.0 n.1 e

pub not_first : (a d : ℕ) (xs : List ℕ) → d ≢ a → Absent a xs → first_or d xs ≢ a
not_first a d [] h n e = h e
not_first a d (x ∷ xs) h n e = n.0 e

flip : (a b : ℕ) → a ≢ b → b ≢ a
flip a b h e = h (sym e)

member_not : (a x : ℕ) (xs : List ℕ) → Absent a xs → Member x xs → x ≢ a
member_not a x xs n m e = absent_not a xs n (rw (← e) m)

-- a frame put between two neighbours of a chain
pub chain_insert : (t u : Table) (list a : ℕ) (ys zs : List ℕ) (e f : ℕ)
    → Inserts t u list (last_or a ys) f (first_or e zs) → a ≢ f → e ≢ f → Absent f (ys ++ zs)
    → Absent a (ys ++ zs) → Absent e (ys ++ zs) → Distinct (ys ++ zs) → Chain t list a (ys ++ zs) e
    → Chain u list a (ys ++ f ∷ zs) e
chain_insert t u list a [] [] e f i af ef nf na ne d c =
    (i.next_before, i.prev_frame, i.list_frame, (i.next_frame, i.prev_after))
chain_insert t u list a [] (z ∷ zs) e f i af ef nf na ne d c = (
  i.next_before,
  i.prev_frame,
  i.list_frame,
  (
    i.next_frame,
    i.prev_after,
    i.list_same z nf.0 ∙ c.2,
    chain_kept t u list z zs e (i.next_same z na.0 nf.0)
        (λ x m. i.next_same x (member_not a x zs na.1 m) (member_not f x zs nf.1 m))
        (λ x m. i.prev_same x (member_not z x zs d.0 m) (member_not f x zs nf.1 m))
        (i.prev_same e (flip z e ne.0) ef)
        (λ x m. i.list_same x (member_not f x zs nf.1 m)) c.3,
  ),
)
chain_insert t u list a (y ∷ ys) zs e f i af ef nf na ne d c = (
  i.next_same a (flip (last_or y ys) a (not_last a y ys na.0 (Absent-append_left a ys zs na.1))) af ∙ c.0,
  i.prev_same y (flip (first_or e zs) y (not_first y e zs (flip y e ne.0) (Absent-append_right y ys zs d.0)))
      nf.0 ∙ c.1,
  i.list_same y nf.0 ∙ c.2,
  chain_insert t u list y ys zs e f i nf.0 ef nf.1 d.0 ne.1 d.1 c.3,
)

-- a frame taken out of a chain
pub chain_remove : (t u : Table) (list a : ℕ) (ys zs : List ℕ) (e f : ℕ)
    → Removes t u (last_or a ys) f (first_or e zs) → Absent a (ys ++ f ∷ zs) → Absent e (ys ++ f ∷ zs)
    → Distinct (ys ++ f ∷ zs) → Chain t list a (ys ++ f ∷ zs) e → Chain u list a (ys ++ zs) e
chain_remove t u list a [] [] e f r na ne d c = (r.next_before, r.prev_after)
chain_remove t u list a [] (z ∷ zs) e f r na ne d c = (
  r.next_before,
  r.prev_after,
  r.list_same z d.0.0 ∙ c.3.2,
  chain_kept t u list z zs e (r.next_same z na.1.0 d.0.0)
      (λ x m. r.next_same x (member_not a x zs na.1.1 m) (member_not f x zs d.0.1 m))
      (λ x m. r.prev_same x (member_not z x zs d.1.0 m) (member_not f x zs d.0.1 m))
      (r.prev_same e (flip z e ne.1.0) (flip f e ne.0))
      (λ x m. r.list_same x (member_not f x zs d.0.1 m)) c.3.3,
)
chain_remove t u list a (y ∷ ys) zs e f r na ne d c =
    let yf = Absent-append_right y ys (f ∷ zs) d.0 in
    let af = Absent-append_right a ys (f ∷ zs) na.1 in (
      r.next_same a (flip (last_or y ys) a (not_last a y ys na.0 (Absent-append_left a ys (f ∷ zs) na.1)))
          (flip f a af.0) ∙ c.0,
      r.prev_same y (flip (first_or e zs) y (not_first y e zs (flip y e ne.0) yf.1)) (flip f y yf.0) ∙ c.1,
      r.list_same y (flip f y yf.0) ∙ c.2,
      chain_remove t u list y ys zs e f r d.0 ne.1 d.1 c.3,
    )

-- what a chain has at one of its frames
pub chain_at : (t : Table) (list a f : ℕ) (ys zs : List ℕ) (e : ℕ) → Chain t list a (ys ++ f ∷ zs) e
    → (t.prev f ≡ last_or a ys) × (t.next f ≡ first_or e zs)
chain_at t list a f [] zs e c = (c.1, chain_first t list f zs e c.3)
chain_at t list a f (y ∷ ys) zs e c = chain_at t list y f ys zs e c.3
