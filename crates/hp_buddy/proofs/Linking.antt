-- The lists are what their table and lengths determine, and a change of one ring keeps the others.
use Rattle.std.proofs.Common.{ℕ, zero, suc, ◌≡◌, ◌≢◌, ◌<◌, ◌≤◌, ◌+◌, ◌⊎◌, inl, inr, List, [], ◌∷◌, ◌++◌, None, Some, length, get_or, set, refl, sym, ◌∙◌, ap, arith}
use Rattle.std.proofs.lemmas.List.{ext_get_or, get_or-set_same, get_or-set_other, length-set, length-append}
use Rattle.std.proofs.lemmas.Bool.{cases_eq}
use Rattle.hp_buddy.specs.Rings.{Table, Inserts, Removes, IsAlone, walk, lists_from, Member, Absent, Distinct, Chain, Linked}
use Rattle.hp_buddy.proofs.Chains.{last_or, first_or, chain_kept, chain_list, walk-chain, absent_not, not_absent, Member-append_left, Member-append_right, Member-append_cases, Distinct-insert, Distinct-remove, last_or-cases, first_or-cases, chain_insert, chain_remove}

length-lists_from : (t : Table) (h : ℕ) (lens : List ℕ) → length (lists_from t h lens) ≡ length lens
unfolding lists_from
length-lists_from t h [] = refl
length-lists_from t h (n ∷ ns) = ap suc (length-lists_from t (suc h) ns)

get_or-lists_from : (t : Table) (h : ℕ) (lens : List ℕ) (l : ℕ) → l < length lens
    → get_or (lists_from t h lens) l [] ≡ walk t (get_or lens l 0) (t.next (h + l))
unfolding lists_from
get_or-lists_from t h [] l lt = absurd (omega arith)
get_or-lists_from t h (n ∷ ns) zero lt = let e : h ≡ h + zero = omega arith in ap (λ k. walk t n (t.next k)) e
get_or-lists_from t h (n ∷ ns) (suc l) lt =
    let e : suc h + l ≡ h + suc l = omega arith in
    get_or-lists_from t (suc h) ns l (omega arith) ∙ ap (λ k. walk t (get_or ns l 0) (t.next k)) e

-- only these lists are kept
pub lists_are : (frames : ℕ) (t : Table) (lens : List ℕ) (lists : List (List ℕ)) → Linked frames t lens lists
    → lists_from t frames lens ≡ lists
lists_are frames t lens lists k =
    let n = length-lists_from t frames lens in
    ext_get_or [] (lists_from t frames lens) lists (n ∙ sym k.count)
    (λ l lt.
    let in' : l < length lists = omega (arith, n, k.count) in
    rw (get_or-lists_from t frames lens l (omega (arith, n)), k.sizes l in')
    (walk-chain t l (frames + l) (get_or lists l []) (frames + l) (k.rings l in')))

-- what holds of a new list and of all others
at_set : (P : ℕ → List ℕ → Type 0) (lists : List (List ℕ)) (l : ℕ) (new : List ℕ) → l < length lists → P l new
    → ((m : ℕ) → m ≢ l → P m (get_or lists m [])) → (m : ℕ) → P m (get_or (set lists l new) m [])
at_set P lists l new lt here others m =
    elim (cases_eq m l) [
      | inl e ↦ rw (e, get_or-set_same lists l new [] lt) here
      | inr ne ↦ rw (get_or-set_other lists l m new [] ne) (others m ne)
    ]

-- a node of a ring: its head or one of its frames
abbrev pub IsNode : ℕ → List ℕ → ℕ → Type 0
IsNode head xs a = (a ≡ head) ⊎ Member a xs

-- a frame is on one list only
pub one_list : (frames : ℕ) (t : Table) (lens : List ℕ) (lists : List (List ℕ)) → Linked frames t lens lists
    → (l m x : ℕ) → l < length lists → m < length lists → Member x (get_or lists l [])
    → Member x (get_or lists m []) → l ≡ m
one_list frames t lens lists k l m x in_l in_m on_l on_m =
    let p = chain_list t l (frames + l) (get_or lists l []) (frames + l) (k.rings l in_l) x on_l in
    let q = chain_list t m (frames + m) (get_or lists m []) (frames + m) (k.rings m in_m) x on_m in
    cc (p, q)

-- nodes of two rings differ
nodes_apart : (frames : ℕ) (t : Table) (lens : List ℕ) (lists : List (List ℕ)) → Linked frames t lens lists
    → (m l : ℕ) → m < length lists → l < length lists → m ≢ l → (a b : ℕ)
    → IsNode (frames + m) (get_or lists m []) a → IsNode (frames + l) (get_or lists l []) b → a ≢ b
nodes_apart frames t lens lists k m l in_m in_l ne a b (inl p) (inl q) e = omega arith
nodes_apart frames t lens lists k m l in_m in_l ne a b (inl p) (inr q) e = omega (arith, k.below l b q)
nodes_apart frames t lens lists k m l in_m in_l ne a b (inr p) (inl q) e = omega (arith, k.below m a p)
nodes_apart frames t lens lists k m l in_m in_l ne a b (inr p) (inr q) e =
    ne (one_list frames t lens lists k m l b in_m in_l (rw (← e) p) q)

-- a ring none of whose nodes changes
other_kept : (t u : Table) (before frame after : ℕ) → ((x : ℕ) → x ≢ before → x ≢ frame → u.next x ≡ t.next x)
    → ((x : ℕ) → x ≢ after → x ≢ frame → u.prev x ≡ t.prev x) → ((x : ℕ) → x ≢ frame → u.list x ≡ t.list x)
    → (m head : ℕ) (xs : List ℕ) → ((x : ℕ) → IsNode head xs x → (x ≢ before) × (x ≢ after) × (x ≢ frame))
    → Chain t m head xs head → Chain u m head xs head
other_kept t u before frame after ns ps ls m head xs apart c =
    let h = apart head (inl refl) in
    chain_kept t u m head xs head (ns head h.0 h.2)
    (λ x i. let a = apart x (inr i) in ns x a.0 a.2)
    (λ x i. let a = apart x (inr i) in ps x a.1 a.2)
    (ps head h.1 h.2)
    (λ x i. let a = apart x (inr i) in ls x a.2) c

pub last_node : (head : ℕ) (ys zs : List ℕ) → IsNode head (ys ++ zs) (last_or head ys)
last_node head ys zs =
    elim (last_or-cases head ys)
    [ inl e ↦ inl e | inr m ↦ inr (Member-append_left (last_or head ys) ys zs m) ]

pub first_node : (head : ℕ) (ys zs : List ℕ) → IsNode head (ys ++ zs) (first_or head zs)
first_node head ys zs =
    elim (first_or-cases head zs)
    [ inl e ↦ inl e | inr m ↦ inr (Member-append_right (first_or head zs) ys zs m) ]

-- no head is a frame
head_absent : (frames : ℕ) (head : ℕ) (xs : List ℕ) → frames ≤ head → ((x : ℕ) → Member x xs → x < frames)
    → Absent head xs
head_absent frames head xs le below = not_absent head xs (λ m. let lt = below head m in omega (arith, lt))

Member-insert_cases : (x f : ℕ) (ys zs : List ℕ) → Member x (ys ++ f ∷ zs) → (f ≡ x) ⊎ Member x (ys ++ zs)
Member-insert_cases x f ys zs m =
    elim (Member-append_cases x ys (f ∷ zs) m) [
      | inl a ↦ inr (Member-append_left x ys zs a)
      | inr b ↦ elim b [ inl e ↦ inl e | inr n ↦ inr (Member-append_right x ys zs n) ]
    ]

Member-insert : (x f : ℕ) (ys zs : List ℕ) → Member x (ys ++ zs) → Member x (ys ++ f ∷ zs)
Member-insert x f ys zs m =
    elim (Member-append_cases x ys zs m) [
      | inl a ↦ Member-append_left x ys (f ∷ zs) a
      | inr b ↦ Member-append_right x ys (f ∷ zs) (inr b)
    ]

pub Member-inserted : (f : ℕ) (ys zs : List ℕ) → Member f (ys ++ f ∷ zs)
Member-inserted f ys zs = Member-append_right f ys (f ∷ zs) (inl refl)

length-insert : (f : ℕ) (ys zs : List ℕ) → length (ys ++ f ∷ zs) ≡ length (ys ++ zs) + 1
length-insert f ys zs = omega (arith, length-append ys (f ∷ zs), length-append ys zs)

-- a frame that is on no list comes onto one
pub Linked-insert : (frames : ℕ) (t u : Table) (lens : List ℕ) (lists : List (List ℕ)) (l : ℕ)
    (ys zs : List ℕ) (f n before after : ℕ)
    → Linked frames t lens lists → l < length lists → get_or lists l [] ≡ ys ++ zs → f < frames
    → ((m : ℕ) → Absent f (get_or lists m [])) → n ≡ length (ys ++ zs) + 1 → before ≡ last_or (frames + l) ys
    → after ≡ first_or (frames + l) zs → Inserts t u l before f after
    → Linked frames u (set lens l n) (set lists l (ys ++ f ∷ zs))
Linked-insert frames t u lens lists l ys zs f n before after k lt split in_f free n_is before_is after_is i =
    let head = frames + l in
    let below = rw split at (k.below l) in
    let free_here = rw split at (free l) in
    let distinct = rw split at (k.distinct l) in
    let ring = rw split at (k.rings l lt) in
    let no_head : Absent head (ys ++ zs) = head_absent frames head (ys ++ zs) (omega arith) below in
    let not_f : head ≢ f = λ e. omega arith in
    let i_at = rw (before_is, after_is) at i in
    let is_before : IsNode head (get_or lists l []) before = rw (split, before_is) (last_node head ys zs) in
    let is_after : IsNode head (get_or lists l []) after = rw (split, after_is) (first_node head ys zs) in
    let longer : length (ys ++ f ∷ zs) ≡ n = length-insert f ys zs ∙ sym n_is in
    let same_count = length-set lists l (ys ++ f ∷ zs) in
    record {
      count = same_count ∙ k.count ∙ sym (length-set lens l n);
      rings =
          λ m lt_m. at_set (λ m xs. m < length lists → Chain u m (frames + m) xs (frames + m)) lists l
          (ys ++ f ∷ zs) lt
          (λ _. chain_insert t u l head ys zs head f i_at not_f not_f free_here no_head no_head distinct ring)
          (λ m ne in_m. other_kept t u before f after i.next_same i.prev_same i.list_same m (frames + m)
          (get_or lists m [])
          (λ x is. (
            nodes_apart frames t lens lists k m l in_m lt ne x before is is_before,
            nodes_apart frames t lens lists k m l in_m lt ne x after is is_after,
            λ e. elim is
                [ inl h ↦ omega arith | inr on ↦ absent_not f (get_or lists m []) (free m) (rw (← e) on) ],
          ))
          (k.rings m in_m))
          m (omega (arith, same_count));
      below = λ m x. at_set (λ m xs. Member x xs → x < frames) lists l (ys ++ f ∷ zs) lt
          (λ on. elim (Member-insert_cases x f ys zs on) [ inl e ↦ omega arith | inr r ↦ below x r ])
          (λ m ne. k.below m x) m;
      distinct =
          λ m. at_set (λ m xs. Distinct xs) lists l (ys ++ f ∷ zs) lt
          (Distinct-insert f ys zs free_here distinct) (λ m ne. k.distinct m) m;
      sizes =
          λ m lt_m. at_set (λ m xs. m < length lists → get_or (set lens l n) m 0 ≡ length xs) lists l
          (ys ++ f ∷ zs) lt
          (λ in_l. get_or-set_same lens l n 0 (omega (arith, k.count)) ∙ sym longer)
          (λ m ne in_m. get_or-set_other lens l m n 0 ne ∙ k.sizes m in_m) m (omega (arith, same_count));
      owned = λ m x in_x says. at_set (λ m xs. u.list x ≡ Some m → Member x xs) lists l (ys ++ f ∷ zs) lt
          (λ says. elim (cases_eq x f) [
            | inl e ↦ rw e (Member-inserted f ys zs)
            | inr ne ↦
                Member-insert x f ys zs (rw split at (k.owned l x in_x (sym (i.list_same x ne) ∙ says)))
          ])
          (λ m ne says. k.owned m x in_x (sym
          (i.list_same x (λ e. ne (let same : m ≡ l = cc (e, says, i.list_frame) in same))) ∙ says)) m says;
    }

-- a frame leaves the list that it is on
pub Linked-remove : (frames : ℕ) (t u : Table) (lens : List ℕ) (lists : List (List ℕ)) (l : ℕ)
    (ys zs : List ℕ) (f n before after : ℕ)
    → Linked frames t lens lists → l < length lists → get_or lists l [] ≡ ys ++ f ∷ zs
    → n + 1 ≡ length (ys ++ f ∷ zs) → before ≡ last_or (frames + l) ys → after ≡ first_or (frames + l) zs
    → Removes t u before f after → Linked frames u (set lens l n) (set lists l (ys ++ zs))
Linked-remove frames t u lens lists l ys zs f n before after k lt split n_is before_is after_is r =
    let head = frames + l in
    let below = rw split at (k.below l) in
    let distinct = rw split at (k.distinct l) in
    let ring = rw split at (k.rings l lt) in
    let no_head : Absent head (ys ++ f ∷ zs) = head_absent frames head (ys ++ f ∷ zs) (omega arith) below in
    let on_f : Member f (get_or lists l []) = rw split (Member-inserted f ys zs) in
    let r_at = rw (before_is, after_is) at r in
    let wider : (b : ℕ) → IsNode head (ys ++ zs) b → IsNode head (get_or lists l []) b =
    λ b is. elim is [ inl h ↦ inl h | inr m ↦ inr (rw split (Member-insert b f ys zs m)) ] in
    let is_before = wider before (rw before_is (last_node head ys zs)) in
    let is_after = wider after (rw after_is (first_node head ys zs)) in
    let longer = length-insert f ys zs in
    let same_count = length-set lists l (ys ++ zs) in
    record {
      count = same_count ∙ k.count ∙ sym (length-set lens l n);
      rings =
          λ m lt_m.
          at_set (λ m xs. m < length lists → Chain u m (frames + m) xs (frames + m)) lists l (ys ++ zs) lt
          (λ _. chain_remove t u l head ys zs head f r_at no_head no_head distinct ring)
          (λ m ne in_m. other_kept t u before f after r.next_same r.prev_same r.list_same m (frames + m)
          (get_or lists m [])
          (λ x is. (
            nodes_apart frames t lens lists k m l in_m lt ne x before is is_before,
            nodes_apart frames t lens lists k m l in_m lt ne x after is is_after,
            nodes_apart frames t lens lists k m l in_m lt ne x f is (inr on_f),
          ))
          (k.rings m in_m))
          m (omega (arith, same_count));
      below = λ m x. at_set (λ m xs. Member x xs → x < frames) lists l (ys ++ zs) lt
          (λ on. below x (Member-insert x f ys zs on))
          (λ m ne. k.below m x) m;
      distinct =
          λ m. at_set (λ m xs. Distinct xs) lists l (ys ++ zs) lt ((Distinct-remove f ys zs distinct).1)
          (λ m ne. k.distinct m) m;
      sizes =
          λ m lt_m.
          at_set (λ m xs. m < length lists → get_or (set lens l n) m 0 ≡ length xs) lists l (ys ++ zs) lt
          (λ in_l. get_or-set_same lens l n 0 (omega (arith, k.count)) ∙ omega (arith, longer))
          (λ m ne in_m. get_or-set_other lens l m n 0 ne ∙ k.sizes m in_m) m (omega (arith, same_count));
      owned = λ m x in_x says.
          let not_f : x ≢ f = λ e. (let no : None ≡ Some m = cc (e, says, r.list_frame) in cc no) in
          let was = k.owned m x in_x (sym (r.list_same x not_f) ∙ says) in
          at_set (λ m xs. Member x (get_or lists m []) → Member x xs) lists l (ys ++ zs) lt
          (λ on. elim (Member-insert_cases x f ys zs (rw split at on))
          [ inl e ↦ absurd (not_f (sym e)) | inr n ↦ n ])
          (λ m ne on. on) m was;
    }

-- at first each head is alone in its ring
pub Linked-empty : (frames : ℕ) (t : Table) (lens : List ℕ) (lists : List (List ℕ))
    → length lists ≡ length lens → ((l : ℕ) → get_or lists l [] ≡ []) → ((l : ℕ) → get_or lens l 0 ≡ 0)
    → IsAlone t (frames + length lens) → Linked frames t lens lists
Linked-empty frames t lens lists count empty zeros alone = record {
  count = count;
  rings = λ l lt. let in_t : frames + l < frames + length lens = omega (arith, count) in
      rw (empty l) (alone.next (frames + l) in_t, alone.prev (frames + l) in_t);
  below = λ l x on. absurd (rw (empty l) at on);
  distinct = λ l. rw (empty l) tt;
  sizes = λ l lt. rw (empty l) (zeros l);
  owned =
      λ l x in_x says. let is = alone.list x (omega arith) in let no : None ≡ Some l = cc (says, is) in cc no;
}
