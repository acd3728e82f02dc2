-- What the words of the contracts mean for a list that is split at a frame.
use Rattle.std.proofs.Common.{ℕ, ◌≡◌, ◌≢◌, ◌<◌, ◌≤◌, inl, inr, List, [], ◌∷◌, ◌++◌, Option, None, Some, refl, sym, ◌∙◌, ap, subst}
use Rattle.std.proofs.lemmas.Bool.{cases_eq, eq-eqb, ne_eqb, lt-ltb, le-ltb}
use Rattle.std.proofs.lemmas.Option.{none-some, same_Some}
use Rattle.hp_buddy.specs.LinkedLists.{first, last_from, without, predecessor_from, predecessor, successor, with_behind}
use Rattle.hp_buddy.specs.Rings.{Member, Absent, Distinct, frame_at}
use Rattle.hp_buddy.proofs.Chains.{last_or, first_or, absent_not}

-- a list in three parts: before a frame's first occurrence, the frame, and after it
pub record SplitsAt (f : ℕ) (xs : List ℕ) : Type 0 where
  pub ahead : List ℕ
  pub behind : List ℕ
  pub is : xs ≡ ahead ++ f ∷ behind
  pub new : Absent f ahead

pub split_at : (f : ℕ) (xs : List ℕ) → Member f xs → SplitsAt f xs
split_at f [] m = absurd m
split_at f (x ∷ xs) m =
    elim (cases_eq x f) [
      | inl e ↦ record { ahead = []; behind = xs; is = rw e; new = tt }
      | inr ne ↦
          let s = split_at f xs (elim m [ inl e ↦ absurd (ne e) | inr n ↦ n ]) in
          record {
            ahead = x ∷ s.ahead;
            behind = s.behind;
            is = ap (λ (ys : List ℕ). x ∷ ys) s.is;
            new = (ne, s.new);
          }
    ]

pub frame_at-frame : (frames place : ℕ) → place < frames → frame_at frames place ≡ Some place
frame_at-frame frames place lt = rw (lt-ltb place frames lt)

pub frame_at-head : (frames place : ℕ) → frames ≤ place → frame_at frames place ≡ None
frame_at-head frames place le = rw (le-ltb place frames le)

pub without-split : (f : ℕ) (ys zs : List ℕ) → Absent f ys → without f (ys ++ f ∷ zs) ≡ ys ++ zs
without-split f [] zs a = rw (eq-eqb f f refl)
without-split f (y ∷ ys) zs a = rw (ne_eqb y f a.0, without-split f ys zs a.1)

pub predecessor-split : (frames f a : ℕ) (ys zs : List ℕ) → Absent f ys → ((x : ℕ) → Member x ys → x < frames)
    → predecessor_from (frame_at frames a) f (ys ++ f ∷ zs) ≡ frame_at frames (last_or a ys)
predecessor-split frames f a [] zs n below = rw (eq-eqb f f refl)
predecessor-split frames f a (y ∷ ys) zs n below =
    rw (ne_eqb y f n.0, ← frame_at-frame frames y (below y (inl refl)))
    (predecessor-split frames f y ys zs n.1 (λ x m. below x (inr m)))

pub first-frame : (frames head : ℕ) (xs : List ℕ) → frames ≤ head → ((x : ℕ) → Member x xs → x < frames)
    → frame_at frames (first_or head xs) ≡ first xs
first-frame frames head [] le below = frame_at-head frames head le
first-frame frames head (x ∷ xs) le below = frame_at-frame frames x (below x (inl refl))

-- the frame at the last place of a chain is the list's last one, or what comes before the first
pub last-frame : (frames head : ℕ) (xs : List ℕ) → ((x : ℕ) → Member x xs → x < frames)
    → frame_at frames (last_or head xs) ≡ last_from (frame_at frames head) xs
last-frame frames head [] below = refl
last-frame frames head (x ∷ xs) below =
    rw (last-frame frames x xs (λ y m. below y (inr m)), frame_at-frame frames x (below x (inl refl)))

pub successor-split : (f : ℕ) (ys zs : List ℕ) → Absent f ys → successor f (ys ++ f ∷ zs) ≡ first zs
successor-split f [] zs a = rw (eq-eqb f f refl)
successor-split f (y ∷ ys) zs a = rw (ne_eqb y f a.0) (successor-split f ys zs a.1)

pub with_behind-split : (p f : ℕ) (ys zs : List ℕ) → Absent p ys
    → with_behind (Some p) f (ys ++ p ∷ zs) ≡ ys ++ p ∷ f ∷ zs
with_behind-split p f [] zs a = rw (eq-eqb p p refl)
with_behind-split p f (y ∷ ys) zs a = rw (ne_eqb y p a.0, with_behind-split p f ys zs a.1)

Member-without : (f y : ℕ) (xs : List ℕ) → Member y (without f xs) → Member y xs
Member-without f y [] m = m
Member-without f y (x ∷ xs) m =
    elim (cases_eq x f) [
      | inl e ↦ inr (rw (eq-eqb x f e) at m)
      | inr ne ↦
          elim (rw (ne_eqb x f ne) at m) [ inl e ↦ inl e | inr n ↦ inr (Member-without f y xs n) ]
    ]

-- what comes before a frame stays when the frame leaves
pub record StandsBefore (o : Option ℕ) (xs : List ℕ) : Type 0 where
  pub frame : ℕ
  pub is : o ≡ Some frame
  pub on : Member frame xs

stands_before : (f y : ℕ) (xs : List ℕ) → Member f xs
    → StandsBefore (predecessor_from (Some y) f xs) (y ∷ without f xs)
stands_before f y [] m = absurd m
stands_before f y (x ∷ xs) m =
    elim (cases_eq x f) [
      | inl e ↦ record { frame = y; is = rw (eq-eqb x f e); on = inl refl }
      | inr ne ↦
          let b = stands_before f x xs (elim m [ inl e ↦ absurd (ne e) | inr n ↦ n ]) in
          record { frame = b.frame; is = rw (ne_eqb x f ne) b.is; on = inr (rw (ne_eqb x f ne) b.on) }
    ]

pub predecessor_on : (f : ℕ) (xs : List ℕ) → Member f xs → (p : ℕ) → predecessor f xs ≡ Some p
    → Member p (without f xs)
predecessor_on f [] m p is = absurd m
predecessor_on f (x ∷ xs) m p is =
    elim (cases_eq x f) [
      | inl e ↦ absurd (none-some p (rw (eq-eqb x f e) at is))
      | inr ne ↦
          let b = stands_before f x xs (elim m [ inl e ↦ absurd (ne e) | inr n ↦ n ]) in
          let same : b.frame ≡ p = same_Some b.frame p (sym b.is ∙ (rw (ne_eqb x f ne) at is)) in
          rw (ne_eqb x f ne) (subst (λ (q : ℕ). Member q (x ∷ without f xs)) same b.on)
    ]

back_from : (f y : ℕ) (xs : List ℕ) → Member f xs → Distinct (y ∷ xs)
    → with_behind (predecessor_from (Some y) f xs) f (y ∷ without f xs) ≡ y ∷ xs
back_from f y [] m d = absurd m
back_from f y (x ∷ xs) m d =
    elim (cases_eq x f) [
      | inl e ↦ rw (eq-eqb x f e, eq-eqb y y refl, e)
      | inr ne ↦
          let on : Member f xs = elim m [ inl e ↦ absurd (ne e) | inr n ↦ n ] in
          let b = stands_before f x xs on in
          let other : y ≢ b.frame =
          λ e. absent_not y (x ∷ xs) d.0 (subst (λ (z : ℕ). Member z (x ∷ xs)) (sym e)
          (elim b.on [ inl h ↦ inl h | inr h ↦ inr (Member-without f b.frame xs h) ])) in
          rw (ne_eqb x f ne, b.is, ne_eqb y b.frame other)
          (ap (λ ys. y ∷ ys) (rw b.is at (back_from f x xs on d.1)))
    ]

-- a frame put back after what came before it
pub back : (f : ℕ) (xs : List ℕ) → Member f xs → Distinct xs
    → with_behind (predecessor f xs) f (without f xs) ≡ xs
back f [] m d = absurd m
back f (x ∷ xs) m d =
    elim (cases_eq x f) [
      | inl e ↦ rw (eq-eqb x f e, e)
      | inr ne ↦ rw (ne_eqb x f ne) (back_from f x xs (elim m [ inl e ↦ absurd (ne e) | inr n ↦ n ]) d)
    ]

pub without-absent : (f : ℕ) (xs : List ℕ) → Absent f xs → without f xs ≡ xs
without-absent f [] a = refl
without-absent f (x ∷ xs) a = rw (ne_eqb x f a.0, without-absent f xs a.1)
