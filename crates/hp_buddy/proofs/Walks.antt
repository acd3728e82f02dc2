-- A list as it is walked from its front.
use Rattle.std.proofs.Common.{ℕ, ◌≡◌, ◌<◌, inl, List, [], ◌∷◌, ◌++◌, Option, None, Some, length, refl, sym, ◌∙◌, ap, arith}
use Rattle.std.proofs.lemmas.List.{append_assoc, append-nil, length-append}
use Rattle.std.proofs.lemmas.Option.{same_Some}
use Rattle.hp_buddy.specs.LinkedLists.{first, successor}
use Rattle.hp_buddy.specs.Rings.{Member, Distinct}
use Rattle.hp_buddy.proofs.Chains.{Absent-append_left, Distinct-remove, Member-append_right}
use Rattle.hp_buddy.proofs.Sequences.{successor-split}

-- some frames were walked, and the next one is the first of the rest
pub record IsWalked (xs walked : List ℕ) (next : Option ℕ) : Type 0 where
  pub rest : List ℕ
  pub is : xs ≡ walked ++ rest
  pub next_is : next ≡ first rest

-- a frame that is next, and those after it
record Meets (xs walked : List ℕ) (frame : ℕ) : Type 0 where
  pub behind : List ℕ
  pub is : xs ≡ walked ++ frame ∷ behind

meets : (xs walked : List ℕ) (frame : ℕ) (next : Option ℕ) → next ≡ Some frame → IsWalked xs walked next
    → Meets xs walked frame
meets xs walked frame next some w = at w.rest w.is (sym some ∙ w.next_is)
  where
    at : (rest : List ℕ) → xs ≡ walked ++ rest → Some frame ≡ first rest → Meets xs walked frame
    at [] is e = absurd (cc)
    at (x ∷ rest) is e = record { behind = rest; is = rw (same_Some frame x e) is }

pub walked-none : (xs walked : List ℕ) (next : Option ℕ) → walked ≡ [] → next ≡ first xs
    → IsWalked xs walked next
walked-none xs walked next none e = record { rest = xs; is = rw none; next_is = e }

pub walked-on : (xs walked : List ℕ) (frame : ℕ) (next : Option ℕ) → next ≡ Some frame
    → IsWalked xs walked next → Member frame xs
walked-on xs walked frame next some w =
    let m = meets xs walked frame next some w in
    rw m.is (Member-append_right frame walked (frame ∷ m.behind) (inl refl))

pub walked-fewer : (xs walked : List ℕ) (frame : ℕ) (next : Option ℕ) → next ≡ Some frame
    → IsWalked xs walked next → length walked < length xs
walked-fewer xs walked frame next some w =
    let m = meets xs walked frame next some w in
    omega (arith, ap length m.is, length-append walked (frame ∷ m.behind))

pub walked-more : (xs walked further : List ℕ) (frame : ℕ) (next after : Option ℕ) → Distinct xs
    → next ≡ Some frame → IsWalked xs walked next → further ≡ walked ++ frame ∷ []
    → after ≡ successor frame xs → IsWalked xs further after
walked-more xs walked further frame next after distinct some w is e =
    let m = meets xs walked frame next some w in
    let apart =
    Absent-append_left frame walked m.behind
    (Distinct-remove frame walked m.behind (rw m.is at distinct)).0 in
    record {
      rest = m.behind;
      is = rw (is, append_assoc walked (frame ∷ []) m.behind) m.is;
      next_is = e ∙ (ap (successor frame) m.is ∙ successor-split frame walked m.behind apart);
    }

pub walked-all : (xs walked : List ℕ) (next : Option ℕ) → next ≡ None → IsWalked xs walked next → walked ≡ xs
walked-all xs walked next none w = at w.rest w.is (sym none ∙ w.next_is)
  where
    at : (rest : List ℕ) → xs ≡ walked ++ rest → None ≡ first rest → walked ≡ xs
    at [] is e = sym (is ∙ append-nil walked)
    at (x ∷ rest) is e = absurd (cc)
