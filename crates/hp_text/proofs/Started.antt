-- The start of a text, as it is written.
use Rattle.std.proofs.Common.{◌≡◌, ℕ, ◌<◌, ◌≤◌, Bool, cond, List, [], ◌++◌, codes, flat_map, length, take, sym, ap, ◌∙◌, append-nil, append_assoc, arith}
use Rattle.std.specs.Bool.{nat_lt}
use Rattle.std.proofs.lemmas.Bool.{le-ltb, lt-ltb}
use Rattle.std.proofs.lemmas.List.{take_all}

-- what follows the characters that are written
abbrev pub dots : (most : ℕ) → (all : List ℕ) → List ℕ
dots most all = cond (nat_lt most (length all)) (codes "..") []

-- all of it
pub all_started : (f : ℕ → List ℕ) (most : ℕ) (old new seen all : List ℕ)
    → new ≡ old ++ flat_map f seen → seen ≡ all → length seen ≤ most
    → new ≡ old ++ (flat_map f (take most all) ++ dots most all)
all_started f most old new seen all is same few =
    let fits : length all ≤ most = omega (arith, few, ap (λ (xs : List ℕ). length xs) same) in
    is ∙ ap (λ (xs : List ℕ). old ++ flat_map f xs) (same ∙ sym (take_all most all fits))
    ∙ ap (λ (xs : List ℕ). old ++ xs) (sym (append-nil (flat_map f (take most all))))
    ∙ ap (λ (b : Bool). old ++ (flat_map f (take most all) ++ cond b (codes "..") []))
    (sym (le-ltb most (length all) fits))

-- so many characters, and there are more
pub cut_started : (f : ℕ → List ℕ) (most : ℕ) (old mid new seen all : List ℕ)
    → mid ≡ old ++ flat_map f seen → new ≡ mid ++ codes ".." → seen ≡ take (length seen) all
    → length seen ≡ most → most < length all
    → new ≡ old ++ (flat_map f (take most all) ++ dots most all)
cut_started f most old mid new seen all is written same count more =
    written ∙ ap (λ (xs : List ℕ). xs ++ codes "..") is ∙ append_assoc old (flat_map f seen) (codes "..")
    ∙ ap (λ (xs : List ℕ). old ++ (flat_map f xs ++ codes "..")) (same ∙ ap (λ (n : ℕ). take n all) count)
    ∙ ap (λ (b : Bool). old ++ (flat_map f (take most all) ++ cond b (codes "..") []))
    (sym (lt-ltb most (length all) more))
