-- Runs of plain bytes, seen 16 at a time through the mask of those that end them.
use Rattle.std.proofs.Common.{◌≡◌, ℕ, zero, suc, ◌+◌, ◌*◌, ◌%◌, ◌^◌, ◌<◌, ◌≤◌, ltb, Bool, true, false, not, ◌&&◌, cond, eqb, T, List, [], ◌∷◌, map, length, drop, ◌⊎◌, inl, inr, refl, sym, ap, ap₂, ◌∙◌, subst, arith, w8, Fits, not-suc-le-zero}
use Rattle.std.proofs.lemmas.Bool.{cases_order, eq-eqb, ne_eqb}
use Rattle.std.proofs.lemmas.List.{length-drop, length-map}
use Rattle.std.proofs.lemmas.List.Folds.{prefix_len-append}
use Rattle.std.proofs.lemmas.List.Sums.{prefix_len-le-length}
use Rattle.std.proofs.lemmas.Simd.{chunk-drop, length-chunk, leading_from_mask_l, mask_l-mod, trailing_mask_l}
use Rattle.std.specs.List.{prefix_len}
use lib.Bits.{bit_or}
use lib.Count.{count_trailing_zeros}
use lib.Lanes.{chunk, mask_l, top, zip2, Each1}
use Rattle.json.specs.Run.{is_plain, is_stop}

-- ---- each of the 256 bytes

abbrev pub agrees : Bool → Bool → Bool
agrees true b = b
agrees false b = not b

agree_is : (a b : Bool) → T (agrees a b) → a ≡ b
agree_is a b h = grind arith

-- a fact of each number below one, by computation
abbrev pub all_below : (ℕ → Bool) → ℕ → Bool
all_below p zero = true
all_below p (suc n) = p n && all_below p n

both : (a b : Bool) → T (a && b) → T a × T b
both a b h = grind arith

below_holds : (p : ℕ → Bool) (n : ℕ) → T (all_below p n) → (i : ℕ) → i < n → T (p i)
below_holds p zero h i lt = absurd (not-suc-le-zero lt)
below_holds p (suc n) h i lt = go (below_holds p n (both (p n) (all_below p n) h).1 i) (cases_order i n)
  where
    go : (i < n → T (p i)) → (i ≡ n) ⊎ ((i < n) ⊎ (n < i)) → T (p i)
    go below (inl e) = subst (λ x. T (p x)) (sym e) (both (p n) (all_below p n) h).0
    go below (inr (inl l)) = below l
    go below (inr (inr g)) = let no : ⊥ = omega arith in absurd no

-- ---- lanes

abbrev pub hit : ℕ → ℕ → ℕ
hit a b = cond (eqb a b) 255 0

abbrev pub below : ℕ → ℕ → ℕ
below a b = cond (ltb a b) 255 0

zip2-map : (f g : ℕ → ℕ) (xs : List ℕ) → zip2 bit_or (map f xs) (map g xs) ≡ map (λ x. bit_or (f x) (g x)) xs
zip2-map f g [] = refl
zip2-map f g (x ∷ xs) = ap (λ r. bit_or (f x) (g x) ∷ r) (zip2-map f g xs)

pub either : (f g : ℕ → ℕ) (v : List ℕ) {a b : List ℕ} → a ≡ map f v → b ≡ map g v
    → zip2 bit_or a b ≡ map (λ x. bit_or (f x) (g x)) v
either f g v p q = ap₂ (zip2 bit_or) p q ∙ zip2-map f g v

each_byte : (f : ℕ → ℕ) (p : ℕ → Bool) → T (all_below (λ x. agrees (top 7 (f x)) (p x)) 256)
    → (v : List ℕ) → Each1 (Fits w8) v → map (top 7) (map f v) ≡ map p v
each_byte f p all [] fits = refl
each_byte f p all (x ∷ xs) fits =
    ap₂ (λ a b. a ∷ b)
    (agree_is _ _ (below_holds (λ y. agrees (top 7 (f y)) (p y)) 256 all x fits.0.fits))
    (each_byte f p all xs fits.1)

pub masked : (f : ℕ → ℕ) (p : ℕ → Bool) (v z : List ℕ) → length v ≤ 64 → Each1 (Fits w8) v → z ≡ map f v
    → T (all_below (λ x. agrees (top 7 (f x)) (p x)) 256)
    → mask_l (map (top 7) z) % 2 ^ 64 ≡ mask_l (map p v)
masked f p v z short fits e all =
    rw (e, each_byte f p all v fits) (mask_l-mod (map p v) 64 (omega (arith, length-map v p)))

-- ---- runs

pub run_bound : (d : List ℕ) (i : ℕ) → i ≤ length d → i + prefix_len is_plain (drop i d) ≤ length d
run_bound d i h = omega (arith, prefix_len-le-length is_plain (drop i d), length-drop i d)

none_fails : (b : Bool) (n l m : ℕ) → n ≤ l → cond (not b) (1 + n) 0 ≡ 1 + l → (n ≡ l → m ≡ 0)
    → cond b 1 0 + 2 * m ≡ 0
none_fails b n l m le e ih = grind arith

all_pass : (xs : List ℕ) → prefix_len is_plain xs ≡ length xs → mask_l (map is_stop xs) ≡ 0
all_pass [] e = refl
all_pass (x ∷ xs) e =
    none_fails (is_stop x) _ (length xs) _ (prefix_len-le-length is_plain xs) (omega arith) (all_pass xs)

split : (d : List ℕ) (i n : ℕ) → prefix_len is_plain (drop i d)
    ≡ cond (eqb (prefix_len is_plain (chunk i n d)) (length (chunk i n d))) (length (chunk i n d)
    + prefix_len is_plain (drop (i + n) d)) (prefix_len is_plain (chunk i n d))
split d i n = cc (chunk-drop i n d, prefix_len-append is_plain (chunk i n d) (drop (i + n) d))

pub run_through : (d : List ℕ) (i n : ℕ) → i + n ≤ length d → mask_l (map is_stop (chunk i n d)) ≡ 0
    → prefix_len is_plain (drop i d) ≡ n + prefix_len is_plain (drop (i + n) d)
run_through d i n room none =
    rw (split d i n, eq-eqb _ _ (leading_from_mask_l is_stop (chunk i n d) none), length-chunk i n d room)

pub run_stops : (d : List ℕ) (i n : ℕ) → i + n ≤ length d → n ≤ 64 → 0 < mask_l (map is_stop (chunk i n d))
    → prefix_len is_plain (drop i d) ≡ count_trailing_zeros 64 (mask_l (map is_stop (chunk i n d)))
run_stops d i n room short some =
    let c = chunk i n d in
    rw (split d i n) (rw (ne_eqb _ _ (λ (e : prefix_len is_plain c ≡ length c). omega (arith, all_pass c e)))
    (rw (← trailing_mask_l is_stop 64 c (omega (arith, length-chunk i n d room)) some)))
