-- Frames of one free block: the same order covers each of them, and a search for a frame in use
-- goes past them.
use Rattle.std.proofs.Common.{◌≡◌, ℕ, zero, suc, ◌+◌, ◌-◌, ◌*◌, ◌^◌, ◌/◌, ◌%◌, ◌<◌, ◌≤◌, Bool, true, false, cond, Some, sym, ◌∙◌, ap, subst, arith}
use Rattle.std.specs.List.{find, range_with_len}
use Rattle.std.proofs.Math.Nat.{mod-add-div', mod-eq_of_lt}
use Rattle.std.proofs.Math.Pow.{pow_mono}
use Rattle.std.proofs.lemmas.List.Folds.{list_any_at}
use Rattle.std.proofs.lemmas.List.FromFn.{get_or-range_with_len, length-range_with_len}
use Rattle.hp_laws.proofs.Onlines.{quotient}
use Rattle.hp_units.specs.Numbers.{ancestor}
use Rattle.hp_units.specs.Memory.{FreeAreas}
use Rattle.hp_units.specs.LayoutParts.{LayoutParts, IsLayout}
use Rattle.hp_units.specs.Refusals.{is_free_start, is_in_free_block}
use Rattle.hp_layers.specs.Commits.{IsCovered}

-- a search goes past numbers that fail
pub find-range_past : (p : ℕ → Bool) (b k m : ℕ) → ((j : ℕ) → j < k → p (b + j) ≡ false)
    → find p (range_with_len b m) ≡ find p (range_with_len (b + k) (m - k))
find-range_past p b zero m none =
    let at : b ≡ b + zero = omega arith in
    let left : m ≡ m - zero = omega arith in
    ap (λ (n : ℕ). find p (range_with_len n m)) at ∙ ap (λ (n : ℕ). find p (range_with_len (b + zero) n)) left
find-range_past p b (suc k) zero none =
    let left : zero ≡ zero - suc k = omega arith in
    ap (λ (n : ℕ). find p (range_with_len (b + suc k) n)) left
find-range_past p b (suc k) (suc m) none =
    let at : b + 1 + k ≡ b + suc k = omega arith in
    let left : m - k ≡ suc m - suc k = omega arith in
    let start : b ≡ b + 0 = omega arith in
    let first : p b ≡ false = ap p start ∙ none 0 (omega arith) in
    ap (λ (on : Bool). cond on (Some b) (find p (range_with_len (b + 1) m))) first
    ∙ find-range_past p (b + 1) k m rest
    ∙ ap (λ (n : ℕ). find p (range_with_len n (m - k))) at
    ∙ ap (λ (n : ℕ). find p (range_with_len (b + suc k) n)) left
  where
    rest : (j : ℕ) → j < k → p (b + 1 + j) ≡ false
    rest j below = ap p (next j) ∙ none (j + 1) (omega (arith, below))
      where
        next : (j : ℕ) → b + 1 + j ≡ b + (j + 1)
        next j = omega arith

-- all frames from a frame to the end of its block have the same ancestor
same-ancestor : (frame order k : ℕ) → k < 2 ^ order - frame % 2 ^ order
    → ancestor (frame + k) order ≡ ancestor frame order
same-ancestor frame order k below =
    let size : ℕ = 2 ^ order in
    let parts : frame % size + frame / size * size ≡ frame = mod-add-div' frame size in
    rw (quotient (frame + k) size (frame / size) (omega (arith, parts)) (omega (arith, parts, below)))

-- a frame whose ancestor starts a free block is in a free block
stands : (l : LayoutParts) (a : FreeAreas) (frame order : ℕ) → order ≤ l.order
    → is_free_start a order (ancestor frame order) ≡ true → is_in_free_block l a frame ≡ true
stands l a frame order most on =
    let p : ℕ → Bool = λ (n : ℕ). is_free_start a n (ancestor frame n) in
    let below : order < l.order + 1 = omega (arith, most) in
    list_any_at p (range_with_len 0 (l.order + 1)) order 0
    (subst (λ (n : ℕ). order < n) (sym (length-range_with_len 0 (l.order + 1))) below)
    (ap p (get_or-range_with_len 0 (l.order + 1) order 0 below ∙ omega arith) ∙ on)

-- and so are all frames from it to the end of its free block
pub run-is_free : (l : LayoutParts) (a : FreeAreas) (frame order k : ℕ) → IsCovered l a frame order
    → k < 2 ^ order - frame % 2 ^ order → is_in_free_block l a (frame + k) ≡ true
run-is_free l a frame order k covered below =
    stands l a (frame + k) order covered.within
    (ap (is_free_start a order) (same-ancestor frame order k below) ∙ covered.free)

-- the size of a free block, as it is computed
pub size-computed : (l : LayoutParts) (order inside : ℕ) → IsLayout l → order ≤ l.order → inside ≡ order
    → 1 * 2 ^ inside % 4294967296 ≡ 2 ^ order
size-computed l order inside layout most is =
    let small : 2 ^ order ≤ 2 ^ 10 = pow_mono {i = order} {j = 10} (omega (arith, most, layout.order)) in
    let same : 1 * 2 ^ inside ≡ 2 ^ order = omega (arith, ap (λ (n : ℕ). 2 ^ n) is) in
    ap (λ (n : ℕ). n % 4294967296) same ∙ mod-eq_of_lt (omega (arith, small))
