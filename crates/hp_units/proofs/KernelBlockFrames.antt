-- In how many of the kernel's blocks a frame is.
use Rattle.std.proofs.Common.{◌≡◌, ℕ, zero, suc, ◌+◌, ◌<◌, List, [], ◌∷◌, length, get_or, set, false, cond, Option, None, refl, subst, arith, add-zero}
use Rattle.std.specs.List.{enumerate_from, sum_by}
use Rattle.std.specs.Option.{option_map_or}
use Rattle.std.proofs.lemmas.List.FromFn.{length-enumerate_from, get_or-enumerate_from}
use Rattle.std.proofs.lemmas.List.Sums.{sum_by-set}
use Rattle.hp_units.specs.Memory.{Memory, kernel_order, with_kernel_order}
use Rattle.hp_units.specs.Placement.{covers, kernel_places}

pub enumerate-set : {X : Type 0} (n : ℕ) (xs : List X) (i : ℕ) (x : X)
    → enumerate_from n (set xs i x) ≡ set (enumerate_from n xs) i (n + i, x)
enumerate-set n [] i x = refl
enumerate-set n (y ∷ ys) zero x = rw add-zero refl
enumerate-set n (y ∷ ys) (suc i) x =
    let sum : n + suc i ≡ n + 1 + i = omega arith in
    rw sum (rw (enumerate-set (n + 1) ys i x))

-- 1 if the kernel's block of an entry has a frame
abbrev pub kernel_covered : (frame first : ℕ) → Option ℕ → ℕ
kernel_covered frame first entry = cond (option_map_or (λ order. covers frame order first) entry false) 1 0

pub kernel-places : (s : Memory) (first frame : ℕ) (entry : Option ℕ) → first < length s.kernel
    → kernel_places (with_kernel_order s first entry) frame + kernel_covered frame first
    (kernel_order s first) ≡ kernel_places s frame + kernel_covered frame first entry
kernel-places s first frame entry h =
    let f = λ (e : ℕ × Option ℕ). kernel_covered frame e.0 e.1 in
    let low : first < length (enumerate_from 0 s.kernel) = rw length-enumerate_from h in
    let at : get_or (enumerate_from 0 s.kernel) first (0, None) ≡ (0 + first, get_or s.kernel first None) =
    get_or-enumerate_from 0 s.kernel first (0, None) h in
    let zero_sum : 0 + first ≡ first = omega arith in
    let sum : sum_by f (set (enumerate_from 0 s.kernel) first (0 + first, entry))
    + f (get_or (enumerate_from 0 s.kernel) first (0, None)) ≡ sum_by f (enumerate_from 0 s.kernel)
    + f (0 + first, entry) =
    sum_by-set f (enumerate_from 0 s.kernel) first (0 + first, entry) (0, None) low in
    let there =
    subst (λ (e : ℕ × Option ℕ). sum_by f (set (enumerate_from 0 s.kernel) first (0 + first, entry)) + f e
    ≡ sum_by f (enumerate_from 0 s.kernel) + f (0 + first, entry)) at sum in
    let whole = rw (← enumerate-set 0 _ first entry) at there in
    rw zero_sum at whole
