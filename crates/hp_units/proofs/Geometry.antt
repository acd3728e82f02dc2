-- Blocks, their halves, buddies and pageblocks.
use Rattle.std.proofs.Common.{◌≡◌, ◌≢◌, ℕ, suc, ◌+◌, ◌-◌, ◌*◌, ◌/◌, ◌%◌, ◌^◌, ◌<◌, ◌≤◌, refl, sym, ◌∙◌, ap, arith, ◌⊎◌, inl, inr, add-zero}
use Rattle.std.specs.Prelude.{bit_xor}
use Rattle.std.specs.Int.Bits.{xor_zero_r}
use Rattle.std.proofs.lemmas.Nat.{xor_block, pow_pos, pow-add, shl-shr, shr-shr, shr_split, div-mul-add, div_below}
use Rattle.std.proofs.Math.Nat.{pow-suc}
use Rattle.hp_units.specs.Numbers.{ancestor}
use Rattle.hp_units.specs.Arithmetic.{buddy, frame_count, pageblock_of, pageblock_count}
use Rattle.hp_units.specs.LayoutParts.{LayoutParts}

-- a number is twice its half, and perhaps one more
pub half_cases : (q : ℕ) → (q ≡ q / 2 * 2) ⊎ (q ≡ q / 2 * 2 + 1)
half_cases q = grind arith

-- the last bit of an even number is set
pub xor_even : (t : ℕ) → bit_xor (t * 2) 1 ≡ t * 2 + 1
xor_even t =
    simp (add-zero, xor_zero_r) at (xor_block 1 t 0 0 1 (omega arith) (omega arith))

-- the last bit of an odd number is cleared
pub xor_odd : (t : ℕ) → bit_xor (t * 2 + 1) 1 ≡ t * 2
xor_odd t =
    simp (add-zero, xor_zero_r) at (xor_block 1 t 0 1 1 (omega arith) (omega arith))

-- the buddy of a multiple
pub buddy-multiple : (q order : ℕ) → buddy (q * 2 ^ order) order ≡ bit_xor q 1 * 2 ^ order
buddy-multiple q order =
    let some : 0 < 2 ^ order = pow_pos order in
    let one : 1 * 2 ^ order ≡ 2 ^ order = omega arith in
    simp (add-zero, one) at (xor_block order q 1 0 0 some some)

-- the buddies of an even and an odd block
pub buddy_even : (t order : ℕ) → buddy (t * 2 * 2 ^ order) order ≡ t * 2 * 2 ^ order + 2 ^ order
buddy_even t order =
    let next : (t * 2 + 1) * 2 ^ order ≡ t * 2 * 2 ^ order + 2 ^ order = grind arith in
    rw (buddy-multiple, xor_even, next) refl

-- the buddy of an odd block
pub buddy_odd : (t order : ℕ) → buddy (t * 2 * 2 ^ order + 2 ^ order) order ≡ t * 2 * 2 ^ order
buddy_odd t order =
    let next : t * 2 * 2 ^ order + 2 ^ order ≡ (t * 2 + 1) * 2 ^ order = grind arith in
    rw (next, buddy-multiple, xor_odd) refl

-- an aligned number is a multiple
pub multiple : (first order : ℕ) → first % 2 ^ order ≡ 0 → first ≡ first / 2 ^ order * 2 ^ order
multiple first order e = omega (arith, shr_split first order)

-- an aligned block is its own ancestor
pub aligned_ancestor : (first order : ℕ) → first % 2 ^ order ≡ 0 → ancestor first order ≡ first
aligned_ancestor first order e = sym (multiple first order e)

-- a multiple is aligned
pub multiple_aligned : (q order : ℕ) → q * 2 ^ order % 2 ^ order ≡ 0
multiple_aligned q order =
    omega (arith, shr_split (q * 2 ^ order) order, ap (λ (n : ℕ). n * 2 ^ order) (shl-shr q order))

-- a block and its buddy are two, and each is the other's
pub twice : (t order first : ℕ) → (first ≡ t * 2 * 2 ^ order) ⊎ (first ≡ t * 2 * 2 ^ order + 2 ^ order)
    → buddy (buddy first order) order ≡ first
twice t order first (inl e) = rw (e, buddy_even, buddy_odd) refl
twice t order first (inr e) = rw (e, buddy_odd, buddy_even) refl

-- a block is not its buddy, by its parity
pub two : (t order first : ℕ) → (first ≡ t * 2 * 2 ^ order) ⊎ (first ≡ t * 2 * 2 ^ order + 2 ^ order)
    → first ≢ buddy first order
two t order first (inl e) same =
    let some : 0 < 2 ^ order = pow_pos order in
    let b = rw (e, buddy_even) at same in
    omega arith
two t order first (inr e) same =
    let some : 0 < 2 ^ order = pow_pos order in
    let b = rw (e, buddy_odd) at same in
    omega arith

-- an aligned number is an even or an odd block
pub parity : (first order q : ℕ) → first ≡ q * 2 ^ order → (q ≡ q / 2 * 2) ⊎ (q ≡ q / 2 * 2 + 1)
    → (first ≡ q / 2 * 2 * 2 ^ order) ⊎ (first ≡ q / 2 * 2 * 2 ^ order + 2 ^ order)
parity first order q e (inl h) = inl (e ∙ ap (λ (n : ℕ). n * 2 ^ order) h)
parity first order q e (inr h) =
    let next : (q / 2 * 2 + 1) * 2 ^ order ≡ q / 2 * 2 * 2 ^ order + 2 ^ order = grind arith in
    inr (e ∙ ap (λ (n : ℕ). n * 2 ^ order) h ∙ next)

-- a block is its buddy's buddy
pub buddy-buddy : (first order : ℕ) → first % 2 ^ order ≡ 0 → buddy (buddy first order) order ≡ first
buddy-buddy first order e = twice _ order first (parity first order _ (multiple first order e) (half_cases _))

-- a block is not its buddy
pub buddy-other : (first order : ℕ) → first % 2 ^ order ≡ 0 → first ≢ buddy first order
buddy-other first order e = two _ order first (parity first order _ (multiple first order e) (half_cases _))

-- ---- pageblocks

-- what lies in one block lies in one greater block
pub same_above : (f g order top : ℕ) → order ≤ top → f / 2 ^ order ≡ g / 2 ^ order → f / 2 ^ top ≡ g / 2 ^ top
same_above f g order top h e =
    let sum : top ≡ order + (top - order) = omega arith in
    rw sum (rw (← shr-shr f order (top - order), e) (shr-shr g order (top - order)))

-- a block lies in the same greater blocks
pub ancestor_above : (f order top : ℕ) → order ≤ top → ancestor f order / 2 ^ top ≡ f / 2 ^ top
ancestor_above f order top h = same_above _ f order top h (shl-shr (f / 2 ^ order) order)

-- the upper half of a block: it is aligned, its buddy is the lower half, and it lies in the same
-- greater blocks
pub record IsUpperHalf (first last top : ℕ) : Type 0 where
  pub aligned : (first + 2 ^ last) % 2 ^ last ≡ 0
  pub lower_aligned : first % 2 ^ last ≡ 0
  pub buddy_is : buddy (first + 2 ^ last) last ≡ first
  pub above : (first + 2 ^ last) / 2 ^ top ≡ first / 2 ^ top

-- the upper half of a multiple's block
pub upper_half_of : (q first last top : ℕ) → first ≡ q * 2 ^ suc last → suc last ≤ top
    → IsUpperHalf first last top
upper_half_of q first last top e h =
    let some : 0 < 2 ^ last = pow_pos last in
    let less : 2 ^ last < 2 ^ suc last = rw pow-suc (omega arith) in
    let double : first ≡ q * 2 * 2 ^ last = e ∙ rw pow-suc (grind arith) in
    let next : first + 2 ^ last ≡ (q * 2 + 1) * 2 ^ last = grind arith in
    let here : (q * 2 ^ suc last + 2 ^ last) / 2 ^ suc last ≡ q =
    div-mul-add q (2 ^ suc last) (2 ^ last) less in
    record {
      aligned = rw next (multiple_aligned _ last);
      lower_aligned = rw double (multiple_aligned (q * 2) last);
      buddy_is = rw double (buddy_odd q last);
      above = same_above _ first _ top h (rw e (here ∙ sym (shl-shr q (suc last))));
    }

-- the upper half of an aligned block
pub upper_half : (first last top : ℕ) → first % 2 ^ suc last ≡ 0 → suc last ≤ top → IsUpperHalf first last top
upper_half first last top e h = upper_half_of _ first last top (multiple first _ e) h

-- a block aligned to an order is aligned to each lower one
pub below_aligned : (order count first : ℕ) → first % 2 ^ (order + count) ≡ 0 → first % 2 ^ order ≡ 0
below_aligned order count first e =
    let some : 0 < 2 ^ order = pow_pos order in
    let there : first ≡ first / 2 ^ (order + count) * 2 ^ count * 2 ^ order =
    multiple first _ e ∙ rw pow-add (grind arith) in
    rw there (multiple_aligned _ order)

-- a block and its buddy lie in the same greater blocks
pub above_of : (t order top first : ℕ) → suc order ≤ top
    → (first ≡ t * 2 * 2 ^ order) ⊎ (first ≡ t * 2 * 2 ^ order + 2 ^ order)
    → buddy first order / 2 ^ top ≡ first / 2 ^ top
above_of t order top first h (inl e) =
    let double : t * 2 * 2 ^ order ≡ t * 2 ^ suc order = rw pow-suc (grind arith) in
    rw (e, buddy_even) (upper_half_of t _ order top double h).above
above_of t order top first h (inr e) =
    let double : t * 2 * 2 ^ order ≡ t * 2 ^ suc order = rw pow-suc (grind arith) in
    rw (e, buddy_odd) (sym (upper_half_of t _ order top double h).above)

-- the same for an aligned block
pub buddy_above : (first order top : ℕ) → first % 2 ^ order ≡ 0 → suc order ≤ top
    → buddy first order / 2 ^ top ≡ first / 2 ^ top
buddy_above first order top e h =
    above_of _ order top first h (parity first order _ (multiple first order e) (half_cases _))

-- a frame of the layout is in a pageblock of the layout
pub pageblock_in : (l : LayoutParts) (frame : ℕ) → frame < frame_count l
    → pageblock_of l frame < pageblock_count l
pageblock_in l frame h =
    let turned : l.blocks * (l.pageblocks * 2 ^ l.order) ≡ l.blocks * l.pageblocks * 2 ^ l.order =
    grind arith in
    div_below frame (2 ^ l.order) (l.blocks * l.pageblocks) (pow_pos l.order) (omega arith)
