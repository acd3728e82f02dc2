-- The code of the kernel blocks, from one start to the next.
use Rattle.std.proofs.Common.{ℕ, zero, suc, ◌≡◌, ◌∙◌, ◌+◌, ◌-◌, ◌*◌, ◌<◌, ◌≤◌, List, ◌++◌, cond, Option, None, Some, IsSome, drop, find, get_or, is_some, length, refl, sym, ap, subst, arith}
use Rattle.std.specs.List.{range_with_len}
use Rattle.std.proofs.lemmas.List.{at_drop_all, at_drop_more}
use Rattle.hp_states.specs.Numbers.{number_code}
use Rattle.hp_states.specs.Parts.{gapped_code, kernel_code}

-- the code from the frame `first` on, by the lowest of the next `count` frames at which a block starts
abbrev pub CodeFrom : (orders : List (Option ℕ)) (gap first count : ℕ) (found : Option ℕ) → Type 0
CodeFrom orders gap first count None = kernel_code gap (drop first orders) ≡ number_code (16 * (gap + count))
CodeFrom orders gap first count (Some frame) =
    (first ≤ frame) × (frame < first + count) × IsSome (get_or orders frame None)
    × ((order : ℕ) → get_or orders frame None ≡ Some order → kernel_code gap (drop first orders)
    ≡ gapped_code (gap + (frame - first)) order ++ kernel_code 0 (drop (frame + 1) orders))

-- one frame more, by the block that starts there, if any
by_entry : (orders : List (Option ℕ)) (gap first count : ℕ) (entry later : Option ℕ) → first < length orders
    → get_or orders first None ≡ entry → CodeFrom orders (gap + 1) (first + 1) count later
    → CodeFrom orders gap first (suc count) (cond (is_some entry) (Some first) later)
by_entry orders gap first count None None low none more =
    at_drop_more (kernel_code gap) orders first None low
    ∙ (rw none (more ∙ ap (λ (n : ℕ). number_code (16 * n)) (omega arith)))
by_entry orders gap first count None (Some frame) low none more =
    let rest : List ℕ = kernel_code 0 (drop (frame + 1) orders) in (
      omega (arith, more.0),
      omega (arith, more.1),
      more.2,
      λ order some.
          at_drop_more (kernel_code gap) orders first None low
          ∙ (rw none (more.3 order some
          ∙ ap (λ (n : ℕ). gapped_code n order ++ rest) (omega (arith, more.0)))),
    )
by_entry orders gap first count (Some order) later low starts more =
    let rest : List ℕ = kernel_code 0 (drop (first + 1) orders) in (
      omega arith,
      omega arith,
      rw starts refl,
      λ order some.
          at_drop_more (kernel_code gap) orders first None low
          ∙ (rw some (ap (λ (n : ℕ). gapped_code n order ++ rest) (omega arith))),
    )

code_by_find : (orders : List (Option ℕ)) (gap first count : ℕ) → first + count ≡ length orders
    → CodeFrom orders gap first count
    (find (λ frame. is_some (get_or orders frame None)) (range_with_len first count))
code_by_find orders gap first zero size =
    at_drop_all (kernel_code gap) orders first (omega (arith, size))
    ∙ ap (λ (n : ℕ). number_code (16 * n)) (omega arith)
code_by_find orders gap first (suc count) size =
    by_entry orders gap first count (get_or orders first None) _ (omega (arith, size)) refl
    (code_by_find orders (gap + 1) (first + 1) count (omega (arith, size)))

pub code_from : (orders : List (Option ℕ)) (first frames : ℕ) (found : Option ℕ) → length orders ≡ frames
    → first ≤ frames
    → found ≡ find (λ frame. is_some (get_or orders frame None)) (range_with_len first (frames - first))
    → CodeFrom orders 0 first (frames - first) found
code_from orders first frames found size within is =
    subst (CodeFrom orders 0 first (frames - first)) (sym is)
    (code_by_find orders 0 first (frames - first) (omega (arith, size, within)))
