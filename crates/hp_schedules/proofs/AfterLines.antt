-- What lines take of receipts, and what they leave of them.
use Rattle.std.proofs.Common.{◌≡◌, ℕ, List, [], ◌∷◌, ◌++◌, Option, Some, None, refl, ap, inl, inr, arith}
use Rattle.std.specs.Option.{option_map_or}
use Rattle.std.proofs.lemmas.List.{append_assoc}
use Rattle.std.proofs.lemmas.Option.{none-some, same_Some}
use Rattle.hp_units.specs.declared.replies.Receipt.{Receipt}
use Rattle.hp_schedules.specs.Scripts.{Known, after_line, after_lines, line_next, next_in, nothing_known}
use Rattle.hp_schedules.specs.declared.scripts.Step.{Step}
use Rattle.hp_schedules.specs.declared.scripts.Step.TheVariants.{Own}
use Rattle.hp_laws.proofs.Options.{cases_option}
use Rattle.hp_schedules.proofs.Lines.{over_now}

-- ---- one line

-- what is left does not depend on the result that the line works on
pub any_known : (cpus : ℕ) (known : Known) (line : Step) (earlier later : List Receipt)
    → after_line cpus known line earlier later ≡ after_line cpus nothing_known line earlier later
any_known cpus known (Own work) [] [] = refl
any_known cpus known (Own work) [] (r ∷ rs) = any_known cpus known (Own work) (r ∷ []) rs
any_known cpus known line earlier [] = refl
any_known cpus known line earlier (r ∷ rs) =
    ap (λ (rest : Option (List Receipt)). option_map_or (λ e. rest)
    (line_next cpus nothing_known line earlier) (Some (r ∷ rs)))
    (any_known cpus known line (earlier ++ r ∷ []) rs)

-- what is left of more receipts
pub after_more : (cpus : ℕ) (known : Known) (line : Step) (earlier later more rest : List Receipt)
    → after_line cpus known line earlier later ≡ Some rest
    → after_line cpus known line earlier (later ++ more) ≡ Some (rest ++ more)
after_more cpus known line earlier [] more rest is =
    grind (arith, cases_option, over_now, none-some, same_Some)
after_more cpus known line earlier (r ∷ rs) more rest is =
    grind (arith, cases_option, none-some, same_Some, after_more cpus known line (earlier ++ r ∷ []) rs)

-- what is taken, and left
pub record Parts (taken : List Receipt → Option (List Receipt)) (receipts rest : List Receipt) : Type 0 where
  pub own : List Receipt
  pub whole : receipts ≡ own ++ rest
  pub over : taken own ≡ Some []

pub after_parts : (cpus : ℕ) (known : Known) (line : Step) (earlier later rest : List Receipt)
    → after_line cpus known line earlier later ≡ Some rest
    → Parts (after_line cpus known line earlier) later rest
after_parts cpus known line earlier [] rest is =
    elim (cases_option (line_next cpus known line earlier)) [
      | inl none ↦ record { own = []; whole = same_Some [] rest (rw none at is); over = rw none }
      | inr e ↦ absurd (none-some rest (rw e.1 at is))
    ]
after_parts cpus known line earlier (r ∷ rs) rest is =
    elim (cases_option (line_next cpus known line earlier)) [
      | inl none ↦ record { own = []; whole = same_Some (r ∷ rs) rest (rw none at is); over = rw none }
      | inr e ↦ (let parts = after_parts cpus known line (earlier ++ r ∷ []) rs rest (rw e.1 at is) in
          record {
            own = r ∷ parts.own;
            whole = ap (λ (xs : List Receipt). r ∷ xs) parts.whole;
            over = rw e.1 parts.over;
          })
    ]

-- ---- several lines

-- the first one is finished, and the others are
pub record FirstThen (cpus : ℕ) (known : Known) (line : Step) (lines : List Step)
    (receipts rest : List Receipt) : Type 0 where
  pub left : List Receipt
  pub first : after_line cpus known line [] receipts ≡ Some left
  pub others : after_lines cpus known lines left ≡ Some rest

pub first_then : (cpus : ℕ) (known : Known) (line : Step) (lines : List Step) (receipts rest : List Receipt)
    → after_lines cpus known (line ∷ lines) receipts ≡ Some rest
    → FirstThen cpus known line lines receipts rest
first_then cpus known line lines receipts rest is =
    elim (cases_option (after_line cpus known line [] receipts)) [
      | inl none ↦ absurd (none-some rest (rw none at is))
      | inr left ↦ record { left = left.0; first = left.1; others = rw left.1 at is }
    ]

pub lines_more : (cpus : ℕ) (known : Known) (lines : List Step) (receipts more rest : List Receipt)
    → after_lines cpus known lines receipts ≡ Some rest
    → after_lines cpus known lines (receipts ++ more) ≡ Some (rest ++ more)
lines_more cpus known [] receipts more rest is =
    ap (λ (xs : List Receipt). Some (xs ++ more)) (same_Some receipts rest is)
lines_more cpus known (line ∷ lines) receipts more rest is =
    let parts = first_then cpus known line lines receipts rest is in
    rw (after_more cpus known line [] receipts more parts.left parts.first)
    (lines_more cpus known lines parts.left more rest parts.others)

pub lines_parts : (cpus : ℕ) (known : Known) (lines : List Step) (receipts rest : List Receipt)
    → after_lines cpus known lines receipts ≡ Some rest → Parts (after_lines cpus known lines) receipts rest
lines_parts cpus known [] receipts rest is =
    record { own = []; whole = same_Some receipts rest is; over = refl }
lines_parts cpus known (line ∷ lines) receipts rest is =
    let parts = first_then cpus known line lines receipts rest is in
    let first = after_parts cpus known line [] receipts parts.left parts.first in
    let others = lines_parts cpus known lines parts.left rest parts.others in
    record {
      own = first.own ++ others.own;
      whole = rw (append_assoc, ← others.whole) first.whole;
      over = rw (after_more cpus known line [] first.own others.own [] first.over) others.over;
    }

-- lines, and further ones
pub lines_then : (cpus : ℕ) (known : Known) (lines others : List Step) (receipts rest : List Receipt)
    → after_lines cpus known lines receipts ≡ Some rest
    → after_lines cpus known (lines ++ others) receipts ≡ after_lines cpus known others rest
lines_then cpus known [] others receipts rest is =
    ap (after_lines cpus known others) (same_Some receipts rest is)
lines_then cpus known (line ∷ lines) others receipts rest is =
    grind (arith, cases_option, none-some, lines_then cpus known lines)

-- the first lines of such lines
pub record Before (cpus : ℕ) (known : Known) (lines others : List Step)
    (receipts rest : List Receipt) : Type 0 where
  pub left : List Receipt
  pub before : after_lines cpus known lines receipts ≡ Some left
  pub then : after_lines cpus known others left ≡ Some rest

pub lines_before : (cpus : ℕ) (known : Known) (lines others : List Step) (receipts rest : List Receipt)
    → after_lines cpus known (lines ++ others) receipts ≡ Some rest
    → Before cpus known lines others receipts rest
lines_before cpus known [] others receipts rest is = record { left = receipts; before = refl; then = is }
lines_before cpus known (line ∷ lines) others receipts rest is =
    let parts = first_then cpus known line (lines ++ others) receipts rest is in
    let later = lines_before cpus known lines others parts.left rest parts.others in
    record {
      left = later.left;
      before = rw parts.first later.before;
      then = later.then;
    }

-- after all lines a script calls nothing
pub all_over : (cpus : ℕ) (known : Known) (lines : List Step) (receipts rest : List Receipt)
    → after_lines cpus known lines receipts ≡ Some rest → next_in cpus known lines receipts ≡ None
all_over cpus known [] receipts rest is = refl
all_over cpus known (line ∷ lines) receipts rest is =
    grind (arith, cases_option, none-some, all_over cpus known lines)
