-- The page that a migration moves, looked for block by block.
use Rattle.std.proofs.Common.{◌≡◌, ℕ, zero, suc, ◌+◌, ◌-◌, ◌<◌, ◌≤◌, Bool, true, false, cond, get_or, length, List, ◌∷◌, Option, Some, None, refl, sym, ◌∙◌, ap, arith, ◌&&◌}
use Rattle.std.specs.Prelude.{filter, find, is_some}
use Rattle.std.specs.List.{flat_map, list_any, range_with_len}
use Rattle.std.specs.Option.{option_or}
use Rattle.std.proofs.lemmas.List.Folds.{find-append, list_any_at}
use Rattle.hp_units.specs.LayoutParts.{LayoutParts}
use Rattle.hp_units.specs.Arithmetic.{frames_of_block}
use Rattle.hp_units.specs.Memory.{Memory, offline_row, row_of}
use Rattle.hp_units.specs.declared.rows.Row.{Row}
use Rattle.hp_units.specs.Pages.{page_at}
use Rattle.hp_units.specs.Migrations.{migration_source}
use Rattle.hp_units.specs.Rows.{is_claimed_by, is_going, is_live}
use Rattle.hp_layers.specs.Migrations.{source_from, source_of}

-- one more block is searched
pub source-further : (l : LayoutParts) (s : Memory) (op number count : ℕ) → number < count
    → source_of l s op number ≡ None
    → source_from l s op number (count - number) ≡ source_from l s op (number + 1) (count - (number + 1))
source-further l s op number count low none =
    let less : count - number ≡ suc (count - (number + 1)) = omega arith in
    rw (less, none)

pub source-here : (l : LayoutParts) (s : Memory) (op number count frame : ℕ) → number < count
    → source_of l s op number ≡ Some frame → source_from l s op number (count - number) ≡ Some frame
source-here l s op number count frame low some =
    let less : count - number ≡ suc (count - (number + 1)) = omega arith in
    rw (less, some)

pub source-past : (l : LayoutParts) (s : Memory) (op number count : ℕ) → count ≤ number
    → source_from l s op number (count - number) ≡ None
source-past l s op number count past =
    let none : count - number ≡ 0 = omega arith in ap (λ (n : ℕ). source_from l s op number n) none

-- several blocks that the operation does not hold
pub source-skipped : (l : LayoutParts) (s : Memory) (op first more count : ℕ) → first + more ≤ count
    → ((block : ℕ) → first ≤ block → block < first + more → is_claimed_by op (row_of s.blocks block) ≡ false)
    → source_from l s op first (count - first) ≡ source_from l s op (first + more) (count - (first + more))
source-skipped l s op first zero count low none =
    let same : first + 0 ≡ first = omega arith in
    ap (λ (n : ℕ). source_from l s op n (count - n)) (sym same)
source-skipped l s op first (suc more) count low none =
    let next : first + 1 + more ≡ first + suc more = omega arith in
    rw (source-further l s op first count (omega (arith, low)) (rw (none first (omega arith) (omega arith))))
    (rw (source-skipped l s op (first + 1) more count
    (omega (arith, low)) (λ block from to. none block (omega (arith, from)) (omega (arith, to)))) (rw next))

-- all blocks between two numbers
pub source-between : (l : LayoutParts) (s : Memory) (op first past count : ℕ) → first ≤ past → past ≤ count
    → ((block : ℕ) → first ≤ block → block < past → is_claimed_by op (row_of s.blocks block) ≡ false)
    → source_from l s op first (count - first) ≡ source_from l s op past (count - past)
source-between l s op first past count from to none =
    let same : first + (past - first) ≡ past = omega (arith, from) in
    rw (source-skipped l s op first (past - first) count (omega (arith, from, to))
    (λ block low high. none block low (omega (arith, high, from)))) (rw same)

-- a block more, by whether it is claimed and whether it is going
with_block : (p : ℕ → Bool) (f : ℕ → List ℕ) (g : ℕ → Bool) (block : ℕ) (xs : List ℕ) (later : Option ℕ)
    (claimed going : Bool)
    → g block ≡ going → later ≡ find p (flat_map f (filter g xs))
    → option_or (cond (claimed && going) (find p (f block)) None) later
    ≡ find p (flat_map f (filter g (cond claimed (block ∷ xs) xs)))
with_block p f g block xs later false going e is = is
with_block p f g block xs later true false e is =
    is ∙ ap (λ (b : Bool). find p (flat_map f (cond b (block ∷ filter g xs) (filter g xs)))) (sym e)
with_block p f g block xs later true true e is =
    rw (is, ← find-append p (f block) (flat_map f (filter g xs)))
    (ap (λ (b : Bool). find p (flat_map f (cond b (block ∷ filter g xs) (filter g xs)))) (sym e))

-- all blocks
sources : (l : LayoutParts) (s : Memory) (op block count : ℕ)
    → source_from l s op block count ≡ find (λ frame. is_some (page_at s.pages frame))
    (flat_map (frames_of_block l) (filter (λ b. is_going (row_of s.blocks b))
    (filter (λ b. is_claimed_by op (row_of s.blocks b)) (range_with_len block count))))
sources l s op block zero = refl
sources l s op block (suc count) =
    with_block (λ frame. is_some (page_at s.pages frame)) (frames_of_block l)
    (λ b. is_going (row_of s.blocks b)) block
    (filter (λ b. is_claimed_by op (row_of s.blocks b)) (range_with_len (block + 1) count))
    (source_from l s op (block + 1) count) (is_claimed_by op (row_of s.blocks block))
    (is_going (row_of s.blocks block)) refl (sources l s op (block + 1) count)

pub source-all : (l : LayoutParts) (s : Memory) (op : ℕ)
    → source_from l s op 0 l.blocks ≡ migration_source l s op
source-all l s op = sources l s op 0 l.blocks

-- ---- an operation that has a source is live

-- if a block is claimed
live-here : (claimed going : Bool) (op block from : ℕ) (rows : List Row) (here later : Option ℕ)
    → is_claimed_by op (get_or rows block offline_row) ≡ claimed → block < length rows
    → (later ≡ Some from → list_any (is_claimed_by op) rows ≡ true)
    → option_or (cond (claimed && going) here None) later ≡ Some from
    → list_any (is_claimed_by op) rows ≡ true
live-here true going op block from rows here later claimed low further found =
    list_any_at (is_claimed_by op) rows block offline_row low claimed
live-here false going op block from rows here later claimed low further found = further found

live-from : (l : LayoutParts) (s : Memory) (op block count from : ℕ) → block + count ≤ length s.blocks.rows
    → source_from l s op block count ≡ Some from → is_live s.blocks op ≡ true
live-from l s op block zero from within found = absurd cc
live-from l s op block (suc count) from within found =
    live-here (is_claimed_by op (row_of s.blocks block)) (is_going (row_of s.blocks block)) op block from
    s.blocks.rows (find (λ frame. is_some (page_at s.pages frame)) (frames_of_block l block))
    (source_from l s op (block + 1) count) refl (omega arith)
    (λ later. live-from l s op (block + 1) count from (omega arith) later) found

pub source-live : (l : LayoutParts) (s : Memory) (op from : ℕ) → length s.blocks.rows ≡ l.blocks
    → migration_source l s op ≡ Some from → is_live s.blocks op ≡ true
source-live l s op from rows found =
    live-from l s op 0 l.blocks from (omega (arith, rows)) (source-all l s op ∙ found)
