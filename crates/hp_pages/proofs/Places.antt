-- Sums of places, and what they show.
use Rattle.std.proofs.Common.{◌≡◌, ℕ, zero, suc, ◌<◌, ◌≤◌, ◌+◌, ◌*◌, true, false, cond, ltb, List, [], ◌∷◌, length, get_or, set, Option, Some, None, refl, sym, ◌∙◌, inl, inr, arith}
use Rattle.std.specs.Prelude.{count_by, position, is_some}
use Rattle.std.specs.List.{AllByRecursion, position_or_len}
use Rattle.std.specs.Option.{option_map, option_or}
use Rattle.std.proofs.Math.Nat.{suc-mul}
use Rattle.std.proofs.lemmas.Bool.{cases_eq, cases_lt, cases_Bool, eq-eqb, eqb-true, cond-true, lt-ltb, le-ltb}
use Rattle.std.proofs.lemmas.List.Sums.{sum_by-cons, sum_by-set, fails_before_first}
use Rattle.std.proofs.lemmas.List.{get_or_past, get_or-set_same, get_or-set_other, set-set, set-get_or}
use Rattle.std.proofs.lemmas.List.Quantifiers.{position-Some}
use Rattle.hp_units.specs.Memory.{entry_of, with_entry}
use Rattle.hp_units.specs.Pages.{holds, page_from}
use Rattle.hp_pages.specs.Places.{holders, held, row_sum, table_sum, place_of}

-- ---- one entry

-- what it means that an entry is a frame
pub holds_is : (frame : ℕ) (entry : Option ℕ) → holds frame entry ≡ true → entry ≡ Some frame
holds_is frame entry h = grind (arith, eqb-true)

pub is_held : (frame : ℕ) (entry : Option ℕ) → entry ≡ Some frame → holds frame entry ≡ true
is_held frame entry e = rw e (eq-eqb frame frame refl)

-- ---- a changed entry

-- the sum of a row after one entry changed
pub row_sum-set : (base : ℕ) (row : List (Option ℕ)) (i place : ℕ) (x : Option ℕ) (f : ℕ) → i < length row
    → place ≡ base + i
    → row_sum base (set row i x) f + held f (get_or row i None) place ≡ row_sum base row f + held f x place
row_sum-set base [] i place x f lt e = absurd (omega arith)
row_sum-set base (y ∷ row) zero place x f lt e = grind arith
row_sum-set base (y ∷ row) (suc i) place x f lt e =
    omega (arith, row_sum-set (base + 1) row i place x f (omega arith) (omega arith))

-- the sum of a table after one row changed
pub table_sum-set : (pages base : ℕ) (table : List (List (Option ℕ))) (owner place : ℕ)
    (row : List (Option ℕ)) (f : ℕ)
    → owner < length table
    → place ≡ base + owner * pages
    → table_sum pages base (set table owner row) f + row_sum place (get_or table owner []) f
    ≡ table_sum pages base table f + row_sum place row f
table_sum-set pages base [] owner place row f lt e = absurd (omega arith)
table_sum-set pages base (first ∷ table) zero place row f lt e = grind arith
table_sum-set pages base (first ∷ table) (suc owner) place row f lt e =
    let step =
    table_sum-set pages (base + pages) table owner place row f (omega arith)
    (omega (arith, suc-mul owner pages, e)) in
    omega (arith, step)

-- the sum of a table after one entry changed
pub table_sum-entry : (pages : ℕ) (table : List (List (Option ℕ))) (owner page : ℕ) (x : Option ℕ) (f : ℕ)
    → owner < length table → page < length (get_or table owner [])
    → table_sum pages 1 (with_entry table owner page x) f
    + held f (entry_of table owner page) (place_of pages owner page)
    ≡ table_sum pages 1 table f + held f x (place_of pages owner page)
table_sum-entry pages table owner page x f in_owners in_pages = grind (arith, table_sum-set, row_sum-set)

-- how many pages a frame holds after one entry changed
pub holders-entry : (table : List (List (Option ℕ))) (owner page : ℕ) (x : Option ℕ) (f : ℕ)
    → owner < length table → page < length (get_or table owner [])
    → holders (with_entry table owner page x) f + held f (entry_of table owner page) 1
    ≡ holders table f + held f x 1
holders-entry table owner page x f in_owners in_pages = grind (arith, sum_by-set)

-- ---- a frame that holds no page

row_none : (base : ℕ) (row : List (Option ℕ)) (f : ℕ) → count_by (holds f) row ≡ 0 → row_sum base row f ≡ 0
row_none base [] f none = refl
row_none base (entry ∷ row) f none =
    let whole : cond (holds f entry) 1 0 + count_by (holds f) row ≡ 0 =
    sym (sum_by-cons (λ (e : Option ℕ). cond (holds f e) 1 0) entry row) ∙ none in
    grind (arith, cases_Bool, row_none (base + 1) row f (omega (arith, whole)))

-- the sum of a frame that holds no page is 0
pub sum_none : (pages base : ℕ) (table : List (List (Option ℕ))) (f : ℕ) → holders table f ≡ 0
    → table_sum pages base table f ≡ 0
sum_none pages base [] f none = refl
sum_none pages base (row ∷ table) f none =
    let whole : count_by (holds f) row + holders table f ≡ 0 =
    sym (sum_by-cons (λ (r : List (Option ℕ)). count_by (holds f) r) row table) ∙ none in
    grind (arith, row_none, sum_none pages (base + pages) table f (omega (arith, whole)))

-- ---- the first page of a frame

-- no place of a row is the frame
row_free : (f : ℕ) (row : List (Option ℕ)) → ((k : ℕ) → k < length row → holds f (get_or row k None) ≡ false)
    → count_by (holds f) row ≡ 0
row_free f [] none = refl
row_free f (entry ∷ row) none =
    sum_by-cons (λ (e : Option ℕ). cond (holds f e) 1 0) entry row ∙ rw (none 0 (omega arith)) (omega (
      arith,
      (row_free f row (λ k lt. none (suc k) (omega arith))),
    ))

-- `position` finds no entry: none of the row is the frame
no_position : (f : ℕ) (row : List (Option ℕ)) → position (holds f) row ≡ None → count_by (holds f) row ≡ 0
no_position f row none = elim (cases_lt (position_or_len (holds f) row) (length row)) [
  | inl within ↦
      absurd (let e : Some (position_or_len (holds f) row) ≡ None =
      sym (cond-true _ _ _ (lt-ltb _ _ within)) ∙ none in cc)
  | inr past ↦ row_free f row (λ k lt. fails_before_first (holds f) row k None (omega arith))
]

-- a frame's first page, counting owners from `owner` on
pub record IsPageFrom (owner : ℕ) (table : List (List (Option ℕ))) (f : ℕ) (found : ℕ × ℕ) : Type 0 where
  pub row : ℕ
  pub owner_is : found.0 ≡ owner + row
  pub in_owners : row < length table
  pub in_pages : found.1 < length (get_or table row [])
  pub entry : get_or (get_or table row []) found.1 None ≡ Some f

-- the same with one more row, by the first place in it
from_row : (owner : ℕ) (row : List (Option ℕ)) (table : List (List (Option ℕ))) (f : ℕ) (found : ℕ × ℕ)
    (at : Option ℕ)
    → position (holds f) row ≡ at
    → (page_from (owner + 1) table f ≡ Some found → IsPageFrom (owner + 1) table f found)
    → option_or (option_map (λ page. (owner, page)) at) (page_from (owner + 1) table f) ≡ Some found
    → IsPageFrom owner (row ∷ table) f found
from_row owner row table f found (Some page) first rest e = grind (arith, position-Some, holds_is)
from_row owner row table f found None first rest e =
    let later = rest e in record {
      row = suc later.row;
      owner_is = omega (arith, later.owner_is);
      in_owners = omega (arith, later.in_owners);
      in_pages = later.in_pages;
      entry = later.entry;
    }

-- what the first page of a frame is
pub page_from-Some : (owner : ℕ) (table : List (List (Option ℕ))) (f : ℕ) (found : ℕ × ℕ)
    → page_from owner table f ≡ Some found → IsPageFrom owner table f found
page_from-Some owner [] f found e = cc
page_from-Some owner (row ∷ table) f found e =
    from_row owner row table f found (position (holds f) row) refl (page_from-Some (owner + 1) table f found)
    e

-- the same with one more row, by the first place in it
none_row : (owner : ℕ) (row : List (Option ℕ)) (table : List (List (Option ℕ))) (f : ℕ) (at : Option ℕ)
    → position (holds f) row ≡ at
    → (page_from (owner + 1) table f ≡ None → holders table f ≡ 0)
    → option_or (option_map (λ page. (owner, page)) at) (page_from (owner + 1) table f) ≡ None
    → holders (row ∷ table) f ≡ 0
none_row owner row table f (Some page) first rest e = cc
none_row owner row table f None first rest e =
    sum_by-cons (λ (r : List (Option ℕ)). count_by (holds f) r) row table
    ∙ omega (arith, no_position f row first, rest e)

-- a frame with no first page holds none
pub page_from-None : (owner : ℕ) (table : List (List (Option ℕ))) (f : ℕ) → page_from owner table f ≡ None
    → holders table f ≡ 0
page_from-None owner [] f e = refl
page_from-None owner (row ∷ table) f e =
    none_row owner row table f (position (holds f) row) refl (page_from-None (owner + 1) table f) e

-- ---- entries

-- the place of an entry that is there
pub record IsIn {A : Type 0} (table : List (List (Option A))) (owner page : ℕ) : Type 0 where
  pub in_owners : owner < length table
  pub in_pages : page < length (get_or table owner [])

pub entry_in : {A : Type 0} (table : List (List (Option A))) (owner page : ℕ) (x : A)
    → entry_of table owner page ≡ Some x → IsIn table owner page
entry_in {A = A} table owner page x e = grind (arith, cases_lt, get_or_past)

-- a changed entry, and the others
pub entry-same : {A : Type 0} (table : List (List (Option A))) (owner page : ℕ) (x : Option A)
    → IsIn table owner page → entry_of (with_entry table owner page x) owner page ≡ x
entry-same {A = A} table owner page x is_in = grind (arith, get_or-set_same)

pub entry-other : {A : Type 0} (table : List (List (Option A))) (owner page : ℕ) (x : Option A)
    (other_owner other_page : ℕ)
    → IsIn table owner page
    → (other_owner ≡ owner → other_page ≡ page → ⊥)
    → entry_of (with_entry table owner page x) other_owner other_page ≡ entry_of table other_owner other_page
entry-other {A = A} table owner page x other_owner other_page is_in apart =
    grind (arith, cases_eq, get_or-set_same, get_or-set_other)

-- an entry that is set back
pub entry-back : {A : Type 0} (table : List (List (Option A))) (owner page : ℕ) (x was : Option A)
    → IsIn table owner page → entry_of table owner page ≡ was
    → with_entry (with_entry table owner page x) owner page was ≡ table
entry-back {A = A} table owner page x was is_in e = grind (arith, get_or-set_same, set-set, set-get_or)

-- ---- frames that hold at most one page

-- a frame of an entry holds a page
pub holds_some : (table : List (List (Option ℕ))) (owner page f : ℕ) → entry_of table owner page ≡ Some f
    → 1 ≤ holders table f
holds_some table owner page f e =
    let is_in = entry_in table owner page f e in
    let cleared = holders-entry table owner page None f is_in.in_owners is_in.in_pages in
    omega (arith, (rw (is_held f (entry_of table owner page) e) at cleared))

-- two pages of one frame are one
same_page : (table : List (List (Option ℕ))) (owner page f : ℕ) (row other : ℕ) → holders table f ≤ 1
    → entry_of table owner page ≡ Some f → entry_of table row other ≡ Some f
    → (row ≡ owner → other ≡ page → ⊥) → ⊥
same_page table owner page f row other once e also apart =
    let is_in = entry_in table owner page f e in
    let cleared = holders-entry table owner page None f is_in.in_owners is_in.in_pages in
    let more =
    holds_some (with_entry table owner page None) row other f
    (entry-other table owner page None row other is_in apart ∙ also) in
    omega (arith, (rw (is_held f (entry_of table owner page) e) at cleared), more)

only_of : (table : List (List (Option ℕ))) (owner page f : ℕ) (found : Option (ℕ × ℕ)) → holders table f ≤ 1
    → entry_of table owner page ≡ Some f → page_from 0 table f ≡ found
    → found ≡ Some (owner, page)
only_of table owner page f None once e first = grind (arith, page_from-None, holds_some)
only_of table owner page f (Some found) once e first =
    let is = page_from-Some 0 table f found first in
    let row_is : is.row ≡ found.0 = omega (arith, is.owner_is) in
    let apart : (found.0 ≡ owner → found.1 ≡ page → ⊥) → ⊥ = same_page table owner page f found.0 found.1 once
    e (rw (← row_is) is.entry) in
    grind (arith, cases_eq)

-- a page of a frame that holds no other is its first page
pub only_page : (table : List (List (Option ℕ))) (owner page f : ℕ) → holders table f ≤ 1
    → entry_of table owner page ≡ Some f → page_from 0 table f ≡ Some (owner, page)
only_page table owner page f once e = only_of table owner page f (page_from 0 table f) once e refl

-- ---- what the sum of a frame shows

-- the sum of a frame without one of its pages
pub sum_without : (pages : ℕ) (table : List (List (Option ℕ))) (owner page f : ℕ)
    → entry_of table owner page ≡ Some f
    → table_sum pages 1 (with_entry table owner page None) f + place_of pages owner page
    ≡ table_sum pages 1 table f
sum_without pages table owner page f e = grind (arith, entry_in, table_sum-entry, is_held)

-- the sum of a frame that holds one page is its place
pub sum_one : (pages : ℕ) (table : List (List (Option ℕ))) (owner page f : ℕ) → holders table f ≤ 1
    → entry_of table owner page ≡ Some f
    → table_sum pages 1 table f ≡ place_of pages owner page
sum_one pages table owner page f once e =
    let is_in = entry_in table owner page f e in
    let cleared = holders-entry table owner page None f is_in.in_owners is_in.in_pages in
    let one = rw (is_held f (entry_of table owner page) e) at cleared in
    let rest = sum_none pages 1 (with_entry table owner page None) f (omega (arith, one)) in
    omega (arith, rest, sum_without pages table owner page f e)

-- the sum is 0 exactly if the frame holds no page
marks_of : (pages : ℕ) (table : List (List (Option ℕ))) (f : ℕ) (found : Option (ℕ × ℕ))
    → page_from 0 table f ≡ found
    → ltb 0 (table_sum pages 1 table f) ≡ is_some found
marks_of pages table f None first = grind (arith, le-ltb, sum_none, page_from-None)
marks_of pages table f (Some found) first =
    let is = page_from-Some 0 table f found first in
    lt-ltb 0 _ (omega (arith, sum_without pages table is.row found.1 f is.entry))

pub sum_marks : (pages : ℕ) (table : List (List (Option ℕ))) (f : ℕ)
    → ltb 0 (table_sum pages 1 table f) ≡ is_some (page_from 0 table f)
sum_marks pages table f = marks_of pages table f (page_from 0 table f) refl

-- ---- how great a sum may be

row_sum-le : (base most : ℕ) (row : List (Option ℕ)) (f : ℕ) → base + length row ≤ most
    → row_sum base row f ≤ length row * most
row_sum-le base most [] f le = omega arith
row_sum-le base most (entry ∷ row) f le =
    grind (arith, cases_Bool, suc-mul, row_sum-le (base + 1) most row f (omega arith))

pub table_sum-le : (pages base most : ℕ) (table : List (List (Option ℕ))) (f : ℕ)
    → AllByRecursion (λ row. length row ≡ pages) table
    → base + length table * pages ≤ most → table_sum pages base table f ≤ length table * (pages * most)
table_sum-le pages base most [] f all le = omega arith
table_sum-le pages base most (row ∷ table) f all le =
    let rows = suc-mul (length table) pages in
    let rest = table_sum-le pages (base + pages) most table f all.1 (omega (arith, rows)) in
    grind (arith, row_sum-le, suc-mul)
