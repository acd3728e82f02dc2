-- A table of pages, one entry of it written, and in how many pages a frame is.
use Rattle.std.proofs.Common.{◌≡◌, ◌≢◌, ℕ, zero, suc, ◌+◌, ◌<◌, ◌≤◌, List, [], ◌∷◌, length, get_or, set, cond, Option, Some, None, sym, ◌∙◌, ap, subst, arith, ◌⊎◌, inl, inr, length-set}
use Rattle.std.specs.List.{AllByRecursion, sum_by, count_by}
use Rattle.std.specs.Prelude.{slice_get}
use Rattle.std.proofs.lemmas.Bool.{cases_eq, cases_lt}
use Rattle.std.proofs.lemmas.Bool.Decides.{nat_tests}
use Rattle.std.proofs.lemmas.List.{get_or-set_other, get_or-set_same, get_or_past}
use Rattle.std.proofs.lemmas.List.Sums.{sum_by-set}
use Rattle.std.proofs.lemmas.Option.{slice_get-get_or}
use Rattle.hp_units.specs.LayoutParts.{LayoutParts}
use Rattle.hp_units.specs.Memory.{Memory, entry_of, with_entry}
use Rattle.hp_units.specs.Pages.{holds}
use Rattle.hp_units.specs.Placement.{IsInOrder, covered}

-- ---- tables

-- what was set is read
pub get_set : {X : Type 0} (xs : List X) (i : ℕ) (x : X) → i < length xs → slice_get (set xs i x) i ≡ Some x
get_set xs i x lt = rw (slice_get-get_or (set xs i x) i x (rw length-set lt), get_or-set_same xs i x x lt)

pub row_length : {A : Type 0} (pages : ℕ) (table : List (List (Option A))) (owner : ℕ)
    → AllByRecursion (λ row. length row ≡ pages) table → owner < length table
    → length (get_or table owner []) ≡ pages
row_length pages [] owner all low = absurd (omega arith)
row_length pages (row ∷ rows) zero all low = all.0
row_length pages (row ∷ rows) (suc owner) all low = row_length pages rows owner all.1 (omega arith)

pub all-set : {X : Type 0} (P : X → Type 0) (xs : List X) (i : ℕ) (x : X) → AllByRecursion P xs → P x
    → AllByRecursion P (set xs i x)
all-set P [] i x all h = tt
all-set P (y ∷ ys) zero x all h = (h, all.1)
all-set P (y ∷ ys) (suc i) x all h = (all.0, all-set P ys i x all.1 h)

-- a table of `owners` rows of `pages` pages each
pub record IsTable {A : Type 0} (owners pages : ℕ) (table : List (List (Option A))) : Type 0 where
  pub tall : length table ≡ owners
  pub wide : AllByRecursion (λ row. length row ≡ pages) table

pub with_entry-table : {A : Type 0} (owners pages : ℕ) (table : List (List (Option A))) (owner page : ℕ)
    (e : Option A)
    → owner < owners → IsTable owners pages table
    → IsTable owners pages (with_entry table owner page e)
with_entry-table owners pages table owner page e low is = record {
  tall = length-set table owner (set (get_or table owner []) page e) ∙ is.tall;
  wide =
      all-set _ table owner _ is.wide (length-set (get_or table owner [])
      page e ∙ row_length pages table owner is.wide (omega (arith, is.tall)));
}

pub entry-same : {A : Type 0} (owners pages : ℕ) (table : List (List (Option A))) (owner page : ℕ)
    (e : Option A)
    → owner < owners → page < pages → IsTable owners pages table
    → entry_of (with_entry table owner page e) owner page ≡ e
entry-same owners pages table owner page e low short is =
    rw (get_or-set_same table owner (set (get_or table owner []) page e) [] (omega (arith, is.tall)))
    (get_or-set_same (get_or table owner []) page e None
    (omega (arith, row_length pages table owner is.wide (omega (arith, is.tall)))))

-- another place of a table
abbrev pub IsElsewhere : (owner page o p : ℕ) → Type 0
IsElsewhere owner page o p = (o ≢ owner) ⊎ (p ≢ page)

pub entry-apart : {A : Type 0} (table : List (List (Option A))) (owner page : ℕ) (e : Option A) (o p : ℕ)
    → IsElsewhere owner page o p
    → entry_of (with_entry table owner page e) o p ≡ entry_of table o p
entry-apart table owner page e o p (inl ne) =
    ap (λ row. get_or row p None) (get_or-set_other table owner o (set (get_or table owner []) page e) [] ne)
entry-apart table owner page e o p (inr ne) = elim (cases_eq o owner) [
  | inl same ↦ elim (cases_lt owner (length table)) [
    | inl low ↦
        rw same (ap (λ row. get_or row p None) (get_or-set_same table owner (set (get_or table owner []) page
        e) [] low) ∙ get_or-set_other (get_or table owner []) page p e None ne)
    | inr high ↦
        ap (λ row. get_or row p None) (get_or_past _ o []
        (omega (arith, length-set table owner (set (get_or table owner []) page e)))
        ∙ sym (get_or_past table o [] (omega arith)))
  ]
  | inr apart ↦ rw (get_or-set_other table owner o (set (get_or table owner []) page e) [] apart)
]

pub entry-cases : {A : Type 0} (P : ℕ → ℕ → Option A → Type 0) (owners pages : ℕ)
    (table : List (List (Option A))) (owner page : ℕ) (e : Option A)
    → owner < owners → page < pages
    → IsTable owners pages table → P owner page e
    → ((o p : ℕ) → IsElsewhere owner page o p → P o p (entry_of table o p))
    → (o p : ℕ) → P o p (entry_of (with_entry table owner page e) o p)
entry-cases P owners pages table owner page e low short is new old o p = elim (cases_eq o owner) [
  | inr ne ↦ subst (P o p) (sym (entry-apart table owner page e o p (inl ne))) (old o p (inl ne))
  | inl same ↦ elim (cases_eq p page) [
    | inr ne ↦ subst (P o p) (sym (entry-apart table owner page e o p (inr ne))) (old o p (inr ne))
    | inl here ↦ rw (same, here, entry-same owners pages table owner page e low short is) new
  ]
]

-- an entry that is there is in the table
pub record IsWithin (owners pages owner page : ℕ) : Type 0 where
  pub owner_in : owner < owners
  pub page_in : page < pages

pub entry_within : {A : Type 0} (owners pages : ℕ) (table : List (List (Option A))) (owner page : ℕ) (x : A)
    → IsTable owners pages table → entry_of table owner page ≡ Some x
    → IsWithin owners pages owner page
entry_within owners pages table owner page x is e = elim (cases_lt owner (length table)) [
  | inl low ↦ elim (cases_lt page (length (get_or table owner []))) [
    | inl short ↦
        record {
          owner_in = omega (arith, is.tall);
          page_in = omega (arith, row_length pages table owner is.wide low);
        }
    | inr past ↦ cc (get_or_past _ page None past, e)
  ]
  | inr high ↦ cc (ap (λ row. get_or row page None) (get_or_past table owner [] high), e)
]

-- ---- in how many pages a frame is

-- 1 if an entry is the frame
abbrev pub held : ℕ → Option ℕ → ℕ
held frame e = cond (holds frame e) 1 0

pub held-some : (frame x : ℕ) → held frame (Some x) ≡ covered frame 0 x
held-some frame x = grind (arith, nat_tests)

abbrev pub in_pages : ℕ → List (List (Option ℕ)) → ℕ
in_pages frame table = sum_by (λ row. count_by (holds frame) row) table

pub mapped-places : (owners pages : ℕ) (table : List (List (Option ℕ))) (owner page : ℕ) (e : Option ℕ)
    (frame : ℕ)
    → owner < owners → page < pages → IsTable owners pages table
    → in_pages frame (with_entry table owner page e) + held frame (entry_of table owner page)
    ≡ in_pages frame table + held frame e
mapped-places owners pages table owner page e frame low short is =
    let row : List (Option ℕ) = get_or table owner [] in
    let size : length row ≡ pages = row_length pages table owner is.wide (omega (arith, is.tall)) in
    let rows : sum_by (λ r. count_by (holds frame) r) (set table owner (set row page e)) + count_by (holds
    frame) row ≡ sum_by (λ r. count_by (holds frame) r) table + count_by (holds frame) (set row page e) =
    sum_by-set (λ (r : List (Option ℕ)). count_by (holds frame) r) table owner (set row page e) []
    (omega (arith, is.tall)) in
    let entries : count_by (holds frame) (set row page e) + held frame (get_or row page None)
    ≡ count_by (holds frame) row + held frame e =
    sum_by-set (λ (x : Option ℕ). held frame x) row page e None (omega arith) in
    omega arith

pub mapped_some : (owners pages : ℕ) (table : List (List (Option ℕ))) (owner page frame : ℕ)
    → IsTable owners pages table → entry_of table owner page ≡ Some frame → 1 ≤ in_pages frame table
mapped_some owners pages table owner page frame is e =
    let within = entry_within owners pages table owner page frame is e in
    let one : held frame (Some frame) ≡ 1 = self frame in
    omega (
      arith,
      rw e at (mapped-places owners pages table owner page None frame within.owner_in within.page_in is),
    )
  where
    self : (frame : ℕ) → held frame (Some frame) ≡ 1
    self frame = grind (arith, nat_tests)

-- ---- the pages of a state

pub table_of : (l : LayoutParts) (s : Memory) → IsInOrder l s → IsTable l.owners l.pages s.pages.table
table_of l s h = record { tall = h.shape.owners; wide = h.shape.pages }

pub contents_of : (l : LayoutParts) (s : Memory) → IsInOrder l s → IsTable l.owners l.pages s.pages.contents
contents_of l s h = record { tall = h.shape.content_owners; wide = h.shape.content_pages }
