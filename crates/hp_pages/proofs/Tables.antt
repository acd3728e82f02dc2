-- What the calls of the page table keep and return.
use Rattle.std.proofs.Common.{◌≡◌, ℕ, zero, suc, map, ◌<◌, ◌≤◌, ◌+◌, ◌-◌, ◌*◌, ◌/◌, ◌%◌, ◌^◌, Bool, false, ltb, List, [], ◌∷◌, length, get_or, set, replicate, Option, Some, None, refl, sym, ap, ◌∙◌, subst, arith}
use Rattle.std.specs.Prelude.{IfSome, find, is_some}
use Rattle.std.specs.List.{AllByRecursion, range_with_len}
use Rattle.std.proofs.lemmas.Bool.{cases_eq, eq-eqb, ne_eqb, le-ltb}
use Rattle.std.proofs.lemmas.List.{get_or-set_same, get_or-set_other, get_or-replicate, length-set, length-replicate}
use Rattle.std.proofs.lemmas.Option.{MatchOption-from_none}
use Rattle.std.proofs.lemmas.Nat.{div-mul-add, mod-mul-add, mul-le}
use Rattle.hp_units.specs.Memory.{entry_of, with_entry}
use Rattle.hp_units.specs.Pages.{page_from}
use Rattle.hp_pages.specs.FrameSets.{FindsLowest}
use Rattle.hp_pages.specs.Places.{AreSumsOf, CanJoin, CanLeave, IsTable, TableValue, frame_of_code, held, holders, joined, left, place_of, row_sum, table_sum}
use Rattle.hp_pages.proofs.FrameSets.{finds_same, found_is}
use Rattle.hp_pages.proofs.Places.{IsIn, entry-other, entry-same, page_from-None, page_from-Some, sum_marks, sum_none, sum_one, sum_without, table_sum-entry, table_sum-le}

-- a table, by its parts
abbrev table_of : (sums : List ℕ) (pages : ℕ) (rows : List (List (Option ℕ))) → TableValue
table_of sums pages rows = record { frames = length sums; pages = pages; rows = rows }

-- no frame
abbrev no_frame : Option ℕ
no_frame = None

-- one of at most 2^20 frames has a number below 2^20
pub below_most : (now : Option ℕ) (frames : ℕ) → IfSome now (λ frame. frame < frames) → frames ≤ 2 ^ 20
    → IfSome now (λ frame. frame < 2 ^ 20)
below_most now frames below le = grind arith

-- codes of no frame
pub codes_of_none : (n : ℕ) → map frame_of_code (replicate n 0) ≡ replicate n no_frame
codes_of_none zero = refl
codes_of_none (suc n) = ap (λ (row : List (Option ℕ)). no_frame ∷ row) (codes_of_none n)

-- each row of a table
pub row_length : {A : Type 0} (pages : ℕ) (rows : List (List A)) (owner : ℕ)
    → AllByRecursion (λ row. length row ≡ pages) rows → owner < length rows
    → length (get_or rows owner []) ≡ pages
row_length pages [] owner all lt = absurd (omega arith)
row_length pages (row ∷ rows) zero all lt = all.0
row_length pages (row ∷ rows) (suc owner) all lt = row_length pages rows owner all.1 (omega arith)

pub row_set : {A : Type 0} (pages : ℕ) (rows : List (List A)) (owner : ℕ) (row : List A)
    → AllByRecursion (λ row. length row ≡ pages) rows → length row ≡ pages
    → AllByRecursion (λ row. length row ≡ pages) (set rows owner row)
row_set pages [] owner row all e = tt
row_set pages (first ∷ rows) zero row all e = (e, all.1)
row_set pages (first ∷ rows) (suc owner) row all e = (all.0, row_set pages rows owner row all.1 e)

-- a page that is in the table
pub page_in : {A : Type 0} (pages : ℕ) (rows : List (List (Option A))) (owner page : ℕ)
    → AllByRecursion (λ row. length row ≡ pages) rows → owner < length rows → page < pages
    → IsIn rows owner page
page_in pages rows owner page all in_owners in_pages = record {
  in_owners = in_owners;
  in_pages = let e = row_length pages rows owner all in_owners in omega (arith, e);
}

-- ---- the lowest frame

-- by the sums, and by the table
pub lowest_of : (t : TableValue) (sums : List ℕ) (first count : ℕ) (found : Option ℕ) → AreSumsOf t sums
    → first + count ≤ t.frames
    → FindsLowest (λ frame. ltb 0 (get_or sums frame 0)) first (first + count) found
    → found ≡ find (λ frame. is_some (page_from 0 t.rows frame)) (range_with_len first count)
lowest_of t sums first count found are le finds =
    let p : ℕ → Bool = λ frame. is_some (page_from 0 t.rows frame) in
    found_is p first count found
    (finds_same (λ frame. ltb 0 (get_or sums frame 0)) p first (first + count) found
    (λ n high. ap (ltb 0) (are.each n (omega arith)) ∙ sum_marks t.pages t.rows n) finds)

-- ---- the page of a frame

none_of : {X : Type 0} (o : Option X) → is_some o ≡ false → None ≡ o
none_of o e = grind arith

-- a sum of 0
pub page_none : (t : TableValue) (sums : List ℕ) (frame : ℕ) → AreSumsOf t sums → frame < t.frames
    → get_or sums frame 0 ≡ 0 → None ≡ page_from 0 t.rows frame
page_none t sums frame are lt none =
    none_of (page_from 0 t.rows frame)
    (sym (sum_marks t.pages t.rows frame) ∙ le-ltb 0 _ (omega (arith, are.each frame lt, none)))

-- the page that a sum stands for
pub record IsPageOf (t : TableValue) (sum frame : ℕ) : Type 0 where
  pub owner : ℕ
  pub page : ℕ
  pub first : page_from 0 t.rows frame ≡ Some (owner, page)
  pub owner_is : (sum - 1) / t.pages ≡ owner
  pub page_is : (sum - 1) % t.pages ≡ page
  pub small : owner < 64

page_of_found : (t : TableValue) (sums : List ℕ) (frame : ℕ) (found : Option (ℕ × ℕ)) → AreSumsOf t sums
    → frame < t.frames → holders t.rows frame ≤ 1
    → (get_or sums frame 0 ≡ 0 → ⊥) → page_from 0 t.rows frame ≡ found
    → IsPageOf t (get_or sums frame 0) frame
page_of_found t sums frame None are lt once some first = grind (arith, sum_none, page_from-None)
page_of_found t sums frame (Some found) are lt once some first =
    let is = page_from-Some 0 t.rows frame found first in
    let length_is = row_length t.pages t.rows is.row are.table.rows is.in_owners in
    let sum_is : get_or sums frame 0 - 1 ≡ is.row * t.pages + found.1 = grind (arith, sum_one) in
    grind (arith, div-mul-add, mod-mul-add)

-- that page as the code computes it
pub page_told : (t : TableValue) (sums : List ℕ) (frame sum : ℕ) → AreSumsOf t sums → frame < t.frames
    → holders t.rows frame ≤ 1 → sum ≡ get_or sums frame 0
    → (sum ≡ 0 → ⊥)
    → (Some ((sum - 1) / t.pages, (sum - 1) % t.pages) ≡ page_from 0 t.rows frame)
    × ((sum - 1) / t.pages < 64)
page_told t sums frame sum are lt once e some =
    let told = page_of_found t sums frame (page_from 0 t.rows frame) are lt once (λ none. some (e ∙ none))
    refl in
    rw e (rw (told.owner_is, told.page_is) (sym told.first, told.small))

-- ---- a changed entry

-- the place may be taken from the sum of the entry's frame
leave_at : (t : TableValue) (sums : List ℕ) (owner page : ℕ) (was : Option ℕ) → AreSumsOf t sums
    → t.frames ≡ length sums → IfSome was (λ frame. frame < t.frames)
    → entry_of t.rows owner page ≡ was → IfSome was (CanLeave sums (place_of t.pages owner page))
leave_at t sums owner page None are frames in_frames e = tt
leave_at t sums owner page (Some frame) are frames in_frames e = record {
  frame_in = omega (arith, in_frames);
  among = omega (arith, are.each frame in_frames, sum_without t.pages t.rows owner page frame e);
}

pub can_leave : (t : TableValue) (sums : List ℕ) (owner page : ℕ) → AreSumsOf t sums → t.frames ≡ length sums
    → IfSome (entry_of t.rows owner page) (CanLeave sums (place_of t.pages owner page))
can_leave t sums owner page are frames = grind (arith, leave_at)

-- the sums after a frame left, and after one joined
left_sum : (sums : List ℕ) (was : Option ℕ) (place f : ℕ) → IfSome was (CanLeave sums place)
    → get_or (left sums was place) f 0 + held f was place ≡ get_or sums f 0
left_sum sums was place f can = grind (arith, cases_eq, eq-eqb, get_or-set_same, ne_eqb, get_or-set_other)

joined_sum : (sums : List ℕ) (now : Option ℕ) (place f : ℕ) → IfSome now (λ frame. frame < length sums)
    → get_or (joined sums now place) f 0 ≡ get_or sums f 0 + held f now place
joined_sum sums now place f in_frames =
    grind (arith, cases_eq, eq-eqb, get_or-set_same, ne_eqb, get_or-set_other)

pub length-left : (sums : List ℕ) (was : Option ℕ) (place : ℕ) → length (left sums was place) ≡ length sums
length-left sums was place = grind (arith, length-set)

pub length-joined : (sums : List ℕ) (now : Option ℕ) (place : ℕ)
    → length (joined sums now place) ≡ length sums
length-joined sums now place = grind (arith, length-set)

-- the sum of each frame after an entry changed
new_sum : (t : TableValue) (sums : List ℕ) (owner page : ℕ) (now : Option ℕ) (f : ℕ) → AreSumsOf t sums
    → t.frames ≡ length sums
    → owner < length t.rows → page < t.pages → f < t.frames
    → get_or (left sums (entry_of t.rows owner page) (place_of t.pages owner page)) f 0
    + held f now (place_of t.pages owner page)
    ≡ table_sum t.pages 1 (with_entry t.rows owner page now) f
new_sum t sums owner page now f are frames in_owners in_pages in_frames =
    let is_in = page_in t.pages t.rows owner page are.table.rows in_owners in_pages in
    grind (arith, table_sum-entry, left_sum, can_leave)

-- a sum of a table fits
sum_fits : (t : TableValue) (rows : List (List (Option ℕ))) (f : ℕ) → IsTable t → length rows ≤ 64
    → AllByRecursion (λ row. length row ≡ t.pages) rows
    → table_sum t.pages 1 rows f < 2 ^ 64
sum_fits t rows f table owners all =
    let most = 1 + 64 * 2 ^ 16 in
    let sum = table_sum-le t.pages 1 most rows f all (omega (arith, mul-le _ _ _ _ owners table.pages)) in
    grind (arith, mul-le)

-- a place may be added to the sum of the new frame
pub can_join : (t : TableValue) (sums : List ℕ) (owner page : ℕ) (now : Option ℕ) → AreSumsOf t sums
    → t.frames ≡ length sums → owner < length t.rows → page < t.pages
    → IfSome now (λ frame. frame < t.frames)
    → IfSome now (CanJoin (left sums (entry_of t.rows owner page) (place_of t.pages owner page))
    (place_of t.pages owner page))
can_join t sums owner page None are frames in_owners in_pages in_frames = tt
can_join t sums owner page (Some frame) are frames in_owners in_pages in_frames =
    let sum =
    rw (eq-eqb frame frame refl) at
    (new_sum t sums owner page (Some frame) frame are frames in_owners in_pages in_frames) in
    let fits =
    sum_fits t (with_entry t.rows owner page (Some frame)) frame are.table (omega
    (arith, length-set t.rows owner (set (get_or t.rows owner []) page (Some frame)), are.table.owners))
    (row_set t.pages t.rows owner (set (get_or t.rows owner []) page (Some frame)) are.table.rows
    (length-set (get_or t.rows owner []) page (Some frame)
    ∙ row_length t.pages t.rows owner are.table.rows in_owners)) in
    grind (arith, length-left)

-- ---- the table after a changed entry

-- each entry is still a frame
mapped_at : (frames : ℕ) (rows : List (List (Option ℕ))) (owner page : ℕ) (now : Option ℕ)
    (other_owner other_page : ℕ)
    → IsIn rows owner page
    → IfSome now (λ frame. frame < frames)
    → IfSome (entry_of rows other_owner other_page) (λ frame. frame < frames)
    → IfSome (entry_of (with_entry rows owner page now) other_owner other_page) (λ frame. frame < frames)
mapped_at frames rows owner page now other_owner other_page is_in in_frames was =
    grind (arith, cases_eq, entry-same, entry-other)

-- the numbers of a table with another entry
pub is_table-set : (t : TableValue) (owner page : ℕ) (now : Option ℕ) → IsTable t → owner < length t.rows
    → page < t.pages → IfSome now (λ frame. frame < t.frames)
    → IsTable (record t { rows = with_entry t.rows owner page now })
is_table-set t owner page now table in_owners in_pages in_frames = record {
  frames = table.frames;
  some_pages = table.some_pages;
  pages = table.pages;
  owners = omega (arith, length-set t.rows owner (set (get_or t.rows owner []) page now), table.owners);
  rows = row_set t.pages t.rows owner (set (get_or t.rows owner []) page now) table.rows
      (length-set (get_or t.rows owner []) page now ∙ row_length t.pages t.rows owner table.rows in_owners);
  mapped =
      λ other_owner other_page. mapped_at t.frames t.rows owner page now other_owner other_page
      (page_in t.pages t.rows owner page table.rows in_owners in_pages)
      in_frames (table.mapped other_owner other_page);
}

-- the sums of a table with another entry
pub are_sums-set : (sums : List ℕ) (pages : ℕ) (rows : List (List (Option ℕ))) (owner page : ℕ)
    (now : Option ℕ)
    → AreSumsOf (table_of sums pages rows) sums → owner < length rows → page < pages
    → IfSome now (λ frame. frame < length sums)
    → AreSumsOf (table_of (joined (left sums (entry_of rows owner page) (place_of pages owner page)) now
    (place_of pages owner page)) pages (with_entry rows owner page now))
    (joined (left sums (entry_of rows owner page) (place_of pages owner page)) now
    (place_of pages owner page))
are_sums-set sums pages rows owner page now are in_owners in_pages in_frames =
    let t = table_of sums pages rows in
    let place = place_of pages owner page in
    let gone = left sums (entry_of rows owner page) place in
    let gone_len : length gone ≡ length sums = length-left sums (entry_of rows owner page) place in
    let new_len : length (joined gone now place) ≡ length sums = length-joined gone now place ∙ gone_len in
    record {
      table = rw new_len (is_table-set t owner page now are.table in_owners in_pages in_frames);
      each = λ f lt.
          joined_sum gone now place f
          (subst (λ (n : ℕ). IfSome now (λ frame. frame < n)) (sym gone_len) in_frames)
          ∙ new_sum t sums owner page now f are refl in_owners in_pages (omega (arith, lt, new_len));
    }

-- ---- the empty table

empty_row : (n i : ℕ) → get_or (replicate n no_frame) i None ≡ None
empty_row (suc n) (suc i) = empty_row n i
empty_row _ _ = refl

empty_entry : (owners pages owner page : ℕ)
    → entry_of (replicate owners (replicate pages no_frame)) owner page ≡ None
empty_entry zero pages owner page = refl
empty_entry (suc owners) pages zero page = empty_row pages page
empty_entry (suc owners) pages (suc owner) page = empty_entry owners pages owner page

empty_rows : (owners pages : ℕ)
    → AllByRecursion (λ row. length row ≡ pages) (replicate owners (replicate pages no_frame))
empty_rows zero pages = tt
empty_rows (suc owners) pages = (length-replicate pages no_frame, empty_rows owners pages)

empty_row_sum : (base n f : ℕ) → row_sum base (replicate n no_frame) f ≡ 0
empty_row_sum base zero f = refl
empty_row_sum base (suc n) f = omega (arith, empty_row_sum (base + 1) n f)

empty_sum : (pages base owners f : ℕ)
    → table_sum pages base (replicate owners (replicate pages no_frame)) f ≡ 0
empty_sum pages base zero f = refl
empty_sum pages base (suc owners) f = grind (arith, empty_row_sum, empty_sum pages (base + pages) owners f)

-- no frame of the empty table holds a page
pub empty_first : (owners pages f : ℕ) → page_from 0 (replicate owners (replicate pages None)) f ≡ None
empty_first owners pages f =
    let table = replicate owners (replicate pages no_frame) in
    sym (none_of (page_from 0 table f)
    (sym (sum_marks pages table f) ∙ le-ltb 0 _ (omega (arith, empty_sum pages 1 owners f))))

-- the sums of the empty table
pub are_sums-empty : (sums : List ℕ) (owners pages : ℕ) (rows : List (List (Option ℕ))) (frames : ℕ)
    → sums ≡ replicate frames 0
    → rows ≡ replicate owners (replicate pages None) → frames ≤ 2 ^ 20 → 1 ≤ pages → pages ≤ 2 ^ 16
    → owners ≤ 64 → AreSumsOf (table_of sums pages rows) sums
are_sums-empty sums owners pages rows frames sums_are rows_are small some_pages pages_le owners_le =
    let len : length sums ≡ frames = ap length sums_are ∙ length-replicate frames 0 in
    record {
      table = grind (arith, length-replicate, replicate, empty_rows, MatchOption-from_none, empty_entry);
      each = grind (arith, get_or-replicate, empty_sum);
    }
