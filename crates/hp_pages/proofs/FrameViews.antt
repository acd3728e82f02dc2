-- The first page of a frame, and the buffers of a frame view.
use Rattle.std.proofs.Common.{◌≡◌, ℕ, ◌<◌, ◌≤◌, List, length, set, map, Option, Some, None, refl, sym, ◌∙◌, inl, inr, arith}
use Rattle.std.specs.List.{range_with_len}
use Rattle.std.specs.Option.{option_and_then}
use Rattle.std.proofs.lemmas.Bool.{cases_eq, cases_Bool, cond-false, cond-true}
use Rattle.std.proofs.lemmas.List.{ext_get_or, get_or_past, get_or-set_same, get_or-set_other, length-set}
use Rattle.std.proofs.lemmas.List.FromFn.{get_or-map-range_with_len, length-map-range_with_len}
use Rattle.hp_units.specs.LayoutParts.{LayoutParts}
use Rattle.hp_units.specs.Arithmetic.{IsFrame, frame_count}
use Rattle.hp_units.specs.Memory.{Pages, entry_of, with_entry}
use Rattle.hp_units.specs.Pages.{page_at, page_from, words_at}
use Rattle.hp_tape.specs.Deltas.{buffer_for, buffer_of, page_frames_of}
use Rattle.hp_pages.specs.Places.{held, holders}
use Rattle.hp_pages.proofs.Places.{IsIn, entry-other, holders-entry, holds_is, holds_some, is_held, only_page, page_from-None, page_from-Some}

-- ---- the first page of a frame

-- the entry of a frame's first page
pub entry_at : (table : List (List (Option ℕ))) (f : ℕ) (found : ℕ × ℕ) → page_from 0 table f ≡ Some found
    → entry_of table found.0 found.1 ≡ Some f
entry_at table f found first = grind (arith, page_from-Some 0 table f found first)

-- a frame that holds no page has no first page
none_found : (table : List (List (Option ℕ))) (f : ℕ) (found : Option (ℕ × ℕ)) → holders table f ≡ 0
    → page_from 0 table f ≡ found → found ≡ None
none_found table f None none first = refl
none_found table f (Some found) none first =
    absurd (omega (arith, none, holds_some table found.0 found.1 f (entry_at table f found first)))

pub first_none : (table : List (List (Option ℕ))) (f : ℕ) → holders table f ≡ 0 → page_from 0 table f ≡ None
first_none table f none = none_found table f (page_from 0 table f) none refl

-- an entry that is not the frame
pub not_held : (f : ℕ) (entry : Option ℕ) → (entry ≡ Some f → ⊥) → held f entry 1 ≡ 0
not_held f entry apart = grind (arith, cases_Bool, holds_is, cond-false)

pub held_self : (f : ℕ) → held f (Some f) 1 ≡ 1
held_self f = cond-true _ _ _ (is_held f (Some f) refl)

pub held_le : (f : ℕ) (entry : Option ℕ) → held f entry 1 ≤ 1
held_le f entry = grind (arith, cases_Bool)

-- a changed entry that neither was nor is the frame leaves the frame's first page the same
kept_found : (table : List (List (Option ℕ))) (owner page : ℕ) (x : Option ℕ) (f : ℕ) (found : Option (ℕ × ℕ))
    → IsIn table owner page → holders table f ≤ 1
    → (entry_of table owner page ≡ Some f → ⊥) → (x ≡ Some f → ⊥) → page_from 0 table f ≡ found
    → page_from 0 (with_entry table owner page x) f ≡ found
kept_found table owner page x f None is_in once was now first =
    grind (arith, first_none, holders-entry, not_held, page_from-None)
kept_found table owner page x f (Some found) is_in once was now first =
    let entry = entry_at table f found first in
    only_page (with_entry table owner page x) found.0 found.1 f (omega (
      arith,
      (holders-entry table owner page
          x f is_in.in_owners is_in.in_pages),
      not_held f (entry_of table owner page) was,
      not_held f x now,
      once,
    ))
    (entry-other table owner page x found.0 found.1 is_in (λ a b. was (rw (← a, ← b) entry)) ∙ entry)

pub first_kept : (table : List (List (Option ℕ))) (owner page : ℕ) (x : Option ℕ) (f : ℕ)
    → IsIn table owner page → holders table f ≤ 1
    → (entry_of table owner page ≡ Some f → ⊥) → (x ≡ Some f → ⊥)
    → page_from 0 (with_entry table owner page x) f ≡ page_from 0 table f
first_kept table owner page x f is_in once was now = grind (arith, kept_found)

-- ---- the buffers of a frame view

-- the buffer of a page, and of a frame, by the definitions
abbrev pub page_buffer : Pages → ℕ × ℕ → Option (List ℕ)
page_buffer ps page = option_and_then buffer_for (words_at ps page.0 page.1)

abbrev pub buffer_by : Pages → ℕ → Option (List ℕ)
buffer_by ps frame = option_and_then (page_buffer ps) (page_at ps frame)

pub buffer_is : (l : LayoutParts) (ps : Pages) (frame : ℕ) → IsFrame l frame
    → buffer_of (page_frames_of l ps) frame ≡ buffer_by ps frame
buffer_is l ps frame in_frames = grind (arith, get_or-map-range_with_len)

pub no_buffer_past : (l : LayoutParts) (ps : Pages) (frame : ℕ) → frame_count l ≤ frame
    → buffer_of (page_frames_of l ps) frame ≡ None
no_buffer_past l ps frame past = grind (arith, get_or_past, length-map-range_with_len)

-- a list made by a function that changed at one number, and at two
pub one_changed : {X : Type 0} (b c : ℕ → Option X) (n at : ℕ) (x : Option X) → at < n → c at ≡ x
    → ((k : ℕ) → k < n → (k ≡ at → ⊥) → c k ≡ b k)
    → map c (range_with_len 0 n) ≡ set (map b (range_with_len 0 n)) at x
one_changed b c n at x lt here others =
    let bs = map b (range_with_len 0 n) in
    let cs = map c (range_with_len 0 n) in
    let len : length bs ≡ n = length-map-range_with_len b 0 n in
    let more : length cs ≡ n = length-map-range_with_len c 0 n in
    rw (ext_get_or None cs (set bs at x) (more ∙ sym (length-set bs at x ∙ len))
    (λ k in_list. let within : k < n = omega (arith, more, in_list) in get_or-map-range_with_len c 0 n k k
    None within (omega arith) ∙ elim (cases_eq k at) [
      | inl same ↦ grind (arith, get_or-set_same)
      | inr other ↦ grind (arith, get_or-set_other, get_or-map-range_with_len)
    ]))

pub two_changed : {X : Type 0} (b c : ℕ → Option X) (n at also : ℕ) (x y : Option X) → at < n → also < n
    → (at ≡ also → ⊥) → c at ≡ x → c also ≡ y
    → ((k : ℕ) → k < n → (k ≡ at → ⊥) → (k ≡ also → ⊥) → c k ≡ b k)
    → map c (range_with_len 0 n) ≡ set (set (map b (range_with_len 0 n)) at x) also y
two_changed b c n at also x y lt also_lt apart here there others =
    let bs = map b (range_with_len 0 n) in
    let cs = map c (range_with_len 0 n) in
    let once = set bs at x in
    let len : length bs ≡ n = length-map-range_with_len b 0 n in
    let once_len : length once ≡ n = length-set bs at x ∙ len in
    let more : length cs ≡ n = length-map-range_with_len c 0 n in
    rw
    (ext_get_or None cs (set once also y) (more ∙ sym (length-set once also y ∙ once_len)) (λ k in_list. let
    within : k < n = omega (arith, more, in_list) in get_or-map-range_with_len c 0 n k k None within (omega
    arith) ∙ elim (cases_eq k also) [
      | inl same ↦ grind (arith, get_or-set_same)
      | inr other ↦ grind (arith, cases_eq, get_or-set_other, get_or-set_same, get_or-map-range_with_len)
    ]))

-- a frame whose first page and its words are the same has the same buffer
kept_by : (ps new : Pages) (found : Option (ℕ × ℕ))
    → ((page : ℕ × ℕ) → found ≡ Some page → words_at new page.0 page.1 ≡ words_at ps page.0 page.1)
    → option_and_then (page_buffer new) found ≡ option_and_then (page_buffer ps) found
kept_by ps new found words = grind arith

pub buffer_kept : (ps new : Pages) (f : ℕ) → page_at new f ≡ page_at ps f
    → ((page : ℕ × ℕ) → page_at ps f ≡ Some page → words_at new page.0 page.1 ≡ words_at ps page.0 page.1)
    → buffer_by new f ≡ buffer_by ps f
buffer_kept ps new f first words = rw first (kept_by ps new (page_at ps f) words)
