-- One more page in a walk over an owner's pages, and one more owner in a walk over all.
use Rattle.std.proofs.Common.{◌≡◌, ℕ, ◌+◌, ◌<◌, ◌≤◌, List, [], length, get_or, cond, Option, None, refl, sym, subst, arith, inl, inr}
use Rattle.std.specs.List.{count_by}
use Rattle.std.proofs.lemmas.Bool.{cases_lt}
use Rattle.std.proofs.lemmas.List.{get_or_past}
use Rattle.hp_units.specs.LayoutParts.{LayoutParts}
use Rattle.hp_units.specs.InLayout.{ArePagesOf}
use Rattle.hp_units.specs.Memory.{Pages, entry_of}
use Rattle.hp_units.specs.Pages.{frame_at, holds, words_at}
use Rattle.hp_units.specs.Placement.{IsPage, mapped_places}
use Rattle.hp_units.proofs.Tables.{row_length}
use Rattle.hp_plain.specs.Placing.{AreMarked, AreOwnersPages, ArePages, IsTwice}
use Rattle.hp_plain.proofs.Counting.{SoFar, marked_as, so_far_all, so_far_more, so_far_twice, total-sum, twice_as}

-- an entry past the last page, or past the last owner, is none
past_page : {A : Type 0} (table : List (List (Option A))) (owner page pages : ℕ)
    → length (get_or table owner []) ≡ pages → pages ≤ page → entry_of table owner page ≡ None
past_page table owner page pages long past = get_or_past (get_or table owner []) page None (omega arith)

past_owner : {A : Type 0} (table : List (List (Option A))) (owner page : ℕ) → length table ≤ owner
    → entry_of table owner page ≡ None
past_owner table owner page past = rw (get_or_past table owner [] past)

-- a page that isn't there is as it must be
no_page : (l : LayoutParts) (ps : Pages) (owner page : ℕ) → frame_at ps owner page ≡ None
    → words_at ps owner page ≡ None → IsPage l (frame_at ps owner page) (words_at ps owner page)
no_page l ps owner page frame words = rw (frame, words) tt

-- ---- the pages of an owner

abbrev pub OwnerSoFar : LayoutParts → Pages → (owner page : ℕ) → (old new : List ℕ) → Type 0
OwnerSoFar l ps owner page old new =
    SoFar (λ frame k entry. cond (holds frame entry) 1 0) (λ k entry. IsPage l entry (words_at ps owner k))
    (get_or ps.table owner []) None page old new

pub owner_more : (l : LayoutParts) (ps : Pages) (owner page : ℕ) (entry : Option ℕ)
    (words : Option (List ℕ)) (old mid new : List ℕ)
    → ArePagesOf l ps → owner < l.owners → page < l.pages → OwnerSoFar l ps owner page old mid
    → entry ≡ frame_at ps owner page → words ≡ words_at ps owner page
    → IsPage l entry words × AreMarked mid new (λ frame. cond (holds frame entry) 1 0)
    → OwnerSoFar l ps owner (page + 1) old new
owner_more l ps owner page entry words old mid new of there low h entry_is words_is placed =
    let long : length (get_or ps.table owner []) ≡ l.pages =
    row_length l.pages ps.table owner of.pages (omega (arith, of.owners)) in
    so_far_more h entry (omega arith) (sym entry_is)
    (subst (λ (w : Option (List ℕ)). IsPage l entry w) words_is placed.0) placed.1

pub owner_twice : (l : LayoutParts) (ps : Pages) (owner page : ℕ) (entry : Option ℕ)
    (words : Option (List ℕ)) (old mid : List ℕ)
    → ArePagesOf l ps → owner < l.owners → page < l.pages → OwnerSoFar l ps owner page old mid
    → entry ≡ frame_at ps owner page → words ≡ words_at ps owner page
    → (IsPage l entry words → IsTwice mid (λ frame. cond (holds frame entry) 1 0))
    → AreOwnersPages l ps owner
    → IsTwice old (λ frame. count_by (holds frame) (get_or ps.table owner []))
owner_twice l ps owner page entry words old mid of there low h entry_is words_is twice placed =
    let long : length (get_or ps.table owner []) ≡ l.pages =
    row_length l.pages ps.table owner of.pages (omega (arith, of.owners)) in
    let here : IsPage l entry words = rw (entry_is, words_is) (placed page) in
    twice_as (λ frame. count_by (holds frame) (get_or ps.table owner []))
    (λ frame. total-sum (λ (e : Option ℕ). cond (holds frame e) 1 0) 0 (get_or ps.table owner []))
    (so_far_twice h entry (omega arith) (sym entry_is) (twice here))

pub owner_all : (l : LayoutParts) (ps : Pages) (owner page : ℕ) (old new : List ℕ)
    → ArePagesOf l ps → owner < l.owners → page ≡ l.pages → OwnerSoFar l ps owner page old new
    → AreOwnersPages l ps owner
    × AreMarked old new (λ frame. count_by (holds frame) (get_or ps.table owner []))
owner_all l ps owner page old new of there all h =
    let long : length (get_or ps.table owner []) ≡ l.pages =
    row_length l.pages ps.table owner of.pages (omega (arith, of.owners)) in
    let words_long : length (get_or ps.contents owner []) ≡ l.pages =
    row_length l.pages ps.contents owner of.content_pages (omega (arith, of.content_owners)) in (
      λ k. elim (cases_lt k page) [
        | inl low ↦ h.each k low
        | inr past ↦
            no_page l ps owner k (past_page ps.table owner k l.pages long (omega arith))
            (past_page ps.contents owner k l.pages words_long (omega arith))
      ],
      marked_as (λ frame. count_by (holds frame) (get_or ps.table owner []))
          (λ frame. total-sum (λ (e : Option ℕ). cond (holds frame e) 1 0) 0 (get_or ps.table owner []))
          (so_far_all h (omega arith)),
    )

-- ---- all owners

abbrev pub PagesSoFar : LayoutParts → Pages → (owner : ℕ) → (old new : List ℕ) → Type 0
PagesSoFar l ps owner old new =
    SoFar (λ frame k row. count_by (holds frame) row)
    (λ k row. (page : ℕ) → IsPage l (get_or row page None) (words_at ps k page)) ps.table [] owner old new

pub pages_twice : (l : LayoutParts) (ps : Pages) (owner : ℕ) (old mid : List ℕ)
    → ArePagesOf l ps → owner < l.owners → PagesSoFar l ps owner old mid
    → (AreOwnersPages l ps owner
    → IsTwice mid (λ frame. count_by (holds frame) (get_or ps.table owner [])))
    → ArePages l ps → IsTwice old (mapped_places ps)
pages_twice l ps owner old mid of low h twice placed =
    twice_as (mapped_places ps)
    (λ frame. total-sum (λ (row : List (Option ℕ)). count_by (holds frame) row) 0 ps.table)
    (so_far_twice h (get_or ps.table owner []) (omega (arith, of.owners)) refl (twice (placed owner)))

pub pages_all : (l : LayoutParts) (ps : Pages) (owner : ℕ) (old new : List ℕ)
    → ArePagesOf l ps → owner ≡ l.owners → PagesSoFar l ps owner old new
    → ArePages l ps × AreMarked old new (mapped_places ps)
pages_all l ps owner old new of all h = (
  λ k page. elim (cases_lt k owner) [
    | inl low ↦ h.each k low page
    | inr past ↦
        no_page l ps k page (past_owner ps.table k page (omega (arith, of.owners)))
        (past_owner ps.contents k page (omega (arith, of.content_owners)))
  ],
  marked_as (mapped_places ps)
      (λ frame. total-sum (λ (row : List (Option ℕ)). count_by (holds frame) row) 0 ps.table)
      (so_far_all h (omega (arith, of.owners))),
)
