-- The codes of the parts of a state, and of a whole state, tell them apart.
use Rattle.std.proofs.Common.{◌+◌, ◌*◌, ◌/◌, ◌%◌, ℕ, zero, suc, ◌≡◌, ◌<◌, ◌≤◌, List, [], ◌∷◌, ◌++◌, Bool, true, false, Option, None, Some, length, refl, sym, ◌∙◌, ap, subst, arith, append_assoc, inl, inr, slice_index_or}
use Rattle.std.proofs.lemmas.Bool.{cases_eq}
use Rattle.std.proofs.lemmas.List.{ext_get_or}
use Rattle.std.specs.List.{AllByRecursion, flat_map, range_with_len}
use Rattle.hp_units.specs.Arithmetic.{pageblock_count}
use Rattle.hp_units.specs.LayoutParts.{LayoutParts}
use Rattle.hp_units.specs.Memory.{Memory, Pages, entry_of, plain_kind}
use Rattle.hp_units.specs.Pages.{frame_at, words_at}
use Rattle.hp_units.specs.Placement.{IsShaped}
use Rattle.hp_units.specs.declared.rows.Auto.{Auto}
use Rattle.hp_units.specs.declared.rows.Auto.TheVariants.{Offline as OfflineAuto, Online as OnlineAuto, OnlineKernel as KernelAuto, OnlineMovable as MovableAuto}
use Rattle.hp_units.specs.declared.rows.Claim.{Claim}
use Rattle.hp_units.specs.declared.rows.Kind.{Kind}
use Rattle.hp_units.specs.declared.rows.Mobility.{Mobility}
use Rattle.hp_units.specs.declared.rows.Mobility.TheVariants.{Unmovable, Movable}
use Rattle.hp_units.specs.declared.rows.State.{State}
use Rattle.hp_units.specs.declared.rows.State.TheVariants.{Offline as OfflineState, Online as OnlineState, Going as GoingState, Absent as AbsentState}
use Rattle.hp_units.specs.declared.rows.Wish.{Wish}
use Rattle.hp_units.specs.declared.rows.Wish.TheVariants.{Off as OffWish, Normal as NormalWish, Movable as MovableWish}
use Rattle.hp_units.specs.declared.rows.Zone.{Zone}
use Rattle.hp_units.specs.declared.rows.Zone.TheVariants.{Normal as NormalZone, Movable as MovableZone}
use Rattle.hp_units.specs.Rows.{state_number, zone_number}
use Rattle.hp_states.specs.Parts.{auto_number, claim_code, claim_number, kernel_code, kind_at, kind_number, kinds_code, lists_code, owner_code, page_code_at, row_code, wish_number}
use Rattle.hp_states.specs.Codes.{state_code}
use Rattle.hp_states.proofs.Apart.{TellsApart, heads, kernel-apart, lists-apart, many-apart, number-apart, page-apart, range-apart}

-- ---- values with one number are the same

abbrev kind_numbered : ℕ → Kind
kind_numbered zero = record { mobility = Unmovable; isolated = false }
kind_numbered (suc zero) = record { mobility = Movable; isolated = false }
kind_numbered (suc (suc zero)) = record { mobility = Unmovable; isolated = true }
kind_numbered (suc (suc (suc n))) = record { mobility = Movable; isolated = true }

kind_back : (mobility : Mobility) (isolated : Bool)
    → kind_numbered (kind_number mobility isolated) ≡ record { mobility = mobility; isolated = isolated }
kind_back Unmovable false = refl
kind_back Movable false = refl
kind_back Unmovable true = refl
kind_back Movable true = refl

state-same : (a b : State) → state_number a ≡ state_number b → a ≡ b
state-same OfflineState OfflineState e = refl
state-same OnlineState OnlineState e = refl
state-same GoingState GoingState e = refl
state-same AbsentState AbsentState e = refl
state-same _ _ e = absurd (omega (arith, e))

abbrev zone_numbered : ℕ → Option Zone
zone_numbered zero = None
zone_numbered (suc zero) = Some NormalZone
zone_numbered (suc (suc n)) = Some MovableZone

zone_back : (zone : Option Zone) → zone_numbered (zone_number zone) ≡ zone
zone_back None = refl
zone_back (Some NormalZone) = refl
zone_back (Some MovableZone) = refl

wish-same : (a b : Wish) → wish_number a ≡ wish_number b → a ≡ b
wish-same OffWish OffWish e = refl
wish-same NormalWish NormalWish e = refl
wish-same MovableWish MovableWish e = refl
wish-same _ _ e = absurd (omega (arith, e))

wish_some : (wish : Wish) → 1 ≤ wish_number wish
wish_some OffWish = omega arith
wish_some NormalWish = omega arith
wish_some MovableWish = omega arith

auto-same : (a b : Auto) → auto_number a ≡ auto_number b → a ≡ b
auto-same OfflineAuto OfflineAuto e = refl
auto-same OnlineAuto OnlineAuto e = refl
auto-same KernelAuto KernelAuto e = refl
auto-same MovableAuto MovableAuto e = refl
auto-same _ _ e = absurd (omega (arith, e))

-- ---- kinds and rows

kind_small : (mobility : Mobility) (isolated : Bool) → kind_number mobility isolated < 4
kind_small Unmovable false = omega arith
kind_small Movable false = omega arith
kind_small Unmovable true = omega arith
kind_small Movable true = omega arith

pub kind_at_small : (a : List Kind) (pageblock : ℕ) → kind_at a pageblock < 4
kind_at_small a pageblock =
    let kind = slice_index_or a pageblock plain_kind in
    kind_small kind.mobility kind.isolated

kind_at-same : (a b : List Kind) (pageblock : ℕ) → kind_at a pageblock ≡ kind_at b pageblock
    → slice_index_or a pageblock plain_kind ≡ slice_index_or b pageblock plain_kind
kind_at-same a b pageblock e =
    let p = slice_index_or a pageblock plain_kind in
    let q = slice_index_or b pageblock plain_kind in
    sym (kind_back p.mobility p.isolated) ∙ (ap kind_numbered e ∙ kind_back q.mobility q.isolated)

-- the kinds of four pageblocks are the same
record AreFourSame (a b : List Kind) (four : ℕ) : Type 0 where
  first : kind_at a (4 * four) ≡ kind_at b (4 * four)
  second : kind_at a (4 * four + 1) ≡ kind_at b (4 * four + 1)
  third : kind_at a (4 * four + 2) ≡ kind_at b (4 * four + 2)
  fourth : kind_at a (4 * four + 3) ≡ kind_at b (4 * four + 3)

-- four numbers below 4 are told apart by their byte
fours_apart : (p q r s x y z w : ℕ) → p < 4 → q < 4 → r < 4 → x < 4 → y < 4 → z < 4
    → p + 4 * q + 16 * r + 64 * s ≡ x + 4 * y + 16 * z + 64 * w
    → (p ≡ x) × (q ≡ y) × (r ≡ z) × (s ≡ w)
fours_apart p q r s x y z w a b c d e f same = (omega arith, omega arith, omega arith, omega arith)

four_kinds-apart : (a b : List Kind) (four : ℕ) (xs ys : List ℕ)
    → kinds_code a four ++ xs ≡ kinds_code b four ++ ys → AreFourSame a b four × (xs ≡ ys)
four_kinds-apart a b four xs ys e =
    let h = heads e in
    let n = 4 * four in
    let each = fours_apart (kind_at a n) (kind_at a (n + 1)) (kind_at a (n + 2)) (kind_at a (n + 3))
    (kind_at b n) (kind_at b (n + 1)) (kind_at b (n + 2)) (kind_at b (n + 3)) (kind_at_small a n)
    (kind_at_small a (n + 1)) (kind_at_small a (n + 2)) (kind_at_small b n) (kind_at_small b (n + 1))
    (kind_at_small b (n + 2)) h.0 in
    (record { first = each.0; second = each.1; third = each.2; fourth = each.3 }, h.1)

-- one of four
one_of : (a b : List Kind) (pageblock : ℕ) → AreFourSame a b (pageblock / 4)
    → kind_at a pageblock ≡ kind_at b pageblock
one_of a b pageblock same = elim (cases_eq (pageblock % 4) 0) [
  | inl zeroth ↦ (let here : 4 * (pageblock / 4) ≡ pageblock = omega (arith, zeroth) in
      subst (λ (n : ℕ). kind_at a n ≡ kind_at b n) here same.first)
  | inr more ↦ elim (cases_eq (pageblock % 4) 1) [
    | inl one ↦ (let here : 4 * (pageblock / 4) + 1 ≡ pageblock = omega (arith, one) in
        subst (λ (n : ℕ). kind_at a n ≡ kind_at b n) here same.second)
    | inr others ↦ elim (cases_eq (pageblock % 4) 2) [
      | inl two ↦ (let here : 4 * (pageblock / 4) + 2 ≡ pageblock = omega (arith, two) in
          subst (λ (n : ℕ). kind_at a n ≡ kind_at b n) here same.third)
      | inr last ↦ (let here : 4 * (pageblock / 4) + 3 ≡ pageblock = omega (arith, more, others, last) in
          subst (λ (n : ℕ). kind_at a n ≡ kind_at b n) here same.fourth)
    ]
  ]
]

kinds-apart : (a b : List Kind) (count : ℕ) (xs ys : List ℕ) → length a ≡ count
    → length b ≡ count
    → flat_map (kinds_code a) (range_with_len 0 ((count + 3) / 4)) ++ xs
    ≡ flat_map (kinds_code b) (range_with_len 0 ((count + 3) / 4)) ++ ys
    → (a ≡ b) × (xs ≡ ys)
kinds-apart a b count xs ys p q e =
    let h = range-apart (kinds_code a) (kinds_code b) (AreFourSame a b) (four_kinds-apart a b) 0
    ((count + 3) / 4) xs ys e in (
      ext_get_or plain_kind a b (p ∙ sym q)
          (λ i low. kind_at-same a b i (one_of a b i (h.0 (i / 4) (omega arith) (omega (arith, low, p))))),
      h.1,
    )

-- ---- pages

-- the pages with this number of two states are the same
abbrev IsSamePage : (a b : Pages) → (owner page : ℕ) → Type 0
IsSamePage a b owner page =
    (frame_at a owner page ≡ frame_at b owner page) × (words_at a owner page ≡ words_at b owner page)

-- all pages of an owner are the same
abbrev AreSamePages : LayoutParts → (a b : Pages) → (owner : ℕ) → Type 0
AreSamePages l a b owner = (page : ℕ) → 0 ≤ page → page < 0 + l.pages → IsSamePage a b owner page

owners_pages : (l : LayoutParts) (a b : Pages) (owner : ℕ) (xs ys : List ℕ)
    → owner_code l a owner ++ xs ≡ owner_code l b owner ++ ys → AreSamePages l a b owner × (xs ≡ ys)
owners_pages l a b owner xs ys e =
    range-apart (page_code_at l a owner) (page_code_at l b owner) (IsSamePage a b owner)
    (λ page us vs same. page-apart l.words (frame_at a owner page) (frame_at b owner page)
    (words_at a owner page) (words_at b owner page) us vs same) 0 l.pages xs ys e

-- tables of equal sizes with equal entries are the same
tables_same : {A : Type 0} (count : ℕ) (t u : List (List (Option A))) → length t ≡ length u
    → AllByRecursion (λ row. length row ≡ count) t → AllByRecursion (λ row. length row ≡ count) u
    → ((owner page : ℕ) → owner < length t → page < count → entry_of t owner page ≡ entry_of u owner page)
    → t ≡ u
tables_same count [] [] size p q same = refl
tables_same count (r ∷ t) (s ∷ u) size p q same =
    let rows = ext_get_or None r s (p.0 ∙ sym q.0)
    (λ i low. same 0 i (omega arith) (omega (arith, low, p.0))) in
    let rest = tables_same count t u (omega arith) p.1 q.1
    (λ owner page low within. same (suc owner) page (omega (arith, low)) within) in
    cc
tables_same count _ _ size p q same = absurd (omega arith)

pages-apart : (l : LayoutParts) (a b : Memory) (xs ys : List ℕ) → IsShaped l a → IsShaped l b
    → flat_map (owner_code l a.pages) (range_with_len 0 l.owners) ++ xs
    ≡ flat_map (owner_code l b.pages) (range_with_len 0 l.owners) ++ ys
    → ((a.pages.table ≡ b.pages.table) × (a.pages.contents ≡ b.pages.contents)) × (xs ≡ ys)
pages-apart l a b xs ys p q e =
    let h = range-apart (owner_code l a.pages) (owner_code l b.pages) (AreSamePages l a.pages b.pages)
    (owners_pages l a.pages b.pages) 0 l.owners xs ys e in
    let each : (owner : ℕ) → owner < l.owners → (page : ℕ) → page < l.pages
    → IsSamePage a.pages b.pages owner page =
    λ owner low page within. h.0 owner (omega arith) (omega (arith, low)) page (omega arith)
    (omega (arith, within)) in (
      (
        tables_same l.pages _ _ (p.owners ∙ sym q.owners) p.pages q.pages
            (λ owner page low within.
            (each owner (omega (arith, low, p.owners)) page within).0),
        tables_same l.pages _ _ (p.content_owners ∙ sym q.content_owners) p.content_pages q.content_pages
            (λ owner page low within.
            (each owner (omega (arith, low, p.content_owners)) page within).1),
      ),
      h.1,
    )

-- ---- rows

pub state_small : (state : State) → state_number state < 4
state_small OfflineState = omega arith
state_small OnlineState = omega arith
state_small GoingState = omega arith
state_small AbsentState = omega arith

pub zone_small : (zone : Option Zone) → zone_number zone < 3
zone_small None = omega arith
zone_small (Some NormalZone) = omega arith
zone_small (Some MovableZone) = omega arith

wish_small : (wish : Wish) → wish_number wish < 4
wish_small OffWish = omega arith
wish_small NormalWish = omega arith
wish_small MovableWish = omega arith

-- claims with one number and one code are the same
claims-apart : (a b : Option Claim) (xs ys : List ℕ) → claim_number a ≡ claim_number b
    → claim_code a ++ xs ≡ claim_code b ++ ys → (a ≡ b) × (xs ≡ ys)
claims-apart None None xs ys same e = (refl, e)
claims-apart None (Some b) xs ys same e = absurd (omega (arith, same, wish_some b.wish))
claims-apart (Some a) None xs ys same e = absurd (omega (arith, same, wish_some a.wish))
claims-apart (Some a) (Some b) xs ys same e =
    let rest = number-apart (a.op / 2) (b.op / 2) xs ys e in
    let op : a.op ≡ b.op = omega (arith, same, wish_small a.wish, wish_small b.wish, rest.0) in
    let wish = wish-same a.wish b.wish (omega (arith, same, op)) in
    (grind (arith, op, wish), rest.1)

-- the three numbers of a row are told apart by their byte
row_numbers : (s z c t y d : ℕ) → s < 4 → z < 3 → t < 4 → y < 3
    → s + 4 * z + 16 * c ≡ t + 4 * y + 16 * d → (s ≡ t) × (z ≡ y) × (c ≡ d)
row_numbers s z c t y d a b e f same = (omega arith, omega arith, omega arith)

row-apart : TellsApart row_code
row-apart a b xs ys e =
    let first = heads e in
    let numbers = row_numbers (state_number a.state) (zone_number a.zone) (claim_number a.claim)
    (state_number b.state) (zone_number b.zone) (claim_number b.claim) (state_small a.state)
    (zone_small a.zone) (state_small b.state) (zone_small b.zone) first.0 in
    let rest = claims-apart a.claim b.claim xs ys numbers.2 first.1 in
    let state = state-same a.state b.state numbers.0 in
    let zone : a.zone ≡ b.zone =
    sym (zone_back a.zone) ∙ (ap zone_numbered numbers.1 ∙ zone_back b.zone) in
    (grind (arith, state, zone, rest.0), rest.1)

-- ---- a whole state

-- the parts one after another, each in front of all that follow
right : (l : LayoutParts) (m : Memory)
    → state_code l m
    ≡ lists_code 0 m.free.areas.lists
    ++ (flat_map (kinds_code m.free.areas.kinds) (range_with_len 0 ((pageblock_count l + 3) / 4))
    ++ (lists_code 0 m.free.cached ++ (flat_map (owner_code l m.pages) (range_with_len 0 l.owners)
    ++ (kernel_code 0 m.kernel ++ (flat_map row_code m.blocks.rows ++ auto_number m.blocks.auto ∷ [])))))
unfolding state_code
right l m = simp append_assoc

-- the codes of two states of a layout are the same only where the states are
pub states-apart : (l : LayoutParts) (a b : Memory) → IsShaped l a → IsShaped l b
    → state_code l a ≡ state_code l b → a ≡ b
states-apart l a b p q e =
    let lists = lists-apart 0 a.free.areas.lists b.free.areas.lists _ _
    (p.lists ∙ sym q.lists) (sym (right l a) ∙ (e ∙ right l b)) in
    let kinds =
    kinds-apart a.free.areas.kinds b.free.areas.kinds (pageblock_count l) _ _ p.kinds q.kinds lists.1 in
    let cached = lists-apart 0 _ _ _ _ (p.cached ∙ sym q.cached) kinds.1 in
    let pages = pages-apart l a b _ _ p q cached.1 in
    let kernel = kernel-apart 0 a.kernel b.kernel _ _ (p.kernel ∙ sym q.kernel) pages.1 in
    let rows = many-apart row_code row-apart _ _ _ _ (p.rows ∙ sym q.rows) kernel.1 in
    let auto = auto-same a.blocks.auto b.blocks.auto (heads rows.1).0 in
    grind (arith, lists.0, kinds.0, cached.0, pages.0.0, pages.0.1, kernel.0, rows.0, auto)

-- the parts, each written after the ones before it
pub written : (l : LayoutParts) (m : Memory) (start areas kinds cached pages kernel rows all : List ℕ)
    (auto : ℕ) → areas ≡ start ++ lists_code 0 m.free.areas.lists
    → kinds ≡ areas
    ++ flat_map (kinds_code m.free.areas.kinds) (range_with_len 0 ((pageblock_count l + 3) / 4))
    → cached ≡ kinds ++ lists_code 0 m.free.cached
    → pages ≡ cached ++ flat_map (owner_code l m.pages) (range_with_len 0 l.owners)
    → kernel ≡ pages ++ kernel_code 0 m.kernel → rows ≡ kernel ++ flat_map row_code m.blocks.rows
    → all ≡ rows ++ auto ∷ [] → auto ≡ auto_number m.blocks.auto → all ≡ start ++ state_code l m
unfolding state_code
written l m start areas kinds cached pages kernel rows all auto a b c d e f g h =
    rw (g, h, f, e, d, c, b, a) (simp append_assoc)
