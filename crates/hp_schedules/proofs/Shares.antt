-- Shares of ends, and what they add up to.
use Rattle.std.proofs.Common.{◌≡◌, ℕ, zero, suc, ◌+◌, ◌-◌, ◌<◌, ◌≤◌, Bool, List, [], ◌∷◌, ◌++◌, length, take, get_or, set, cond, Some, slice_get, refl, ap, sym, subst, ◌∙◌, arith, inl, inr}
use Rattle.std.specs.Prelude.{sum_by}
use Rattle.std.proofs.lemmas.Bool.{cases_lt, eq-eqb, ne_eqb}
use Rattle.std.proofs.lemmas.List.{get_or_append_left, get_or_past, get_or_push, length_push, take_all, length-set}
use Rattle.std.proofs.lemmas.List.Sums.{sum_by-cons, sum_by_more, sum_by_more_le, sum_by_push, sum_by-set}
use Rattle.std.proofs.lemmas.Option.{get_or_from_slice_get, slice_get_read, slice_get_within}
use Rattle.hp_laws.proofs.Lists.{get_push_cases}
use Rattle.hp_schedules.specs.Notes.{TallyValue}
use Rattle.hp_schedules.specs.Shares.{AddsAt, AddsCounts, AddsShares, AreAtEnds, HasRoomFor, HasRoomForShares, amount_of, count_for}
use Rattle.hp_schedules.specs.declared.trail.Share.{Share}
use Rattle.hp_schedules.specs.declared.tally.Ending.{Ending}
use Rattle.hp_schedules.proofs.Counts.{get_set_cases}

abbrev pub counted : List Ending → ℕ
counted ends = sum_by (λ (e : Ending). e.count) ends

abbrev pub shared : List Share → ℕ
shared shares = sum_by (λ (s : Share). s.count) shares

-- ---- one share

-- one of nothing, for where a list has none
abbrev pub nothing : Share
nothing = record { end = 0; count = 0 }

pub other_share : (s : Share) (k : ℕ) → (s.end ≡ k → ⊥) → count_for k s ≡ 0
other_share s k other = ap (λ (b : Bool). cond b s.count 0) (ne_eqb s.end k other)

pub own_share : (s : Share) (k : ℕ) → s.end ≡ k → count_for k s ≡ s.count
own_share s k same = ap (λ (b : Bool). cond b s.count 0) (eq-eqb s.end k same)

-- ---- what they add up to

-- those of the ends below one have nothing for it
pub amount_past : (shares : List Share) (many k : ℕ) → AreAtEnds many shares → many ≤ k
    → amount_of shares k ≡ 0
amount_past [] many k at past = refl
amount_past (s ∷ shares) many k at past =
    let less = at 0 s refl in
    omega (
      arith,
      sum_by-cons (count_for k) s shares,
      other_share s k (λ same. omega (arith, same, less, past)),
      amount_past shares many k (λ i t h. at (suc i) t h) past,
    )

pub amount_push : (shares : List Share) (s : Share) (k : ℕ)
    → amount_of (shares ++ s ∷ []) k ≡ amount_of shares k + count_for k s
amount_push shares s k = sum_by_push (count_for k) shares s

pub at_ends_more : (shares : List Share) (many more : ℕ) → many ≤ more → AreAtEnds many shares
    → AreAtEnds more shares
at_ends_more shares many more le at i s h = let less = at i s h in omega (arith, less, le)

pub at_ends_push : (shares : List Share) (s : Share) (many : ℕ) → s.end < many → AreAtEnds many shares
    → AreAtEnds many (shares ++ s ∷ [])
at_ends_push shares s many within at i t h = grind (arith, get_push_cases)

-- ---- as counts by the places of ends

-- so many counts, those of the first ends
abbrev pub counts_in : List Share → (many : ℕ) → List ℕ
counts_in shares zero = []
counts_in shares (suc n) = counts_in shares n ++ amount_of shares n ∷ []

pub counts_long : (shares : List Share) (many : ℕ) → length (counts_in shares many) ≡ many
counts_long shares zero = refl
counts_long shares (suc n) = grind (arith, length_push, counts_long shares n)

counts_below : (shares : List Share) (many k : ℕ) → k < many
    → get_or (counts_in shares many) k 0 ≡ amount_of shares k
counts_below shares zero k less = absurd (omega arith)
counts_below shares (suc n) k less =
    grind (arith, cases_lt, get_or_append_left, get_or_push, counts_long, counts_below shares n k)

pub counts_tell : (shares : List Share) (many : ℕ) → AreAtEnds many shares → (k : ℕ)
    → amount_of shares k ≡ get_or (counts_in shares many) k 0
counts_tell shares many at k = grind (arith, cases_lt, counts_below, amount_past, get_or_past, counts_long)

-- the shares up to one add up to its number more
sum_more : (f : Share → ℕ) (shares : List Share) (at : ℕ) (s : Share) → slice_get shares at ≡ Some s
    → sum_by f (take (at + 1) shares) ≡ sum_by f (take at shares) + f s
sum_more f shares at s here =
    rw (get_or_from_slice_get shares at s s here) at
    (sum_by_more f shares at s (slice_get_within shares at s here))

-- and have no more schedules than all of them
shared_more_le : (shares : List Share) (at : ℕ) (s : Share) → slice_get shares at ≡ Some s
    → shared (take at shares) + s.count ≤ shared shares
shared_more_le shares at s here =
    rw (get_or_from_slice_get shares at s s here) at
    (sum_by_more_le (λ (t : Share). t.count) shares at s (slice_get_within shares at s here))

-- ---- what is added to an end

pub put_at : (ends : List Ending) (at count : ℕ) (e : Ending) → at < length ends → e ≡ get_or ends at e
    → AddsAt ends at count
    (set ends at (record { outcome = e.outcome; count = e.count + count; first = e.first }))
put_at ends at count e within read = record {
  entry = e;
  more = record { outcome = e.outcome; count = e.count + count; first = e.first };
  here = slice_get_read ends (length ends) at e refl within read;
  outcome_is = refl;
  count_is = refl;
  first = refl;
  new_is = refl;
}

-- ---- shares that are added to the ends, one after another

-- as far as a place, with the total
pub record AddsBelow (old : List Ending) (shares : List Share) (below : ℕ) (new : List Ending) : Type 0 where
  pub adds : AddsShares old (take below shares) new
  pub total : counted new ≡ counted old + shared (take below shares)

pub adds_none : (ends : List Ending) (shares : List Share) → AddsBelow ends shares 0 ends
adds_none ends shares = record {
  adds = record {
    as_many = refl;
    more =
        λ k e f h i. let same : f ≡ e = cc in
        let none : e.count ≡ e.count + 0 = omega arith in (rw same, rw same, rw same none);
  };
  total = omega arith;
}

-- the end of the next share is there, and there is room for it
pub next_end : (old new : List Ending) (shares : List Share) (at : ℕ) (s : Share)
    → slice_get shares at ≡ Some s → AreAtEnds (length old) shares → AddsBelow old shares at new
    → s.end < length new
next_end old new shares at s here ends so_far = grind arith

pub next_room : (old mid : TallyValue) (shares : List Share) (at : ℕ) (s : Share)
    → slice_get shares at ≡ Some s → mid.limit ≡ old.limit
    → HasRoomForShares old shares → AddsBelow old.ends shares at mid.ends → HasRoomFor mid (s.count ∷ [])
next_room old mid shares at s here limit room so_far =
    omega (arith, so_far.total, shared_more_le shares at s here, sum_by-cons (λ (n : ℕ). n) s.count [])

-- its end counts so many more
pub adds_more : (old mid new : List Ending) (shares : List Share) (at : ℕ) (s : Share)
    → slice_get shares at ≡ Some s → AddsBelow old shares at mid
    → AddsAt mid s.end s.count new → AddsBelow old shares (at + 1) new
adds_more old mid new shares at s here so_far adds =
    subst (AddsBelow old shares (at + 1)) (sym adds.new_is) (record {
      adds = record {
        as_many = length-set mid s.end adds.more ∙ so_far.adds.as_many;
        more = more;
      };
      total =
          omega (
            arith,
            so_far.total,
            sum_more (λ (t : Share). t.count) shares at s here,
            sum_by-set (λ (y : Ending). y.count) mid s.end adds.more adds.entry
                (slice_get_within mid s.end adds.entry adds.here),
            ap (λ (y : Ending). y.count)
                (get_or_from_slice_get mid s.end adds.entry adds.entry adds.here),
            adds.count_is,
          );
    })
  where
    more : (k : ℕ) (e f : Ending) → slice_get old k ≡ Some e → slice_get (set mid s.end adds.more) k ≡ Some f
        → (f.outcome ≡ e.outcome) × (f.first.items ≡ e.first.items)
        × (f.count ≡ e.count + amount_of (take (at + 1) shares) k)
    more k e f h i =
        elim (get_set_cases mid s.end adds.more k f i) [
          | inl x ↦ own x.0 x.1
          | inr x ↦ (let m = so_far.adds.more k e f h x.1 in (
            m.0,
            m.1,
            omega (
              arith,
              m.2,
              sum_more (count_for k) shares at s here,
              other_share s k (λ same. x.0 (sym same)),
            ),
          ))
        ]
      where
        own : k ≡ s.end → adds.more ≡ f
            → (f.outcome ≡ e.outcome) × (f.first.items ≡ e.first.items)
            × (f.count ≡ e.count + amount_of (take (at + 1) shares) k)
        own same is =
            let m = so_far.adds.more k e adds.entry h (rw same adds.here) in (
              rw (← is, adds.outcome_is) m.0,
              rw (← is, adds.first) m.1,
              rw (← is, adds.count_is, sum_more (count_for k) shares at s here, own_share s k (sym same))
                  (omega (arith, m.2)),
            )

-- they are the counts that they tell
pub adds_told : (old new : List Ending) (shares : List Share) (counts : List ℕ)
    → ((k : ℕ) → amount_of shares k ≡ get_or counts k 0) → AddsShares old shares new
    → AddsCounts old counts new
adds_told old new shares counts told adds = record {
  as_many = adds.as_many;
  more = λ k e f h i. let m = adds.more k e f h i in (m.0, m.1, omega (arith, m.2, told k));
}

-- ---- room for them

-- the shares so far leave so much of it
pub left_more : (shares : List Share) (room left less at : ℕ) (s : Share) → slice_get shares at ≡ Some s
    → left + shared (take at shares) ≡ room → s.count ≤ left → less ≡ left - s.count
    → less + shared (take (at + 1) shares) ≡ room
left_more shares room left less at s here so_far fits is =
    omega (arith, sum_more (λ (t : Share). t.count) shares at s here)

-- one that is too great is one of all
pub none_left : (shares : List Share) (room left at : ℕ) (s : Share) → slice_get shares at ≡ Some s
    → left + shared (take at shares) ≡ room → (s.count ≤ left → ⊥)
    → shared shares ≤ room → ⊥
none_left shares room left at s here so_far over fits =
    over (omega (arith, shared_more_le shares at s here))

-- and all of them leave some
pub all_left : (shares : List Share) (room left at : ℕ) → length shares ≤ at
    → left + shared (take at shares) ≡ room → shared shares ≤ room
all_left shares room left at past so_far = omega (arith, rw (take_all at shares past) at so_far)
