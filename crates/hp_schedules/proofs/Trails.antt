-- The trail: sums in place of shares, and the counts that it tells.
use Rattle.std.proofs.Common.{◌≡◌, ℕ, ◌+◌, ◌<◌, ◌≤◌, List, [], ◌∷◌, ◌++◌, length, take, drop, set, Some, slice_get, refl, ap, sym, subst, ◌∙◌, arith, inl, inr, zero, suc}
use Rattle.std.specs.Prelude.{sum_by}
use Rattle.std.proofs.lemmas.List.{drop-append-le, drop-set-lt, get_or-take, get_or_past, length_push, length-set, length-take-le, take_all, take-take, take_more_set, take-set-le}
use Rattle.std.proofs.lemmas.List.Sums.{get_or-le-sum_by, sum_by-drop_more, sum_by_push, sum_by-set, sum_by-take-drop}
use Rattle.std.proofs.lemmas.Option.{get_or_from_slice_get, slice_get_within}
use Rattle.hp_laws.proofs.Lists.{get_push_cases, get_take}
use Rattle.std.proofs.lemmas.Bool.{cases_Bool}
use Rattle.hp_schedules.specs.Notes.{AddsEnd, TallyValue}
use Rattle.hp_schedules.specs.Outcomes.{OutcomeValue}
use Rattle.hp_schedules.specs.Shares.{AddsAt, AreAtEnds, amount_of, count_for}
use Rattle.hp_schedules.specs.Trails.{AddsUp, IsGathered, IsSummedUp, KeepsBefore, left_over}
use Rattle.hp_schedules.specs.declared.trail.Share.{Share}
use Rattle.hp_schedules.proofs.Counts.{get_set_cases}
use Rattle.hp_schedules.proofs.Shares.{amount_past, amount_push, at_ends_more, at_ends_push, other_share, own_share, shared}

-- ---- what adds up

abbrev count_of : Share → ℕ
count_of s = s.count

pub counts_add_up : AddsUp (λ s. s.count)
counts_add_up end a b = refl

amounts_add_up : (k : ℕ) → AddsUp (count_for k)
amounts_add_up k end a b = grind (arith, cases_Bool)

-- ---- one share is added to the sums

-- the shares stay of the first ends where one is set to a share of those
at_ends_set : (shares : List Share) (k : ℕ) (s : Share) (many : ℕ) → s.end < many → AreAtEnds many shares
    → AreAtEnds many (set shares k s)
at_ends_set shares k s many own at i u h =
    elim (get_set_cases shares k s i u h) [ inl x ↦ rw (← x.1) own | inr x ↦ at i u x.1 ]

-- its end has a sum
pub summed_with : (old new : List Share) (start end at place : ℕ) (s t : Share)
    → slice_get old at ≡ Some s → slice_get old place ≡ Some t → t.end ≡ s.end
    → start ≤ place → place < end → end ≤ at
    → new ≡ set old place (record { end = t.end; count = t.count + s.count })
    → IsSummedUp start end at old end new
summed_with old new start end at place s t here there own from below to is =
    subst (IsSummedUp start end at old end) (sym is) (record {
      long = length-set old place more;
      before = take-set-le start old place more from;
      not_less = omega arith;
      within = omega arith;
      same = λ f adds.
          omega (
            arith,
            sum_by-take-drop f (set old place more) end,
            ap (sum_by f) (drop-set-lt end old place more below),
            sum_by-set f old place more t (slice_get_within old place t there),
            ap f (get_or_from_slice_get old place t t there),
            sum_by-take-drop f old end,
            sum_by-drop_more f old at s (slice_get_within old at s here),
            ap f (get_or_from_slice_get old at s s here),
            ap (sum_by f) (drop-set-lt (at + 1) old place more (omega arith)),
            gives f adds,
          );
      at_ends = λ many at. at_ends_set old place more many (at place t there) at;
    })
  where
    more : Share
    more = record { end = t.end; count = t.count + s.count }

    gives : (f : Share → ℕ) → AddsUp f → f more ≡ f t + f s
    gives f adds =
        rw (← own) (adds t.end t.count s.count)

-- or it has none
pub summed_first : (old new : List Share) (start end at : ℕ) (s : Share)
    → slice_get old at ≡ Some s → start ≤ end → end ≤ at → new ≡ set old end s
    → IsSummedUp start end at old (end + 1) new
summed_first old new start end at s here from to is =
    subst (IsSummedUp start end at old (end + 1)) (sym is) (record {
      long = length-set old end s;
      before = take-set-le start old end s from;
      not_less = omega arith;
      within = omega arith;
      same = λ f adds.
          omega (
            arith,
            ap (sum_by f) (take_more_set old end s (omega (arith, within, to))),
            sum_by_push f (take end old) s,
            sum_by-drop_more f old at s within,
            ap f (get_or_from_slice_get old at s s here),
            ap (sum_by f) (drop-set-lt (at + 1) old end s (omega arith)),
          );
      at_ends = λ many ends. at_ends_set old end s many (ends at s here) ends;
    })
  where
    within : at < length old
    within = slice_get_within old at s here

-- the sum fits
pub sum_fits : (old : List Share) (end at place most : ℕ) (s t : Share)
    → slice_get old at ≡ Some s → slice_get old place ≡ Some t → place < end → end ≤ at
    → left_over (λ u. u.count) end at old < most → t.count + s.count < most
sum_fits old end at place most s t here there below to fits =
    grind (
      arith,
      get_or-le-sum_by count_of (take end old) place t,
      length-take-le,
      get_or-take,
      get_or_from_slice_get,
      sum_by-drop_more count_of old at s,
      slice_get_within,
    )

-- ---- all of them are

-- up to an index
pub record IsGatheredTo (start at end : ℕ) (old now : List Share) : Type 0 where
  pub long : length now ≡ length old
  pub before : take start now ≡ take start old
  pub from : start ≤ end
  pub to : end ≤ at
  pub same : (f : Share → ℕ) → AddsUp f → left_over f end at now ≡ sum_by f old
  pub at_ends : (many : ℕ) → AreAtEnds many old → AreAtEnds many now

pub gathered_none : (start : ℕ) (shares : List Share) → IsGatheredTo start start start shares shares
gathered_none start shares = record {
  long = refl;
  before = refl;
  from = omega arith;
  to = omega arith;
  same = λ f adds. sum_by-take-drop f shares start;
  at_ends = λ many at. at;
}

pub gathered_more : (start at end later : ℕ) (old now new : List Share)
    → IsGatheredTo start at end old now → IsSummedUp start end at now later new
    → IsGatheredTo start (at + 1) later old new
gathered_more start at end later old now new so_far more = record {
  long = more.long ∙ so_far.long;
  before = more.before ∙ so_far.before;
  from = omega (arith, so_far.from, more.not_less);
  to = more.within;
  same = λ f adds. more.same f adds ∙ so_far.same f adds;
  at_ends = λ many ends. more.at_ends many (so_far.at_ends many ends);
}

pub gathered_all : (start at end : ℕ) (old now new : List Share) → length old ≤ at → end ≤ length old
    → new ≡ take end now
    → IsGatheredTo start at end old now → IsGathered start old new
gathered_all start at end old now new past short is all = subst (IsGathered start old) (sym is) (record {
  before = before;
  longer = omega (arith, all.from, long);
  same =
      λ f adds. omega (
        arith,
        rw before at (sum_by-take-drop f (take end now) start),
        sum_by-take-drop f old start,
        rw (take_all at now (omega (arith, past, all.long))) at (sum_by-take-drop f now at),
        all.same f adds,
      );
  at_ends = λ many ends i s h. all.at_ends many ends i s (get_take end now s i h).1;
})
  where
    before : take start (take end now) ≡ take start old
    before = take-take start end now all.from ∙ all.before

    long : length (take end now) ≡ end
    long = length-take-le end now (omega (arith, short, all.long))

-- they give as much as before, with those that stay
pub gathered_gives : (start : ℕ) (old new : List Share) (f : Share → ℕ) → AddsUp f
    → IsGathered start old new → sum_by f new ≡ sum_by f old
gathered_gives start old new f adds all =
    rw (← sum_by-take-drop f new start, ← sum_by-take-drop f old start, all.before, all.same f adds)

-- the later ones are of the same ends
pub at_ends_drop : (many start : ℕ) (shares : List Share) → AreAtEnds many shares
    → AreAtEnds many (drop start shares)
at_ends_drop many zero shares at_ends i u h = at_ends i u h
at_ends_drop many (suc start) [] at_ends i u h = absurd cc
at_ends_drop many (suc start) (s ∷ shares) at_ends i u h =
    at_ends_drop many start shares (λ j t. at_ends (suc j) t) i u h

-- one share more is of an end that there is, and what they give is counted
pub trail_pushed : (trail new : List Share) (one : Share) (many more total later : ℕ)
    → new ≡ trail ++ one ∷ [] → AreAtEnds many trail → one.end < more → many ≤ more
    → shared trail ≤ total → later ≡ total + one.count
    → AreAtEnds more new × (shared new ≤ later)
trail_pushed trail new one many more total later is at_ends own le counted later_is = (
  rw is (at_ends_push trail one more own (at_ends_more trail many more le at_ends)),
  omega (arith, ap shared is, sum_by_push count_of trail one, counted, later_is),
)

-- ---- the counts that the trail tells

pub keeps_none : (t : TallyValue) → KeepsBefore (length t.trail) t t
keeps_none t = record { longer = omega arith; told = λ s earlier le short was. was }

pub keeps_twice : (old mid new : TallyValue) (start later : ℕ) → length old.ends ≤ length mid.ends
    → start ≤ later → KeepsBefore start old mid → KeepsBefore later mid new → KeepsBefore start old new
keeps_twice old mid new start later longer le a b = record {
  longer = omega (arith, le, b.longer);
  told =
      λ s earlier within short was.
      b.told s earlier (omega (arith, within, le)) (omega (arith, short, longer))
      (a.told s earlier within short was);
}

-- an end that counts more
pub keeps_at : (old new : TallyValue) (at count : ℕ) → AddsAt old.ends at count new.ends
    → new.trail ≡ old.trail ++ record { end = at; count = count } ∷ []
    → KeepsBefore (length old.trail) old new
keeps_at old new at count adds is = record {
  longer = rw (is, length_push) (omega arith);
  told = λ s earlier le short was.
      rw (adds.new_is, is, drop-append-le s old.trail (one ∷ []) le) (record {
        at_ends =
            rw length-set (at_ends_push (drop s old.trail) one (length old.ends) within was.at_ends);
        each = λ k f h. grind (arith, get_set_cases, amount_push, own_share, other_share, was.each);
      });
}
  where
    one : Share
    one = record { end = at; count = count }

    within : at < length old.ends
    within = slice_get_within old.ends at adds.entry adds.here

-- an end that is new
pub keeps_end : (old new : TallyValue) (x : OutcomeValue) (schedule : List ℕ)
    → AddsEnd old.ends x schedule new.ends
    → new.trail ≡ old.trail ++ record { end = length old.ends; count = 1 } ∷ []
    → KeepsBefore (length old.trail) old new
keeps_end old new x schedule adds is = record {
  longer = rw (is, length_push) (omega arith);
  told = λ s earlier le short was.
      rw (adds.new_is, is, drop-append-le s old.trail (one ∷ []) le) (record {
        at_ends =
            rw length_push (at_ends_push (drop s old.trail) one (length old.ends + 1) (omega arith)
            (at_ends_more (drop s old.trail) (length old.ends) (length old.ends + 1) (omega arith)
            was.at_ends));
        each = λ k f h.
            let none = amount_past (drop s old.trail) (length old.ends) k was.at_ends in
            grind (
              arith,
              get_push_cases,
              amount_push,
              own_share,
              other_share,
              was.each,
              get_or_past,
              none,
              slice_get_within,
            );
      });
}
  where
    one : Share
    one = record { end = length old.ends; count = 1 }

-- sums in place of shares
pub keeps_gathered : (old new : TallyValue) (start : ℕ) → new.ends ≡ old.ends
    → IsGathered start old.trail new.trail → AreAtEnds (length old.ends) old.trail
    → KeepsBefore start old new
keeps_gathered old new start same all at_ends = record {
  longer = all.longer;
  told = λ s earlier le short was.
      rw same (record {
        at_ends = at_ends_drop (length old.ends) s new.trail (all.at_ends (length old.ends) at_ends);
        each = λ k e h. rw (amounts s k le) (was.each k e h);
      });
}
  where
    shorter : (s : ℕ) → s ≤ start → take s new.trail ≡ take s old.trail
    shorter s le =
        sym (take-take s start new.trail le) ∙ (ap (take s) all.before ∙ take-take s start old.trail le)

    amounts : (s k : ℕ) → s ≤ start → amount_of (drop s new.trail) k ≡ amount_of (drop s old.trail) k
    amounts s k le =
        omega (
          arith,
          rw (shorter s le) at (sum_by-take-drop (count_for k) new.trail s),
          sum_by-take-drop (count_for k) old.trail s,
          gathered_gives start old.trail new.trail (count_for k) (amounts_add_up k) all,
        )
