-- Groups of ends, with one end more.
use Rattle.std.proofs.Common.{◌≡◌, ℕ, suc, ◌+◌, ◌<◌, List, [], ◌∷◌, ◌++◌, get_or, length, set, Some, slice_get, take, refl, ap, sym, subst, ◌∙◌, arith, inl, inr}
use Rattle.std.specs.Prelude.{sum_by}
use Rattle.std.proofs.lemmas.List.{take_more}
use Rattle.std.proofs.lemmas.List.Sums.{sum_by_more_le, sum_by_push, sum_by-set}
use Rattle.std.proofs.lemmas.Option.{get_or_from_slice_get, same_Some, slice_get_within}
use Rattle.hp_units.proofs.Tables.{get_set as get_set_here}
use Rattle.hp_laws.proofs.Lists.{get_end, get_push_cases}
use Rattle.hp_schedules.proofs.Counting.{get_longer}
use Rattle.hp_schedules.proofs.Counts.{end_stays, get_set_cases}
use Rattle.hp_schedules.specs.Ends.{AreInOrder}
use Rattle.hp_schedules.specs.Orders.{IsBefore}
use Rattle.hp_schedules.specs.Outcomes.{OutcomeValue}
use Rattle.hp_schedules.specs.Shares.{AddsAt}
use Rattle.hp_schedules.specs.declared.tally.Ending.{Ending}
use Rattle.hp_search.specs.Groups.{AddUp, AddsEnd, Agree, AreGroups, Begins, HasNoGroup, GroupingValue, IsFirstOf, IsGroup, Joins}
use Rattle.hp_search.proofs.GroupsFound.{agree_back, agree_on, agree_self}

-- ---- counts

none_adds : (by : GroupingValue) (x : OutcomeValue) (ends : List Ending)
    → ((k : ℕ) (e : Ending) → slice_get ends k ≡ Some e → Agree by e.outcome x → ⊥) → AddUp by x ends 0
none_adds by x [] none = refl
none_adds by x (e ∷ ends) none = inr (none 0 e refl, none_adds by x ends (λ k d h. none (suc k) d h))

adds_more : (by : GroupingValue) (x : OutcomeValue) (ends : List Ending) (e : Ending) (n : ℕ)
    → AddUp by x ends n
    → Agree by e.outcome x → AddUp by x (ends ++ e ∷ []) (n + e.count)
adds_more by x [] e n nothing agrees = inl (0, agrees, omega (arith, nothing), refl)
adds_more by x (d ∷ ends) e n h agrees =
    elim h [
      | inl one ↦ inl (
        one.0 + e.count,
        one.1,
        omega (arith, one.2),
        adds_more by x ends e one.0 one.3 agrees,
      )
      | inr other ↦ inr (other.0, adds_more by x ends e n other.1 agrees)
    ]

adds_other : (by : GroupingValue) (x : OutcomeValue) (ends : List Ending) (e : Ending) (n : ℕ)
    → AddUp by x ends n
    → (Agree by e.outcome x → ⊥) → AddUp by x (ends ++ e ∷ []) n
adds_other by x [] e n nothing differs = inr (differs, nothing)
adds_other by x (d ∷ ends) e n h differs =
    elim h [
      | inl one ↦ inl (one.0, one.1, one.2, adds_other by x ends e one.0 one.3 differs)
      | inr other ↦ inr (other.0, adds_other by x ends e n other.1 differs)
    ]

-- ---- the first of a group

first_longer : (by : GroupingValue) (x : OutcomeValue) (ends : List Ending) (e f : Ending)
    → IsFirstOf by x ends f → IsFirstOf by x (ends ++ e ∷ []) f
first_longer by x ends e f first = record {
  place = first.place;
  here = get_longer ends (e ∷ []) first.place f first.here;
  agrees = first.agrees;
  earliest =
      λ k d h agrees. elim (get_push_cases ends e d k h) [
        | inl old ↦ first.earliest k d old agrees
        | inr last ↦ omega (arith, slice_get_within ends first.place f first.here, last.0)
      ];
}

-- a group of which the end is none stays; one of which it is counts it too
group_stays : (by : GroupingValue) (ends : List Ending) (e g : Ending) → (Agree by e.outcome g.outcome → ⊥)
    → IsGroup by ends g → IsGroup by (ends ++ e ∷ []) g
group_stays by ends e g differs is = record {
  leader = is.leader;
  leads = first_longer by g.outcome ends e is.leader is.leads;
  outcome = is.outcome;
  first = is.first;
  count = adds_other by g.outcome ends e g.count is.count differs;
}

group_grows : (by : GroupingValue) (ends : List Ending) (e g more : Ending) → Agree by g.outcome e.outcome
    → more.outcome ≡ g.outcome → more.count ≡ g.count + e.count → more.first.items ≡ g.first.items
    → IsGroup by ends g → IsGroup by (ends ++ e ∷ []) more
group_grows by ends e g more agrees outcome count first is = record {
  leader = is.leader;
  leads = rw outcome (first_longer by g.outcome ends e is.leader is.leads);
  outcome = outcome ∙ is.outcome;
  first = first ∙ is.first;
  count =
      rw (outcome, count)
      (adds_more by g.outcome ends e g.count is.count (agree_back by g.outcome e.outcome agrees));
}

-- no end so far is of the group that an end begins
new_alone : (by : GroupingValue) (ends old : List Ending) (e : Ending) → AreGroups by ends old
    → HasNoGroup by old e.outcome → (k : ℕ) (d : Ending) → slice_get ends k ≡ Some d
    → Agree by d.outcome e.outcome → ⊥
new_alone by ends old e ok none k d h agrees =
    let at = ok.every k d h in
    none at.0 at.1 at.2 (agree_on by at.1.outcome d.outcome e.outcome at.3 agrees)

group_begins : (by : GroupingValue) (ends groups : List Ending) (e g : Ending) → AreGroups by ends groups
    → HasNoGroup by groups e.outcome → g.outcome ≡ e.outcome → g.count ≡ e.count
    → g.first.items ≡ e.first.items → IsGroup by (ends ++ e ∷ []) g
group_begins by ends groups e g ok none outcome count first = record {
  leader = e;
  leads = rw outcome (record {
    place = length ends;
    here = get_end ends e;
    agrees = agree_self by e.outcome;
    earliest =
        λ k d h agrees. elim (get_push_cases ends e d k h) [
          | inl before ↦ absurd (new_alone by ends groups e ok none k d before agrees)
          | inr last ↦ omega (arith, last.0)
        ];
  });
  outcome = outcome;
  first = first;
  count =
      rw outcome
      (subst (AddUp by e.outcome (ends ++ e ∷ [])) (omega (arith, count))
      (adds_more by e.outcome ends e 0
      (none_adds by e.outcome ends (new_alone by ends groups e ok none)) (agree_self by e.outcome)));
}

-- ---- groups of one end more

-- ends in order are so without the last
order_before : (ends : List Ending) (e : Ending) → AreInOrder (ends ++ e ∷ []) → AreInOrder ends
order_before ends e order i j f g less h k =
    order i j f g less (get_longer ends (e ∷ []) i f h) (get_longer ends (e ∷ []) j g k)

-- a place of groups of which one counts more
was : (groups : List Ending) (at : ℕ) (entry more : Ending) → slice_get groups at ≡ Some entry
    → more.outcome ≡ entry.outcome → more.first.items ≡ entry.first.items → (k : ℕ) (f : Ending)
    → slice_get (set groups at more) k ≡ Some f
    → (d : Ending) × (slice_get groups k ≡ Some d) × (d.outcome ≡ f.outcome) × (d.first.items ≡ f.first.items)
was groups at entry more here outcome first k f h =
    elim (get_set_cases groups at more k f h) [
      | inl now ↦ (
        entry,
        rw now.0 here,
        rw (← now.1) (sym outcome),
        rw (← now.1) (sym first),
      )
      | inr past ↦ (f, past.1, refl, refl)
    ]

joined : (by : GroupingValue) (ends groups : List Ending) (e : Ending) (new : List Ending)
    → AreGroups by ends groups → Joins by groups e new → AreGroups by (ends ++ e ∷ []) new
joined by ends groups e new ok joins =
    rw counted.new_is
    (record { each = each; every = every; apart = apart; total = total; ordered = ordered })
  where
    counted : AddsAt groups joins.place e.count new
    counted = joins.counted

    at : ℕ
    at = joins.place

    entry : Ending
    entry = counted.entry

    more : Ending
    more = counted.more

    later : List Ending
    later = set groups at more

    agrees : Agree by entry.outcome e.outcome
    agrees = rw (same_Some joins.has.0 entry (sym joins.has.1 ∙ counted.here)) at joins.has.2

    each : (k : ℕ) (g : Ending) → slice_get later k ≡ Some g → IsGroup by (ends ++ e ∷ []) g
    each k g h =
        elim (get_set_cases groups at more k g h) [
          | inl now ↦
              rw (← now.1)
              (group_grows by ends e entry more agrees counted.outcome_is counted.count_is counted.first
              (ok.each at entry counted.here))
          | inr past ↦
              group_stays by ends e g
              (λ same. past.0 (ok.apart k at g entry past.1 counted.here
              (agree_on by g.outcome e.outcome entry.outcome (agree_back by e.outcome g.outcome same)
              (agree_back by entry.outcome e.outcome agrees))))
              (ok.each k g past.1)
        ]

    every : (k : ℕ) (d : Ending) → slice_get (ends ++ e ∷ []) k ≡ Some d
        → (j : ℕ) × (g : Ending) × (slice_get later j ≡ Some g) × Agree by g.outcome d.outcome
    every k d h =
        elim (get_push_cases ends e d k h) [
          | inl before ↦
              (let has = ok.every k d before in
              let stays =
              end_stays groups at entry more counted.here counted.outcome_is has.0 has.1 has.1.outcome has.2
              refl in (
                stays.0,
                stays.1,
                stays.2,
                rw stays.3 has.3,
              ))
          | inr last ↦ (
            at,
            more,
            get_set_here groups at more (slice_get_within groups at entry counted.here),
            rw (counted.outcome_is, ← last.1) agrees,
          )
        ]

    apart : (i j : ℕ) (f g : Ending) → slice_get later i ≡ Some f → slice_get later j ≡ Some g
        → Agree by f.outcome g.outcome → i ≡ j
    apart i j f g h k same =
        let a = was groups at entry more counted.here counted.outcome_is counted.first i f h in
        let b = was groups at entry more counted.here counted.outcome_is counted.first j g k in
        ok.apart i j a.0 b.0 a.1 b.1 (rw (a.2, b.2) same)

    total : sum_by (λ (f : Ending). f.count) later ≡ sum_by (λ (f : Ending). f.count) (ends ++ e ∷ [])
    total =
        omega (
          arith,
          sum_by-set (λ (f : Ending). f.count) groups at more entry
              (slice_get_within groups at entry counted.here),
          ap (λ (f : Ending). f.count) (get_or_from_slice_get groups at entry entry counted.here),
          counted.count_is,
          ok.total,
          sum_by_push (λ (f : Ending). f.count) ends e,
        )

    ordered : AreInOrder (ends ++ e ∷ []) → AreInOrder later
    ordered order i j f g less h k =
        let a = was groups at entry more counted.here counted.outcome_is counted.first i f h in
        let b = was groups at entry more counted.here counted.outcome_is counted.first j g k in
        rw (← a.3, ← b.3) (ok.ordered (order_before ends e order) i j a.0 b.0 less a.1 b.1)

begun : (by : GroupingValue) (ends groups : List Ending) (e : Ending) (new : List Ending)
    → AreGroups by ends groups → Begins by groups e new → AreGroups by (ends ++ e ∷ []) new
begun by ends groups e new ok begins =
    rw begins.new_is
    (record { each = each; every = every; apart = apart; total = total; ordered = ordered })
  where
    group : Ending
    group = begins.group

    later : List Ending
    later = groups ++ group ∷ []

    each : (k : ℕ) (g : Ending) → slice_get later k ≡ Some g → IsGroup by (ends ++ e ∷ []) g
    each k g h =
        elim (get_push_cases groups group g k h) [
          | inl there ↦
              group_stays by ends e g
              (λ same. begins.none k g there (agree_back by e.outcome g.outcome same)) (ok.each k g there)
          | inr last ↦
              rw (← last.1)
              (group_begins by ends groups e group ok begins.none begins.outcome begins.count begins.first)
        ]

    every : (k : ℕ) (d : Ending) → slice_get (ends ++ e ∷ []) k ≡ Some d
        → (j : ℕ) × (g : Ending) × (slice_get later j ≡ Some g) × Agree by g.outcome d.outcome
    every k d h =
        elim (get_push_cases ends e d k h) [
          | inl before ↦
              (let has = ok.every k d before in
              (has.0, has.1, get_longer groups (group ∷ []) has.0 has.1 has.2, has.3))
          | inr last ↦ (
            length groups,
            group,
            get_end groups group,
            rw (begins.outcome, ← last.1) (agree_self by e.outcome),
          )
        ]

    alone : (k : ℕ) (f g : Ending) → slice_get groups k ≡ Some f → group ≡ g → Agree by f.outcome g.outcome
        → ⊥
    alone k f g there is same = begins.none k f there (rw (← begins.outcome, is) same)

    apart : (i j : ℕ) (f g : Ending) → slice_get later i ≡ Some f → slice_get later j ≡ Some g
        → Agree by f.outcome g.outcome → i ≡ j
    apart i j f g h k same =
        elim (get_push_cases groups group f i h) [
          | inl a ↦ elim (get_push_cases groups group g j k) [
            | inl b ↦ ok.apart i j f g a b same
            | inr b ↦ absurd (alone i f g a b.1 same)
          ]
          | inr a ↦ elim (get_push_cases groups group g j k) [
            | inl b ↦ absurd (alone j g f b a.1 (agree_back by f.outcome g.outcome same))
            | inr b ↦ a.0 ∙ sym b.0
          ]
        ]

    total : sum_by (λ (f : Ending). f.count) later ≡ sum_by (λ (f : Ending). f.count) (ends ++ e ∷ [])
    total =
        omega (
          arith,
          sum_by_push (λ (f : Ending). f.count) groups group,
          begins.count,
          ok.total,
          sum_by_push (λ (f : Ending). f.count) ends e,
        )

    -- the leader of an earlier group is before the end
    led : (k : ℕ) (f g : Ending) → AreInOrder (ends ++ e ∷ []) → slice_get groups k ≡ Some f → group ≡ g
        → IsBefore f.first.items g.first.items
    led k f g order there is =
        let one = ok.each k f there in
        let before =
        order one.leads.place (length ends) one.leader e
        (slice_get_within ends one.leads.place one.leader one.leads.here)
        (get_longer ends (e ∷ []) one.leads.place one.leader one.leads.here) (get_end ends e) in
        rw (one.first, ← is, begins.first) before

    ordered : AreInOrder (ends ++ e ∷ []) → AreInOrder later
    ordered order i j f g less h k =
        elim (get_push_cases groups group f i h) [
          | inl a ↦ elim (get_push_cases groups group g j k) [
            | inl b ↦ ok.ordered (order_before ends e order) i j f g less a b
            | inr b ↦ led i f g order a b.1
          ]
          | inr a ↦ elim (get_push_cases groups group g j k) [
            | inl b ↦ absurd (omega (arith, slice_get_within groups j g b, a.0))
            | inr b ↦ absurd (omega (arith, a.0, b.0))
          ]
        ]

-- ---- groups of the ends so far

pub groups_more : (by : GroupingValue) (ends groups new : List Ending) (at : ℕ) (e : Ending)
    → at < length ends
    → e ≡ get_or ends at e → AreGroups by (take at ends) groups → AddsEnd by groups e new
    → AreGroups by (take (at + 1) ends) new
groups_more by ends groups new at e within here so_far adds =
    rw (take_more ends at e within, ← here) (elim adds [
      | inl joins ↦ joined by (take at ends) groups e new so_far joins
      | inr begins ↦ begun by (take at ends) groups e new so_far begins
    ])

pub groups_room : (by : GroupingValue) (ends groups : List Ending) (at bound : ℕ) (e : Ending)
    → at < length ends
    → e ≡ get_or ends at e → AreGroups by (take at ends) groups
    → sum_by (λ (f : Ending). f.count) ends < bound
    → sum_by (λ (f : Ending). f.count) groups + e.count < bound
groups_room by ends groups at bound e within here so_far room =
    omega (
      arith,
      room,
      ap (λ (f : Ending). f.count) here,
      so_far.total,
      sum_by_more_le (λ (f : Ending). f.count) ends at e within,
    )
