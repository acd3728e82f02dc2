-- What numbers of openings mean.
use Rattle.std.proofs.Common.{◌≡◌, ℕ, ◌+◌, ◌<◌, true, false, List, [], ◌∷◌, ◌++◌, length, map, eqb, IfSome, Option, Some, None, slice_get, refl, ap, arith, inl, inr}
use Rattle.std.proofs.lemmas.Bool.{cases_Bool}
use Rattle.std.proofs.lemmas.List.{append_assoc}
use Rattle.std.proofs.lemmas.Option.{slice_get_within}
use Rattle.hp_states.specs.Codes.{KeepCodes}
use Rattle.hp_states.proofs.Coded.{coded_is_kept, coded_states_are_same}
use Rattle.hp_units.specs.History.{effect_of, net_of, run, value_of}
use Rattle.hp_units.specs.LayoutParts.{LayoutParts}
use Rattle.hp_units.specs.Memory.{Memory}
use Rattle.hp_units.specs.declared.replies.Record.{Record}
use Rattle.hp_laws.proofs.Net.{net-push}
use Rattle.hp_schedules.specs.Alike.{leaves_steps}
use Rattle.hp_states.specs.Interned.{KeepNumbers}
use Rattle.hp_states.specs.Numbered.{AreNamed, IsBegun, IsChanged, IsEntryOf, IsInFront, IsMadeBy, IsNumbered, IsStateAt, entry_below, in_front, opening_of, openings_of}
use Rattle.hp_states.specs.Stops.{IsNumbering}
use Rattle.hp_schedules.specs.Openings.{AreOpen, NumberedOpening, Opening, after_cancel, after_work, change_of, renumbered_change, renumbered_opening}
use Rattle.hp_schedules.specs.declared.changes.Change.{Change}
use Rattle.hp_schedules.specs.Schedules.{Setting}
use Rattle.hp_schedules.specs.declared.changes.Change.TheVariants.{Stays, Begins, Works, Cancels, Ends}
use Rattle.hp_states.specs.declared.openings.OpeningEntry.{OpeningEntry}
use Rattle.hp_states.proofs.Numberings.{made_added}
use Rattle.hp_laws.specs.Renumbered.{renumbered}
use Rattle.hp_schedules.proofs.JoinedBy.{cancel_same, work_same}
use Rattle.hp_schedules.proofs.Opened.{none_after, open_more}
use Rattle.hp_schedules.proofs.Openings.{changed, openings_after}

-- ---- openings that numbers name

pub named_kept : (l : LayoutParts) (old new : List (List ℕ)) (ns : List NumberedOpening) (os : List Opening)
    → KeepCodes old new → AreNamed l old ns os → AreNamed l new ns os
named_kept l old new (n ∷ ns) (o ∷ os) keep named =
    grind (arith, coded_is_kept, named_kept l old new ns os keep named.2)
named_kept l old new _ _ keep named = named

-- they name only these
pub named_once : (l : LayoutParts) (codes : List (List ℕ)) (ns : List NumberedOpening) (os ps : List Opening)
    → AreNamed l codes ns os → AreNamed l codes ns ps → os ≡ ps
named_once l codes [] [] [] first second = refl
named_once l codes (n ∷ ns) (o ∷ os) (p ∷ ps) first second =
    grind (arith, coded_states_are_same, named_once l codes ns os ps first.2 second.2)
named_once l codes _ _ _ first second = absurd (search)

-- what a call leaves of them
named_work : (l : LayoutParts) (codes : List (List ℕ)) (op : ℕ) (ns : List NumberedOpening)
    (os : List Opening)
    → AreNamed l codes ns os → AreNamed l codes (after_work op ns) (after_work op os)
named_work l codes op [] [] named = tt
named_work l codes op (n ∷ ns) (o ∷ os) named =
    elim (cases_Bool (eqb o.op op)) [
      | inl same ↦ (let also : eqb n.op op ≡ true = cc in rw (also, same) named)
      | inr other ↦ (let also : eqb n.op op ≡ false = cc in rw (also, other) tt)
    ]
named_work l codes op _ _ named = absurd named

named_cancel : (l : LayoutParts) (codes : List (List ℕ)) (op : ℕ) (ns : List NumberedOpening)
    (os : List Opening)
    → AreNamed l codes ns os → AreNamed l codes (after_cancel op ns) (after_cancel op os)
named_cancel l codes op [] [] named = tt
named_cancel l codes op (n ∷ ns) (o ∷ os) named =
    rw named.0 (elim (cases_Bool (eqb o.op op)) [ inl same ↦ rw same named.2 | inr other ↦ rw other tt ])
named_cancel l codes op _ _ named = absurd named

-- ---- a number that is made, and one that is found

pub front_added : (old new : List OpeningEntry) (e : OpeningEntry) (number : ℕ) → new ≡ old ++ e ∷ []
    → number ≡ length old + 1
    → IsInFront (openings_of old) (openings_of new) e.op e.state e.below number
front_added old new e number is number_is os h =
    made_added entry_below in_front old new e number os is number_is h

-- ---- what a call makes of a number

-- where a list is empty, or another operation is the first, nothing is left
pub made_empty : (f : List NumberedOpening → List NumberedOpening) (lists : List (List NumberedOpening))
    {was : Option ℕ} (n m : ℕ)
    → f [] ≡ [] → was ≡ Some n → ((os : List NumberedOpening) → slice_get lists n ≡ Some os → os ≡ [])
    → slice_get lists m ≡ Some [] → IsMadeBy f lists was (Some m)
made_empty f lists n m none is empty here =
    rw is (λ os h. (m, refl, rw (empty os h, none) here))

-- else the list is that of the entry
module _ (lists : List (List NumberedOpening)) {was : Option ℕ} {n : ℕ} (op : ℕ) (e : OpeningEntry)
    (is : was ≡ Some n) (made : IsEntryOf lists n e) where
  made_first : (f : List NumberedOpening → List NumberedOpening) (m : ℕ)
      → slice_get lists m ≡ Some (f (opening_of e ∷ made.0)) → IsMadeBy f lists was (Some m)
  made_first f m here =
      rw is (λ os h. let same : opening_of e ∷ made.0 ≡ os = cc in (m, refl, rw (← same) here))

  pub same_work : eqb e.op op ≡ true → IsMadeBy (after_work op) lists was (Some n)
  same_work same = made_first (after_work op) n (rw same made.2)

  pub other_work : (m : ℕ) → eqb e.op op ≡ false → slice_get lists m ≡ Some []
      → IsMadeBy (after_work op) lists was (Some m)
  other_work m differ here = made_first (after_work op) m (rw differ here)

  pub same_cancel : eqb e.op op ≡ true → IsMadeBy (after_cancel op) lists was (Some e.below)
  same_cancel same = made_first (after_cancel op) e.below (rw same made.1)

  pub other_cancel : (m : ℕ) → eqb e.op op ≡ false → slice_get lists m ≡ Some []
      → IsMadeBy (after_cancel op) lists was (Some m)
  other_cancel m differ here = made_first (after_cancel op) m (rw differ here)

module _ (p : ℕ → ℕ) (g : Setting) (codes : List (List ℕ)) where
  -- one record more, where the number means what it makes
  numbered_on : (lists : List (List NumberedOpening))
      (news : List Record) (r : Record) (ns : List NumberedOpening) (os : List Opening) (n : ℕ)
      → leaves_steps (effect_of r.event) ≡ true → AreOpen g.layout g.base (net_of (g.start ++ news)) os
      → AreNamed g.layout codes ns
      (map (renumbered_opening p) (openings_after (value_of g.layout g.base (g.start ++ news)) os r))
      → slice_get lists n ≡ Some ns → IsNumbered p g codes lists (news ++ r ∷ []) (Some n)
  unfolding value_of
  numbered_on lists news r ns os n leaves open_here named found = (
    ns,
    openings_after (run g.layout g.base (net_of (g.start ++ news))) os r,
    found,
    named,
    rw (← append_assoc g.start news (r ∷ []), net-push (g.start ++ news) r)
        (open_more g.layout g.base (net_of (g.start ++ news)) os r leaves open_here),
  )

  -- by what the record does
  stays_on : (lists : List (List NumberedOpening)) (news : List Record) (r : Record) (was : Option ℕ)
      → change_of r ≡ Stays → leaves_steps (effect_of r.event) ≡ true → IsNumbered p g codes lists news was
      → IsNumbered p g codes lists (news ++ r ∷ []) was
  stays_on lists news r None is leaves before = tt
  stays_on lists news r (Some n) is leaves before =
      numbered_on lists news r before.0 before.1 n leaves before.4 (rw is before.3) before.2

  begins_on : (old new : List (List NumberedOpening))
      (news : List Record) (r : Record) (from was number : Option ℕ)
      → change_of r ≡ Begins → leaves_steps (effect_of r.event) ≡ true
      → IsBegun old new (p r.serial) from was number → IsStateAt p g codes news from
      → IsNumbered p g codes old news was → IsNumbered p g codes new (news ++ r ∷ []) number
  begins_on old new news r from was None is leaves begun here before = tt
  begins_on old new news r from was (Some n) is leaves begun here before =
      numbered_on new news r (first ∷ known.0) known.1 n leaves known.4
      (rw is (refl, rw begun.3 at here, known.3)) (begun.4 known.0 known.2)
    where
      known : IsNumbered p g codes old news (Some begun.0)
      known = rw begun.2 at before

      first : NumberedOpening
      first = record { op = p r.serial; memory = begun.1 }

  made_on : (lists : List (List NumberedOpening)) (news : List Record) (r : Record) (was number : Option ℕ)
      (f : List NumberedOpening → List NumberedOpening) (h : List Opening → List Opening)
      → ((here : Memory) (os : List Opening) → openings_after here os r ≡ h os)
      → ((ns : List NumberedOpening) (os : List Opening)
      → AreNamed g.layout codes ns (map (renumbered_opening p) os)
      → AreNamed g.layout codes (f ns) (map (renumbered_opening p) (h os)))
      → leaves_steps (effect_of r.event) ≡ true → IsMadeBy f lists was number
      → IsNumbered p g codes lists news was → IsNumbered p g codes lists (news ++ r ∷ []) number
  made_on lists news r None number f h does name leaves made before =
      rw made tt
  made_on lists news r (Some n) number f h does name leaves made before =
      let now = made before.0 before.2 in
      rw now.1
      (numbered_on lists news r (f before.0) before.1 now.0 leaves before.4
      (rw (does (value_of g.layout g.base (g.start ++ news)) before.1) (name before.0 before.1 before.3))
      now.2)

  ends_on : (lists : List (List NumberedOpening)) (news : List Record) (r : Record) (number : Option ℕ)
      → change_of r ≡ Ends → leaves_steps (effect_of r.event) ≡ true
      → ((n : ℕ) → number ≡ Some n → slice_get lists n ≡ Some [])
      → IsNumbered p g codes lists (news ++ r ∷ []) number
  ends_on lists news r None is leaves empty = tt
  ends_on lists news r (Some n) is leaves empty = (
    [],
    [],
    empty n refl,
    tt,
    rw (← append_assoc g.start news (r ∷ []), net-push (g.start ++ news) r)
        (none_after g.layout g.base (net_of (g.start ++ news)) r leaves is),
  )

-- after one call more
pub changed_on : (at : List Record → ℕ → ℕ) → IsNumbering at → (g : Setting) (codes : List (List ℕ))
    (old new : List (List NumberedOpening)) (news : List Record) (r : Record) (from was number : Option ℕ)
    → leaves_steps (effect_of r.event) ≡ true
    → IsChanged old new from (at news r.serial) (renumbered_change (at news) (change_of r)) was number
    → IsStateAt (at news) g codes news from → IsNumbered (at news) g codes old news was
    → IsNumbered (at (news ++ r ∷ [])) g codes new (news ++ r ∷ []) number
changed_on at numbering g codes old new news r from was number leaves changes here before =
    by_change (change_of r) refl changes
  where
    by_change : (change : Change) → change_of r ≡ change
        → IsChanged old new from (at news r.serial) (renumbered_change (at news) change) was number
        → IsNumbered (at (news ++ r ∷ [])) g codes new (news ++ r ∷ []) number
    by_change Stays is made =
        rw (numbering.steady news r (λ ends. cc), made.0, made.1)
        (stays_on (at news) g codes old news r was is leaves before)
    by_change Begins is made =
        rw (numbering.steady news r (λ ends. cc))
        (begins_on (at news) g codes old new news r from was number is leaves made here before)
    by_change (Works op) is made =
        rw (numbering.steady news r (λ ends. cc), made.0)
        (made_on (at news) g codes old news r was number (after_work (at news op)) (after_work op)
        (λ memory os. ap (changed memory r.serial os) is)
        (λ ns os named. rw (work_same (at news) (numbering.differ news) op os)
        (named_work g.layout codes (at news op) ns _ named))
        leaves made.1 before)
    by_change (Cancels op) is made =
        rw (numbering.steady news r (λ ends. cc), made.0)
        (made_on (at news) g codes old news r was number (after_cancel (at news op)) (after_cancel op)
        (λ memory os. ap (changed memory r.serial os) is)
        (λ ns os named. rw (cancel_same (at news) (numbering.differ news) op os)
        (named_cancel g.layout codes (at news op) ns _ named))
        leaves made.1 before)
    by_change Ends is made =
        rw made.0 (ends_on (at (news ++ r ∷ [])) g codes old news r number is leaves made.1)

-- ---- numbers that are kept

pub number_kept : (p : ℕ → ℕ) (g : Setting) (codes later : List (List ℕ))
    (old new : List (List NumberedOpening)) (news : List Record) (number : Option ℕ)
    → KeepCodes codes later → KeepNumbers old new → IsNumbered p g codes old news number
    → IsNumbered p g later new news number
number_kept p g codes later old new news None known keep is = tt
number_kept p g codes later old new news (Some n) known keep is = (
  is.0,
  is.1,
  keep n is.0 is.2,
  named_kept g.layout codes later is.0 (map (renumbered_opening p) is.1) known is.3,
  is.4,
)

pub state_kept : (p : ℕ → ℕ) (g : Setting) (codes later : List (List ℕ)) (news : List Record)
    (number : Option ℕ)
    → KeepCodes codes later → IsStateAt p g codes news number → IsStateAt p g later news number
state_kept p g codes later news None known is = tt
state_kept p g codes later news (Some n) known is =
    coded_is_kept g.layout codes later n (renumbered p (value_of g.layout g.base (g.start ++ news))) known is

pub number_within : (p : ℕ → ℕ) (g : Setting) (codes : List (List ℕ)) (lists : List (List NumberedOpening))
    (news : List Record) (number : Option ℕ)
    → IsNumbered p g codes lists news number → IfSome number (λ n. n < length lists)
number_within p g codes lists news None is = tt
number_within p g codes lists news (Some n) is = slice_get_within lists n is.0 is.2
