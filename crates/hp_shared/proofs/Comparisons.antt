-- All marks after one more record, and the outcome of all seats.
use Rattle.std.proofs.Common.{◌≡◌, ℕ, zero, suc, ◌+◌, ◌<◌, ◌≤◌, List, [], ◌∷◌, ◌++◌, length, take, Option, Some, None, slice_get, refl, ap, sym, subst, ◌∙◌, arith, inl, inr, set}
use Rattle.std.specs.Prelude.{◌⊎◌, ◌≢◌}
use Rattle.std.proofs.lemmas.Bool.{cases_eq, cases_lt, eqb-true}
use Rattle.std.proofs.Math.ListN.{replicate}
use Rattle.std.proofs.lemmas.List.{get_or-replicate, length-replicate, append_assoc, append-nil, length-map, map-append}
use Rattle.std.proofs.lemmas.List.Elements.{filter-append}
use Rattle.std.proofs.lemmas.List.Sums.{count_by-le-length, length-filter}
use Rattle.std.proofs.lemmas.Option.{slice_get-get_or, slice_get_within}
use Rattle.hp_units.specs.Receipts.{DifferAt, receipt_of, receipts_of}
use Rattle.hp_units.specs.declared.replies.Receipt.{Receipt}
use Rattle.hp_units.specs.declared.replies.Record.{Record}
use Rattle.hp_units.proofs.Tables.{get_set as set_here}
use Rattle.hp_laws.proofs.Lists.{get_end, get_left, get_push_cases}
use Rattle.hp_machine.proofs.Replies.{receipts_more}
use Rattle.hp_shared.specs.declared.marks.Compared.{Compared}
use Rattle.hp_shared.specs.Marks.{AreMarks, AreSeated, IsMark, lower}
use Rattle.hp_shared.specs.Comparing.{IsCompared, IsOutcome, IsSeatAt, IsSeatOf, IsSettled, IsTwinless, IsUnseated, MismatchesAt, StraysAt, StraysHere}
use Rattle.hp_shared.specs.Shared.{SeatValue}
use Rattle.hp_shared.proofs.Outcomes.{joined, mapped}
use Rattle.hp_laws.proofs.Replays.{take_one}

-- ---- lists

-- what stands at one place is one item
pub same_item : {X : Type 0} (o : Option X) (x y : X) → o ≡ Some x → o ≡ Some y → x ≡ y
same_item o x y a b = let e : Some x ≡ Some y = sym a ∙ b in cc

set_there : {X : Type 0} (xs : List X) (i k : ℕ) (x y : X) → k ≢ i → slice_get xs k ≡ Some y
    → slice_get (set xs i x) k ≡ Some y
set_there [] i k x y other get = absurd cc
set_there (z ∷ xs) zero zero x y other get = absurd (other refl)
set_there (z ∷ xs) (suc i) (suc k) x y other get = set_there xs i k x y (λ e. other (ap suc e)) get
set_there (z ∷ xs) _ _ x y other get = get

-- ---- receipts

-- a processor has at most as many records as there are
pub few_receipts : (cpu : ℕ) (h : List Record) → length (receipts_of cpu h) ≤ length h
few_receipts cpu h = grind (arith, length-map, length-filter, count_by-le-length)

-- a record of another processor
receipts_same : (cpu : ℕ) (h : List Record) (x : Record) → cpu ≢ x.cpu
    → receipts_of cpu (h ++ x ∷ []) ≡ receipts_of cpu h
receipts_same cpu h x other = grind (arith, filter-append, map-append, eqb-true, append-nil)

-- ---- one more record

-- a mark's count stays within the records
pub counts_records : (history : List Record) (seats : List SeatValue) (marks : List Compared)
    (cpu place limit : ℕ) (m : Compared)
    → AreMarks history seats marks → IsSeatAt seats cpu place → slice_get marks place ≡ Some m
    → length history < limit → m.next < limit
counts_records history seats marks cpu place limit m are at here room = grind (arith, same_item, few_receipts)

-- a mark stands at the place of each seat
pub has_mark : (history : List Record) (seats : List SeatValue) (marks : List Compared) (cpu place : ℕ)
    → AreMarks history seats marks → IsSeatAt seats cpu place → place < length marks
has_mark history seats marks cpu place are at = grind (arith, slice_get_within)

-- a record of a seat
pub marked : (seats : List SeatValue) (marks : List Compared) (latest : Record) (place : ℕ) (seat : SeatValue)
    (was new : Compared) (receipts : List Receipt)
    → ((p : ℕ) → IsTwinless seats p) → IsSeatAt seats latest.cpu place → slice_get marks place ≡ Some was
    → slice_get seats place ≡ Some seat → receipts ≡ seat.receipts
    → ((done : List Receipt) → IsMark receipts done was
    → IsMark receipts (done ++ receipt_of latest ∷ []) new)
    → (history : List Record) → AreMarks history seats marks
    → AreMarks (history ++ latest ∷ []) seats (set marks place new)
marked seats marks latest place seat was new receipts apart at marked_was seat_there shown stepped history are
    p s there =
    by_place (cases_eq p place)
  where
    own : seat.cpu ≡ latest.cpu
    own = ap (λ (x : SeatValue). x.cpu) (same_item (slice_get seats place) seat at.0 seat_there at.1) ∙ at.2

    step_here : IsMark seat.receipts (receipts_of seat.cpu history) was
        → IsMark seat.receipts (receipts_of seat.cpu (history ++ latest ∷ [])) new
    step_here mark =
        rw (receipts_more seat.cpu history latest (sym own)) (rw (← shown) (stepped (receipts_of seat.cpu history)
        (subst (λ (rs : List Receipt). IsMark rs (receipts_of seat.cpu history) was) (sym shown) mark)))

    mark_here : IsMark seat.receipts (receipts_of seat.cpu history) was
    mark_here = grind (arith, same_item)

    by_place : (p ≡ place) ⊎ (p ≢ place)
        → (m : Compared) × (slice_get (set marks place new) p ≡ Some m)
        × IsMark s.receipts (receipts_of s.cpu (history ++ latest ∷ [])) m
    by_place (inl is) =
        let same : seat ≡ s =
        same_item _ _ _ seat_there (ap (λ (k : ℕ). slice_get seats k) (sym is) ∙ there) in (
          new,
          rw is (set_here marks place new (slice_get_within marks place was marked_was)),
          rw (← same) (step_here mark_here),
        )
    by_place (inr is) =
        let found = are p s there in
        let other : s.cpu ≢ latest.cpu =
        λ e. is (sym (apart place p seat s seat_there there (own ∙ sym e))) in (
          found.0,
          set_there marks place p new found.0 is found.1,
          rw (receipts_same s.cpu history latest other) found.2,
        )

-- a record of no seat
pub unmarked : (seats : List SeatValue) (marks : List Compared) (latest : Record)
    → IsUnseated seats latest.cpu
    → (history : List Record) → AreMarks history seats marks → AreMarks (history ++ latest ∷ []) seats marks
unmarked seats marks latest none history are p s there =
    let found = are p s there in (
      found.0,
      found.1,
      rw (receipts_same s.cpu history latest (none p s there)) found.2,
    )

-- ---- beginnings of the history

-- after no records, and after one more of them
pub marks_none : (history : List Record) (seats : List SeatValue) (marks : List Compared)
    → AreMarks history seats marks → AreMarks (history ++ []) seats marks
marks_none history seats marks are = rw (append-nil history) are

pub marks_next : (history records : List Record) (seats : List SeatValue) (marks : List Compared) (at : ℕ)
    (r : Record)
    → slice_get records at ≡ Some r → AreMarks ((history ++ take at records) ++ r ∷ []) seats marks
    → AreMarks (history ++ take (at + 1) records) seats marks
marks_next history records seats marks at r get are =
    rw (take_one records at r get, ← append_assoc history (take at records) (r ∷ [])) are

-- before any record
pub fresh_marks : (seats : List SeatValue) (n : ℕ) (m : Compared) → length seats ≤ n
    → m ≡ record { next = 0; lowest = None } → AreMarks [] seats (replicate n m)
fresh_marks seats n m long is place seat there =
    let inside : place < n =
    (let within = slice_get_within seats place seat there in omega (arith, long)) in (
      m,
      slice_get-get_or (replicate n m) place m (omega (arith, length-replicate n m, inside))
          ∙ ap (λ (x : Compared). Some x) (get_or-replicate n place m m inside),
      subst (IsMark seat.receipts []) (sym is) (record { next = refl; lowest = λ at b none. absurd cc }),
    )

-- ---- records of no seat

seated_never_stray : (history : List Record) (seats : List SeatValue) → AreSeated history seats → (n : ℕ)
    → StraysAt history seats n → ⊥
seated_never_stray history seats seated n s = grind arith

-- one more record
pub strays_next : (history : List Record) (seats : List SeatValue) (at : ℕ) (r : Record)
    (o here low : Option ℕ)
    → slice_get history at ≡ Some r → low ≡ lower o here
    → IsOutcome (IsSeatOf seats r.cpu) (StraysHere seats r) here
    → IsOutcome (AreSeated (take at history) seats) (StraysAt (take at history) seats) o
    → IsOutcome (AreSeated (take (at + 1) history) seats) (StraysAt (take (at + 1) history) seats) low
strays_next history seats at r o here low get is found before =
    let h = take at history in
    rw (take_one history at r get, is)
    (joined (AreSeated h seats) (IsSeatOf seats r.cpu) (AreSeated (h ++ r ∷ []) seats) (StraysAt h seats)
    (StraysHere seats r) (StraysAt (h ++ r ∷ []) seats) o here before found
    (seated_never_stray h seats)
    (λ seat n s. s.1 seat.0 seat.1.0 seat.1.1 seat.1.2)
    (λ seated seat k x there.
    elim (get_push_cases h r x k there)
    [ inl e ↦ seated k x e | inr e ↦ subst (λ (y : Record). IsSeatOf seats y.cpu) e.1 seat ])
    (λ n s. (s.0, s.1, get_left h (r ∷ []) s.0 (slice_get_within h s.0 s.1 s.2) ∙ s.2, s.3))
    (λ n s. (length h, r, get_end h r, s))
    (λ n s. elim (get_push_cases h r s.1 s.0 s.2) [
      | inl e ↦ inl (s.0, s.1, e, s.3)
      | inr e ↦ inr (subst (λ (y : Record). StraysHere seats y n) (sym e.1) s.3)
    ]))

-- an entry of two lists one after the other stands in the one or in the other
either : {X : Type 0} (xs ys : List X) (k : ℕ) (x : X) → slice_get (xs ++ ys) k ≡ Some x
    → (slice_get xs k ≡ Some x) ⊎ ((j : ℕ) × (slice_get ys j ≡ Some x))
either [] ys k x get = inr (k, get)
either (z ∷ zs) ys zero x get = inl get
either (z ∷ zs) ys (suc k) x get = either zs ys k x get

second_at : {X : Type 0} (xs ys : List X) (k : ℕ) → (j : ℕ) × (slice_get (xs ++ ys) j ≡ slice_get ys k)
second_at [] ys k = (k, refl)
second_at (x ∷ xs) ys k = let rest = second_at xs ys k in (suc rest.0, rest.1)

-- records after records
pub strays_both : (xs ys : List Record) (seats : List SeatValue) (o q low : Option ℕ) → low ≡ lower o q
    → IsOutcome (AreSeated xs seats) (StraysAt xs seats) o
    → IsOutcome (AreSeated ys seats) (StraysAt ys seats) q
    → IsOutcome (AreSeated (xs ++ ys) seats) (StraysAt (xs ++ ys) seats) low
strays_both xs ys seats o q low is first second =
    rw is (joined (AreSeated xs seats) (AreSeated ys seats) (AreSeated (xs ++ ys) seats) (StraysAt xs seats)
    (StraysAt ys seats) (StraysAt (xs ++ ys) seats) o q first second
    (seated_never_stray xs seats)
    (seated_never_stray ys seats)
    (λ seated more k x there. elim (either xs ys k x there) [ inl e ↦ seated k x e | inr e ↦ more e.0 x e.1 ])
    (λ n s. (s.0, s.1, get_left xs ys s.0 (slice_get_within xs s.0 s.1 s.2) ∙ s.2, s.3))
    (λ n s. let there = second_at xs ys s.0 in (there.0, s.1, there.1 ∙ s.2, s.3))
    (λ n s.
    elim (either xs ys s.0 s.1 s.2) [ inl e ↦ inl (s.0, s.1, e, s.3) | inr e ↦ inr (e.0, s.1, e.1, s.3) ]))

-- ---- seats

-- the seats before a place have exactly their processors' records
abbrev pub AreSettledBefore : List Record → List SeatValue → ℕ → Type 0
AreSettledBefore history seats end =
    (place : ℕ) (seat : SeatValue) → place < end → slice_get seats place ≡ Some seat
    → seat.receipts ≡ receipts_of seat.cpu history

-- the receipts of some seat before a place differ at the serial
abbrev pub SeatDiffersBefore : List Record → List SeatValue → ℕ → ℕ → Type 0
SeatDiffersBefore history seats end serial =
    (place : ℕ) × (seat : SeatValue) × (place < end) × (slice_get seats place ≡ Some seat)
    × DifferAt seat.receipts (receipts_of seat.cpu history) serial

-- the outcome with the seats before a place
abbrev pub IsComparedBefore : List Record → List SeatValue → ℕ → Option ℕ → Type 0
IsComparedBefore history seats end =
    IsOutcome (AreSeated history seats × AreSettledBefore history seats end)
    (λ serial. StraysAt history seats serial ⊎ SeatDiffersBefore history seats end serial)

same_never_differ : (xs ys : List Receipt) → xs ≡ ys → (n : ℕ) → DifferAt xs ys n → ⊥
same_never_differ xs ys same n h = grind arith

compared_never : (history : List Record) (seats : List SeatValue) (end : ℕ)
    → AreSeated history seats × AreSettledBefore history seats end → (n : ℕ)
    → StraysAt history seats n ⊎ SeatDiffersBefore history seats end n → ⊥
compared_never history seats end good n h = grind (arith, seated_never_stray, same_never_differ)

-- before any seat
pub compared_none : (history : List Record) (seats : List SeatValue) (o : Option ℕ)
    → IsOutcome (AreSeated history seats) (StraysAt history seats) o → IsComparedBefore history seats 0 o
compared_none history seats o found = grind (arith, mapped)

-- after one more
pub compared_next : (history : List Record) (seats : List SeatValue) (end : ℕ) (seat : SeatValue)
    (o here low : Option ℕ)
    → slice_get seats end ≡ Some seat → low ≡ lower o here
    → IsOutcome (seat.receipts ≡ receipts_of seat.cpu history)
    (DifferAt seat.receipts (receipts_of seat.cpu history)) here
    → IsComparedBefore history seats end o → IsComparedBefore history seats (end + 1) low
compared_next history seats end seat o here low get is found before =
    rw is (joined (AreSeated history seats × AreSettledBefore history seats end) (seat.receipts
    ≡ receipts_of seat.cpu history) (AreSeated history seats × AreSettledBefore history seats (end + 1))
    (λ n. StraysAt history seats n ⊎ SeatDiffersBefore history seats end n)
    (DifferAt seat.receipts (receipts_of seat.cpu history))
    (λ n. StraysAt history seats n ⊎ SeatDiffersBefore history seats (end + 1) n) o here before found
    (compared_never history seats end)
    (same_never_differ seat.receipts (receipts_of seat.cpu history))
    (λ good same.
    (good.0, λ place s less there. settled_at good.1 same place s there (cases_lt place end) less))
    (λ n s. elim s [ inl x ↦ inl x | inr d ↦ inr (d.0, d.1, omega (arith, d.2), d.3, d.4) ])
    (λ n d. inr (end, seat, omega arith, get, d))
    (λ n s. elim s [ inl x ↦ inl (inl x) | inr d ↦ differs_at n d (cases_lt d.0 end) ]))
  where
    the_seat : (place : ℕ) (s : SeatValue) → slice_get seats place ≡ Some s → end ≤ place → place < end + 1
        → seat ≡ s
    the_seat place s there past less = grind (arith, same_item)

    settled_at : AreSettledBefore history seats end → seat.receipts ≡ receipts_of seat.cpu history
        → (place : ℕ) (s : SeatValue) → slice_get seats place ≡ Some s → (place < end) ⊎ (end ≤ place)
        → place < end + 1 → s.receipts ≡ receipts_of s.cpu history
    settled_at settled same place s there (inl before) less = settled place s before there
    settled_at settled same place s there (inr past) less = grind arith

    differs_at : (n : ℕ) (d : SeatDiffersBefore history seats (end + 1) n) → (d.0 < end) ⊎ (end ≤ d.0)
        → (StraysAt history seats n ⊎ SeatDiffersBefore history seats end n)
        ⊎ DifferAt seat.receipts (receipts_of seat.cpu history) n
    differs_at n d (inl before) = inl (inr (d.0, d.1, before, d.3, d.4))
    differs_at n d (inr past) = grind arith

-- after all
pub compared_all : (history : List Record) (seats : List SeatValue) (end : ℕ) (o : Option ℕ)
    → length seats ≤ end → IsComparedBefore history seats end o → IsCompared history seats o
compared_all history seats end o long found =
    mapped (AreSeated history seats × AreSettledBefore history seats end) (IsSettled history seats) (λ n.
    StraysAt history seats n ⊎ SeatDiffersBefore history seats end n) (MismatchesAt history seats) o found
    (λ good. record {
      receipts = grind (arith, slice_get_within);
      records = good.0;
    })
    (λ n s. elim s [ inl x ↦ inl x | inr d ↦ inr (d.0, d.1, d.3, d.4) ])
    (λ n s. elim s [
      | inl x ↦ inl x
      | inr d ↦ inr (d.0, d.1, (let inside = slice_get_within seats d.0 d.1 d.2 in omega arith), d.2, d.3)
    ])

-- a seat's own outcome, by its mark
pub finished : (history : List Record) (seats : List SeatValue) (marks : List Compared) (place : ℕ)
    (seat : SeatValue) (m : Compared) (receipts : List Receipt) (here : Option ℕ)
    → AreMarks history seats marks → slice_get seats place ≡ Some seat → slice_get marks place ≡ Some m
    → receipts ≡ seat.receipts
    → ((done : List Receipt) → IsMark receipts done m
    → IsOutcome (receipts ≡ done) (DifferAt receipts done) here)
    → IsOutcome (seat.receipts ≡ receipts_of seat.cpu history)
    (DifferAt seat.receipts (receipts_of seat.cpu history)) here
finished history seats marks place seat m receipts here are there mark_there shown ends =
    let found = are place seat there in
    let mark = rw (same_item (slice_get marks place) found.0 m found.1 mark_there) at found.2 in
    rw (← shown) (ends (receipts_of seat.cpu history)
    (subst (λ (rs : List Receipt). IsMark rs (receipts_of seat.cpu history) m) (sym shown) mark))
