-- The records of volumes, volume by volume.
use Rattle.std.proofs.Common.{◌≡◌, ℕ, ◌+◌, ◌<◌, List, [], ◌∷◌, ◌++◌, length, take, Option, Some, slice_get, refl, ap, ◌∙◌, arith}
use Rattle.std.proofs.lemmas.Bool.{cases_lt}
use Rattle.std.proofs.lemmas.List.{append_assoc, append-nil, length-append}
use Rattle.std.proofs.lemmas.List.Sums.{sum_by-cons, sum_by-take-le}
use Rattle.hp_units.specs.declared.replies.Record.{Record}
use Rattle.hp_history.specs.Volumes.{records_in, volume_of}
use Rattle.hp_history.proofs.Chains.{count_more}
use Rattle.hp_history.specs.declared.volumes.Volume.{Volume}
use Rattle.hp_machine.specs.Machine.{MachineValue, last_serial, sealed}
use Rattle.hp_shared.specs.declared.marks.Compared.{Compared}
use Rattle.hp_shared.specs.Comparing.{IsOutcome, StraysAt}
use Rattle.hp_shared.specs.Marks.{AreMarks, AreSeated, lower}
use Rattle.hp_shared.specs.Shared.{SeatValue}
use Rattle.hp_shared.specs.Volumes.{AreCountedBefore, ReachSealed, all_records, sealed_records}
use Rattle.hp_shared.proofs.Comparisons.{same_item, strays_both}
use Rattle.hp_laws.proofs.Replays.{take_one}

records_more : (vs : List Volume) (v : Volume)
    → sealed_records (vs ++ v ∷ []) ≡ sealed_records vs ++ v.records
records_more [] v = append-nil v.records
records_more (u ∷ us) v = rw (records_more us v, ← append_assoc u.records (sealed_records us) v.records)

-- one more volume
pub records_next : (vs : List Volume) (at : ℕ) (v : Volume) → slice_get vs at ≡ Some v
    → sealed_records (take (at + 1) vs) ≡ sealed_records (take at vs) ++ v.records
records_next vs at v get = ap sealed_records (take_one vs at v get) ∙ records_more (take at vs) v

-- their number is that of the records in the volumes
pub length_sealed : (vs : List Volume) → length (sealed_records vs) ≡ records_in vs
length_sealed [] = refl
length_sealed (v ∷ vs) =
    omega (
      arith,
      length-append v.records (sealed_records vs),
      length_sealed vs,
      sum_by-cons (λ (x : Volume). length x.records) v vs,
    )

pub count_next : (vs : List Volume) (at count more : ℕ) (v : Volume) → slice_get vs at ≡ Some v
    → count ≡ records_in (take at vs) → more ≡ length v.records → count + more ≡ records_in (take (at + 1) vs)
count_next vs at count more v get is own =
    omega (
      arith,
      is,
      own,
      count_more (take at vs) v,
      ap (λ (us : List Volume). records_in us) (take_one vs at v get),
    )

-- all records are as many as the last serial
pub counted_all : (vs : List Volume) (m : MachineValue) (n : ℕ) → ReachSealed vs m.before → n ≡ last_serial m
    → n ≡ length (all_records vs m)
counted_all vs m n reach is = grind (arith, length-append, length_sealed)

-- where a seal handed out a volume, as many more records are sealed as it has
pub handed_on : (old new : MachineValue) (v : Volume) (was : ℕ) (records : List Record) (len now : ℕ)
    → was ≡ old.before → v ≡ volume_of old → new ≡ sealed old → records ≡ v.records → len ≡ length records
    → now ≡ was + len → now ≡ new.before
handed_on old new v was records len now counted is goes_on own count more = cc

-- ---- marks

-- room for one more volume's records, its marks, and its records of no seat
pub room_on : (vs : List Volume) (at limit : ℕ) (v : Volume) (records : List Record)
    → slice_get vs at ≡ Some v → records ≡ v.records → records_in vs < limit
    → length (sealed_records (take at vs)) + length records < limit
room_on vs at limit v records get own few =
    omega (
      arith,
      few,
      length_sealed (take at vs),
      count_next vs at (records_in (take at vs)) (length v.records) v get refl refl,
      sum_by-take-le (λ (x : Volume). length x.records) vs (at + 1),
      ap (λ (rs : List Record). length rs) own,
    )

records_on : (vs : List Volume) (at : ℕ) (v : Volume) (records : List Record) → slice_get vs at ≡ Some v
    → records ≡ v.records → sealed_records (take at vs) ++ records ≡ sealed_records (take (at + 1) vs)
records_on vs at v records get own = rw (own, ← records_next vs at v get)

pub marks_on : (vs : List Volume) (at : ℕ) (v : Volume) (records : List Record) (seats : List SeatValue)
    (marks : List Compared)
    → slice_get vs at ≡ Some v → records ≡ v.records
    → AreMarks (sealed_records (take at vs) ++ records) seats marks
    → AreMarks (sealed_records (take (at + 1) vs)) seats marks
marks_on vs at v records seats marks get own are = rw (← records_on vs at v records get own) are

pub strays_on : (vs : List Volume) (at : ℕ) (v : Volume) (records : List Record) (seats : List SeatValue)
    (o q low : Option ℕ)
    → slice_get vs at ≡ Some v → records ≡ v.records → low ≡ lower o q
    → IsOutcome (AreSeated (sealed_records (take at vs)) seats) (StraysAt (sealed_records (take at vs)) seats)
    o
    → IsOutcome (AreSeated records seats) (StraysAt records seats) q
    → IsOutcome (AreSeated (sealed_records (take (at + 1) vs)) seats)
    (StraysAt (sealed_records (take (at + 1) vs)) seats) low
strays_on vs at v records seats o q low get own is before here =
    rw (← records_on vs at v records get own)
    (strays_both (sealed_records (take at vs)) records seats o q low is before here)

-- ---- their counts

pub counted_next : (vs : List Volume) (at : ℕ) (v : Volume) → slice_get vs at ≡ Some v
    → v.before ≡ records_in (take at vs) → AreCountedBefore vs at → AreCountedBefore vs (at + 1)
counted_next vs at v get right counted k u less there = grind (arith, cases_lt, same_item)
