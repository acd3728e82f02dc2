-- Events and the columns that they lie in.
use Rattle.std.proofs.Common.{◌≡◌, ℕ, zero, suc, ◌+◌, ◌-◌, ◌*◌, ◌/◌, ◌<◌, ◌≤◌, List, [], ◌∷◌, ◌++◌, length, get_or, set, min, sym, ◌∙◌, arith, get_or-set_same}
use Rattle.std.proofs.lemmas.Nat.{div-mul-add, div_below}
use Rattle.std.proofs.Math.Nat.{div-div-eq-div-mul}
use Rattle.std.proofs.Math.Seq.{get_or-append_seam}
use Rattle.std.proofs.lemmas.Bool.{cases_lt}
use Rattle.hp_log_pictures.specs.Columns.{Sampled, events_below, peak_at}

pub some_columns : (n w e r : ℕ) → e + r ≡ n * w → 0 < r → 0 < n
some_columns n w e r is h = grind arith

-- the place of an event of column n
pub column_of : (n w e : ℕ) → n * w ≤ e → e < n * w + w → e / w ≡ n
column_of n w e low high = grind (arith, div-mul-add)

pub last_column : (n w e events room : ℕ) → events + room ≡ n * w → room < w → events ≤ e → e < events + room
    → e / w ≡ n - 1
last_column n w e events room is small low high = grind (arith, column_of)

pub set_reaches : (xs : List ℕ) (i v k : ℕ) → i < length xs → k ≡ i → v ≤ get_or (set xs i v) k 0
set_reaches xs i v k low same = rw same (rw get_or-set_same (omega arith))

-- after the last column is raised to v
pub at_raise : (xs : List ℕ) (i count v w e events room : ℕ) → events + room ≡ length xs * w → room < w
    → i ≡ length xs - 1 → count ≤ v → events ≤ e → e < events + room → 0 < room
    → count ≤ get_or (set xs i v) (e / w) 0
at_raise xs i count v w e events room is small last h low high some =
    let some_in : 0 < length xs = some_columns (length xs) w events room is some in
    let within : i < length xs = omega arith in
    let place : e / w ≡ i = last_column (length xs) w e events room is small low high ∙ sym last in
    let reached : v ≤ get_or (set xs i v) (e / w) 0 = set_reaches xs i v (e / w) within place in
    omega arith

pub at_push : (xs : List ℕ) (c w e : ℕ) → length xs * w ≤ e → e < length xs * w + w
    → c ≤ get_or (xs ++ c ∷ []) (e / w) 0
at_push xs c w e low high = grind (arith, column_of, get_or-append_seam)

-- after neighbours are joined
pub at_joined : (xs ys : List ℕ) (w e n : ℕ) → 0 < w → e < n * w
    → ((k : ℕ) → k < n → get_or xs k 0 ≤ get_or ys (k / 2) 0)
    → get_or xs (e / w) 0 ≤ get_or ys (e / (w * 2)) 0
at_joined xs ys w e n some low kept = grind (arith, div-div-eq-div-mul, div_below)

-- how many events there are in the first columns
below_is : (s : Sampled) (k : ℕ) → events_below s k ≡ min s.events (k * s.width)
below_is s zero = omega arith
below_is s (suc k) = grind (arith, (below_is s k))

pub all_below : (s : Sampled) (n : ℕ) → s.events ≤ n * s.width → events_below s n ≡ s.events
all_below s n h = below_is s n ∙ omega arith

-- from one value to a later one, and on to the next: what is held, and what is kept
pub more_held : (s t u : Sampled) → t.count ≡ s.count
    → ((e : ℕ) → s.events ≤ e → e < t.events → s.count ≤ peak_at t e)
    → ((e : ℕ) → e < t.events → peak_at t e ≤ peak_at u e)
    → ((e : ℕ) → t.events ≤ e → e < u.events → t.count ≤ peak_at u e)
    → (e : ℕ) → s.events ≤ e → e < u.events → s.count ≤ peak_at u e
more_held s t u same held kept more e low high = grind (arith, cases_lt)

pub more_kept : (s t u : Sampled) → s.events ≤ t.events
    → ((e : ℕ) → e < s.events → peak_at s e ≤ peak_at t e)
    → ((e : ℕ) → e < t.events → peak_at t e ≤ peak_at u e)
    → (e : ℕ) → e < s.events → peak_at s e ≤ peak_at u e
more_kept s t u more first second e low = grind arith
