-- A processor's results of one kind, from a record on.
use Rattle.std.proofs.Common.{◌≡◌, ℕ, zero, suc, ◌+◌, ◌-◌, ◌<◌, Bool, cond, eqb, List, ◌∷◌, drop, filter, get_or, length, map, arith, inl, inr}
use Rattle.std.specs.Prelude.{◌&&◌}
use Rattle.std.proofs.lemmas.Bool.{cases_Bool}
use Rattle.std.proofs.lemmas.Option.{slice_get_read}
use Rattle.hp_units.specs.Receipts.{receipt_of, receipts_of}
use Rattle.hp_units.specs.declared.replies.Receipt.{Receipt}
use Rattle.hp_units.specs.declared.replies.Record.{Record}
use Rattle.hp_schedules.proofs.Asked.{lines_here}

-- what the processor's receipts of a kind show
abbrev pub shown : (f : Receipt → ℕ) (kind : Receipt → Bool) (cpu : ℕ) → List Record → List ℕ
shown f kind cpu news = map f (filter kind (receipts_of cpu news))

first_shown : (f : Receipt → ℕ) (kind : Receipt → Bool) (cpu : ℕ) (r : Record) (rest : List Record)
    (own : Bool)
    → eqb r.cpu cpu && kind (receipt_of r) ≡ own → shown f kind cpu (r ∷ rest)
    ≡ cond own (f (receipt_of r) ∷ shown f kind cpu rest) (shown f kind cpu rest)
first_shown f kind cpu r rest own is = grind (arith, cases_Bool)

-- from this record on, and from the next one on
pub shown_at : (f : Receipt → ℕ) (kind : Receipt → Bool) (cpu : ℕ) (news : List Record) (k : ℕ) (r : Record)
    (own : Bool)
    → k < length news → r ≡ get_or news k r → eqb r.cpu cpu && kind (receipt_of r) ≡ own
    → shown f kind cpu (drop k news)
    ≡ cond own (f (receipt_of r) ∷ shown f kind cpu (drop (k + 1) news))
    (shown f kind cpu (drop (k + 1) news))
shown_at f kind cpu news k r own less read is = grind (arith, lines_here, slice_get_read, first_shown)

pub shown_long : (f : Receipt → ℕ) (kind : Receipt → Bool) (cpu : ℕ) (news : List Record) (k : ℕ)
    (r : Record) (own : Bool)
    → k < length news → r ≡ get_or news k r → eqb r.cpu cpu && kind (receipt_of r) ≡ own
    → length (shown f kind cpu (drop k news)) ≡ length (shown f kind cpu (drop (k + 1) news)) + cond own 1 0
shown_long f kind cpu news k r own less read is =
    rw (shown_at f kind cpu news k r own less read is)
    (elim (cases_Bool own) [ inl e ↦ rw e (omega arith) | inr e ↦ rw e (omega arith) ])

-- the item of a number above 0 is among the later ones
pub nth_later : (x : ℕ) (xs : List ℕ) (nth none : ℕ) → 0 < nth
    → get_or (x ∷ xs) nth none ≡ get_or xs (nth - 1) none
nth_later x xs zero none some = absurd (omega (arith, some))
nth_later x xs (suc k) none some = grind arith
