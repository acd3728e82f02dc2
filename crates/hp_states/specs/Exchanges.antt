-- Numbers for the transcripts of processors. A transcript lists a processor's events and replies so
-- far.
use Rattle.std.specs.Prelude.{◌≡◌, ℕ, ◌<◌, List, [], ◌∷◌, ◌++◌, Some, length, slice_get}
use Rattle.hp_units.specs.Receipts.{receipt_of}
use Rattle.hp_units.specs.declared.replies.Receipt.{Receipt}
use Rattle.hp_units.specs.declared.replies.Record.{Record}
use Rattle.hp_schedules.specs.Alike.{exchanges, unnumbered}
use Rattle.hp_states.specs.Interned.{lists_from}
use Rattle.hp_schedules.specs.Schedules.{Setting}
use Rattle.hp_states.specs.declared.exchanges.Exchange.{Exchange}

-- the exchange of a record: its event and its reply
abbrev pub exchange_in : Record → Receipt
exchange_in r = unnumbered (receipt_of r)

-- the exchange in an entry
abbrev pub exchange_of : Exchange → Receipt
exchange_of e = record { serial = 0; event = e.event; reply = e.reply }

-- the number of the transcript that an entry extends
abbrev pub exchange_below : Exchange → ℕ
exchange_below e = e.below

-- the transcript with the entry's exchange at its end
abbrev pub at_end : Exchange → List Receipt → List Receipt
at_end e xs = xs ++ exchange_of e ∷ []

-- the empty transcript, and one per entry: an entry adds its exchange to an earlier transcript
abbrev pub chains_of : List Exchange → List (List Receipt)
chains_of entries = lists_from exchange_below at_end entries

-- transcript `number` of `new` is transcript `below` of `old` with the exchange `x` at its end
abbrev pub IsChained : (old new : List (List Receipt)) → Receipt → (below number : ℕ) → Type 0
IsChained old new x below number =
    (xs : List Receipt) → slice_get old below ≡ Some xs → slice_get new number ≡ Some (xs ++ x ∷ [])

-- `before` is the number of transcript `number` without its last exchange. Nothing is stated of an
-- empty transcript
abbrev pub IsBefore : (chains : List (List Receipt)) → (number before : ℕ) → Type 0
IsBefore chains number before =
    (xs : List Receipt) (x : Receipt) → slice_get chains number ≡ Some (xs ++ x ∷ [])
    → slice_get chains before ≡ Some xs

-- the transcripts, and the number of each processor's transcript
pub record ExchangesValue : Type 0 where
  pub chains : List (List Receipt)
  pub here : List ℕ

-- each of these numbers belongs to a transcript
abbrev pub AreAmong : (chains : List (List Receipt)) → (numbers : List ℕ) → Type 0
AreAmong chains numbers = (k n : ℕ) → slice_get numbers k ≡ Some n → n < length chains

-- `number` is the number of this processor's transcript after the new records
abbrev pub IsExchanged : (chains : List (List Receipt)) → (cpu : ℕ) → List Record → (number : ℕ) → Type 0
IsExchanged chains cpu news number = slice_get chains number ≡ Some (exchanges cpu news)

-- each processor with a script has the number of its transcript
abbrev pub AreExchanged : Setting → List Record → ExchangesValue → Type 0
AreExchanged g news x =
    (cpu : ℕ) → cpu < length g.scripts
    → (n : ℕ) × (slice_get x.here cpu ≡ Some n) × IsExchanged x.chains cpu news n
