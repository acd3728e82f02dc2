-- The numbers of processors' exchanges, as a walk goes on and back.
use Rattle.std.proofs.Common.{◌≡◌, ℕ, zero, suc, ◌+◌, ◌<◌, ◌≤◌, Bool, true, false, cond, eqb, List, [], ◌∷◌, ◌++◌, length, map, replicate, set, Some, slice_get, refl, ap, sym, ◌∙◌, arith, inl, inr}
use Rattle.std.proofs.lemmas.Bool.{cases_eq, eq-eqb, ne_eqb}
use Rattle.std.proofs.lemmas.List.{append-nil, length_push, map-append, same_from_push}
use Rattle.std.proofs.lemmas.Option.{slice_get_within}
use Rattle.hp_units.specs.Receipts.{receipt_of, receipts_of}
use Rattle.hp_units.specs.declared.replies.Receipt.{Receipt}
use Rattle.hp_units.specs.declared.replies.Record.{Record}
use Rattle.hp_units.proofs.Tables.{get_set as get_set_here}
use Rattle.hp_laws.proofs.Lists.{get_some}
use Rattle.hp_schedules.specs.Alike.{exchanges, unnumbered}
use Rattle.hp_states.specs.Exchanges.{AreAmong, AreExchanged, ExchangesValue, IsBefore, IsChained, at_end, chains_of, exchange_below, exchange_in, exchange_of}
use Rattle.hp_states.specs.Interned.{IsMadeOf, KeepNumbers}
use Rattle.hp_schedules.specs.Schedules.{Setting}
use Rattle.hp_states.specs.declared.exchanges.Exchange.{Exchange}
use Rattle.hp_schedules.proofs.Counts.{get_set_cases, get_set_other}
use Rattle.hp_states.proofs.Numberings.{keep_long, made_added}
use Rattle.hp_schedules.proofs.Steps.{receipts_push}

-- ---- one record more

exchanges_push : (cpu : ℕ) (h : List Record) (r : Record) (own : Bool) → eqb r.cpu cpu ≡ own
    → exchanges cpu (h ++ r ∷ []) ≡ exchanges cpu h ++ map unnumbered (cond own (receipt_of r ∷ []) [])
exchanges_push cpu h r own is =
    ap (map unnumbered) (receipts_push cpu h r own is)
    ∙ map-append unnumbered (receipts_of cpu h) (cond own (receipt_of r ∷ []) [])

pub exchanges_own : (cpu : ℕ) (h : List Record) (r : Record) → r.cpu ≡ cpu
    → exchanges cpu (h ++ r ∷ []) ≡ exchanges cpu h ++ exchange_in r ∷ []
exchanges_own cpu h r whose = exchanges_push cpu h r true (eq-eqb r.cpu cpu whose)

pub exchanges_other : (cpu : ℕ) (h : List Record) (r : Record) → (cpu ≡ r.cpu → ⊥)
    → exchanges cpu (h ++ r ∷ []) ≡ exchanges cpu h
exchanges_other cpu h r off =
    exchanges_push cpu h r false (ne_eqb r.cpu cpu (λ same. off (sym same))) ∙ append-nil (exchanges cpu h)

-- ---- a chain's entry

pub chained_added : (old new : List Exchange) (e : Exchange) (x : Receipt) (number : ℕ) → new ≡ old ++ e ∷ []
    → number ≡ length old + 1 → exchange_of e ≡ x
    → IsChained (chains_of old) (chains_of new) x e.below number
chained_added old new e x number is number_is same xs h =
    rw (← same) (made_added exchange_below at_end old new e number xs is number_is h)

-- the exchanges before its last
pub before_entry : (chains : List (List Receipt)) (number : ℕ) (e : Exchange)
    → IsMadeOf exchange_below at_end chains number e → IsBefore chains number e.below
before_entry chains number e made xs x h = grind (arith, same_from_push)

pub before_none : (chains : List (List Receipt)) (number before : ℕ)
    → ((xs : List Receipt) → slice_get chains number ≡ Some xs → xs ≡ []) → IsBefore chains number before
before_none chains number before none xs x h =
    absurd (omega (arith, length_push xs x, ap length (none (xs ++ x ∷ []) h)))

-- ---- all processors

-- a call of another processor than the scripts'
pub exchanged_past : (g : Setting) (news : List Record) (r : Record) (x : ExchangesValue)
    → length x.here ≤ r.cpu → AreExchanged g news x → AreExchanged g (news ++ r ∷ []) x
exchanged_past g news r x past are cpu within =
    let known = are cpu within in
    let less = slice_get_within x.here cpu known.0 known.1 in
    rw (exchanges_other cpu news r (λ same. omega (arith, same, less, past))) known

-- a processor's call
pub exchanged_on : (g : Setting) (news : List Record) (r : Record) (old new : ExchangesValue)
    (c was number : ℕ)
    → r.cpu ≡ c → c < length old.here → slice_get old.here c ≡ Some was
    → KeepNumbers old.chains new.chains → IsChained old.chains new.chains (exchange_in r) was number
    → new.here ≡ set old.here c number → AreExchanged g news old → AreExchanged g (news ++ r ∷ []) new
exchanged_on g news r old new c was number whose inside here keep chained is are cpu within =
    let known = are cpu within in
    elim (cases_eq cpu c) [
      | inl same ↦
          let was_is : known.0 ≡ was = cc in (
            number,
            rw (is, same) (get_set_here old.here c number inside),
            rw (exchanges_own cpu news r (whose ∙ sym same))
                (chained (exchanges cpu news) (rw was_is at known.2)),
          )
      | inr off ↦ (
        known.0,
        rw is (get_set_other old.here c number cpu known.0 off known.1),
        rw (exchanges_other cpu news r (λ same. off (same ∙ whose)))
            (keep known.0 (exchanges cpu news) known.2),
      )
    ]

-- and back over one
pub exchanged_back_past : (g : Setting) (news : List Record) (r : Record) (x : ExchangesValue)
    → length x.here ≤ r.cpu → AreExchanged g (news ++ r ∷ []) x → AreExchanged g news x
exchanged_back_past g news r x past are cpu within =
    let known = are cpu within in
    let less = slice_get_within x.here cpu known.0 known.1 in
    rw (exchanges_other cpu news r (λ same. omega (arith, same, less, past))) at known

pub exchanged_back : (g : Setting) (news : List Record) (r : Record) (old new : ExchangesValue)
    (c was before : ℕ)
    → r.cpu ≡ c → c < length old.here → slice_get old.here c ≡ Some was
    → new.chains ≡ old.chains → IsBefore old.chains was before → new.here ≡ set old.here c before
    → AreExchanged g (news ++ r ∷ []) old → AreExchanged g news new
exchanged_back g news r old new c was before whose inside here same_chains led is are cpu within =
    let known = are cpu within in
    elim (cases_eq cpu c) [
      | inl same ↦
          let was_is : known.0 ≡ was = cc in (
            before,
            rw (is, same) (get_set_here old.here c before inside),
            rw same_chains (led (exchanges cpu news) (exchange_in r)
                (rw (was_is, exchanges_own cpu news r (whose ∙ sym same)) at known.2)),
          )
      | inr off ↦ (
        known.0,
        rw is (get_set_other old.here c before cpu known.0 off known.1),
        rw same_chains (rw (exchanges_other cpu news r (λ same. off (same ∙ whose))) at known.2),
      )
    ]

-- ---- the numbers are those of chains

pub among_kept : (old new : List (List Receipt)) (here : List ℕ) → KeepNumbers old new → AreAmong old here
    → AreAmong new here
among_kept old new here keep among k n h = keep_long old new n keep (among k n h)

pub among_set : (chains : List (List Receipt)) (here : List ℕ) (c number : ℕ) → number < length chains
    → AreAmong chains here → AreAmong chains (set here c number)
among_set chains here c number less among k n h = grind (arith, get_set_cases)

pub chained_within : (old new : List (List Receipt)) (x : Receipt) (below number : ℕ) → below < length old
    → IsChained old new x below number → number < length new
chained_within old new x below number less chained =
    let at = get_some old below less in
    slice_get_within new number (at.0 ++ x ∷ []) (chained at.0 at.1)

-- ---- before any call

replicated : (n k : ℕ) → k < n → slice_get {X = ℕ} (replicate n 0) k ≡ Some 0
replicated zero k less = absurd (omega arith)
replicated (suc n) zero less = refl
replicated (suc n) (suc k) less = replicated n k (omega arith)

pub exchanged_begun : (g : Setting) (n : ℕ) → n ≡ length g.scripts
    → AreExchanged g [] (record { chains = [] ∷ []; here = replicate n 0 })
exchanged_begun g n many cpu within = (0, replicated n cpu (omega (arith, within, many)), refl)

-- ---- an entry of a record

pub exchange_same : (e : Exchange) (r : Record) → e.event ≡ r.event → e.reply ≡ r.reply
    → exchange_of e ≡ exchange_in r
exchange_same e r event reply = rw (event, reply)
