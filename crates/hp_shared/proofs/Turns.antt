-- A recorded call keeps what every lock shows, and so does a seal.
use Rattle.std.specs.Prelude.{IfOk, IsTrue, is_ok, ◌<◌, ◌≤◌, ◌↔◌}
use Rattle.std.proofs.Common.{◌≡◌, true, Result, Ok, Err, ℕ, ◌+◌, List, [], ◌∷◌, ◌++◌, length, Some, slice_get, take, refl, ap, sym, subst, ◌∙◌, arith}
use Rattle.std.proofs.lemmas.Bool.{le-leb, leb-true}
use Rattle.std.proofs.lemmas.List.{length-append}
use Rattle.std.proofs.Math.Bool.{or-true}
use Rattle.hp_units.specs.LayoutParts.{LayoutParts}
use Rattle.hp_units.specs.Boot.{boot_memory}
use Rattle.hp_units.specs.Memory.{Memory}
use Rattle.hp_units.specs.History.{IsLegal, net_of, reply_of, run, value_of}
use Rattle.hp_units.specs.declared.events.Event.{Event}
use Rattle.hp_units.specs.declared.replies.CallFault.{CallFault}
use Rattle.hp_units.specs.declared.replies.CallFault.TheVariants.{HistoryFull}
use Rattle.hp_units.specs.declared.replies.Receipt.{Receipt}
use Rattle.hp_units.specs.declared.replies.Record.{Record}
use Rattle.hp_units.specs.declared.replies.Reply.{Reply}
use Rattle.hp_laws.proofs.Lists.{get_end}
use Rattle.hp_history.specs.Course.{receipt_for}
use Rattle.hp_history.specs.Kept.{pictured}
use Rattle.hp_history.specs.Volumes.{FollowsVolumes, records_in, state_after, volume_of}
use Rattle.hp_history.proofs.Chains.{chain_more, count_more, state_more}
use Rattle.hp_history.specs.declared.volumes.Volume.{Volume}
use Rattle.hp_machine.specs.Machine.{IsCalled, IsHistory, MachineValue, is_full, last_serial, record_of, sealed}
use Rattle.hp_shared.specs.Shared.{IsFilled, IsFresh, IsLastOf, IsReached, IsShared, fulls_of}

-- the machine that a call made has a legal history again, and the state of that history
called_history : (old new : MachineValue) (cpu : ℕ) (event : Event) (r : Receipt)
    → IsCalled old cpu event r new → IsHistory new
called_history old new cpu event r called = record {
  legal = rw (called.layout, called.base, called.before) called.legal;
  state = rw (called.state, ← called.layout, ← called.base);
}

-- its last serial is one higher
called_serial : (old new : MachineValue) (cpu : ℕ) (event : Event) (r : Receipt)
    → IsCalled old cpu event r new → last_serial new ≡ last_serial old + 1
called_serial old new cpu event r called = grind (arith, length-append)

-- so it may lie under the lock, with a total that is one higher
pub turned : (l : LayoutParts) (old new : MachineValue) (was total : ℕ) (cpu : ℕ) (event : Event)
    (r : Receipt)
    → IsShared l (record { machine = old; total = was }) → IsCalled old cpu event r new → total ≡ was + 1
    → IsShared l (record { machine = new; total = total })
turned l old new was total cpu event r shared called more = grind (arith, called_history, called_serial)

-- and where a call that may be answered by a fault is known to have been recorded
pub turned_ok : (l : LayoutParts) (old new : MachineValue) (was total : ℕ) (cpu : ℕ) (event : Event)
    (result : Result (ℕ × Reply) CallFault)
    → IsShared l (record { machine = old; total = was })
    → IfOk result (λ answer. IsCalled old cpu event (receipt_for event answer) new)
    → is_ok result ≡ true → total ≡ was + 1
    → IsShared l (record { machine = new; total = total })
turned_ok l old new was total cpu event (Ok answer) shared called recorded more =
    turned l old new was total cpu event (receipt_for event answer) shared called more
turned_ok l old new was total cpu event (Err fault) shared called recorded more = absurd cc

-- where it was recorded, as many records are sealed as before
pub still_sealed : (old new : MachineValue) (cpu : ℕ) (event : Event) (result : Result (ℕ × Reply) CallFault)
    (count : ℕ)
    → IfOk result (λ answer. IsCalled old cpu event (receipt_for event answer) new)
    → is_ok result ≡ true → count ≡ old.before → count ≡ new.before
still_sealed old new cpu event result count called recorded is = grind arith

-- a machine with a full history has made as many records since its last seal as the history may
-- hold, or there is no further serial
full_count : (m : MachineValue) → is_full m ≡ true → IsFilled m.layout m.before (last_serial m)
full_count m full = grind (arith, leb-true)

-- and one with no further serial is full
spent_is_full : (m : MachineValue) → 18446744073709551615 ≤ last_serial m → is_full m ≡ true
spent_is_full m last = grind (arith, le-leb, or-true)

-- and so it is for a share that counts all of them, and one that counts no more than are sealed
pub filled : {A : Type 0} (l : LayoutParts) (m : MachineValue) (total amount parts all handed : ℕ)
    (answer : Result A CallFault)
    → IsShared l (record { machine = m; total = total }) → handed ≤ m.before
    → ((answer ≡ Err HistoryFull) ↔ IsTrue (is_full m)) → (parts ≡ all → amount ≡ total) → parts ≡ all
    → answer ≡ Err HistoryFull → IsFilled l handed amount
filled l m total amount parts all handed answer shared few full counts whole is = grind (arith, full_count)

-- a call that found the history full found as many records, and later there are no fewer
pub reached_on : {A : Type 0} (l : LayoutParts) (m : MachineValue) (was total fulls told : ℕ)
    (answer : Result A CallFault)
    → IsShared l (record { machine = m; total = was }) → was ≤ total
    → ((answer ≡ Err HistoryFull) ↔ IsTrue (is_full m)) → (0 < fulls → IsReached l was)
    → told ≡ fulls + fulls_of answer → 0 < told → IsReached l total
reached_on {A} l m was total fulls told answer shared more full before counted some =
    grind (arith, full_count)

-- a call that is recorded after one that found the history full has a serial above the limit
pub late_on : (l : LayoutParts) (old new : MachineValue) (was fulls told cpu : ℕ) (event : Event)
    (result : Result (ℕ × Reply) CallFault)
    → IsShared l (record { machine = old; total = was })
    → IfOk result (λ answer. IsCalled old cpu event (receipt_for event answer) new)
    → ((result ≡ Err HistoryFull) ↔ IsTrue (is_full old))
    → (0 < fulls → IsReached l was) → told ≤ fulls
    → IfOk result (λ answer. 0 < told → l.history < answer.0)
late_on l old new was fulls told cpu event result shared called full reached few =
    grind (arith, spent_is_full)

-- a machine with no records that sealed nothing may lie under the lock
pub begun : (l : LayoutParts) (m : MachineValue) (total : ℕ) → IsFresh l m
    → (m.before ≡ 0 → m.base ≡ boot_memory m.layout) → IsHistory m → total ≡ 0
    → IsShared l (record { machine = m; total = total })
begun l m total fresh boots kept none = grind arith

-- no records lead to the base itself
stands_at_base : (l : LayoutParts) (base : Memory) → base ≡ value_of l base []
unfolding value_of net_of run
stands_at_base l base = refl

-- what was sealed may lie under the lock, with the same total
pub sealed_on : (l : LayoutParts) (old new : MachineValue) (was total : ℕ)
    → IsShared l (record { machine = old; total = was }) → new ≡ sealed old → total ≡ was
    → IsShared l (record { machine = new; total = total })
sealed_on l old new was total shared is same =
    subst (λ (m : MachineValue). IsShared l (record { machine = m; total = total })) (sym is) (record {
      layout = shared.layout;
      sealed = (
        volumes ++ volume_of old
            ∷ [],
        chain_more l volumes (volume_of old) shared.sealed.1 follows,
        count,
        base,
      );
      history = record { legal = λ at r none. absurd cc; state = stands_at_base old.layout old.state };
      total = omega (arith, same, shared.total);
    })
  where
    volumes : List Volume
    volumes = shared.sealed.0

    legal : IsLegal l (state_after l volumes) (records_in volumes) old.history
    legal =
        rw (← shared.sealed.3) (rw (← shared.sealed.2, ← shared.layout) shared.history.legal)

    follows : FollowsVolumes l volumes (volume_of old)
    follows = record {
      count = shared.sealed.2;
      base =
          ap (λ (parts : LayoutParts). pictured parts old.base) shared.layout
          ∙ ap (pictured l) shared.sealed.3;
      legal = legal;
    }

    count : last_serial old ≡ records_in (volumes ++ volume_of old ∷ [])
    count = ap (λ (n : ℕ). n + length old.history) shared.sealed.2 ∙ sym (count_more volumes (volume_of old))

    base : old.state ≡ state_after l (volumes ++ volume_of old ∷ [])
    base = cc (shared.history.state, shared.layout, shared.sealed.3, state_more l volumes (volume_of old))

-- the reply of a machine's last record is the one that the definitions give after some earlier records
pub last_reply : (m : MachineValue) (cpu : ℕ) (r : Receipt) → IsHistory m → IsLastOf m cpu r
    → (earlier : List Record) × (r.reply ≡ reply_of m.layout m.base m.before earlier cpu r.event)
last_reply m cpu r kept last =
    let here : slice_get m.history (length last.earlier) ≡ Some (record_of cpu r) =
    rw last.history (get_end last.earlier (record_of cpu r)) in
    (take (length last.earlier) m.history, (kept.legal (length last.earlier) (record_of cpu r) here).reply)
