-- What every machine keeps, and what follows from it.
use Rattle.std.proofs.Common.{◌≡◌, ℕ, ◌<◌, ◌≤◌, ◌+◌, false, List, [], ◌∷◌, ◌++◌, length, refl, sym, ◌∙◌, arith}
use Rattle.std.specs.Prelude.{nat_le, Result, Ok, Err, IfOk, OnErr, OnOk}
use Rattle.std.proofs.lemmas.List.{length_push}
use Rattle.std.proofs.lemmas.Bool.{or_parts, leb-false}
use Rattle.hp_units.specs.Boot.{boot_memory}
use Rattle.hp_units.specs.LayoutParts.{IsLayout, LayoutParts}
use Rattle.hp_units.specs.History.{IsLegal, net_of, run, value_of}
use Rattle.hp_units.specs.declared.events.Event.{Event}
use Rattle.hp_units.specs.declared.replies.Record.{Record}
use Rattle.hp_units.specs.declared.replies.Receipt.{Receipt}
use Rattle.hp_units.specs.declared.replies.Reply.{Reply}
use Rattle.hp_laws.proofs.Boots.{boot-placed}
use Rattle.hp_laws.proofs.EventSteps.{value-placed}
use Rattle.hp_laws.proofs.NetContents.{value-contents}
use Rattle.hp_laws.proofs.OfflineClaims.{boot-claims, value-claims}
use Rattle.hp_laws.proofs.SealedNets.{legal_up_to, no_records}
use Rattle.hp_laws.proofs.OperationLaws.{claimed, commit_granted, commit_held, given_back, held}
use Rattle.hp_history.specs.Course.{receipt_for}
use Rattle.hp_machine.specs.Kept.{IsMachine}
use Rattle.hp_machine.specs.Machine.{IsCalled, IsSound, MachineValue, booted, is_full, last_serial, record_of, sealed}
use Rattle.hp_machine.specs.Operations.{KeepsOperations}

-- at its start a machine keeps what every machine keeps
pub booted_machine : (l : LayoutParts) (m : MachineValue) → m ≡ booted l → IsLayout l → IsMachine m
unfolding value_of net_of run
booted_machine l m is limits =
    rw is (record {
      limits = limits;
      placed = boot-placed l limits;
      numbered = boot-claims l (λ op. op ≤ 0);
      history = record { legal = λ n r e. absurd cc; state = refl };
      few = omega arith;
      boots = λ none. refl;
    })

-- where the history is not full there is room for one more record
pub room : (m : MachineValue) → is_full m ≡ false
    → (length m.history < m.layout.history)
    × (nat_le 18446744073709551615 (m.before + length m.history) ≡ false)
room m free =
    let parts =
    or_parts (nat_le m.layout.history (length m.history))
    (nat_le 18446744073709551615 (m.before + length m.history)) free in
    (leb-false m.layout.history (length m.history) parts.0, parts.1)

-- a call keeps it
pub called_machine : (old new : MachineValue) (cpu : ℕ) (event : Event) (r : Receipt) → IsMachine old
    → is_full old ≡ false → IsCalled old cpu event r new → IsMachine new
called_machine old new cpu event r ok free call = record {
  limits = rw call.layout ok.limits;
  placed = rw (call.layout, call.base) ok.placed;
  numbered = rw (call.before, call.base) ok.numbered;
  history = record {
    legal = rw (call.layout, call.base, call.before) call.legal;
    state = rw (call.layout, call.base) call.state;
  };
  few =
      rw (call.layout, call.history)
      (omega (arith, (room old free).0, length_push old.history (record_of cpu r)));
  boots = λ none. rw (call.base, call.layout) (ok.boots (sym call.before ∙ none));
}

-- so does one that left no record
pub call_kept : {E : Type 0} (old new : MachineValue) (cpu : ℕ) (event : Event)
    (result : Result (ℕ × Reply) E)
    → IsMachine old → is_full old ≡ false → OnErr result (new ≡ old)
    → IfOk result (λ answer. IsCalled old cpu event (receipt_for event answer) new) → IsMachine new
call_kept old new cpu event (Ok answer) ok free same call =
    called_machine old new cpu event (receipt_for event answer) ok free call
call_kept old new cpu event (Err e) ok free same call = rw same ok

-- a receipt that has a copy of the event
pub called_copy : (old new : MachineValue) (cpu serial : ℕ) (event copy : Event) (reply : Reply)
    → copy ≡ event
    → IsCalled old cpu event (receipt_for event (serial, reply)) new
    → IsCalled old cpu event (receipt_for copy (serial, reply)) new
called_copy old new cpu serial event copy reply copied call = rw copied call

-- what a user relies on follows from what a machine keeps
pub sound : (m : MachineValue) → IsMachine m → IsSound m
sound m ok = record {
  limits = ok.limits;
  few = ok.few;
  placed = rw ok.history.state (value-placed m.layout m.base m.history ok.limits ok.placed);
  base_placed = ok.placed;
  base_numbered = ok.numbered;
  contents = rw ok.history.state (value-contents m.layout m.base m.before m.history ok.history.legal);
}

-- where no record is there to be sealed, the state is that at boot
at_boot : (m : MachineValue) → IsMachine m → last_serial m ≡ 0 → m.state ≡ boot_memory m.layout
at_boot m ok none =
    ok.history.state
    ∙ (no_records m.layout m.base m.history (omega (arith, none)) ∙ ok.boots (omega (arith, none)))

-- a seal keeps it
pub sealed_machine : (m new : MachineValue) → IsMachine m → new ≡ sealed m → IsMachine new
unfolding value_of net_of run
sealed_machine m new ok is =
    rw is (record {
      limits = ok.limits;
      placed = (sound m ok).placed;
      numbered =
          rw ok.history.state
          (value-claims m.layout m.base m.before m.history ok.history.legal ok.numbered);
      history = record { legal = λ n r e. absurd cc; state = refl };
      few = omega arith;
      boots = at_boot m ok;
    })

-- and so does one that was out of memory
pub seal_kept : {V E : Type 0} (m new : MachineValue) (result : Result V E) → IsMachine m
    → OnErr result (new ≡ m) → OnOk result (new ≡ sealed m) → IsMachine new
seal_kept m new (Ok v) ok same goes_on = sealed_machine m new ok goes_on
seal_kept m new (Err e) ok same goes_on = rw same ok

-- the history up to one of its records is legal
up_to : (m : MachineValue) (h rest : List Record) (r : Record) → IsMachine m → m.history ≡ h ++ r ∷ rest
    → IsLegal m.layout m.base m.before (h ++ r ∷ [])
up_to m h rest r ok is = legal_up_to m.layout m.base m.before h rest r (rw is at ok.history.legal)

-- and so do the laws of operations
pub operations : (m : MachineValue) → IsMachine m → KeepsOperations m
operations m ok = record {
  rows = record {
    claimed =
        λ place b plan at.
        claimed m.layout m.base m.before m.history place b plan ok.limits ok.placed ok.history.legal at;
    held = λ place b plan at stays.
        rw ok.history.state
        (held m.layout m.base m.before m.history place b plan ok.limits ok.placed ok.history.legal at stays);
  };
  commits = record {
    held =
        λ h rest r place b plan is at asked good. commit_held m.layout m.base m.before h r place b plan
        ok.limits ok.placed (up_to m h rest r ok is) at asked good;
    granted =
        λ h rest r place b plan is at asked good. commit_granted m.layout m.base m.before h r place b plan
        ok.limits ok.placed (up_to m h rest r ok is) at asked good;
  };
  cancels =
      λ h rest r place b plan is at asked good. given_back m.layout m.base m.before h r place b plan ok.limits
      ok.placed (up_to m h rest r ok is) at asked good;
}
