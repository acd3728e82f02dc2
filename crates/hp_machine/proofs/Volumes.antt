-- A machine goes on from the volumes that it sealed, and the laws of operations hold over all of its
-- records.
use Rattle.std.proofs.Common.{◌≡◌, ℕ, ◌+◌, List, [], ◌∷◌, ◌++◌, length, refl, ap, sym, ◌∙◌, arith}
use Rattle.hp_units.specs.Boot.{boot_memory}
use Rattle.hp_units.specs.LayoutParts.{LayoutParts}
use Rattle.hp_units.specs.Memory.{Memory}
use Rattle.hp_units.specs.History.{IsLegal, value_of}
use Rattle.hp_units.specs.Placement.{IsWellPlaced}
use Rattle.hp_units.specs.declared.events.Event.{Event}
use Rattle.hp_units.specs.declared.replies.Receipt.{Receipt}
use Rattle.hp_units.specs.declared.replies.Record.{Record}
use Rattle.hp_laws.specs.Seals.{AreLegal, value_of_all}
use Rattle.hp_laws.proofs.Boots.{boot-placed}
use Rattle.hp_laws.proofs.SealedLaws.{claimed_in_all, commit_granted_in_all, commit_held_in_all, given_back_in_all, held_in_all}
use Rattle.hp_laws.proofs.SealedNets.{all_more, all_up_to, count_of_all, value-last}
use Rattle.hp_history.specs.Kept.{pictured}
use Rattle.hp_history.specs.Volumes.{histories_of, records_in, state_after, volume_of}
use Rattle.hp_history.specs.declared.volumes.Volume.{Volume}
use Rattle.hp_history.proofs.Chains.{chain_legal, chain_more, count_more, histories_count, histories_value, state_more}
use Rattle.hp_machine.specs.Kept.{IsMachine}
use Rattle.hp_machine.specs.Machine.{IsCalled, IsHistory, MachineValue, booted, sealed}
use Rattle.hp_machine.specs.Volumes.{GoesOnFrom, KeepsOperationsAfter, all_records}

-- ---- a machine goes on from its volumes

-- from none at its start
pub from_none : (l : LayoutParts) → GoesOnFrom [] (booted l)
from_none l = record { chain = λ at v e. absurd cc; count = refl; base = refl }

-- from the same after a call
pub from_same : (volumes : List Volume) (old new : MachineValue) (cpu : ℕ) (event : Event) (r : Receipt)
    → IsCalled old cpu event r new → GoesOnFrom volumes old → GoesOnFrom volumes new
from_same volumes old new cpu event r call ok = record {
  chain = rw call.layout ok.chain;
  count = call.before ∙ ok.count;
  base = rw (call.base, call.layout) ok.base;
}

-- its records stand after those of the volumes
history_after : (volumes : List Volume) (m : MachineValue) → IsHistory m → GoesOnFrom volumes m
    → IsLegal m.layout (state_after m.layout volumes) (records_in volumes) m.history
history_after volumes m history ok = rw (ok.count, ok.base) at history.legal

-- from one more after a seal
pub from_one_more : (volumes : List Volume) (m : MachineValue) → IsHistory m → GoesOnFrom volumes m
    → GoesOnFrom (volumes ++ volume_of m ∷ []) (sealed m)
from_one_more volumes m history ok = record {
  chain =
      chain_more m.layout volumes (volume_of m) ok.chain
      (record {
        count = ok.count;
        base = ap (pictured m.layout) ok.base;
        legal = history_after volumes m history ok;
      });
  count =
      ap (λ (n : ℕ). n + length m.history) ok.count ∙ sym (count_more volumes (volume_of m));
  base =
      history.state ∙ ap (λ (s : Memory). value_of m.layout s m.history) ok.base
      ∙ sym (state_more m.layout volumes (volume_of m));
}

-- ---- the laws of operations

-- all records are legal, one history after another
all_legal : (volumes : List Volume) (m : MachineValue) → IsHistory m → GoesOnFrom volumes m
    → AreLegal m.layout (boot_memory m.layout) 0 (all_records volumes m)
all_legal volumes m history ok =
    let count : records_in volumes ≡ 0 + count_of_all (histories_of volumes) =
    omega (arith, histories_count volumes) in
    all_more m.layout (boot_memory m.layout) 0 (histories_of volumes) m.history
    (chain_legal m.layout volumes ok.chain)
    (rw (← count, histories_value m.layout volumes) (history_after volumes m history ok))

-- and lead to the machine's state
all_value : (volumes : List Volume) (m : MachineValue) → IsHistory m → GoesOnFrom volumes m
    → m.state ≡ value_of_all m.layout (boot_memory m.layout) (all_records volumes m)
all_value volumes m history ok =
    rw (history.state, value-last m.layout (boot_memory m.layout) (histories_of volumes) m.history)
    (rw (histories_value m.layout volumes, ok.base))

pub operations_after : (volumes : List Volume) (m : MachineValue) → IsMachine m → GoesOnFrom volumes m
    → KeepsOperationsAfter volumes m
operations_after volumes m ok from = record {
  rows = record {
    claimed =
        λ place b plan at. claimed_in_all m.layout boot 0 (all_records volumes m) place b plan ok.limits
        placed legal at;
    held = λ place b plan at stays.
        rw (all_value volumes m ok.history from)
        (held_in_all m.layout boot 0 (all_records volumes m) place b plan ok.limits placed legal at stays);
  };
  commits = record {
    held =
        λ earlier later h rest r place b plan is at asked good. commit_held_in_all m.layout boot 0 earlier h r
        place b plan ok.limits placed (up_to earlier later h rest r is) at asked good;
    granted =
        λ earlier later h rest r place b plan is at asked good. commit_granted_in_all m.layout boot 0 earlier
        h r place b plan ok.limits placed (up_to earlier later h rest r is) at asked good;
  };
  cancels =
      λ earlier later h rest r place b plan is at asked good. given_back_in_all m.layout boot 0 earlier h r
      place b plan ok.limits placed (up_to earlier later h rest r is) at asked good;
}
  where
    boot : Memory
    boot = boot_memory m.layout

    placed : IsWellPlaced m.layout boot
    placed = boot-placed m.layout ok.limits

    legal : AreLegal m.layout boot 0 (all_records volumes m)
    legal = all_legal volumes m ok.history from

    up_to : (earlier later : List (List Record)) (h rest : List Record) (r : Record)
        → all_records volumes m ≡ earlier ++ (h ++ r ∷ rest) ∷ later
        → AreLegal m.layout boot 0 (earlier ++ (h ++ r ∷ []) ∷ [])
    up_to earlier later h rest r is =
        all_up_to m.layout boot 0 earlier later h rest r (rw is at legal)
