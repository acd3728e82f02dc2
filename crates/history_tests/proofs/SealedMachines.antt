-- What the laws of histories say of a machine, sealed or not, by what it shows of itself.
use Rattle.std.proofs.Common.{◌≡◌, ℕ, ◌<◌, List, [], ◌∷◌, ◌++◌, Result, Ok, Err, refl, ap, sym, subst, ◌∙◌}
use Rattle.std.specs.Prelude.{IfErr, IfOk, OnOk}
use Rattle.hp_units.specs.Memory.{Memory}
use Rattle.hp_units.specs.LayoutParts.{LayoutParts}
use Rattle.hp_units.specs.History.{IsLegal, value_of}
use Rattle.hp_units.specs.declared.events.Event.TheVariants.{Commit}
use Rattle.hp_units.specs.declared.replies.Record.{Record}
use Rattle.hp_units.specs.declared.replies.Reply.{Reply}
use Rattle.hp_units.specs.declared.replies.Reply.TheVariants.{Done}
use Rattle.hp_plain.specs.Image.{Pictured}
use Rattle.hp_history.specs.Course.{receipt_for}
use Rattle.hp_history.specs.Kept.{pictured}
use Rattle.hp_machine.specs.Replaying.{Refutes}
use Rattle.hp_history.specs.Volumes.{volume_of}
use Rattle.hp_machine.specs.declared.replaying.ReplayFault.{ReplayFault}
use Rattle.hp_machine.specs.declared.replaying.ReplayFault.TheVariants.{WrongReply, WrongSerial, OutOfMemory}
use Rattle.hp_history.specs.declared.volumes.Volume.{Volume}
use Rattle.hp_machine.specs.Machine.{IsCalled, IsHistory, MachineValue, record_of, sealed}
use Rattle.hp_machine.specs.Volumes.{GoesOnFrom, GoesOnWith}

-- a machine's own parts: its base, how many records were sealed, and its records
pub record ArePartsOf (m : MachineValue) (base : Pictured) (before : ℕ) (h : List Record) : Type 0 where
  pub base_is : base ≡ pictured m.layout m.base
  pub before_is : before ≡ m.before
  pub history_is : h ≡ m.history
  pub kept : IsHistory m

only_memory : (l : LayoutParts) (s : Memory) (n : ℕ) (h : List Record) (fault : ReplayFault)
    → IsLegal l s n h → Refutes l s n h fault → fault ≡ OutOfMemory
only_memory l s n h (WrongSerial at) legal wrong = absurd (wrong legal)
only_memory l s n h (WrongReply serial) legal wrong = absurd (wrong legal)
only_memory l s n h OutOfMemory legal wrong = refl

-- a replay of them has no other fault than out of memory
pub replay_fault : (m : MachineValue) (base : Pictured) (before : ℕ) (h : List Record)
    (result : Result Pictured ReplayFault)
    → ArePartsOf m base before h → IfErr result (Refutes base.layout base.memory before h)
    → IfErr result (λ fault. fault ≡ OutOfMemory)
replay_fault m base before h (Ok image) parts wrong = tt
replay_fault m base before h (Err fault) parts wrong =
    only_memory m.layout m.base m.before m.history fault parts.kept.legal
    (subst (λ (g : List Record). Refutes m.layout m.base m.before g fault) parts.history_is
    (subst (λ (n : ℕ). Refutes m.layout m.base n h fault) parts.before_is
    (subst (λ (p : Pictured). Refutes p.layout p.memory before h fault) parts.base_is wrong)))

-- and leads to the machine's state
pub replay_value : (m : MachineValue) (base : Pictured) (before : ℕ) (h : List Record)
    (result : Result Pictured ReplayFault)
    → ArePartsOf m base before h
    → IfOk result (λ image. image ≡ pictured base.layout (value_of base.layout base.memory h))
    → IfOk result (λ image. image ≡ pictured m.layout m.state)
replay_value m base before h (Err fault) parts shown = tt
replay_value m base before h (Ok image) parts shown =
    shown ∙ ap (λ (p : Pictured). pictured p.layout (value_of p.layout p.memory h)) parts.base_is
    ∙ ap (λ (g : List Record). pictured m.layout (value_of m.layout m.base g)) parts.history_is
    ∙ ap (pictured m.layout) (sym parts.kept.state)

-- where the definitions' next reply to a Commit is Done, so is that of a call
pub commit_done : {E : Type 0} (m new : MachineValue) (cpu op : ℕ) (result : Result (ℕ × Reply) E)
    → ((r : Record) → IsLegal m.layout m.base m.before (m.history ++ r ∷ []) → r.event ≡ Commit op
    → r.cpu < m.layout.cpus → r.reply ≡ Done)
    → cpu < m.layout.cpus
    → IfOk result (λ answer. IsCalled m cpu (Commit op) (receipt_for (Commit op) answer) new)
    → IfOk result (λ answer. answer.1 ≡ Done)
commit_done m new cpu op (Err e) law low called = tt
commit_done m new cpu op (Ok answer) law low called =
    law (record_of cpu (receipt_for (Commit op) answer))
    (subst (λ (h : List Record). IsLegal m.layout m.base m.before h) called.history called.legal) refl low

-- a machine that was sealed once more
pub sealed_once_more : {E : Type 0} (old new : MachineValue) (result : Result Volume E)
    → ((volumes : List Volume) → GoesOnFrom volumes old
    → GoesOnFrom (volumes ++ volume_of old ∷ []) (sealed old))
    → IfOk result (λ volume. volume ≡ volume_of old) → OnOk result (new ≡ sealed old)
    → IfOk result (λ volume. GoesOnWith old volume new)
sealed_once_more old new (Err e) law is goes_on = tt
sealed_once_more old new (Ok v) law is goes_on = λ volumes from.
    subst (λ (x : Volume). GoesOnFrom (volumes ++ x ∷ []) new) (sym is)
    (subst (λ (m : MachineValue). GoesOnFrom (volumes ++ volume_of old ∷ []) m) (sym goes_on)
    (law volumes from))
