-- A machine whose volumes and history are read again.
use Rattle.std.proofs.Common.{◌≡◌, ℕ, zero, suc, inl, inr, Bool, true, false, List, [], ◌∷◌, ◌++◌, append_assoc, codes, Some, Ok, slice_get, take, refl, sym, ap, ◌∙◌, arith}
use Rattle.std.specs.Prelude.{◌≢◌, MatchBool, get_or}
use Rattle.std.proofs.lemmas.List.Elements.{All-get_or}
use Rattle.std.proofs.lemmas.List.Sorted.{All-permutation}
use Rattle.std.proofs.lemmas.Option.{slice_get_within}
use Rattle.hp_units.specs.History.{IsLegal, value_of}
use Rattle.hp_units.specs.LayoutParts.{LayoutParts}
use Rattle.hp_units.specs.Memory.{Memory}
use Rattle.hp_units.specs.declared.replies.Record.{Record}
use Rattle.hp_machine.specs.Machine.{MachineValue}
use Rattle.hp_plain.specs.Image.{Pictured}
use Rattle.hp_machine.specs.Replaying.{IsFault, Refutes}
use Rattle.hp_machine.specs.Chains.{HasWrongRecords}
use Rattle.hp_history.specs.Volumes.{IsChain, records_in, state_after}
use Rattle.hp_machine.specs.declared.replaying.ReplayFault.{ReplayFault}
use Rattle.hp_machine.specs.declared.replaying.ReplayFault.TheVariants as replaying
use Rattle.hp_history.specs.declared.volumes.Volume.{Volume}
use Rattle.hp_machine.proofs.Replays.{refutes}
use Rattle.hp_scenario.specs.declared.lines.Line.{Line}
use Rattle.hp_shared.specs.Volumes.{IsSealOf}
use Rattle.hp_text.specs.State.{newline}
use Rattle.hp_shared.specs.Seals.{AreSealed}
use Rattle.hp_shared.specs.declared.lines.LineEnd.{LineEnd}
use Rattle.hp_commands.specs.Audits.{HasAuditFault, HasWrongRecord, IsAudited, LeadsToBase, LeadsToState}
use Rattle.hp_commands.specs.Faults.{IsFaultOf, IsRefuted, replay_fault_from}
use Rattle.hp_commands.specs.Runs.{IsRunOf, IsWorkedOff, SealsSome, records_line, scripts_in}
use Rattle.hp_commands.specs.declared.fault.ProgramFault.{ProgramFault}
use Rattle.hp_commands.specs.declared.fault.ProgramFault.TheVariants.{OutOfMemory, WrongReply, WrongSerial, AuditDiffers, BrokenChain}
use Rattle.hp_commands.specs.declared.commands.Command.TheVariants.{Audit}

-- ---- the replay of volumes and of a machine's history

-- the first of two cases, and the second
pub first_case : (b : Bool) (P Q : Type 0) → MatchBool b P Q → b ≡ true → P
first_case true P Q h is = h
first_case false P Q h is = absurd cc

pub second_case : (b : Bool) (P Q : Type 0) → MatchBool b P Q → b ≡ false → Q
second_case true P Q h is = absurd cc
second_case false P Q h is = h

-- a record of the history is at fault
pub replay_refused : (volumes : List Volume) (m : MachineValue) (fault : ReplayFault)
    → IsFault m.layout m.base m.before m.history fault → Refutes m.layout m.base m.before m.history fault
    → HasAuditFault volumes m (replay_fault_from fault)
replay_refused volumes m (replaying.WrongReply serial) here only = (inr here, λ sound. only sound.legal)
replay_refused volumes m (replaying.WrongSerial at) here only = (inr here, λ sound. only sound.legal)
replay_refused volumes m replaying.OutOfMemory here only = tt

-- where the volumes that were read lead to the base that was read
pub reached : (volumes : List Volume) (m : MachineValue) (vs : List Volume) (l : LayoutParts)
    (base theirs : Pictured)
    → vs ≡ volumes → l ≡ m.layout → IsChain l vs → base ≡ record { layout = l; memory = state_after l vs }
    → theirs ≡ record { layout = m.layout; memory = m.base } → base.memory ≡ theirs.memory
    → LeadsToBase volumes m
reached volumes m vs l base theirs same there chain is theirs_is alike =
    (rw (there, same) at chain, sym (rw (is, theirs_is, there, same) at alike))

-- a replay finds the history at fault
pub history_refused : (volumes : List Volume) (m : MachineValue) (before : ℕ) (h : List Record)
    (base : Pictured) (fault : ReplayFault)
    → base ≡ record { layout = m.layout; memory = m.base } → before ≡ m.before → h ≡ m.history
    → IsFault base.layout base.memory before h fault → Refutes base.layout base.memory before h fault
    → HasAuditFault volumes m (replay_fault_from fault)
history_refused volumes m before h base fault based counted records here only =
    replay_refused volumes m fault (rw (based, counted, records) at here)
    (rw (based, counted, records) at only)

-- it leads to the machine's state, or to another one
pub led : (m : MachineValue) (before : ℕ) (h : List Record) (base replayed image : Pictured)
    → base ≡ record { layout = m.layout; memory = m.base } → before ≡ m.before → h ≡ m.history
    → IsLegal base.layout base.memory before h
    → replayed ≡ record { layout = base.layout; memory = value_of base.layout base.memory h }
    → image ≡ record { layout = m.layout; memory = m.state } → replayed.memory ≡ image.memory
    → LeadsToState m
led m before h base replayed image based counted records legal is image_is alike =
    (rw (based, counted, records) at legal, sym (rw (is, image_is, based, records) at alike))

pub led_elsewhere : (volumes : List Volume) (m : MachineValue) (h : List Record)
    (base replayed image : Pictured)
    → base ≡ record { layout = m.layout; memory = m.base } → h ≡ m.history
    → replayed ≡ record { layout = base.layout; memory = value_of base.layout base.memory h }
    → image ≡ record { layout = m.layout; memory = m.state } → (replayed.memory ≢ image.memory)
    → IsAudited volumes m → ⊥
led_elsewhere volumes m h base replayed image based records is image_is other sound =
    other (rw (is, image_is, based, records) (sym sound.state))

-- ---- a machine of a run

-- where nothing was handed out, its history is legal from boot on, and leads to its state
unsealed_is_audited : (l : LayoutParts) (scripts : List (List Line)) (ends : List (List LineEnd))
    (m : MachineValue) (count : ℕ)
    → IsWorkedOff l scripts ends [] m count → IsAudited [] m
unsealed_is_audited l scripts ends m count worked = record {
  chain = λ at v here. absurd cc;
  base = worked.boots (sym worked.closed.checked.reach.sealed_all);
  legal = worked.closed.shared.history.legal;
  state = worked.closed.shared.history.state;
}

-- a legal history has no record at fault
no_fault : (l : LayoutParts) (s : Memory) (before : ℕ) (h : List Record) (fault : ReplayFault)
    → (fault ≡ replaying.OutOfMemory → ⊥) → IsLegal l s before h → IsFault l s before h fault → ⊥
no_fault l s before h replaying.OutOfMemory known legal wrong = known refl
no_fault l s before h (replaying.WrongReply serial) known legal wrong =
    refutes l s before h (replaying.WrongReply serial) wrong legal
no_fault l s before h (replaying.WrongSerial at) known legal wrong =
    refutes l s before h (replaying.WrongSerial at) wrong legal

-- a volume that a seal handed out has no record at fault
seal_is_legal : (l : LayoutParts) (volumes : List Volume) (at : ℕ) (v : Volume) (fault : ReplayFault)
    → IsSealOf l v 0 → HasWrongRecords l volumes at v fault → ⊥
seal_is_legal l volumes at v fault seal wrong =
    no_fault l (state_after l (take at volumes)) (records_in (take at volumes)) v.records fault wrong.known
    legal wrong.records
  where
    legal : IsLegal l (state_after l (take at volumes)) (records_in (take at volumes)) v.records
    legal =
        let base =
        sym (ap (λ (x : Volume). x.base.memory) seal.is) ∙ ap (λ (p : Pictured). p.memory) wrong.base in
        let count = sym (ap (λ (x : Volume). x.before) seal.is) ∙ wrong.count in
        let records = sym (ap (λ (x : Volume). x.records) seal.is) in
        rw (seal.shared.layout, base, count, records) at seal.shared.history.legal

-- so no record of a run is at fault
no_record : (l : LayoutParts) (scripts : List (List Line)) (ends : List (List LineEnd))
    (volumes : List Volume) (m : MachineValue) (count : ℕ) (fault : ReplayFault)
    → (fault ≡ replaying.OutOfMemory → ⊥) → IsWorkedOff l scripts ends volumes m count
    → HasWrongRecord volumes m fault → ⊥
no_record l scripts ends volumes m count fault known worked (inl (at, (v, wrong))) =
    let sealed : AreSealed m.layout volumes =
    rw worked.closed.shared.layout (All-permutation
    (λ (x : Volume). IsSealOf l x 0) worked.handed volumes worked.same worked.workers.sealed) in
    seal_is_legal m.layout volumes at v fault (rw (here_is volumes at v wrong.first.here) at (All-get_or
    (λ (x : Volume). IsSealOf m.layout x 0) volumes at v (slice_get_within volumes at v wrong.first.here)
    sealed)) wrong
  where
    here_is : (vs : List Volume) (k : ℕ) (x : Volume) → slice_get vs k ≡ Some x → get_or vs k x ≡ x
    here_is [] k x e = absurd cc
    here_is (y ∷ vs) zero x e = cc
    here_is (y ∷ vs) (suc k) x e = here_is vs k x e
no_record l scripts ends volumes m count fault known worked (inr wrong) =
    no_fault m.layout m.base m.before m.history fault known worked.closed.shared.history.legal wrong

-- and where states differ, some line seals
differing : (input : List ℕ) (l : LayoutParts) (scripts : List (List Line)) (ends : List (List LineEnd))
    (volumes : List Volume) (m : MachineValue) (count : ℕ)
    → scripts_in input ≡ Ok scripts → IsWorkedOff l scripts ends volumes m count → (IsAudited volumes m → ⊥)
    → SealsSome input
differing input l scripts ends [] m count parted worked other =
    absurd (other (unsealed_is_audited l scripts ends m count worked))
differing input l scripts ends (v ∷ volumes) m count parted worked other =
    (scripts, parted, λ none. absurd (omega (arith, worked.few, none)))

-- the records of a run of the scenario are at fault
refuted : (input : List ℕ) (ends : List (List LineEnd)) (volumes : List Volume) (m : MachineValue) (count : ℕ)
    (fault : ProgramFault)
    → IsRunOf input ends volumes m count → HasAuditFault volumes m fault → IsRefuted input fault
refuted input ends volumes m count fault ran h =
    record { ends = ends; volumes = volumes; machine = m; count = count; run = ran; why = h }

-- so an audit of the scenario fails
pub audit_fails : (input : List ℕ) (ends : List (List LineEnd)) (volumes : List Volume) (m : MachineValue)
    (count : ℕ) (fault : ProgramFault)
    → IsRunOf input ends volumes m count → HasAuditFault volumes m fault
    → IsFaultOf Audit (Some input) ⊥ ⊥ fault
audit_fails input ends volumes m count OutOfMemory ran h = tt
audit_fails input ends volumes m count (WrongReply n) ran h =
    absurd (no_record ran.scenario.layout ran.scripts ends volumes m count (replaying.WrongReply n)
    (λ e. absurd cc) ran.worked h.0)
audit_fails input ends volumes m count (WrongSerial n) ran h =
    absurd (no_record ran.scenario.layout ran.scripts ends volumes m count (replaying.WrongSerial n)
    (λ e. absurd cc) ran.worked h.0)
audit_fails input ends volumes m count AuditDiffers ran h =
    let parted : scripts_in input ≡ Ok ran.scripts = rw ran.read ran.parted in (
      tt,
      (
        differing input ran.scenario.layout ran.scripts ends volumes m count parted ran.worked h,
        refuted input ends volumes m count AuditDiffers ran h,
      ),
    )
audit_fails input ends volumes m count (BrokenChain n) ran h =
    let parted : scripts_in input ≡ Ok ran.scripts = rw ran.read ran.parted in (
      tt,
      (
        differing input ran.scenario.layout ran.scripts ends volumes m count parted ran.worked h.1,
        inr (tt, refuted input ends volumes m count (BrokenChain n) ran h),
      ),
    )
audit_fails input ends volumes m count _ ran h = absurd h

-- ---- the text of an audit

pub audit_text : (start grown text : List ℕ) (count : ℕ) → start ≡ [] → grown ≡ start ++ records_line count
    → text ≡ grown ++ (codes "audit ok" ++ newline) → text ≡ records_line count ++ codes "audit ok" ++ newline
audit_text start grown text count none more last =
    rw (last, more, none) (sym (append_assoc (records_line count) (codes "audit ok") newline))
