-- Events that lead from one state to another, one after another, write a lawful log.
use Rattle.std.proofs.lemmas.Bool.{cond_both}
use Rattle.std.proofs.Common.{◌≡◌, ℕ, zero, suc, ◌+◌, ◌<◌, Bool, cond, List, [], ◌∷◌, ◌++◌, sym, ◌∙◌, ap, ap₂, subst, append_assoc, append-nil, flat_map, arith}
use Rattle.std.specs.List.{range_with_len}
use mathlib.Core.Path.{fun_ext}
use Rattle.hp_judge.specs.Events.{is_of}
use Rattle.hp_judge.specs.Laws.{IsLawful}
use Rattle.hp_judge.specs.Machines.{Agrees}
use Rattle.hp_judge.proofs.Machines.{agrees_push, allowed_push}
use Rattle.hp_judge.specs.LawfulNames.{LogEvent, MachineSize}
use Rattle.hp_judge.specs.Phases.{BlockPhase}
use Rattle.hp_judge.specs.Reading.{Shown, after_event, after_log, next_phase}
use Rattle.hp_judge.proofs.Allowed.{Leads, allowed, settled}
use Rattle.hp_judge.proofs.Turns.{turn-next}

abbrev pub as_shown : (ℕ → Bool) → (ℕ → BlockPhase) → Shown
as_shown used phase = record { used = used; phase = phase }

-- the events lead from one state to another, one after another
abbrev pub EventsLead : MachineSize → Shown → List LogEvent → Shown → Type 0
EventsLead m p [] q = p ≡ q
EventsLead m p (e ∷ es) q =
    (next : Shown) × Leads m p.used p.phase e next.used next.phase × EventsLead m next es q

pub lead-append : (m : MachineSize) (p q r : Shown) (xs ys : List LogEvent) → EventsLead m p xs q
    → EventsLead m q ys r → EventsLead m p (xs ++ ys) r
lead-append m p q r [] ys h k = rw h k
lead-append m p q r (x ∷ xs) ys h k = (h.0, h.1, lead-append m h.0 q r xs ys h.2 k)

-- over a range of numbers, each of which leads on
pub lead-range : (m : MachineSize) (stage : ℕ → Shown) (events : ℕ → List LogEvent) (start count : ℕ)
    → ((n : ℕ) → n < start + count → EventsLead m (stage n) (events n) (stage (n + 1)))
    → EventsLead m (stage start) (flat_map events (range_with_len start count)) (stage (start + count))
lead-range m stage events start zero h =
    let e : start ≡ start + 0 = omega arith in
    ap stage e
lead-range m stage events start (suc count) h =
    let e : start + 1 + count ≡ start + suc count = omega arith in
    lead-append m _ _ _ _ _ (h start (omega arith))
    (rw (← e) (lead-range m stage events (start + 1) count (λ n below. h n (omega arith))))

-- a lawful log, in which nothing is open that a state settles
pub record IsGoodLog (m : MachineSize) (log : List LogEvent) (p : Shown) : Type 0 where
  pub lawful : IsLawful m log
  pub agrees : Agrees m log (settled m p.used p.phase)

-- events that lead on make it longer
pub good_on : (m : MachineSize) (p q : Shown) (log es : List LogEvent) → EventsLead m p es q
    → IsGoodLog m log p → IsGoodLog m (log ++ es) q
good_on m p q log [] h t = rw (append-nil log) (subst (λ (x : Shown). IsGoodLog m log x) h t)
good_on m p q log (e ∷ es) h t =
    let is = allowed m p.used p.phase e h.0.used h.0.phase h.1 in
    let now : IsGoodLog m (log ++ e ∷ []) h.0 = record {
      lawful = allowed_push m log _ _ e t.lawful t.agrees is;
      agrees = agrees_push m log _ _ e t.agrees is;
    } in
    rw (← append_assoc log (e ∷ []) es) (good_on m h.0 q _ es h.2 now)

-- ---- what the log says

-- one event
after-event : (m : MachineSize) (p q : Shown) (e : LogEvent) → Leads m p.used p.phase e q.used q.phase
    → after_event m p e ≡ q
after-event m p q e h = ap₂ as_shown (fun_ext (λ f. sym (h.used_is f))) (fun_ext phase)
  where
    phase : (b : ℕ) → cond (is_of b e) (next_phase e (p.phase b)) (p.phase b) ≡ q.phase b
    phase b = cond_both (is_of b e) _ _ (λ x. x ≡ q.phase b) (λ of. turn-next (h.turn b of))
        (λ not. sym (h.same b not))

-- reading the events leads to the same
pub after-log : (m : MachineSize) (p q : Shown) (es : List LogEvent) → EventsLead m p es q
    → after_log m p es ≡ q
after-log m p q [] h = h
after-log m p q (e ∷ es) h =
    ap (λ (x : Shown). after_log m x es) (after-event m p h.0 e h.1) ∙ after-log m h.0 q es h.2
