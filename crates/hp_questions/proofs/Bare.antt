-- What lines take of receipts, and which plans end, does not depend on the numbers of operations.
use Rattle.std.proofs.Common.{◌≡◌, ℕ, ◌+◌, ◌-◌, List, [], ◌∷◌, ◌++◌, length, map, Option, Some, None, refl, ap, sym, ◌∙◌, arith, inl, inr}
use Rattle.std.specs.Prelude.{fold, option_map}
use Rattle.std.specs.List.{last_or}
use Rattle.std.specs.Option.{option_map_or}
use Rattle.std.proofs.lemmas.List.{length-map, map-append, take-map}
use Rattle.std.proofs.lemmas.List.Sums.{sum_by-cons}
use Rattle.std.proofs.lemmas.Option.{none-some}
use Rattle.hp_units.specs.Driver.{cause_after, end_after, end_of, is_migrate, migrate_or_cancel, next_after, next_drain, next_event, tried}
use Rattle.hp_units.specs.declared.events.Event.{Event}
use Rattle.hp_units.specs.declared.events.Event.TheVariants.{Begin, Cancel, Commit, DrainFor, KernelFree, Migrate}
use Rattle.hp_units.specs.declared.plans.Item.{Item}
use Rattle.hp_units.specs.declared.replies.Receipt.{Receipt}
use Rattle.hp_units.specs.declared.replies.Refusal.{Refusal}
use Rattle.hp_units.specs.declared.replies.Refusal.TheVariants.{NoFrame, NotFree, NothingToMove}
use Rattle.hp_units.specs.declared.replies.Reply.{Reply}
use Rattle.hp_units.specs.declared.replies.Reply.TheVariants.{Done, Moved, Opened, Refused}
use Rattle.hp_questions.specs.PlanEnds.{end_answered, ends_answered}
use Rattle.hp_schedules.specs.LineAnswers.{answer_of, answers_in, without}
use Rattle.hp_schedules.specs.Outcomes.{told}
use Rattle.hp_schedules.specs.Scripts.{Known, after_line, line_next, next_in, nothing_known, work_of}
use Rattle.hp_schedules.specs.declared.scripts.OwnWork.{OwnWork}
use Rattle.hp_schedules.specs.declared.scripts.Step.{Step}
use Rattle.hp_laws.proofs.Options.{cases_option}
use Rattle.hp_schedules.proofs.AfterLines.{any_known}

-- ---- receipts without numbers

-- an event without the number of the operation that it works on, or of the frame that it frees
abbrev pub erased : Event → Event
erased (DrainFor op cpu) = DrainFor 0 cpu
erased (Migrate op) = Migrate 0
erased (Commit op) = Commit 0
erased (Cancel op) = Cancel 0
erased (KernelFree frame) = KernelFree 0
erased event = event

-- a receipt without its serial and these numbers
abbrev pub bare : Receipt → Receipt
bare r = record { serial = 0; event = erased r.event; reply = told r.reply }

twice : (e : Event) → erased (erased e) ≡ erased e
twice (DrainFor op cpu) = refl
twice e = refl

-- two events or none on both sides decide alike
both_or_none : {A B : Type 0} (f : A → B) (o u : Option Event) (some none : A) (x y : B)
    → option_map erased o ≡ option_map erased u → f some ≡ x → f none ≡ y
    → f (option_map_or (λ event. some) o none) ≡ option_map_or (λ event. x) u y
both_or_none f o u some none x y same left right = grind arith

pub some_erased : (o : Option Event) (e : Event) → Some e ≡ option_map erased o
    → (d : Event) × (o ≡ Some d)
some_erased None e is = absurd (none-some e (sym is))
some_erased (Some d) e is = (d, refl)

-- ---- a plan's driver

last_bare : (o : Option Receipt) (own : List Receipt)
    → last_or (option_map bare o) (map bare own) ≡ option_map bare (last_or o own)
last_bare o [] = refl
last_bare o (r ∷ own) = last_bare (Some r) own

migrates : (e : Event) → is_migrate (erased e) ≡ is_migrate e
migrates (Migrate op) = refl
migrates e = refl

tried_bare : (own : List Receipt) → tried (map bare own) ≡ tried own
tried_bare [] = refl
tried_bare (r ∷ own) = simp (sum_by-cons, migrates, tried_bare own)

turn_bare : (turns op : ℕ) (own : List Receipt)
    → erased (migrate_or_cancel turns op own) ≡ migrate_or_cancel turns 0 (map bare own)
turn_bare turns op own = grind (arith, tried_bare own)

drain_bare : (cpus turns op cpu : ℕ) (own : List Receipt)
    → erased (next_drain cpus turns op cpu own) ≡ next_drain cpus turns 0 cpu (map bare own)
drain_bare cpus turns op cpu own = grind (arith, turn_bare turns op own)

reply_bare : (cpus turns : ℕ) (own : List Receipt) (e : Event) (reply : Reply)
    → option_map erased (next_after cpus turns own e reply)
    ≡ next_after cpus turns (map bare own) (erased e) (told reply)
reply_bare cpus turns own (Begin plan) (Opened op) = ap Some (drain_bare cpus turns op 0 own)
reply_bare cpus turns own (DrainFor op cpu) Done = ap Some (drain_bare cpus turns op (cpu + 1) own)
reply_bare cpus turns own (Migrate op) (Moved from to) = ap Some (turn_bare turns op own)
reply_bare cpus turns own (Migrate op) (Refused NoFrame) = ap Some (drain_bare cpus turns op 0 own)
reply_bare cpus turns own (Migrate op) (Refused NothingToMove) = refl
reply_bare cpus turns own (Commit op) (Refused (NotFree frame)) = ap Some (drain_bare cpus turns op 0 own)
reply_bare cpus turns own e reply = refl

pub event_bare : (cpus turns : ℕ) (plan : List Item) (own : List Receipt)
    → option_map erased (next_event cpus turns plan own) ≡ next_event cpus turns plan (map bare own)
event_bare cpus turns plan own = grind (arith, last_bare None own, reply_bare cpus turns own)

-- ---- a plan's end

seen_cause : (c : Option Refusal) (e : Event) (reply : Reply)
    → cause_after c (erased e) (told reply) ≡ cause_after c e reply
seen_cause c e reply = grind arith

cause_from : (c : Option Refusal) (own : List Receipt)
    → fold (λ cause r. cause_after cause r.event r.reply) c (map bare own)
    ≡ fold (λ cause r. cause_after cause r.event r.reply) c own
cause_from c [] = refl
cause_from c (r ∷ own) =
    ap (λ (d : Option Refusal). fold (λ cause r. cause_after cause r.event r.reply) d (map bare own))
    (seen_cause c r.event r.reply) ∙ cause_from (cause_after c r.event r.reply) own

seen_end : (c : Option Refusal) (e : Event) (reply : Reply)
    → end_after c (erased e) (told reply) ≡ end_after c e reply
seen_end c e reply = grind arith

end_bare : (own : List Receipt) → end_of (map bare own) ≡ end_of own
end_bare own = grind (arith, last_bare None own, cause_from None own, seen_end)

-- ---- lines

work_bare : (known other : Known) (work : OwnWork) → erased (work_of known work) ≡ erased (work_of other work)
work_bare known other work = grind arith

line_bare : (cpus : ℕ) (known : Known) (line : Step) (own : List Receipt)
    → option_map erased (line_next cpus known line own)
    ≡ option_map erased (line_next cpus nothing_known line (map bare own))
line_bare cpus known line own = grind (arith, event_bare, twice, work_bare)

pub after_bare : (cpus : ℕ) (line : Step) (earlier later : List Receipt)
    → option_map (map bare) (after_line cpus nothing_known line earlier later)
    ≡ after_line cpus nothing_known line (map bare earlier) (map bare later)
after_bare cpus line earlier [] =
    both_or_none (option_map (map bare)) _ _ None (Some []) None (Some [])
    (line_bare cpus nothing_known line earlier) refl refl
after_bare cpus line earlier (r ∷ rs) =
    both_or_none (option_map (map bare)) _ _ (after_line cpus nothing_known line (earlier ++ r ∷ []) rs) _
    (after_line cpus nothing_known line (map bare earlier ++ bare r ∷ []) (map bare rs)) _
    (line_bare cpus nothing_known line earlier)
    (rw (← map-append bare earlier (r ∷ [])) (after_bare cpus line (earlier ++ r ∷ []) rs)) refl

-- what the lines call next
pub next_bare : (cpus : ℕ) (known : Known) (lines : List Step) (receipts : List Receipt)
    → option_map erased (next_in cpus known lines receipts)
    ≡ option_map erased (next_in cpus nothing_known lines (map bare receipts))
next_bare cpus known [] receipts = refl
next_bare cpus known (line ∷ lines) receipts =
    rw (any_known cpus known line [] receipts, ← after_bare cpus line [] receipts)
    (elim (cases_option (after_line cpus nothing_known line [] receipts)) [
      | inl none ↦ rw none (line_bare cpus known line receipts)
      | inr rest ↦ rw rest.1 (next_bare cpus known lines rest.0)
    ])

-- ---- answers

answer_bare : (line : Step) (own : List Receipt)
    → end_answered (answer_of line own) ≡ end_answered (answer_of line (map bare own))
answer_bare line own = grind (arith, end_bare own)

without_bare : (receipts rest : List Receipt)
    → map bare (without receipts rest) ≡ without (map bare receipts) (map bare rest)
without_bare receipts rest =
    rw (length-map receipts bare, length-map rest bare)
    (sym (take-map bare (length receipts - length rest) receipts))

pub ends_bare : (cpus : ℕ) (lines : List Step) (receipts : List Receipt)
    → ends_answered (answers_in cpus lines receipts)
    ≡ ends_answered (answers_in cpus lines (map bare receipts))
ends_bare cpus [] receipts = refl
ends_bare cpus (line ∷ lines) receipts =
    rw (← after_bare cpus line [] receipts)
    (elim (cases_option (after_line cpus nothing_known line [] receipts)) [
      | inl none ↦ rw none
      | inr rest ↦
          rw (
            rest.1,
            answer_bare line (without receipts rest.0),
            without_bare receipts rest.0,
            ends_bare cpus lines rest.0,
          )
    ])
