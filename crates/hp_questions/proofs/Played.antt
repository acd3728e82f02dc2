-- After a schedule, the replies to a processor say of its plans what its receipts say.
use Rattle.std.proofs.Common.{◌≡◌, ℕ, Bool, true, false, cond, List, [], ◌∷◌, ◌++◌, map, eqb, Some, slice_get, inl, inr, refl}
use Rattle.std.specs.Prelude.{option_map}
use Rattle.std.proofs.lemmas.Bool.{cases_Bool, eqb-true}
use Rattle.std.proofs.lemmas.List.{append-nil, map-append}
use Rattle.std.proofs.lemmas.List.Sums.{fold-append}
use Rattle.std.proofs.lemmas.Option.{none-some, same_Some}
use Rattle.hp_units.specs.Receipts.{receipt_of, receipts_of}
use Rattle.hp_units.specs.declared.events.Event.{Event}
use Rattle.hp_units.specs.declared.replies.Receipt.{Receipt}
use Rattle.hp_units.specs.declared.replies.Record.{Record}
use Rattle.hp_units.specs.declared.replies.Reply.{Reply}
use Rattle.hp_units.specs.declared.replies.Reply.TheVariants.{Opened}
use Rattle.hp_questions.specs.PlanEnds.{ends_answered, plan_ends, receipts_by, with_reply}
use Rattle.hp_schedules.specs.LineAnswers.{answers_at}
use Rattle.hp_schedules.specs.Outcomes.{replies_to, told}
use Rattle.hp_schedules.specs.Schedules.{Setting, next_call, plays, record_of_call}
use Rattle.hp_schedules.specs.Scripts.{known_of, next_of}
use Rattle.hp_schedules.specs.declared.scripts.Step.{Step}
use Rattle.hp_laws.proofs.Options.{cases_option}
use Rattle.hp_schedules.proofs.AnswersAt.{of_script}
use Rattle.hp_schedules.proofs.Plays.{from_news, stays_none}
use Rattle.hp_schedules.proofs.Steps.{receipts_push}
use Rattle.hp_questions.proofs.Bare.{bare, ends_bare, erased, next_bare, some_erased}
use Rattle.hp_questions.proofs.Marking.{replies_append}

told_twice : (reply : Reply) → told (told reply) ≡ told reply
told_twice (Opened op) = refl
told_twice reply = refl

-- the replies with one record more
replies_push : (cpu : ℕ) (h : List Record) (r : Record) (own : Bool) → eqb r.cpu cpu ≡ own
    → replies_to cpu (h ++ r ∷ []) ≡ replies_to cpu h ++ cond own (told r.reply ∷ []) []
replies_push cpu h r true is = rw (replies_append cpu h (r ∷ []), is)
replies_push cpu h r false is = rw (replies_append cpu h (r ∷ []), is)

-- receipts that agree but for the numbers ask for events that do
same_next : (cpus : ℕ) (lines : List Step) (xs ys : List Receipt) → map bare xs ≡ map bare ys
    → option_map erased (next_of cpus lines xs) ≡ option_map erased (next_of cpus lines ys)
same_next cpus lines xs ys same =
    rw (next_bare cpus (known_of xs) lines xs, next_bare cpus (known_of ys) lines ys, same)

-- one call more
called_more : (cpus : ℕ) (lines : List Step) (xs ys : List Receipt) (x : Receipt)
    → map bare xs ≡ map bare ys → next_of cpus lines xs ≡ Some x.event
    → map bare (xs ++ x ∷ []) ≡ map bare (with_reply cpus lines ys (told x.reply))
called_more cpus lines xs ys x same asked =
    let erasure : Some (erased x.event) ≡ option_map erased (next_of cpus lines ys) =
    rw (← same_next cpus lines xs ys same, asked) in
    let next = some_erased (next_of cpus lines ys) (erased x.event) erasure in
    let alike = same_Some (erased x.event) (erased next.0) (rw next.1 at erasure) in
    rw (next.1, map-append bare xs (x ∷ []), map-append, same, ← alike, told_twice x.reply)

-- a processor's receipts agree with those by its replies, but for the numbers
abbrev AgreesAt : Setting → List Record → (cpu : ℕ) → List Step → Type 0
AgreesAt g h cpu lines =
    map bare (receipts_of cpu h) ≡ map bare (receipts_by g.layout.cpus lines (replies_to cpu h))

agrees_more : (g : Setting) (h : List Record) (c : ℕ) (e : Event) → next_call g c h ≡ Some e
    → ((cpu : ℕ) (lines : List Step) → slice_get g.scripts cpu ≡ Some lines → AgreesAt g h cpu lines)
    → (cpu : ℕ) (lines : List Step) → slice_get g.scripts cpu ≡ Some lines
    → AgreesAt g (h ++ record_of_call g h c e ∷ []) cpu lines
unfolding record_of_call next_call
agrees_more g h c e asked so_far cpu lines here = elim (cases_Bool (eqb c cpu)) [
  | inl own ↦
      rw (
        receipts_push cpu h (record_of_call g h c e) true own,
        replies_push cpu h (record_of_call g h c e) true own,
        fold-append (with_reply g.layout.cpus lines) [] (replies_to cpu h)
            (told (record_of_call g h c e).reply ∷ []),
      )
      (called_more g.layout.cpus lines (receipts_of cpu h)
      (receipts_by g.layout.cpus lines (replies_to cpu h)) (receipt_of (record_of_call g h c e))
      (so_far cpu lines here) (rw here at (rw (eqb-true c cpu own) at asked)))
  | inr other ↦
      rw (
        receipts_push cpu h (record_of_call g h c e) false other,
        replies_push cpu h (record_of_call g h c e) false other,
        append-nil (receipts_of cpu h),
        append-nil (replies_to cpu h),
      )
      (so_far cpu lines here)
]

agrees_on : (g : Setting) (rest : List ℕ) (h end : List Record)
    → ((cpu : ℕ) (lines : List Step) → slice_get g.scripts cpu ≡ Some lines → AgreesAt g h cpu lines)
    → from_news g h rest ≡ Some end
    → (cpu : ℕ) (lines : List Step) → slice_get g.scripts cpu ≡ Some lines → AgreesAt g end cpu lines
agrees_on g [] h end so_far is cpu lines here = rw (← same_Some h end is) (so_far cpu lines here)
agrees_on g (c ∷ rest) h end so_far is cpu lines here =
    elim (cases_option (next_call g c h)) [
      | inl none ↦ absurd (none-some end (rw (none, stays_none g rest) at is))
      | inr e ↦
          agrees_on g rest (h ++ record_of_call g h c e.0 ∷ []) end (agrees_more g h c e.0 e.1 so_far)
          (rw e.1 at is) cpu lines here
    ]

pub ends_are_answers : (g : Setting) (schedule : List ℕ) (news : List Record) (cpu : ℕ) (lines : List Step)
    → plays g schedule ≡ Some news → slice_get g.scripts cpu ≡ Some lines
    → plan_ends g.layout.cpus lines (replies_to cpu news) ≡ ends_answered (answers_at g cpu news)
unfolding plays plan_ends
ends_are_answers g schedule news cpu lines played here =
    rw (
      of_script g cpu news lines here,
      ends_bare g.layout.cpus lines (receipts_of cpu news),
      agrees_on g schedule [] news (λ c ls there. refl) played cpu lines here,
    )
    (ends_bare g.layout.cpus lines (receipts_by g.layout.cpus lines (replies_to cpu news)))
