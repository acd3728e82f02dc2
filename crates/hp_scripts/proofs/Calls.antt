-- After a schedule each call of a processor is the one that its script asks for.
use Rattle.std.proofs.Common.{◌≡◌, ℕ, true, false, eqb, List, [], ◌∷◌, ◌++◌, Some, slice_get, append_assoc, append-nil, inl, inr}
use Rattle.std.proofs.lemmas.Bool.{cases_Bool, eqb-true}
use Rattle.std.proofs.lemmas.Option.{none-some, same_Some}
use Rattle.hp_units.specs.Receipts.{receipt_of, receipts_of}
use Rattle.hp_units.specs.declared.events.Event.{Event}
use Rattle.hp_units.specs.declared.replies.Receipt.{Receipt}
use Rattle.hp_units.specs.declared.replies.Record.{Record}
use Rattle.hp_laws.proofs.Options.{cases_option}
use Rattle.hp_schedules.specs.Schedules.{Setting, next_call, record_of_call}
use Rattle.hp_schedules.specs.Scripts.{Known, known_of, next_in}
use Rattle.hp_schedules.specs.declared.scripts.Step.{Step}
use Rattle.hp_schedules.proofs.Plays.{from_news, stays_none}
use Rattle.hp_schedules.proofs.Steps.{receipts_push}
use Rattle.hp_scripts.proofs.StepCounts.{AreCalled, AreCalledAfter}

called_push : (cpus : ℕ) (lines : List Step) (earlier rs : List Receipt) (r : Receipt) (known : Known)
    → AreCalledAfter cpus lines earlier rs → next_in cpus known lines (earlier ++ rs) ≡ Some r.event
    → AreCalledAfter cpus lines earlier (rs ++ r ∷ [])
called_push cpus lines earlier [] r known called asked =
    ((known, rw append-nil at asked), tt)
called_push cpus lines earlier (x ∷ rs) r known called asked = (
  called.0,
  called_push cpus lines (earlier ++ x ∷ []) rs r known called.1
      (rw (append_assoc earlier (x ∷ []) rs) asked),
)

abbrev pub CalledAt : Setting → List Record → (cpu : ℕ) → List Step → Type 0
CalledAt g h cpu lines = AreCalled g.layout.cpus lines (receipts_of cpu h)

called_more : (g : Setting) (h : List Record) (c : ℕ) (e : Event) → next_call g c h ≡ Some e
    → (cpu : ℕ) (lines : List Step) → slice_get g.scripts cpu ≡ Some lines → CalledAt g h cpu lines
    → CalledAt g (h ++ record_of_call g h c e ∷ []) cpu lines
unfolding record_of_call next_call
called_more g h c e asked cpu lines here before =
    elim (cases_Bool (eqb c cpu)) [
      | inl own ↦
          rw (receipts_push cpu h (record_of_call g h c e) true own)
          (called_push g.layout.cpus lines [] (receipts_of cpu h) (receipt_of (record_of_call g h c e))
          (known_of (receipts_of cpu h)) before (rw here at (rw (eqb-true c cpu own) at asked)))
      | inr other ↦
          rw (receipts_push cpu h (record_of_call g h c e) false other, append-nil (receipts_of cpu h)) before
    ]

pub called_on : (g : Setting) (cpu : ℕ) (lines : List Step) → slice_get g.scripts cpu ≡ Some lines
    → (rest : List ℕ) (h end : List Record) → CalledAt g h cpu lines → from_news g h rest ≡ Some end
    → CalledAt g end cpu lines
called_on g cpu lines here [] h end so_far is = rw (← same_Some h end is) so_far
called_on g cpu lines here (c ∷ rest) h end so_far is =
    elim (cases_option (next_call g c h)) [
      | inl none ↦ absurd (none-some end (rw (none, stays_none g rest) at is))
      | inr e ↦
          called_on g cpu lines here rest (h ++ record_of_call g h c e.0 ∷ []) end
          (called_more g h c e.0 e.1 cpu lines here so_far) (rw e.1 at is)
    ]
