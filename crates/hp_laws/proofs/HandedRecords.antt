-- Where the frames lie that a record of a legal history hands out.
use Rattle.std.proofs.Common.{◌≡◌, ℕ, List, [], ◌∷◌, ◌++◌, true, false, Option, Some, sym, subst, ◌∙◌, inl, inr, IfSome}
use Rattle.std.proofs.lemmas.Bool.{both_ways, cases_Bool}
use Rattle.hp_units.specs.LayoutParts.{LayoutParts, IsLayout}
use Rattle.hp_units.specs.Arithmetic.{block_of}
use Rattle.hp_units.specs.Memory.{Memory, row_of}
use Rattle.hp_units.specs.Contents.{handed_by_reply, handed_frame}
use Rattle.hp_units.specs.History.{IsLegal, goes_back, is_refused, value_of}
use Rattle.hp_units.specs.Rows.{is_going}
use Rattle.hp_units.specs.Step.{step}
use Rattle.hp_units.specs.Placement.{IsWellPlaced}
use Rattle.hp_laws.proofs.Names.{Event, Record, Reply, Done, Moved}
use Rattle.hp_laws.proofs.EventSteps.{value-placed}
use Rattle.hp_laws.proofs.LawProofs.{last_follows}
use Rattle.hp_laws.proofs.Records.{record_cases}
use Rattle.hp_laws.proofs.HandedFrames.{IsPlugged, IsStaying, step-plugged, step-staying, to_of}

-- a refusal hands out nothing, and neither does what goes back to an earlier state
refused_nothing : (after : Memory) (event : Event) (reply : Reply) (frame : ℕ) → is_refused reply ≡ true
    → handed_by_reply after event reply ≡ Some frame → ⊥
refused_nothing after event Done frame e f = cc
refused_nothing after event _ frame e f = cc

back_nothing : (after : Memory) (event : Event) (reply : Reply) (frame : ℕ) → goes_back reply ≡ true
    → handed_by_reply after event reply ≡ Some frame → ⊥
back_nothing after event Done frame e f = cc
back_nothing after event _ frame e f = cc

step_handed : (l : LayoutParts) (s after : Memory) (event : Event) (reply : Reply) (serial cpu frame : ℕ)
    → IsLayout l → IsWellPlaced l s → reply ≡ (step l s serial cpu event).reply
    → after ≡ (step l s serial cpu event).memory → handed_by_reply after event reply ≡ Some frame
    → IsPlugged l s frame
step_handed l s after event reply serial cpu frame layout p same ends e =
    let is : handed_by_reply (step l s serial cpu event).memory event (step l s serial cpu event).reply
    ≡ Some frame = rw (← ends, ← same) e in
    subst (λ (o : Option ℕ). IfSome o (IsPlugged l s)) is (step-plugged l s serial cpu event layout p)

-- a frame that a record hands out lies in no block that was offline or absent
pub record-plugged : (l : LayoutParts) (base : Memory) (before : ℕ) (h : List Record) (r : Record) (frame : ℕ)
    → IsLayout l → IsWellPlaced l base → IsLegal l base before (h ++ r ∷ [])
    → handed_frame (value_of l base (h ++ r ∷ [])) r ≡ Some frame → IsPlugged l (value_of l base h) frame
record-plugged l base before h r frame layout p legal e = elim (cases_Bool (is_refused r.reply)) [
  | inl bad ↦ absurd (refused_nothing (value_of l base (h ++ r ∷ [])) r.event r.reply frame bad e)
  | inr good ↦ elim (record_cases l base before h r (last_follows l base before h r legal) good) [
    | inl back ↦ absurd (back_nothing (value_of l base (h ++ r ∷ [])) r.event r.reply frame back e)
    | inr is ↦
        step_handed l (value_of l base h) (value_of l base (h ++ r ∷ [])) r.event r.reply r.serial r.cpu frame
        layout (value-placed l base h layout p) is.reply is.memory e
  ]
]

-- and in no going one, if a page moves to it
pub record-staying : (l : LayoutParts) (base : Memory) (before : ℕ) (h : List Record) (r : Record)
    (from to : ℕ)
    → IsLayout l → IsWellPlaced l base → IsLegal l base before (h ++ r ∷ [])
    → r.reply ≡ Moved from to → is_going (row_of (value_of l base h).blocks (block_of l to)) ≡ false
record-staying l base before h r from to layout p legal e =
    elim (record_cases l base before h r (last_follows l base before h r legal) (rw e)) [
      | inl back ↦ absurd (both_ways (goes_back r.reply) (rw e) back)
      | inr is ↦ (let staying : IsStaying l (value_of l base h) to =
          subst (λ (x : Reply). IfSome (to_of x) (IsStaying l (value_of l base h))) (sym
          is.reply ∙ e) (step-staying l _ _ r.cpu r.event layout
          (value-placed l base h layout p)) in
          staying.still)
    ]
