-- The machine's replies to a driver's events.
use Rattle.std.proofs.Common.{◌≡◌, ℕ, suc, ◌+◌, ◌<◌, ◌≤◌, Bool, true, false, List, [], ◌∷◌, ◌++◌, length, map, Option, Some, None, slice_get, refl, ap, sym, ◌∙◌, arith, inl, inr, eq-eqb}
use Rattle.std.specs.Prelude.{◌⊎◌, ◌==◌, unwrap_or}
use Rattle.std.specs.List.{list_all}
use Rattle.std.proofs.lemmas.Bool.{cases_lt, eqb-true, false≢true, le-leb, lt-leb, le-ltb}
use Rattle.std.proofs.lemmas.List.Elements.{filter-append}
use Rattle.std.proofs.lemmas.List.{map-append}
use Rattle.hp_units.specs.LayoutParts.{LayoutParts}
use Rattle.hp_units.specs.Memory.{Memory}
use Rattle.hp_units.specs.FreeAreas.{Taken}
use Rattle.hp_units.specs.Choices.{first_some}
use Rattle.hp_units.specs.Marks.{sole_at, tag_of}
use Rattle.hp_units.specs.Migrations.{migration_source, migration_target}
use Rattle.hp_units.specs.Refusals.{event_refusals, frame_in_use, is_all_free, refusal_of}
use Rattle.hp_units.specs.Rows.{going_blocks, is_live}
use Rattle.hp_units.specs.Step.{answer, migrate_step, step}
use Rattle.hp_units.specs.History.{Effect, Looks, Undoes, Cancels, Acts, IsLegal, cancel_reply, effect_of, effect_reply, net_of, reply_of, value_of}
use Rattle.hp_units.specs.Receipts.{receipt_of, receipts_of}
use Rattle.hp_machine.specs.Names.{Item, Event, Begin, DrainFor, Migrate, Commit, Cancel, Reply, Done, Moved, Released, Refused, Refusal, NoCpu, NoFrame, NoOp, NothingToMove, NotFree, Record}
use Rattle.hp_ops.specs.Ports.{IsBeginReply, IsCancelReply, IsCommitReply, IsDriverReply, IsMigrateReply, has_opened, is_opened}

-- ---- the step's reply, by its refusal

-- the reply of a step that is refused or isn't
step_reply : (l : LayoutParts) (s : Memory) (serial cpu : ℕ) (event : Event) (o : Option Refusal)
    → refusal_of l s cpu event ≡ o → (step l s serial cpu event).reply ≡ (answer l s serial cpu event o).reply
unfolding step
step_reply l s serial cpu event o is = rw is

-- a processor that isn't in the layout
refused_outside : (l : LayoutParts) (s : Memory) (cpu : ℕ) (event : Event) → l.cpus ≤ cpu
    → refusal_of l s cpu event ≡ Some NoCpu
unfolding refusal_of
refused_outside l s cpu event out = rw (le-leb l.cpus cpu out)

-- and one that is
inside_reply : (l : LayoutParts) (s : Memory) (serial cpu : ℕ) (event : Event) (o : Option Refusal)
    → cpu < l.cpus → first_some (event_refusals l s cpu event) ≡ o
    → (step l s serial cpu event).reply ≡ (answer l s serial cpu event o).reply
unfolding refusal_of
inside_reply l s serial cpu event o inside is =
    step_reply l s serial cpu event o (rw (lt-leb l.cpus cpu inside) is)

-- ---- the events of an operation

-- a drain
drain_reply : (l : LayoutParts) (s : Memory) (serial cpu op drained : ℕ) (live : Bool)
    → is_live s.blocks op ≡ live → cpu < l.cpus → drained < l.cpus
    → ((step l s serial cpu (DrainFor op drained)).reply ≡ Refused NoOp)
    ⊎ ((step l s serial cpu (DrainFor op drained)).reply ≡ Done)
drain_reply l s serial cpu op drained false is inside there =
    inl (inside_reply l s serial cpu (DrainFor op drained) (Some NoOp) inside
    (rw (lt-leb l.cpus drained there, is)))
drain_reply l s serial cpu op drained true is inside there =
    inr (inside_reply l s serial cpu (DrainFor op drained) None inside (rw (lt-leb l.cpus drained there, is)))

-- a migration whose source and target are known
moves_page : (l : LayoutParts) (s : Memory) (op from : ℕ) (taken : Taken)
    → migration_source l s op ≡ Some from → migration_target l s.free.areas ≡ Some taken
    → (migrate_step l s op).reply ≡ Moved from taken.frame
unfolding migrate_step
moves_page l s op from taken source target = rw (source, target) refl

migrate_reply : (l : LayoutParts) (s : Memory) (serial cpu op : ℕ) (b : Bool) (source : Option ℕ)
    (target : Option Taken)
    → is_live s.blocks op ≡ b → migration_source l s op ≡ source → migration_target l s.free.areas ≡ target
    → cpu < l.cpus
    → ((step l s serial cpu (Migrate op)).reply ≡ Refused NoOp)
    ⊎ IsMigrateReply (step l s serial cpu (Migrate op)).reply
migrate_reply l s serial cpu op false source target live from to inside =
    inl (inside_reply l s serial cpu (Migrate op) (Some NoOp) inside (rw live))
migrate_reply l s serial cpu op true None target live from to inside =
    inr (inr (inr (inside_reply l s serial cpu (Migrate op) (Some NothingToMove) inside (rw (live, from)))))
migrate_reply l s serial cpu op true (Some frame) None live from to inside =
    inr (inr (inl (inside_reply l s serial cpu (Migrate op) (Some NoFrame) inside (rw (live, from, to)))))
migrate_reply l s serial cpu op true (Some frame) (Some taken) live from to inside =
    inr (inl (
      frame,
      taken.frame,
      inside_reply l s serial cpu (Migrate op) None inside (rw (live, from, to))
          ∙ moves_page l s op frame taken from to,
    ))

-- a commit
commit_reply : (l : LayoutParts) (s : Memory) (serial cpu op : ℕ) (b free : Bool) → is_live s.blocks op ≡ b
    → list_all (is_all_free l s) (going_blocks l s.blocks op) ≡ free → cpu < l.cpus
    → ((step l s serial cpu (Commit op)).reply ≡ Refused NoOp)
    ⊎ IsCommitReply (step l s serial cpu (Commit op)).reply
commit_reply l s serial cpu op false free live all inside =
    inl (inside_reply l s serial cpu (Commit op) (Some NoOp) inside (rw live))
commit_reply l s serial cpu op true false live all inside =
    let frame : ℕ = unwrap_or (frame_in_use l s op) 0 in
    inr (inr (frame, inside_reply l s serial cpu (Commit op) (Some (NotFree frame)) inside (rw (live, all))))
commit_reply l s serial cpu op true true live all inside =
    inr (inl (inside_reply l s serial cpu (Commit op) None inside (rw (live, all))))

-- the release, and the Cancel that restores in its place
release_reply : (l : LayoutParts) (s : Memory) (serial cpu op : ℕ) (live : Bool) → is_live s.blocks op ≡ live
    → cpu < l.cpus
    → ((step l s serial cpu (Cancel op)).reply ≡ Refused NoOp)
    ⊎ ((step l s serial cpu (Cancel op)).reply ≡ Released)
release_reply l s serial cpu op false is inside =
    inl (inside_reply l s serial cpu (Cancel op) (Some NoOp) inside (rw is))
release_reply l s serial cpu op true is inside =
    inr (inside_reply l s serial cpu (Cancel op) None inside (rw is))

-- a Cancel that is refused is not restored
cancel_refused : (refusal : Refusal) (o : Option ℕ) → cancel_reply (Refused refusal) o ≡ Refused refusal
cancel_refused refusal None = refl
cancel_refused refusal (Some place) = refl

cancel_released : (o : Option ℕ) → IsCancelReply (cancel_reply Released o)
cancel_released None = inr refl
cancel_released (Some place) = inl refl

cancel_known : (reply : Reply) (o : Option ℕ) → (reply ≡ Refused NoOp) ⊎ (reply ≡ Released)
    → (cancel_reply reply o ≡ Refused NoOp) ⊎ IsCancelReply (cancel_reply reply o)
cancel_known reply o (inl is) = inl (rw is (cancel_refused NoOp o))
cancel_known reply o (inr is) = inr (rw is (cancel_released o))

-- ---- after any history

-- a Begin
begin_step : (l : LayoutParts) (s : Memory) (serial cpu : ℕ) (plan : List Item) (o : Option Refusal)
    → refusal_of l s cpu (Begin plan) ≡ o → IsBeginReply (step l s serial cpu (Begin plan)).reply
begin_step l s serial cpu plan None is = inl (serial, step_reply l s serial cpu (Begin plan) None is)
begin_step l s serial cpu plan (Some refusal) is =
    inr (refusal, step_reply l s serial cpu (Begin plan) (Some refusal) is)

pub begin_known : (l : LayoutParts) (base : Memory) (before : ℕ) (h : List Record) (cpu : ℕ)
    (plan : List Item)
    → IsBeginReply (reply_of l base before h cpu (Begin plan))
unfolding reply_of
begin_known l base before h cpu plan =
    begin_step l (value_of l base h) (before + length h + 1) cpu plan _ refl

-- the events of a driver, from a processor of the layout
pub driver_known : (l : LayoutParts) (base : Memory) (before : ℕ) (h : List Record) (cpu : ℕ) (event : Event)
    → cpu < l.cpus → IsDriverReply l.cpus event (reply_of l base before h cpu event)
unfolding reply_of
driver_known l base before h cpu (DrainFor op drained) inside =
    elim (cases_lt drained l.cpus) [
      | inl there ↦
          elim (drain_reply l (value_of l base h) (before + length h + 1) cpu op drained _ refl inside there)
          [ inl none ↦ inl none | inr done ↦ inr (λ less. done) ]
      | inr past ↦ inr (λ less. absurd (omega arith))
    ]
driver_known l base before h cpu (Migrate op) inside =
    migrate_reply l (value_of l base h) (before + length h + 1) cpu op _ _ _ refl refl refl inside
driver_known l base before h cpu (Commit op) inside =
    commit_reply l (value_of l base h) (before + length h + 1) cpu op _ _ refl refl inside
driver_known l base before h cpu (Cancel op) inside =
    cancel_known (step l (value_of l base h) (before + length h + 1) cpu (Cancel op)).reply
    (sole_at op (map tag_of (net_of h)))
    (release_reply l (value_of l base h) (before + length h + 1) cpu op _ refl inside)
driver_known l base before h cpu _ inside = inr tt

-- any event, from a processor that isn't in the layout
outside_effect : (l : LayoutParts) (before last : ℕ) (net : List Record) (s : Memory) (serial cpu : ℕ)
    (event : Event) (k : Effect)
    → l.cpus ≤ cpu → effect_reply l before last net s serial cpu event k ≡ Refused NoCpu
outside_effect l before last net s serial cpu event Looks out =
    step_reply l s serial cpu event (Some NoCpu) (refused_outside l s cpu event out)
outside_effect l before last net s serial cpu event (Undoes kept) out = rw (le-ltb cpu l.cpus out) refl
outside_effect l before last net s serial cpu event (Cancels op) out =
    ap (λ (r : Reply). cancel_reply r (sole_at op (map tag_of net))) (step_reply l s serial cpu event
    (Some NoCpu) (refused_outside l s cpu event out)) ∙ cancel_refused NoCpu (sole_at op (map tag_of net))
outside_effect l before last net s serial cpu event Acts out =
    step_reply l s serial cpu event (Some NoCpu) (refused_outside l s cpu event out)

outside_reply : (l : LayoutParts) (base : Memory) (before : ℕ) (h : List Record) (cpu : ℕ) (event : Event)
    → l.cpus ≤ cpu → reply_of l base before h cpu event ≡ Refused NoCpu
unfolding reply_of
outside_reply l base before h cpu event out =
    outside_effect l before (before + length h) (net_of h) (value_of l base h) (before + length h + 1) cpu
    event (effect_of event) out

-- ---- a processor's receipts

-- where no record of the processor opened an operation
none_opened : (cpu : ℕ) (h : List Record)
    → ((at : ℕ) (r : Record) → slice_get h at ≡ Some r → (r.cpu == cpu) ≡ true → is_opened r.reply ≡ false)
    → has_opened (receipts_of cpu h) ≡ false
none_opened cpu [] f = refl
none_opened cpu (x ∷ h) f = by_cpu (x.cpu == cpu) refl (none_opened cpu h (λ at r. f (suc at) r))
  where
    by_cpu : (b : Bool) → (x.cpu == cpu) ≡ b → has_opened (receipts_of cpu h) ≡ false
        → has_opened (receipts_of cpu (x ∷ h)) ≡ false
    by_cpu true is rest = rw (is, f 0 x refl is) rest
    by_cpu false is rest = rw is rest

-- a processor that opened an operation is in the layout
pub opened_inside : (l : LayoutParts) (base : Memory) (before : ℕ) (h : List Record) (cpu : ℕ)
    → IsLegal l base before h → has_opened (receipts_of cpu h) ≡ true → cpu < l.cpus
opened_inside l base before h cpu legal opened =
    elim (cases_lt cpu l.cpus) [
      | inl inside ↦ inside
      | inr out ↦ absurd (false≢true (sym (none_opened cpu h (λ at r here own.
          let same : r.cpu ≡ cpu = eqb-true r.cpu cpu own in
          ap is_opened ((legal at r here).reply
          ∙ outside_reply l base before _ r.cpu r.event (omega (arith, same, out)))))
          ∙ opened))
    ]

-- one record more
pub receipts_more : (cpu : ℕ) (h : List Record) (x : Record) → x.cpu ≡ cpu
    → receipts_of cpu (h ++ x ∷ []) ≡ receipts_of cpu h ++ receipt_of x ∷ []
receipts_more cpu h x own = rw (filter-append, map-append, eq-eqb x.cpu cpu own)
