-- What one step does to the rows of memory blocks: a claimed row changes only where its operation
-- ends.
use Rattle.std.proofs.Common.{◌≡◌, ◌≢◌, ℕ, ◌/◌, ◌<◌, ◌≤◌, true, false, Option, Some, None, refl, ap, arith, ◌⊎◌, inl, inr, eqb-true}
use Rattle.std.specs.Prelude.{nat_le}
use Rattle.std.specs.Bool.{then_some}
use Rattle.std.proofs.lemmas.Bool.{both_ways, cases_lt, not-false, cond_both}
use Rattle.std.proofs.lemmas.List.{get_or_past}
use Rattle.hp_units.specs.declared.rows.State.TheVariants.{Absent as AbsentState}
use Rattle.hp_units.specs.LayoutParts.{LayoutParts, IsLayout}
use Rattle.hp_units.specs.Arithmetic.{block_bytes}
use Rattle.hp_units.specs.Choices.{first_some}
use Rattle.hp_units.specs.Memory.{Memory, offline_row, row_of}
use Rattle.hp_units.specs.Refusals.{event_refusals, refusal_of}
use Rattle.hp_units.specs.Rows.{is_claimed_by, commit_blocks, release_blocks}
use Rattle.hp_units.specs.Step.{answer, perform, step}
use Rattle.hp_units.specs.Placement.{IsWellPlaced}
use Rattle.hp_laws.specs.Operations.{ends}
use Rattle.hp_laws.proofs.Names.{Event, Refusal, NoCpu, KernelAlloc, KernelFree, Map, Unmap, Online, Begin, Migrate, Commit, Cancel, Probe, Remove}
use Rattle.hp_laws.proofs.EventSteps.{below, step-placed, then_none}
use Rattle.hp_laws.proofs.OwnedContents.{all_none, none_rest}
use Rattle.hp_laws.proofs.OperationRows.{commit-row, release-row}
use Rattle.hp_laws.proofs.StepBlocks.{kernel_takes-blocks, kernel_gives-blocks, map_step-blocks, unmap_step-blocks}
use Rattle.hp_laws.proofs.OperationEvents.{IsRowStep, row_stays, no_claim, without_claim, set_free, migrate_step-blocks, online_block-row, probe-row, begin_step-row, released_claim, committed_claim, commit_step-row, cancel_step-row}

-- ---- a step

perform-row : (l : LayoutParts) (s : Memory) (serial cpu : ℕ) (event : Event) (op block : ℕ)
    → IsWellPlaced l s → first_some (event_refusals l s cpu event) ≡ None → block < l.blocks
    → IsRowStep op serial event (row_of s.blocks block)
    (row_of (perform l s serial cpu event).memory.blocks block)
perform-row l s serial cpu (KernelAlloc order) op block p e low =
    row_stays op serial _ _ _ (rw (kernel_takes-blocks l s cpu order))
perform-row l s serial cpu (KernelFree frame) op block p e low =
    row_stays op serial _ _ _ (rw (kernel_gives-blocks l s cpu frame))
perform-row l s serial cpu (Map owner page) op block p e low =
    row_stays op serial _ _ _ (rw (map_step-blocks l s cpu owner page))
perform-row l s serial cpu (Unmap owner page) op block p e low =
    row_stays op serial _ _ _ (rw (unmap_step-blocks l s cpu owner page))
perform-row l s serial cpu (Migrate other) op block p e low =
    row_stays op serial _ _ _ (rw (migrate_step-blocks l s other))
perform-row l s serial cpu (Online at zone) op block p e low =
    online_block-row l op serial _ zone s at block (omega (arith, p.in_order.shape.rows))
    (without_claim (row_of s.blocks at)
    (then_none _ _ (all_none (event_refusals l s cpu (Online at zone)) e).1.0))
perform-row l s serial cpu (Begin plan) op block p e low =
    begin_step-row l op serial s plan block low p.in_order.shape.rows e
perform-row l s serial cpu (Commit other) op block p e low =
    commit_step-row l op serial other s block low p.in_order.shape.rows
perform-row l s serial cpu (Cancel other) op block p e low =
    cancel_step-row l op serial other s block low p.in_order.shape.rows
perform-row l s serial cpu (Probe address) op block p e low =
    let none = all_none (event_refusals l s cpu (Probe address)) e in
    probe-row l op serial (Probe address) s (address / block_bytes l) block p
    (below l.blocks (address / block_bytes l) _ none.1.0)
    (not-false _ (then_none _ _ none.1.1.0)) (omega (arith, p.in_order.shape.rows))
perform-row l s serial cpu (Remove at) op block p e low =
    set_free op serial (Remove at) s.blocks.rows at block (record offline_row { state = AbsentState })
    (omega (arith, p.in_order.shape.rows))
    (without_claim (row_of s.blocks at) (then_none _ _ (all_none (event_refusals l s cpu (Remove at)) e).1.0))
    refl
perform-row l s serial cpu _ op block p e low = row_stays op serial _ _ _ refl

answer-row : (l : LayoutParts) (s : Memory) (serial cpu : ℕ) (event : Event) (o : Option Refusal)
    (op block : ℕ)
    → IsWellPlaced l s → refusal_of l s cpu event ≡ o → block < l.blocks
    → IsRowStep op serial event (row_of s.blocks block)
    (row_of (answer l s serial cpu event o).memory.blocks block)
unfolding refusal_of
answer-row l s serial cpu event (Some refusal) op block p e low =
    row_stays op serial event (row_of s.blocks block) (row_of s.blocks block) refl
answer-row l s serial cpu event None op block p e low =
    perform-row l s serial cpu event op block p
    (none_rest (then_some (nat_le l.cpus cpu) NoCpu) (event_refusals l s cpu event) e) low

-- each row of the layout is changed by a step as told above
pub step-row : (l : LayoutParts) (s : Memory) (serial cpu : ℕ) (event : Event) (op block : ℕ)
    → IsWellPlaced l s → block < l.blocks
    → IsRowStep op serial event (row_of s.blocks block)
    (row_of (step l s serial cpu event).memory.blocks block)
unfolding step
step-row l s serial cpu event op block p low = answer-row l s serial cpu event _ op block p refl low

-- ---- an operation ends

end_event : (op : ℕ) (event : Event) → ends op event ≡ true → (event ≡ Commit op) ⊎ (event ≡ Cancel op)
end_event op (Commit other) e = inl (rw (eqb-true other op e))
end_event op (Cancel other) e = inr (rw (eqb-true other op e))
end_event op event e = absurd cc

commit_frees : (l : LayoutParts) (s : Memory) (op block : ℕ) → IsWellPlaced l s → block < l.blocks
    → is_claimed_by op (row_of (commit_blocks l s op).blocks block) ≡ false
commit_frees l s op block p low =
    rw (commit-row l s op block low p.in_order.shape.rows)
    (cond_both (is_claimed_by op (row_of s.blocks block)) _ _ (λ row. is_claimed_by op row ≡ false)
    (λ e. no_claim op _ (committed_claim op _ e)) (λ e. e))

cancel_frees : (l : LayoutParts) (s : Memory) (op block : ℕ) → IsWellPlaced l s → block < l.blocks
    → is_claimed_by op (row_of (release_blocks l s op).blocks block) ≡ false
cancel_frees l s op block p low =
    rw (release-row l s op block low p.in_order.shape.rows)
    (cond_both (is_claimed_by op (row_of s.blocks block)) _ _ (λ row. is_claimed_by op row ≡ false)
    (λ e. no_claim op _ (released_claim (row_of s.blocks block))) (λ e. e))

perform_frees : (l : LayoutParts) (s : Memory) (serial cpu : ℕ) (event : Event) (op block : ℕ)
    → IsWellPlaced l s → ends op event ≡ true → block < l.blocks
    → is_claimed_by op (row_of (perform l s serial cpu event).memory.blocks block) ≡ false
perform_frees l s serial cpu event op block p e low = elim (end_event op event e) [
  | inl is ↦ rw is (commit_frees l s op block p low)
  | inr is ↦ rw is (cancel_frees l s op block p low)
]

-- no row carries the operation's claim
abbrev pub IsOver : ℕ → Memory → Type 0
IsOver op s = (block : ℕ) → is_claimed_by op (row_of s.blocks block) ≡ false

-- rows that aren't there have no claim
past_over : (l : LayoutParts) (s : Memory) (op block : ℕ) → IsWellPlaced l s → l.blocks ≤ block
    → is_claimed_by op (row_of s.blocks block) ≡ false
past_over l s op block p high =
    ap (is_claimed_by op) (get_or_past _ block offline_row (omega (arith, p.in_order.shape.rows)))

-- so a claimed row is a row of the layout
pub claimed_low : (l : LayoutParts) (s : Memory) (op block : ℕ) → IsWellPlaced l s
    → is_claimed_by op (row_of s.blocks block) ≡ true → block < l.blocks
claimed_low l s op block p mine = elim (cases_lt block l.blocks) [
  | inl low ↦ low
  | inr high ↦
      absurd (both_ways (is_claimed_by op (row_of s.blocks block)) (past_over l s op block p high) mine)
]

ended_answer : (l : LayoutParts) (s : Memory) (serial cpu : ℕ) (event : Event) (o : Option Refusal) (op : ℕ)
    → IsWellPlaced l s → ends op event ≡ true
    → ((answer l s serial cpu event o).memory ≡ s) ⊎ ((block : ℕ) → block < l.blocks
    → is_claimed_by op (row_of (answer l s serial cpu event o).memory.blocks block) ≡ false)
ended_answer l s serial cpu event (Some refusal) op p e = inl refl
ended_answer l s serial cpu event None op p e =
    inr (λ block low. perform_frees l s serial cpu event op block p e low)

-- an event that ends the operation is refused, or ends it
pub step-ends : (l : LayoutParts) (s : Memory) (serial cpu : ℕ) (event : Event) (op : ℕ) → IsLayout l
    → IsWellPlaced l s → ends op event ≡ true
    → ((step l s serial cpu event).memory ≡ s) ⊎ IsOver op (step l s serial cpu event).memory
unfolding step
step-ends l s serial cpu event op layout p e = elim (ended_answer l s serial cpu event _ op p e) [
  | inl same ↦ inl same
  | inr frees ↦ inr (λ block. elim (cases_lt block l.blocks) [
    | inl low ↦ frees block low
    | inr high ↦ past_over l _ op block (step-placed l s serial cpu event layout p) high
  ])
]

-- an operation that is over stays over, as no later step has its number
pub step-over : (l : LayoutParts) (s : Memory) (serial cpu : ℕ) (event : Event) (op : ℕ) → IsLayout l
    → IsWellPlaced l s → serial ≢ op → IsOver op s → IsOver op (step l s serial cpu event).memory
step-over l s serial cpu event op layout p ne over block = elim (cases_lt block l.blocks) [
  | inl low ↦ (step-row l s serial cpu event op block p low).free (over block) ne
  | inr high ↦ past_over l _ op block (step-placed l s serial cpu event layout p) high
]
