-- Each step of a well placed state leads to one, and so does each history.
use Rattle.std.proofs.Common.{◌≡◌, ℕ, ◌/◌, ◌<◌, ◌≤◌, List, [], ◌∷◌, Bool, true, false, Option, Some, None, refl, arith}
use Rattle.std.specs.Prelude.{is_some, nat_le, nat_lt}
use Rattle.std.specs.Bool.{then_some}
use Rattle.std.proofs.lemmas.Bool.{leb-false, not-false, or_left, or_right, ltb-false}
use Rattle.std.proofs.lemmas.List.{get_or-set_same}
use Rattle.hp_units.specs.declared.rows.Auto.{Auto}
use Rattle.hp_units.specs.declared.rows.Auto.TheVariants.{Offline as OfflineAuto, OnlineMovable as MovableAuto}
use Rattle.hp_units.specs.declared.rows.State.TheVariants.{Absent as AbsentState}
use Rattle.hp_units.specs.declared.events.Event.{Event}
use Rattle.hp_laws.proofs.Names.{Record, Refusal, NoCpu, KernelAlloc, KernelFree, Map, Unmap, Write, Drain, Online, Begin, DrainFor, Migrate, Commit, Cancel, Probe, Remove, SetAuto}
use Rattle.hp_laws.proofs.Claims.{begin-placed, release-placed}
use Rattle.hp_laws.proofs.Commits.{commit-placed}
use Rattle.hp_laws.proofs.Migrations.{migrate-placed}
use Rattle.hp_laws.proofs.PageSteps.{kernel_alloc-placed, kernel_free-placed, map-placed, unmap-placed, write-placed}
use Rattle.hp_units.specs.History.{run, value_of}
use Rattle.hp_units.specs.Pages.{frame_at}
use Rattle.hp_units.specs.LayoutParts.{LayoutParts, IsLayout}
use Rattle.hp_units.specs.Arithmetic.{block_bytes}
use Rattle.hp_units.specs.Choices.{first_some}
use Rattle.hp_units.specs.Memory.{Memory, row_of, offline_row}
use Rattle.hp_units.specs.Refusals.{event_refusals, refusal_of}
use Rattle.hp_units.specs.Rows.{with_block_row, is_offline, is_absent}
use Rattle.hp_units.specs.Step.{answer, auto_online, perform, step}
use Rattle.hp_units.specs.Placement.{is_unplugged, IsWellPlaced}
use Rattle.hp_laws.proofs.OwnedContents.{all_none, none_rest}
use Rattle.hp_laws.proofs.States.{set_auto-placed}
use Rattle.hp_laws.proofs.Rows.{unplugged-placed}
use Rattle.hp_laws.proofs.Onlines.{online_block-placed}
use Rattle.hp_laws.proofs.Drains.{drain_lists-placed}

pub then_none : {A : Type 0} (b : Bool) (x : A) → then_some b x ≡ None → b ≡ false
then_none true x e = cc
then_none false x e = refl

pub below : {A : Type 0} (n m : ℕ) (x : A) → then_some (nat_le n m) x ≡ None → m < n
below n m x e = leb-false n m (then_none _ x e)

auto-placed : (l : LayoutParts) (auto : Auto) (s : Memory) (block : ℕ) → IsLayout l → IsWellPlaced l s
    → is_unplugged (row_of s.blocks block) ≡ true → block < l.blocks
    → IsWellPlaced l (auto_online l auto s block)
auto-placed l OfflineAuto s block layout p off low = p
auto-placed l MovableAuto s block layout p off low = online_block-placed l _ s block layout p off low
auto-placed l _ s block layout p off low = online_block-placed l _ s block layout p off low

pub probe-placed : (l : LayoutParts) (s : Memory) (block : ℕ) → IsLayout l → IsWellPlaced l s
    → is_unplugged (row_of s.blocks block) ≡ true → block < l.blocks
    → IsWellPlaced l (auto_online l s.blocks.auto (with_block_row s block offline_row) block)
probe-placed l s block layout p off low =
    let there : row_of (with_block_row s block offline_row).blocks block ≡ offline_row =
    get_or-set_same s.blocks.rows block offline_row offline_row (omega (arith, p.in_order.shape.rows)) in
    auto-placed l _ _ block layout
    (unplugged-placed l s block _ p off low (refl, refl) refl refl) (rw there) low

at_most : {A : Type 0} (n m : ℕ) (x : A) → then_some (nat_lt n m) x ≡ None → m ≤ n
at_most n m x e = ltb-false n m (then_none _ x e)

pub not_there : {X : Type 0} (o : Option X) → is_some o ≡ false → o ≡ None
not_there None e = refl
not_there (Some x) e = cc

-- what an event that isn't refused does keeps a state well placed
pub perform-placed : (l : LayoutParts) (s : Memory) (serial cpu : ℕ) (event : Event) → IsLayout l
    → IsWellPlaced l s → cpu < l.cpus → first_some (event_refusals l s cpu event) ≡ None
    → IsWellPlaced l (perform l s serial cpu event).memory
perform-placed l s serial cpu (KernelAlloc order) layout p low e =
    kernel_alloc-placed l s cpu order low layout p
    (at_most l.order order _ (all_none (event_refusals l s cpu (KernelAlloc order)) e).0)
perform-placed l s serial cpu (KernelFree frame) layout p low e =
    kernel_free-placed l s cpu frame low layout p
perform-placed l s serial cpu (Map owner page) layout p low e =
    let none = all_none (event_refusals l s cpu (Map owner page)) e in
    map-placed l s cpu owner page low layout p (below l.owners owner _ none.0) (below l.pages page _ none.1.0)
    (not_there (frame_at s.pages owner page) (then_none _ _ none.1.1.0))
perform-placed l s serial cpu (Unmap owner page) layout p low e = unmap-placed l s cpu owner page low p
perform-placed l s serial cpu (Write owner page index value) layout p low e =
    let none = all_none (event_refusals l s cpu (Write owner page index value)) e in
    write-placed l s owner page index value p (below l.owners owner _ none.0) (below l.pages page _ none.1.0)
perform-placed l s serial cpu (Drain drained) layout p low e =
    drain_lists-placed l s drained
    (below l.cpus drained _ (all_none (event_refusals l s cpu (Drain drained)) e).0) p
perform-placed l s serial cpu (Online block zone) layout p low e =
    let none = all_none (event_refusals l s cpu (Online block zone)) e in
    online_block-placed l zone s block layout p (or_left (is_offline (row_of s.blocks block)) (is_absent
    (row_of s.blocks block)) (not-false _ (then_none _ _ none.1.1.0))) (below l.blocks block _ none.0)
perform-placed l s serial cpu (Begin plan) layout p low e = begin-placed l s serial plan layout p e
perform-placed l s serial cpu (DrainFor op drained) layout p low e =
    drain_lists-placed l s drained
    (below l.cpus drained _ (all_none (event_refusals l s cpu (DrainFor op drained)) e).0) p
perform-placed l s serial cpu (Migrate op) layout p low e = migrate-placed l s op layout p
perform-placed l s serial cpu (Commit op) layout p low e =
    commit-placed l s op layout p
    (not-false _ (then_none _ _ (all_none (event_refusals l s cpu (Commit op)) e).1.0))
perform-placed l s serial cpu (Cancel op) layout p low e = release-placed l s op layout p
perform-placed l s serial cpu (Probe address) layout p low e =
    let none = all_none (event_refusals l s cpu (Probe address)) e in
    probe-placed l s (address / block_bytes l) layout p
    (or_right _ _ (not-false _ (then_none _ _ none.1.1.0)))
    (below l.blocks (address / block_bytes l) _ none.1.0)
perform-placed l s serial cpu (Remove block) layout p low e =
    let none = all_none (event_refusals l s cpu (Remove block)) e in
    unplugged-placed l s block (record offline_row { state = AbsentState }) p
    (or_left (is_offline (row_of s.blocks block)) (is_absent (row_of s.blocks block))
    (not-false _ (then_none _ _ none.1.1.0))) (below l.blocks block _ none.0) (refl, refl) refl refl
perform-placed l s serial cpu (SetAuto auto) layout p low e = set_auto-placed l s auto p
perform-placed l s serial cpu _ layout p low e = p

answer-placed : (l : LayoutParts) (s : Memory) (serial cpu : ℕ) (event : Event) (o : Option Refusal)
    → IsLayout l → IsWellPlaced l s → refusal_of l s cpu event ≡ o
    → IsWellPlaced l (answer l s serial cpu event o).memory
unfolding refusal_of
answer-placed l s serial cpu event (Some refusal) layout p e = p
answer-placed l s serial cpu event None layout p e =
    let none = all_none (then_some (nat_le l.cpus cpu) NoCpu ∷ event_refusals l s cpu event) e in
    perform-placed l s serial cpu event layout p (below l.cpus cpu _ none.0)
    (none_rest (then_some (nat_le l.cpus cpu) NoCpu) (event_refusals l s cpu event) e)

-- each step keeps a state well placed
pub step-placed : (l : LayoutParts) (s : Memory) (serial cpu : ℕ) (event : Event) → IsLayout l
    → IsWellPlaced l s → IsWellPlaced l (step l s serial cpu event).memory
unfolding step
step-placed l s serial cpu event layout p = answer-placed l s serial cpu event _ layout p refl

-- and so do steps one after another, and each history
pub run-placed : (l : LayoutParts) (s : Memory) (steps : List Record) → IsLayout l → IsWellPlaced l s
    → IsWellPlaced l (run l s steps)
unfolding run
run-placed l s [] layout p = p
run-placed l s (r ∷ rs) layout p =
    run-placed l (step l s r.serial r.cpu r.event).memory rs layout
    (step-placed l s r.serial r.cpu r.event layout p)

pub value-placed : (l : LayoutParts) (base : Memory) (history : List Record) → IsLayout l
    → IsWellPlaced l base → IsWellPlaced l (value_of l base history)
unfolding value_of
value-placed l base history layout p = run-placed l base _ layout p
