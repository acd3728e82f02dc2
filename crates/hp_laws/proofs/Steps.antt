-- All that is known of a step when a history is looked at: a refusal and a Read leave the state, no
-- step goes back to an earlier state, and a step that begins an operation names it by its serial.
use Rattle.std.proofs.Common.{◌≡◌, ℕ, true, false, Option, Some, None, refl}
use Rattle.std.specs.Option.{option_map_or}
use Rattle.hp_laws.proofs.Names.{Event, KernelAlloc, KernelFree, Map, Unmap, Read, Begin, Migrate, Cancel, Refusal, Done, Opened}
use Rattle.hp_units.specs.LayoutParts.{LayoutParts}
use Rattle.hp_units.specs.Memory.{Memory, kernel_order}
use Rattle.hp_units.specs.ProcessorLists.{page_frame}
use Rattle.hp_units.specs.Pages.{frame_at}
use Rattle.hp_units.specs.KernelBlocks.{kernel_block}
use Rattle.hp_units.specs.Migrations.{migration_target}
use Rattle.hp_units.specs.Step.{Answered, answer, kernel_gives, kernel_takes, map_step, migrate_step, perform, step, unmap_step}
use Rattle.hp_units.specs.History.{Looks, effect_of, goes_back, is_look, is_refused}

-- what is said of the answer to an event in a state
pub record IsOnward (s : Memory) (serial : ℕ) (event : Event) (a : Answered) : Type 0 where
  pub onward : goes_back a.reply ≡ false
  pub refused : is_refused a.reply ≡ true → a.memory ≡ s
  pub looks : effect_of event ≡ Looks → a.memory ≡ s
  pub opened : (op : ℕ) → a.reply ≡ Opened op → op ≡ serial

-- a refusal, and an answer that leaves the state
left : {s : Memory} {serial : ℕ} {event : Event} (a : Answered) → a.memory ≡ s → goes_back a.reply ≡ false
    → ((op : ℕ) → a.reply ≡ Opened op → op ≡ serial) → IsOnward s serial event a
left a same on opens = record { onward = on; refused = λ e. same; looks = λ e. same; opened = opens }

-- an event that is no Read was performed
made : {s : Memory} {serial : ℕ} {event : Event} (a : Answered) → is_refused a.reply ≡ false
    → goes_back a.reply ≡ false → (effect_of event ≡ Looks → ⊥)
    → ((op : ℕ) → a.reply ≡ Opened op → op ≡ serial) → IsOnward s serial event a
made a good on acts opens =
    record { onward = on; refused = λ e. absurd (cc (good, e)); looks = λ e. absurd (acts e); opened = opens }

-- done, of an event that is no Read
finished : {s : Memory} {serial : ℕ} {event : Event} (t : Memory) → (effect_of event ≡ Looks → ⊥)
    → IsOnward s serial event (record { memory = t; reply = Done })
finished t acts = made _ refl refl acts (λ op e. absurd cc)

-- by whether there is what the event asks for
by_option : {A : Type 0} {s : Memory} {serial : ℕ} {event : Event} (f : A → Answered) (o : Option A)
    (a : Answered)
    → ((x : A) → IsOnward s serial event (f x)) → IsOnward s serial event a
    → IsOnward s serial event (option_map_or f o a)
by_option f None a some none = none
by_option f (Some x) a some none = some x

-- the kernel takes a block
kernel_taken : (l : LayoutParts) (s : Memory) (serial cpu order : ℕ)
    → IsOnward s serial (KernelAlloc order) (kernel_takes l s cpu order)
unfolding kernel_takes
kernel_taken l s serial cpu order =
    by_option _ (kernel_block l s.free cpu order) _ (λ handed. made _ refl refl (λ e. cc) (λ op e. absurd cc))
    (finished s (λ e. cc))

-- the kernel gives a block back
kernel_given : (l : LayoutParts) (s : Memory) (serial cpu frame : ℕ)
    → IsOnward s serial (KernelFree frame) (kernel_gives l s cpu frame)
unfolding kernel_gives
kernel_given l s serial cpu frame =
    by_option _ (kernel_order s frame) _ (λ order. finished _ (λ e. cc)) (finished s (λ e. cc))

-- a page is mapped
mapped : (l : LayoutParts) (s : Memory) (serial cpu owner page : ℕ)
    → IsOnward s serial (Map owner page) (map_step l s cpu owner page)
unfolding map_step
mapped l s serial cpu owner page =
    by_option _ (page_frame l s.free cpu) _ (λ handed. finished _ (λ e. cc)) (finished s (λ e. cc))

-- a page is unmapped
unmapped : (l : LayoutParts) (s : Memory) (serial cpu owner page : ℕ)
    → IsOnward s serial (Unmap owner page) (unmap_step l s cpu owner page)
unfolding unmap_step
unmapped l s serial cpu owner page =
    by_option _ (frame_at s.pages owner page) _ (λ frame. finished _ (λ e. cc)) (finished s (λ e. cc))

-- a page moves
migrated : (l : LayoutParts) (s : Memory) (serial op : ℕ)
    → IsOnward s serial (Migrate op) (migrate_step l s op)
unfolding migrate_step
migrated l s serial op =
    by_option _ _ _ (λ from. by_option _ (migration_target l s.free.areas) _
    (λ taken. made _ refl refl (λ e. cc) (λ op e. absurd cc)) (finished s (λ e. cc)))
    (finished s (λ e. cc))

-- an event that is not refused
performed : (l : LayoutParts) (s : Memory) (serial cpu : ℕ) (event : Event)
    → IsOnward s serial event (perform l s serial cpu event)
performed l s serial cpu (KernelAlloc order) = kernel_taken l s serial cpu order
performed l s serial cpu (KernelFree frame) = kernel_given l s serial cpu frame
performed l s serial cpu (Map owner page) = mapped l s serial cpu owner page
performed l s serial cpu (Unmap owner page) = unmapped l s serial cpu owner page
performed l s serial cpu (Read owner page index) = left _ refl refl (λ op e. absurd cc)
performed l s serial cpu (Begin plan) = made _ refl refl (λ e. cc) (λ op e. cc)
performed l s serial cpu (Migrate op) = migrated l s serial op
performed l s serial cpu (Cancel op) = made _ refl refl (λ e. cc) (λ op e. absurd cc)
performed l s serial cpu _ = finished _ (λ e. cc)

-- an event, by its refusal
answered : (l : LayoutParts) (s : Memory) (serial cpu : ℕ) (event : Event) (o : Option Refusal)
    → IsOnward s serial event (answer l s serial cpu event o)
answered l s serial cpu event None = performed l s serial cpu event
answered l s serial cpu event (Some refusal) = left _ refl refl (λ op e. absurd cc)

-- each step
pub steps : (l : LayoutParts) (s : Memory) (serial cpu : ℕ) (event : Event)
    → IsOnward s serial event (step l s serial cpu event)
unfolding step
steps l s serial cpu event = answered l s serial cpu event _

-- an event that only reads
pub is_look_effect : (event : Event) → is_look event ≡ true → effect_of event ≡ Looks
is_look_effect (Read owner page index) e = refl
is_look_effect _ e = absurd cc
