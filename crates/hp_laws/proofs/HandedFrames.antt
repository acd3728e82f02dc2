-- Where the frames lie that a step hands out.
use Rattle.std.proofs.Common.{◌≡◌, ℕ, zero, suc, ◌<◌, false, ◌∷◌, Option, Some, None, refl, sym, ◌∙◌, IfSome}
use Rattle.std.specs.Prelude.{nat_le}
use Rattle.std.specs.Bool.{then_some}
use Rattle.std.specs.Option.{option_map_or}
use Rattle.std.proofs.lemmas.Bool.{false_from_ne_true}
use Rattle.hp_units.specs.declared.rows.Row.{Row}
use Rattle.hp_units.specs.declared.rows.Zone.{Zone}
use Rattle.hp_units.specs.declared.rows.Zone.TheVariants.{Normal as NormalZone}
use Rattle.hp_units.specs.LayoutParts.{LayoutParts, IsLayout}
use Rattle.hp_units.specs.Arithmetic.{block_of, pageblock_of}
use Rattle.hp_units.specs.Choices.{first_some}
use Rattle.hp_units.specs.Contents.{handed_by_reply}
use Rattle.hp_units.specs.Memory.{Memory, kernel_order, row_of}
use Rattle.hp_units.specs.FreeAreas.{Taken}
use Rattle.hp_units.specs.Pages.{frame_at}
use Rattle.hp_units.specs.ProcessorLists.{handed_from, page_frame}
use Rattle.hp_units.specs.KernelBlocks.{kernel_block}
use Rattle.hp_units.specs.Migrations.{migration_source, migration_target}
use Rattle.hp_units.specs.Refusals.{event_refusals, refusal_of}
use Rattle.hp_units.specs.Rows.{is_going}
use Rattle.hp_units.specs.Step.{Answered, answer, done, kernel_gives, kernel_takes, map_step, migrate_step, perform, step, unmap_step}
use Rattle.hp_units.specs.Placement.{IsInOrder, IsWellPlaced, is_unplugged, row_at}
use Rattle.hp_laws.proofs.Names.{Event, Reply, Refusal, NoCpu, Moved, KernelAlloc, KernelFree, Map, Unmap, Migrate}
use Rattle.hp_laws.proofs.Options.{some_weaker, option_cases}
use Rattle.hp_laws.proofs.OwnedContents.{all_none, none_rest}
use Rattle.hp_laws.proofs.States.{block_of-pageblock}
use Rattle.hp_laws.proofs.Rows.{unplugged_zone}
use Rattle.hp_laws.proofs.Steals.{TakesPlaced, kernel_large-placed}
use Rattle.hp_units.proofs.Tables.{entry-same, table_of}
use Rattle.hp_laws.proofs.PageSteps.{kernel_frame-placed, page_frame-placed}
use Rattle.hp_laws.proofs.Migrations.{TakesSome, target-placed}
use Rattle.hp_laws.proofs.EventSteps.{below, not_there, then_none}

-- a frame's block is neither offline nor absent
abbrev pub IsPlugged : LayoutParts → Memory → ℕ → Type 0
IsPlugged l s frame = is_unplugged (row_of s.blocks (block_of l frame)) ≡ false

zone_plugged : (l : LayoutParts) (s : Memory) (frame : ℕ) (zone : Zone) → IsInOrder l s
    → (row_at l s.blocks.rows (pageblock_of l frame)).zone ≡ Some zone → IsPlugged l s frame
zone_plugged l s frame zone h e =
    let row : Row = row_of s.blocks (block_of l frame) in
    let is : row.zone ≡ Some zone = rw (block_of-pageblock l frame) e in
    false_from_ne_true (is_unplugged row) (λ off.
    cc (unplugged_zone _ _ _ off (h.rows (block_of l frame)), is))

-- ---- what each event hands out

-- what an answer hands out
abbrev HandsPlugged : LayoutParts → Memory → Event → Answered → Type 0
HandsPlugged l s event a = IfSome (handed_by_reply a.memory event a.reply) (IsPlugged l s)

kernel_block-plugged : (l : LayoutParts) (s : Memory) (cpu order : ℕ) → cpu < l.cpus → IsLayout l
    → IsWellPlaced l s → IfSome (kernel_block l s.free cpu order) (λ handed. IsPlugged l s handed.frame)
kernel_block-plugged l s cpu zero low layout p =
    some_weaker _ (λ handed. IsPlugged l s handed.frame)
    (λ handed h. zone_plugged l s _ _ p.in_order h.zone_is) _ (kernel_frame-placed l s cpu low layout p)
kernel_block-plugged l s cpu (suc below) low layout p = from_taken _ (kernel_large-placed l s below layout p)
  where
    from_taken : (o : Option Taken) → IfSome o (TakesPlaced l s NormalZone (suc below))
        → IfSome (handed_from s.free o) (λ handed. IsPlugged l s handed.frame)
    from_taken None h = tt
    from_taken (Some taken) h = zone_plugged l s _ _ p.in_order h.zone_is

alloc-plugged : (l : LayoutParts) (s : Memory) (cpu order : ℕ) → cpu < l.cpus → IsLayout l → IsWellPlaced l s
    → HandsPlugged l s (KernelAlloc order) (kernel_takes l s cpu order)
unfolding kernel_takes
alloc-plugged l s cpu order low layout p =
    option_cases (λ a. HandsPlugged l s (KernelAlloc order) a) _ (kernel_block l s.free cpu order) _
    (λ handed is. rw is at (kernel_block-plugged l s cpu order low layout p)) (λ none. tt)

map-plugged : (l : LayoutParts) (s : Memory) (cpu owner page : ℕ) → cpu < l.cpus → IsLayout l
    → IsWellPlaced l s → owner < l.owners → page < l.pages → frame_at s.pages owner page ≡ None
    → HandsPlugged l s (Map owner page) (map_step l s cpu owner page)
unfolding map_step
map-plugged l s cpu owner page low layout p some_owner some_page none =
    option_cases (λ a. HandsPlugged l s (Map owner page) a) _ (page_frame l s.free cpu) _ (λ handed is.
    let h = rw is at (page_frame-placed l s cpu low layout p) in
    rw (entry-same l.owners l.pages s.pages.table owner page (Some handed.frame) some_owner some_page
    (table_of l s p.in_order)) (zone_plugged l s handed.frame h.0 p.in_order h.1.zone_is)) (λ e. rw none tt)

-- ---- a page moves to a block that isn't going

-- the frame that a page moves to
abbrev pub to_of : Reply → Option ℕ
to_of (Moved from to) = Some to
to_of reply = None

-- it lies in a block that is neither offline nor absent nor going
pub record IsStaying (l : LayoutParts) (s : Memory) (frame : ℕ) : Type 0 where
  pub plugged : IsPlugged l s frame
  pub still : is_going (row_of s.blocks (block_of l frame)) ≡ false

staying : (l : LayoutParts) (s : Memory) (taken : Taken) → IsWellPlaced l s → TakesSome l s taken
    → IsStaying l s taken.frame
staying l s taken p t = record {
  plugged = zone_plugged l s _ t.0 p.in_order t.1.zone_is;
  still = rw (block_of-pageblock l _) (sym (p.in_order.isolated (pageblock_of l taken.frame)) ∙ t.1.shown);
}

migrate-staying : (l : LayoutParts) (s : Memory) (op : ℕ) → IsLayout l → IsWellPlaced l s
    → IfSome (to_of (migrate_step l s op).reply) (IsStaying l s)
unfolding migrate_step
migrate-staying l s op layout p =
    option_cases (λ (a : Answered). IfSome (to_of a.reply) (IsStaying l s)) _ (migration_source l s op) _
    (λ from source. option_cases (λ (a : Answered). IfSome (to_of a.reply) (IsStaying l s)) _
    (migration_target l s.free.areas) _
    (λ taken is. staying l s taken p (rw is at (target-placed l s layout p))) (λ none. tt)) (λ none. tt)

migrate-plugged : (l : LayoutParts) (s : Memory) (op : ℕ) → IsLayout l → IsWellPlaced l s
    → HandsPlugged l s (Migrate op) (migrate_step l s op)
unfolding migrate_step
migrate-plugged l s op layout p =
    option_cases (λ a. HandsPlugged l s (Migrate op) a) _ (migration_source l s op) _ (λ from source.
    option_cases (λ a. HandsPlugged l s (Migrate op) a) _ (migration_target l s.free.areas) _ (λ taken is.
    let t = rw is at (target-placed l s layout p) in
    zone_plugged l s taken.frame t.0 p.in_order t.1.zone_is) (λ none. tt)) (λ none. tt)

-- ---- a step

perform-plugged : (l : LayoutParts) (s : Memory) (serial cpu : ℕ) (event : Event) → IsLayout l
    → IsWellPlaced l s → cpu < l.cpus → first_some (event_refusals l s cpu event) ≡ None
    → HandsPlugged l s event (perform l s serial cpu event)
unfolding kernel_gives unmap_step
perform-plugged l s serial cpu (KernelAlloc order) layout p low e = alloc-plugged l s cpu order low layout p
perform-plugged l s serial cpu (KernelFree frame) layout p low e =
    option_cases (λ a. HandsPlugged l s (KernelFree frame) a) _ (kernel_order s frame) _ (λ order is. tt)
    (λ none. tt)
perform-plugged l s serial cpu (Map owner page) layout p low e =
    let none = all_none (event_refusals l s cpu (Map owner page)) e in
    map-plugged l s cpu owner page low layout p (below l.owners owner _ none.0)
    (below l.pages page _ none.1.0) (not_there (frame_at s.pages owner page) (then_none _ _ none.1.1.0))
perform-plugged l s serial cpu (Unmap owner page) layout p low e =
    option_cases (λ a. HandsPlugged l s (Unmap owner page) a) _ (frame_at s.pages owner page) _
    (λ frame is. tt) (λ none. tt)
perform-plugged l s serial cpu (Migrate op) layout p low e = migrate-plugged l s op layout p
perform-plugged l s serial cpu _ layout p low e = tt

answer-plugged : (l : LayoutParts) (s : Memory) (serial cpu : ℕ) (event : Event) (o : Option Refusal)
    → IsLayout l → IsWellPlaced l s → refusal_of l s cpu event ≡ o
    → HandsPlugged l s event (answer l s serial cpu event o)
unfolding refusal_of
answer-plugged l s serial cpu event (Some refusal) layout p e = tt
answer-plugged l s serial cpu event None layout p e =
    let none = all_none (then_some (nat_le l.cpus cpu) NoCpu ∷ event_refusals l s cpu event) e in
    perform-plugged l s serial cpu event layout p (below l.cpus cpu _ none.0)
    (none_rest (then_some (nat_le l.cpus cpu) NoCpu) (event_refusals l s cpu event) e)

-- a frame that a step hands out lies in no block that was offline or absent
pub step-plugged : (l : LayoutParts) (s : Memory) (serial cpu : ℕ) (event : Event) → IsLayout l
    → IsWellPlaced l s → HandsPlugged l s event (step l s serial cpu event)
unfolding step
step-plugged l s serial cpu event layout p = answer-plugged l s serial cpu event _ layout p refl

-- ---- only a migration moves a page

moves_nothing : {X : Type 0} (l : LayoutParts) (s : Memory) (f : X → Answered) (o : Option X)
    → ((x : X) → to_of (f x).reply ≡ None) → IfSome (to_of (option_map_or f o (done s)).reply) (IsStaying l s)
moves_nothing l s f None h = tt
moves_nothing l s f (Some x) h = rw (h x) tt

perform-staying : (l : LayoutParts) (s : Memory) (serial cpu : ℕ) (event : Event) → IsLayout l
    → IsWellPlaced l s → IfSome (to_of (perform l s serial cpu event).reply) (IsStaying l s)
unfolding kernel_takes kernel_gives map_step unmap_step
perform-staying l s serial cpu (KernelAlloc order) layout p =
    moves_nothing l s _ (kernel_block l s.free cpu order) (λ handed. refl)
perform-staying l s serial cpu (KernelFree frame) layout p =
    moves_nothing l s _ (kernel_order s frame) (λ order. refl)
perform-staying l s serial cpu (Map owner page) layout p =
    moves_nothing l s _ (page_frame l s.free cpu) (λ handed. refl)
perform-staying l s serial cpu (Unmap owner page) layout p =
    moves_nothing l s _ (frame_at s.pages owner page) (λ frame. refl)
perform-staying l s serial cpu (Migrate op) layout p = migrate-staying l s op layout p
perform-staying l s serial cpu _ layout p = tt

answer-staying : (l : LayoutParts) (s : Memory) (serial cpu : ℕ) (event : Event) (o : Option Refusal)
    → IsLayout l → IsWellPlaced l s → IfSome (to_of (answer l s serial cpu event o).reply) (IsStaying l s)
answer-staying l s serial cpu event (Some refusal) layout p = tt
answer-staying l s serial cpu event None layout p = perform-staying l s serial cpu event layout p

-- a page that a step moves goes to a block that isn't going
pub step-staying : (l : LayoutParts) (s : Memory) (serial cpu : ℕ) (event : Event) → IsLayout l
    → IsWellPlaced l s → IfSome (to_of (step l s serial cpu event).reply) (IsStaying l s)
unfolding step
step-staying l s serial cpu event layout p = answer-staying l s serial cpu event _ layout p
