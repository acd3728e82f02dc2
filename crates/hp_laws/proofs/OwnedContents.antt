-- The contents of the pages are those that the net alone gives.
use Rattle.std.proofs.lemmas.Bool.{cond_both}
use Rattle.std.proofs.Common.{◌≡◌, ℕ, zero, suc, List, [], ◌∷◌, Option, Some, None, false, refl, ◌∙◌, ap}
use Rattle.std.specs.Prelude.{fold, nat_le}
use Rattle.std.specs.Bool.{then_some}
use Rattle.std.specs.Option.{option_map_or}
use Rattle.hp_units.specs.declared.rows.Zone.{Zone}
use Rattle.hp_units.specs.declared.rows.Wish.{Wish}
use Rattle.hp_units.specs.declared.rows.Wish.TheVariants.{Off as OffWish}
use Rattle.hp_units.specs.declared.rows.Auto.{Auto}
use Rattle.hp_units.specs.declared.rows.Auto.TheVariants.{Offline as OfflineAuto}
use Rattle.hp_units.specs.declared.rows.Claim.{Claim}
use Rattle.hp_units.specs.declared.plans.Item.{Item}
use Rattle.hp_units.specs.declared.events.Event.{Event}
use Rattle.hp_units.specs.declared.events.Event.TheVariants.{KernelAlloc, KernelFree, Map, Unmap, Online, Begin, Migrate, Commit, Cancel, Probe}
use Rattle.hp_units.specs.declared.replies.Refusal.{Refusal}
use Rattle.hp_units.specs.declared.replies.Refusal.TheVariants.{NoCpu, NoFrame, NotMapped}
use Rattle.hp_units.specs.declared.replies.Record.{Record}
use Rattle.hp_units.specs.LayoutParts.{LayoutParts}
use Rattle.hp_units.specs.Choices.{first_some, unless_some}
use Rattle.hp_units.specs.Arithmetic.{all_blocks}
use Rattle.hp_units.specs.Memory.{Memory, Pages, with_entry, row_of}
use Rattle.hp_units.specs.ProcessorLists.{page_frame}
use Rattle.hp_units.specs.Pages.{page_at, frame_at, move_page}
use Rattle.hp_units.specs.Rows.{blocks_of, is_going, wish_of, claim_block, begin_block, begin_plan, grant, commit_block, commit_blocks, release_block, release_blocks, online_block}
use Rattle.hp_units.specs.Migrations.{migration_source, migration_target}
use Rattle.hp_units.specs.Refusals.{event_refusals, refusal_of}
use Rattle.hp_units.specs.Step.{Answered, done, kernel_takes, kernel_gives, give_back, map_step, unmap_step, migrate_step, auto_online, perform, answer, step}
use Rattle.hp_units.specs.Contents.{contents_after}
use Rattle.hp_units.specs.History.{is_refused}

abbrev pub Contents : Type 0
Contents = List (List (Option (List ℕ)))

-- ---- operations on blocks leave the pages

fold-pages : {X : Type 0} (f : Memory → X → Memory) → ((s : Memory) (x : X) → (f s x).pages ≡ s.pages)
    → (s : Memory) (xs : List X) → (fold f s xs).pages ≡ s.pages
fold-pages f h s [] = refl
fold-pages f h s (x ∷ xs) = fold-pages f h _ xs ∙ h s x

online_block-pages : (l : LayoutParts) (zone : Zone) (s : Memory) (block : ℕ)
    → (online_block l zone s block).pages ≡ s.pages
unfolding online_block
online_block-pages l zone s block = refl

claim_block-pages : (l : LayoutParts) (op : ℕ) (s : Memory) (block : ℕ) (wish : Wish)
    → (claim_block l op s block wish).pages ≡ s.pages
claim_block-pages l op s block OffWish = refl
claim_block-pages l op s block _ = refl

option-pages : {X : Type 0} (f : X → Memory) (s : Memory) (o : Option X) → ((x : X) → (f x).pages ≡ s.pages)
    → (option_map_or f o s).pages ≡ s.pages
option-pages f s None h = refl
option-pages f s (Some x) h = h x

begin_plan-pages : (l : LayoutParts) (s : Memory) (op : ℕ) (plan : List Item)
    → (begin_plan l s op plan).pages ≡ s.pages
unfolding begin_plan
begin_plan-pages l s op plan =
    fold-pages (begin_block l op plan) (λ t block. option-pages (claim_block l op t block) t
    (wish_of plan block) (claim_block-pages l op t block)) s (all_blocks l)

grant-pages : (l : LayoutParts) (s : Memory) (block : ℕ) (wish : Wish)
    → (grant l s block wish).pages ≡ s.pages
unfolding online_block
grant-pages l s block OffWish = refl
grant-pages l s block _ = refl

commit_blocks-pages : (l : LayoutParts) (s : Memory) (op : ℕ) → (commit_blocks l s op).pages ≡ s.pages
unfolding commit_blocks
commit_blocks-pages l s op =
    fold-pages (commit_block l) (λ t block. option-pages (λ (claim : Claim). grant l t block claim.wish) t
    (row_of t.blocks block).claim (λ claim. grant-pages l t block claim.wish)) s (blocks_of l s.blocks op)

release_blocks-pages : (l : LayoutParts) (s : Memory) (op : ℕ) → (release_blocks l s op).pages ≡ s.pages
unfolding release_blocks
release_blocks-pages l s op =
    fold-pages (release_block l) (λ t block. cond_both (is_going (row_of t.blocks block)) _ _
    (λ (u : Memory). u.pages ≡ t.pages) (λ going. refl) (λ still. refl)) s (blocks_of l s.blocks op)

auto_online-pages : (l : LayoutParts) (auto : Auto) (s : Memory) (block : ℕ)
    → (auto_online l auto s block).pages ≡ s.pages
unfolding online_block
auto_online-pages l OfflineAuto s block = refl
auto_online-pages l _ s block = refl

give_back-pages : (l : LayoutParts) (s : Memory) (cpu frame order : ℕ)
    → (give_back l s cpu frame order).pages ≡ s.pages
give_back-pages l s cpu frame zero = refl
give_back-pages l s cpu frame (suc below) = refl

-- ---- what an event that isn't refused does to the contents

answered-contents : {X : Type 0} (f : X → Answered) (s : Memory) (o : Option X)
    → ((x : X) → (f x).memory.pages.contents ≡ s.pages.contents)
    → (option_map_or f o (done s)).memory.pages.contents ≡ s.pages.contents
answered-contents f s None h = refl
answered-contents f s (Some x) h = h x

kernel_takes-contents : (l : LayoutParts) (s : Memory) (cpu order : ℕ)
    → (kernel_takes l s cpu order).memory.pages.contents ≡ s.pages.contents
unfolding kernel_takes
kernel_takes-contents l s cpu order = answered-contents _ s _ (λ handed. refl)

kernel_gives-contents : (l : LayoutParts) (s : Memory) (cpu frame : ℕ)
    → (kernel_gives l s cpu frame).memory.pages.contents ≡ s.pages.contents
unfolding kernel_gives
kernel_gives-contents l s cpu frame =
    answered-contents _ s _ (λ order. ap (λ (p : Pages). p.contents) (give_back-pages l _ cpu frame order))

move_page-contents : (ps : Pages) (from to : ℕ) → (move_page ps from to).contents ≡ ps.contents
move_page-contents ps from to = at (page_at ps from)
  where
    at : (o : Option (ℕ × ℕ))
        → (option_map_or (λ (page : ℕ × ℕ). record ps { table = with_entry ps.table page.0 page.1 (Some to) })
        o ps).contents ≡ ps.contents
    at None = refl
    at (Some page) = refl

pub migrate_step-contents : (l : LayoutParts) (s : Memory) (op : ℕ)
    → (migrate_step l s op).memory.pages.contents ≡ s.pages.contents
unfolding migrate_step
migrate_step-contents l s op =
    answered-contents _ s (migration_source l s op) (λ from. answered-contents _ s
    (migration_target l s.free.areas) (λ taken. move_page-contents s.pages from taken.frame))

answered-present : {X : Type 0} (f : X → Answered) (s : Memory) (o : Option X) (refusal : Refusal)
    (contents : Contents)
    → ((x : X) → (f x).memory.pages.contents ≡ contents) → unless_some o refusal ≡ None
    → (option_map_or f o (done s)).memory.pages.contents ≡ contents
answered-present f s None refusal contents h e = cc
answered-present f s (Some x) refusal contents h e = h x

map_step-contents : (l : LayoutParts) (s : Memory) (cpu owner page : ℕ)
    → unless_some (page_frame l s.free cpu) NoFrame ≡ None
    → (map_step l s cpu owner page).memory.pages.contents ≡ contents_after l s.pages.contents (Map owner page)
unfolding map_step
map_step-contents l s cpu owner page e = answered-present _ s _ _ _ (λ handed. refl) e

unmap_step-contents : (l : LayoutParts) (s : Memory) (cpu owner page : ℕ)
    → unless_some (frame_at s.pages owner page) NotMapped ≡ None
    → (unmap_step l s cpu owner page).memory.pages.contents
    ≡ contents_after l s.pages.contents (Unmap owner page)
unfolding unmap_step
unmap_step-contents l s cpu owner page e = answered-present _ s _ _ _ (λ frame. refl) e

-- the first of several is none: so each is
abbrev pub AllNone : {A : Type 0} → List (Option A) → Type 0
AllNone [] = Unit {0}
AllNone (o ∷ os) = (o ≡ None) × AllNone os

pub all_none : {A : Type 0} (os : List (Option A)) → first_some os ≡ None → AllNone os
all_none [] e = tt
all_none (None ∷ os) e = (refl, all_none os e)
all_none (Some x ∷ os) e = cc

pub none_rest : {A : Type 0} (o : Option A) (os : List (Option A)) → first_some (o ∷ os) ≡ None
    → first_some os ≡ None
none_rest None os e = e
none_rest (Some x) os e = cc

perform-contents : (l : LayoutParts) (s : Memory) (serial cpu : ℕ) (event : Event)
    → first_some (event_refusals l s cpu event) ≡ None
    → (perform l s serial cpu event).memory.pages.contents ≡ contents_after l s.pages.contents event
perform-contents l s serial cpu (KernelAlloc order) e = kernel_takes-contents l s cpu order
perform-contents l s serial cpu (KernelFree frame) e = kernel_gives-contents l s cpu frame
perform-contents l s serial cpu (Map owner page) e =
    map_step-contents l s cpu owner page (all_none (event_refusals l s cpu (Map owner page)) e).1.1.1.0
perform-contents l s serial cpu (Unmap owner page) e =
    unmap_step-contents l s cpu owner page (all_none (event_refusals l s cpu (Unmap owner page)) e).1.1.0
perform-contents l s serial cpu (Online block zone) e = rw (online_block-pages l zone s block)
perform-contents l s serial cpu (Begin plan) e = rw (begin_plan-pages l s serial plan)
perform-contents l s serial cpu (Migrate op) e = migrate_step-contents l s op
perform-contents l s serial cpu (Commit op) e = rw (commit_blocks-pages l s op)
perform-contents l s serial cpu (Cancel op) e = rw (release_blocks-pages l s op)
perform-contents l s serial cpu (Probe address) e = rw (auto_online-pages l _ _ _)
perform-contents l s serial cpu _ e = refl

answer-contents : (l : LayoutParts) (s : Memory) (serial cpu : ℕ) (event : Event) (o : Option Refusal)
    → refusal_of l s cpu event ≡ o
    → is_refused (answer l s serial cpu event o).reply ≡ false
    → (answer l s serial cpu event o).memory.pages.contents ≡ contents_after l s.pages.contents event
unfolding refusal_of
answer-contents l s serial cpu event (Some refusal) e h = cc
answer-contents l s serial cpu event None e h =
    perform-contents l s serial cpu event
    (none_rest (then_some (nat_le l.cpus cpu) NoCpu) (event_refusals l s cpu event) e)

-- a step that isn't refused changes the contents by its event alone
pub step-contents : (l : LayoutParts) (s : Memory) (serial cpu : ℕ) (event : Event)
    → is_refused (step l s serial cpu event).reply ≡ false
    → (step l s serial cpu event).memory.pages.contents ≡ contents_after l s.pages.contents event
unfolding step
step-contents l s serial cpu event h = answer-contents l s serial cpu event _ refl h

-- no step of a run is refused
abbrev pub AllSucceed : LayoutParts → Memory → List Record → Type 0
AllSucceed l s [] = Unit {0}
AllSucceed l s (r ∷ rs) =
    (is_refused (step l s r.serial r.cpu r.event).reply ≡ false)
    × AllSucceed l (step l s r.serial r.cpu r.event).memory rs
