-- What an operation's own drains and migrations keep, and which processors' lists they leave empty.
use Rattle.std.proofs.Common.{◌≡◌, ℕ, zero, suc, ◌+◌, ◌*◌, List, [], ◌∷◌, get_or, set, true, false, Option, Some, None, map, refl, ◌∙◌, inl, inr, ◌==◌, eqb-true}
use Rattle.std.specs.List.{list_any}
use Rattle.std.specs.Option.{option_map_or}
use Rattle.std.proofs.lemmas.Bool.{and_parts, not-false, or_cases}
use Rattle.hp_units.specs.declared.rows.Pool.{Pool}
use Rattle.hp_units.specs.declared.rows.Pool.TheVariants.{Nu as NuPool, Nm as NmPool, Mm as MmPool}
use Rattle.hp_units.specs.LayoutParts.{LayoutParts}
use Rattle.hp_units.specs.Marks.{holds_only_own_work, is_work_of, mark_of, tag_of}
use Rattle.hp_units.specs.Memory.{FreeFrames, Memory, cached_list, pool_index}
use Rattle.hp_units.specs.History.{is_refused, run}
use Rattle.hp_units.specs.ProcessorLists.{drain_lists}
use Rattle.hp_units.specs.Migrations.{migration_source, migration_target}
use Rattle.hp_units.specs.Refusals.{event_refusals}
use Rattle.hp_units.specs.Rows.{is_live}
use Rattle.hp_units.specs.Step.{Answered, done, migrate_step, perform, step, with_free}
use Rattle.hp_laws.specs.Offline.{drains_for}
use Rattle.hp_laws.proofs.Names.{Event, DrainFor, Migrate, Record}
use Rattle.hp_laws.proofs.OwnedContents.{AllSucceed, all_none}
use Rattle.hp_laws.proofs.EventSteps.{then_none}
use Rattle.hp_laws.proofs.OfflineNet.{IsPerformed, step_performed}

-- ---- a processor's lists after a drain

-- a list that becomes empty, and one that is so
emptied : (lists : List (List ℕ)) (i : ℕ) → get_or (set lists i []) i [] ≡ []
emptied (frames ∷ lists) (suc i) = emptied lists i
emptied _ _ = refl

-- and one that is so stays so
still_empty : (lists : List (List ℕ)) (i k : ℕ) → get_or lists k [] ≡ [] → get_or (set lists i []) k [] ≡ []
still_empty (frames ∷ lists) zero (suc k) e = e
still_empty (frames ∷ lists) (suc i) zero e = e
still_empty (frames ∷ lists) (suc i) (suc k) e = still_empty lists i k e
still_empty _ _ _ e = refl

-- the lists of the processor are empty
abbrev pub IsDrained : FreeFrames → ℕ → Type 0
IsDrained fs cpu = (pool : Pool) → cached_list fs cpu pool ≡ []

-- a drain leaves the processor's lists empty
drained_lists : (l : LayoutParts) (fs : FreeFrames) (cpu : ℕ) → IsDrained (drain_lists l fs cpu) cpu
unfolding drain_lists
drained_lists l fs cpu NuPool =
    still_empty _ (3 * cpu + pool_index MmPool) (3 * cpu + pool_index NuPool)
    (still_empty _ (3 * cpu + pool_index NmPool) (3 * cpu + pool_index NuPool)
    (emptied fs.cached (3 * cpu + pool_index NuPool)))
drained_lists l fs cpu NmPool =
    still_empty _ (3 * cpu + pool_index MmPool) (3 * cpu + pool_index NmPool)
    (emptied _ (3 * cpu + pool_index NmPool))
drained_lists l fs cpu MmPool = emptied _ (3 * cpu + pool_index MmPool)

-- and those that were
drained_others : (l : LayoutParts) (fs : FreeFrames) (cpu other : ℕ) → IsDrained fs other
    → IsDrained (drain_lists l fs cpu) other
unfolding drain_lists
drained_others l fs cpu other e pool =
    still_empty _ (3 * cpu + pool_index MmPool) (3 * other + pool_index pool)
    (still_empty _ (3 * cpu + pool_index NmPool) (3 * other + pool_index pool)
    (still_empty fs.cached (3 * cpu + pool_index NuPool) (3 * other + pool_index pool) (e pool)))

-- ---- one step of its own

-- the rows and the kernel's blocks stay, and no frame comes onto an empty list
pub record IsWork (s t : Memory) : Type 0 where
  pub blocks : t.blocks ≡ s.blocks
  pub kernel : t.kernel ≡ s.kernel
  pub empty : (cpu : ℕ) → IsDrained s.free cpu → IsDrained t.free cpu

-- nothing is done
work_none : (s : Memory) → IsWork s s
work_none s = record { blocks = refl; kernel = refl; empty = λ cpu e. e }

-- one after another
work_then : (s t u : Memory) → IsWork s t → IsWork t u → IsWork s u
work_then s t u h k =
    record {
      blocks = k.blocks ∙ h.blocks;
      kernel = k.kernel ∙ h.kernel;
      empty = λ cpu e. k.empty cpu (h.empty cpu e);
    }

-- whether there is what the event asks for or not
answered-work : {X : Type 0} (f : X → Answered) (s : Memory) (o : Option X)
    → ((x : X) → IsWork s (f x).memory) → IsWork s (option_map_or f o (done s)).memory
answered-work f s None h = work_none s
answered-work f s (Some x) h = h x

-- a migration
migrate-work : (l : LayoutParts) (s : Memory) (op : ℕ) → IsWork s (migrate_step l s op).memory
unfolding migrate_step
migrate-work l s op =
    answered-work _ s (migration_source l s op)
    (λ from. answered-work _ s (migration_target l s.free.areas)
    (λ taken. record { blocks = refl; kernel = refl; empty = λ cpu e. e }))

-- a drain
drain-work : (l : LayoutParts) (s : Memory) (cpu : ℕ) → IsWork s (with_free s (drain_lists l s.free cpu))
drain-work l s cpu =
    record { blocks = refl; kernel = refl; empty = λ other e. drained_others l s.free cpu other e }

-- what one of its own steps does
pub record OwnStep (l : LayoutParts) (op : ℕ) (s : Memory) (event : Event) (t : Memory) : Type 0 where
  pub work : IsWork s t
  pub drained : (cpu : ℕ) → drains_for op cpu event ≡ true → IsDrained t.free cpu
  pub live : is_live s.blocks op ≡ true

-- each of its own events
own_perform : (l : LayoutParts) (op : ℕ) (s : Memory) (serial cpu : ℕ) (event : Event)
    → is_work_of op (mark_of event) ≡ true → IsPerformed l s serial cpu event
    → OwnStep l op s event (perform l s serial cpu event).memory
own_perform l op s serial cpu (DrainFor other drained) own h =
    let same : other ≡ op = eqb-true other op own in
    record {
      work = drain-work l s _;
      drained =
          λ c e. rw (← eqb-true drained c (and_parts (other == op) (drained == c) e).1)
          (drained_lists l s.free _);
      live =
          rw (← same) (not-false (is_live s.blocks other)
          (then_none _ _ (all_none (event_refusals l s cpu (DrainFor other drained)) h.free).1.0));
    }
own_perform l op s serial cpu (Migrate other) own h =
    let same : other ≡ op = eqb-true other op own in
    record {
      work = migrate-work l s other;
      drained = λ c e. cc;
      live =
          rw (← same) (not-false (is_live s.blocks other)
          (then_none _ _ (all_none (event_refusals l s cpu (Migrate other)) h.free).0));
    }
own_perform l op s serial cpu _ own h = absurd cc

-- each of its own steps
own_step : (l : LayoutParts) (op : ℕ) (s : Memory) (serial cpu : ℕ) (event : Event)
    → is_work_of op (mark_of event) ≡ true → is_refused (step l s serial cpu event).reply ≡ false
    → OwnStep l op s event (step l s serial cpu event).memory
own_step l op s serial cpu event own good =
    let performed = step_performed l s serial cpu event good in
    rw performed.memory (own_perform l op s serial cpu event own performed)

-- ---- one of its own steps after another

-- what several of them do
pub record OwnRun (l : LayoutParts) (op : ℕ) (s : Memory) (steps : List Record) (t : Memory) : Type 0 where
  pub work : IsWork s t
  pub drained : (cpu : ℕ) → list_any (λ (r : Record). drains_for op cpu r.event) steps ≡ true
      → IsDrained t.free cpu
  pub live : (cpu : ℕ) → list_any (λ (r : Record). drains_for op cpu r.event) steps ≡ true
      → is_live s.blocks op ≡ true

-- all of them
pub own_run : (l : LayoutParts) (op : ℕ) (s : Memory) (steps : List Record)
    → holds_only_own_work op (map tag_of steps) ≡ true → AllSucceed l s steps
    → OwnRun l op s steps (run l s steps)
unfolding run
own_run l op s [] own good = record { work = work_none s; drained = λ cpu e. cc; live = λ cpu e. cc }
own_run l op s (r ∷ rs) own good =
    let t : Memory = (step l s r.serial r.cpu r.event).memory in
    let parts = and_parts (is_work_of op (mark_of r.event)) (holds_only_own_work op (map tag_of rs)) own in
    let first = own_step l op s _ r.cpu _ parts.0 good.0 in
    let rest = own_run l op t rs parts.1 good.1 in
    record {
      work = work_then s t _ first.work rest.work;
      drained =
          λ cpu e. elim (or_cases (drains_for op cpu r.event)
          (list_any (λ (x : Record). drains_for op cpu x.event) rs) e) [
            | inl here ↦ rest.work.empty cpu (first.drained cpu here)
            | inr there ↦ rest.drained cpu there
          ];
      live = λ cpu e. first.live;
    }
