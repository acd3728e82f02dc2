-- Frames that nothing has are in no place, and marked frames in theirs.
use Rattle.std.proofs.Common.{◌≡◌, ℕ, zero, suc, ◌+◌, ◌-◌, zero-add, ◌*◌, ◌/◌, ◌%◌, ◌^◌, ◌<◌, ◌==◌, ◌⊎◌, inl, inr, Bool, true, false, cond, List, [], ◌∷◌, length, Option, Some, None, slice_get, sum_by, count_by, refl, sym, ap, ◌∙◌, arith}
use Rattle.std.proofs.lemmas.Bool.{cases_eq, cases_lt, cases_Bool, cond-true, cond-false, eq-eqb, ne_eqb, eqb-true, or_parts}
use Rattle.std.proofs.lemmas.Bool.Decides.{nat_tests}
use Rattle.std.proofs.lemmas.List.Sums.{sum_by-cons}
use Rattle.std.proofs.lemmas.Option.{slice_get_within, get_or_from_slice_get, same_Some}
use Rattle.std.specs.List.{enumerate_from}
use Rattle.std.specs.Option.{option_map_or}
use Rattle.hp_units.specs.FreeAreas.{is_on}
use Rattle.hp_units.specs.LayoutParts.{LayoutParts}
use Rattle.hp_units.specs.Memory.{FreeFrames, Memory, Pages, cached_list, kernel_order, pool_index}
use Rattle.hp_map.specs.Names.{Pool, NuPool, NmPool, MmPool}
use Rattle.hp_units.specs.Pages.{frame_at, holds}
use Rattle.hp_units.specs.Placement.{cached_places, covers, kernel_places, mapped_places}
use Rattle.hp_map.specs.declared.places.Place.{Place}
use Rattle.hp_map.specs.declared.places.Place.TheVariants.{Kernel, Cached, Page}
use Rattle.hp_map.specs.Marks.{at_frame, on_block, on_cpu, on_kernel, on_owner, on_page}
use Rattle.hp_map.proofs.Walks.{Has, Leaves, Sets, walk}

-- ---- nothing has the frame

sum_none : {A : Type 0} (f : A → ℕ) (xs : List A) → ((i : ℕ) (x : A) → slice_get xs i ≡ Some x → f x ≡ 0)
    → sum_by f xs ≡ 0
sum_none f [] none = refl
sum_none f (x ∷ xs) none =
    rw (sum_by-cons f x xs, none zero x refl, zero-add (sum_by f xs)) (sum_none f xs (λ i. none (suc i)))

count_none : {A : Type 0} (test : A → Bool) (xs : List A)
    → ((i : ℕ) (x : A) → slice_get xs i ≡ Some x → test x ≡ false) → count_by test xs ≡ 0
count_none test xs none =
    sum_none (λ x. cond (test x) 1 0) xs (λ i x is. ap (λ (b : Bool). cond b 1 0) (none i x is))

count_off : (k : ℕ) (frames : List ℕ) → is_on k frames ≡ false → count_by (λ other. other == k) frames ≡ 0
count_off k [] off = refl
count_off k (y ∷ ys) off = grind (arith, or_parts, sum_by-cons, (count_off k ys))

-- a list's number has a processor and a pool
pool_numbered : (n : ℕ) → (pool : Pool) × (n ≡ 3 * (n / 3) + pool_index pool)
pool_numbered n = elim (cases_eq (n % 3) 0) [
  | inl none ↦ (NuPool, omega arith)
  | inr some ↦ elim (cases_eq (n % 3) 1) [
    | inl one ↦ (NmPool, omega arith)
    | inr two ↦ (MmPool, omega (arith, some, two))
  ]
]

pub cached_none : (fs : FreeFrames) (cpus k : ℕ) → length fs.cached ≡ 3 * cpus
    → ((cpu : ℕ) → cpu < cpus → (pool : Pool) → is_on k (cached_list fs cpu pool) ≡ false)
    → cached_places fs k ≡ 0
cached_none fs cpus k size off = sum_none (λ frames. count_by (λ other. other == k) frames) fs.cached each
  where
    each : (i : ℕ) (frames : List ℕ) → slice_get fs.cached i ≡ Some frames
        → count_by (λ other. other == k) frames ≡ 0
    each i frames is =
        let number = pool_numbered i in
        let low : i < length fs.cached = slice_get_within fs.cached i frames is in
        count_off k frames (rw (← number.1, get_or_from_slice_get fs.cached i frames [] is) at
        (off (i / 3) (omega (arith, low, size)) number.0))

pub mapped_none : (ps : Pages) (k : ℕ) → ((owner page : ℕ) → holds k (frame_at ps owner page) ≡ false)
    → mapped_places ps k ≡ 0
mapped_none ps k off =
    sum_none (λ row. count_by (holds k) row) ps.table
    (λ owner row is. count_none (holds k) row (each owner row is))
  where
    each : (owner : ℕ) (row : List (Option ℕ)) → slice_get ps.table owner ≡ Some row
        → (page : ℕ) (entry : Option ℕ) → slice_get row page ≡ Some entry → holds k entry ≡ false
    each owner row is page entry there =
        rw (get_or_from_slice_get ps.table owner row [] is, get_or_from_slice_get row page entry None there)
        at (off owner page)

enumerated : {A : Type 0} (n : ℕ) (xs : List A) (i : ℕ) (x : ℕ × A)
    → slice_get (enumerate_from n xs) i ≡ Some x → (x.0 ≡ n + i) × (slice_get xs i ≡ Some x.1)
enumerated n [] i x is = absurd cc
enumerated n (y ∷ ys) zero x is = grind arith
enumerated n (y ∷ ys) (suc i) x is =
    let rest = enumerated (n + 1) ys i x is in
    (omega (arith, rest.0), rest.1)

pub kernel_none : (s : Memory) (k : ℕ)
    → ((first order : ℕ) → kernel_order s first ≡ Some order → covers k order first ≡ false)
    → kernel_places s k ≡ 0
kernel_none s k off =
    count_none (λ entry. option_map_or (λ order. covers k order entry.0) entry.1 false)
    (enumerate_from 0 s.kernel) each
  where
    each : (i : ℕ) (x : ℕ × Option ℕ) → slice_get (enumerate_from 0 s.kernel) i ≡ Some x
        → option_map_or (λ order. covers k order x.0) x.1 false ≡ false
    each i x is =
        let there = enumerated 0 s.kernel i x is in
        let first : x.0 ≡ i = there.0 ∙ omega arith in
        of_entry x.0 x.1 (rw first (get_or_from_slice_get s.kernel i x.1 None there.1))
      where
        of_entry : (first : ℕ) (entry : Option ℕ) → kernel_order s first ≡ entry
            → option_map_or (λ order. covers k order first) entry false ≡ false
        of_entry first None is = refl
        of_entry first (Some order) is = off first order is

-- ---- what each mark does to one frame

-- a walk in which each number sets its own frame
abbrev pub IsNot : ℕ → ℕ → Type 0
IsNot k i = i ≡ k → ⊥

pub at_has : (place : ℕ → Place) (number : ℕ → ℕ) (k i : ℕ)
    → Has (λ n. at_frame (number n) (place n)) k place (λ n. number n ≡ k) (λ n. IsNot k (number n)) i
at_has place number k i = grind (arith, cases_eq, cond-true, eq-eqb, cond-false, ne_eqb)

-- the lists of a processor
abbrev pub IsCachedBy : FreeFrames → (k cpu : ℕ) → Type 0
IsCachedBy fs k cpu = (pool : Pool) × (is_on k (cached_list fs cpu pool) ≡ true)

abbrev pub IsNotCachedBy : FreeFrames → (k cpu : ℕ) → Type 0
IsNotCachedBy fs k cpu = (pool : Pool) → is_on k (cached_list fs cpu pool) ≡ false

pub cpu_has : (fs : FreeFrames) (k cpu : ℕ)
    → Has (on_cpu fs) k (λ n. Cached n) (IsCachedBy fs k) (IsNotCachedBy fs k) cpu
cpu_has fs k cpu = by_pools (on NuPool) (on NmPool) (on MmPool) refl refl refl
  where
    on : Pool → Bool
    on pool = is_on k (cached_list fs cpu pool)

    none : on NuPool ≡ false → on NmPool ≡ false → on MmPool ≡ false → IsNotCachedBy fs k cpu
    none nu nm mm NuPool = nu
    none nu nm mm NmPool = nm
    none nu nm mm MmPool = mm

    by_pools : (nu nm mm : Bool) → on NuPool ≡ nu → on NmPool ≡ nm → on MmPool ≡ mm
        → Has (λ n f p. cond mm (Cached n) (cond nm (Cached n) (cond nu (Cached n) p))) k (λ n. Cached n)
        (IsCachedBy fs k) (IsNotCachedBy fs k) cpu
    by_pools nu nm true a b c = inl ((MmPool, c), λ p. refl)
    by_pools nu true false a b c = inl ((NmPool, b), λ p. refl)
    by_pools true false false a b c = inl ((NuPool, a), λ p. refl)
    by_pools false false false a b c = inr (none a b c, λ p. refl)

-- the pages of an owner
pub holds_is : (k : ℕ) (entry : Option ℕ) → holds k entry ≡ true → entry ≡ Some k
holds_is k entry e = grind (arith, eqb-true)

page_has : (ps : Pages) (k owner page : ℕ)
    → Has (on_page ps owner) k (λ n. Page owner) (λ n. frame_at ps owner n ≡ Some k)
    (λ n. holds k (frame_at ps owner n) ≡ false) page
page_has ps k owner page = grind (arith, cases_Bool, holds_is, cond-true, cond-false)

abbrev pub IsPageOf : Pages → (k owner : ℕ) → Type 0
IsPageOf ps k owner = (page : ℕ) × (frame_at ps owner page ≡ Some k)

abbrev pub IsNoPageOf : LayoutParts → Pages → (k owner : ℕ) → Type 0
IsNoPageOf l ps k owner = (page : ℕ) → page < l.pages → holds k (frame_at ps owner page) ≡ false

pub owner_has : (l : LayoutParts) (ps : Pages) (k owner : ℕ)
    → Has (on_owner l ps) k (λ n. Page n) (IsPageOf ps k) (IsNoPageOf l ps k) owner
owner_has l ps k owner =
    elim (walk (on_page ps owner) k (λ n. Page owner) (λ n. frame_at ps owner n ≡ Some k)
    (λ n. holds k (frame_at ps owner n) ≡ false) (page_has ps k owner) l.pages) [
      | inl hit ↦ inl ((hit.0, hit.2), hit.3)
      | inr miss ↦ inr (miss.0, miss.1)
    ]

-- the kernel's blocks
abbrev pub IsKernelFrom : Memory → (k first : ℕ) → Type 0
IsKernelFrom s k first = (order : ℕ) × (kernel_order s first ≡ Some order) × (covers k order first ≡ true)

abbrev pub IsNotKernelFrom : Memory → (k first : ℕ) → Type 0
IsNotKernelFrom s k first = (order : ℕ) → kernel_order s first ≡ Some order → covers k order first ≡ false

covered_by : (k order first offset : ℕ) → offset < 2 ^ order → first + offset ≡ k
    → covers k order first ≡ true
covered_by k order first offset low is = grind (arith, nat_tests)

uncovered_by : (k order first : ℕ) → ((offset : ℕ) → offset < 2 ^ order → IsNot k (first + offset))
    → covers k order first ≡ false
uncovered_by k order first none = elim (cases_lt k first) [
  | inl below ↦ grind (arith, nat_tests)
  | inr above ↦ elim (cases_lt k (first + 2 ^ order)) [
    | inl within ↦ absurd (none (k - first) (omega arith) (omega arith))
    | inr past ↦ grind (arith, nat_tests)
  ]
]

block_has : (s : Memory) (k first : ℕ) (entry : Option ℕ) → kernel_order s first ≡ entry
    → (IsKernelFrom s k first × Sets (on_block first entry k) Kernel)
    ⊎ (IsNotKernelFrom s k first × Leaves (on_block first entry k))
block_has s k first None is = grind arith
block_has s k first (Some order) is =
    elim (walk (λ offset. at_frame (first + offset) Kernel) k (λ n. Kernel) (λ n. first + n ≡ k)
    (λ n. IsNot k (first + n)) (at_has (λ n. Kernel) (λ n. first + n) k) (2 ^ order)) [
      | inl hit ↦ inl ((order, is, covered_by k order first hit.0 hit.1 hit.2), hit.3)
      | inr miss ↦ inr (
        λ other there. rw (← same_Some order other (sym is ∙ there)) (uncovered_by k order first miss.0),
        miss.1,
      )
    ]

pub kernel_has : (s : Memory) (k first : ℕ)
    → Has (on_kernel s) k (λ n. Kernel) (IsKernelFrom s k) (IsNotKernelFrom s k) first
kernel_has s k first = block_has s k first (kernel_order s first) refl
