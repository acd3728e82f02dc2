-- An event that leads from one state to another, each as a log shows it, keeps every law.
use Rattle.std.proofs.Common.{◌≡◌, ℕ, Bool, true, false, not, ◌&&◌, ◌||◌, sym, ◌∙◌, ap, ◌⊎◌, inl, inr}
use Rattle.std.proofs.lemmas.Bool.{both_ways, not-true, not-false, not_from_false, cases_Bool, or_cases, or_left, or_parts, and_parts, and_cases, and_from, and_left, and_right}
use Rattle.hp_judge.specs.Events.{block_of, is_well_formed, allocates, allocates_unmovable, frees, is_of, is_online_begin, is_online_end, is_offline_begin, is_offline_end, is_movable_online_begin, leaves_online, leaves_offline}
use Rattle.hp_judge.specs.Laws.{sentence, onlines, offlines, IsPlace}
use Rattle.hp_judge.specs.Machines.{IsAllowed}
use Rattle.hp_judge.specs.LawfulNames.{LogEvent, MachineSize, Law, Once, InUse, Present, Empty, MovableLaw, GoingOnlineLaw, GoingOfflineLaw, OnlineLaw, OfflineLaw}
use Rattle.hp_judge.specs.Phases.{BlockPhase}
use Rattle.hp_judge.proofs.Turns.{IsTurn, is_offline, is_going_online, is_online, is_going_offline, is_normal, opens-offline, opens-online, opens-going_online, opens-going_offline, opens-movable, asks-offline, asks-online, asks-going_online, asks-going_offline, settles-offline, settles-movable}

-- which laws are settled where
abbrev pub settled : MachineSize → (ℕ → Bool) → (ℕ → BlockPhase) → Law → ℕ → Bool
settled m used phase Once f = not (used f)
settled m used phase InUse f = used f
settled m used phase Present f = not (is_offline (phase (block_of m f)))
settled m used phase Empty f = not (used f)
settled m used phase MovableLaw f = is_normal (phase (block_of m f))
settled m used phase GoingOnlineLaw b = not (is_going_online (phase b))
settled m used phase GoingOfflineLaw b = not (is_going_offline (phase b))
settled m used phase OnlineLaw b = not (is_online (phase b))
settled m used phase OfflineLaw b = not (is_offline (phase b))

-- whether a frame is in use after an event
abbrev pub used_after : MachineSize → ℕ → LogEvent → Bool → Bool
used_after m f e used = allocates m f e || (not (frees m f e) && used)

-- the event leads from one state to the next: it hands out frames that are not in use, of blocks that are
-- not offline; it brings back frames that are in use; a block takes its turn, and goes offline empty
pub record Leads (m : MachineSize) (used : ℕ → Bool) (phase : ℕ → BlockPhase) (e : LogEvent)
    (used' : ℕ → Bool) (phase' : ℕ → BlockPhase) : Type 0 where
  pub well_formed : is_well_formed m e ≡ true
  pub free : (f : ℕ) → allocates m f e ≡ true → used f ≡ false
  pub present : (f : ℕ) → allocates m f e ≡ true → is_offline (phase (block_of m f)) ≡ false
  pub normal : (f : ℕ) → allocates_unmovable m f e ≡ true → is_normal (phase (block_of m f)) ≡ true
  pub in_use : (f : ℕ) → frees m f e ≡ true → used f ≡ true
  pub empty : (f : ℕ) → offlines m f e ≡ true → used f ≡ false
  pub used_is : (f : ℕ) → used' f ≡ used_after m f e (used f)
  pub turn : (b : ℕ) → is_of b e ≡ true → IsTurn b (phase b) e (phase' b)
  pub same : (b : ℕ) → is_of b e ≡ false → phase' b ≡ phase b

module _ (m : MachineSize) (used : ℕ → Bool) (phase : ℕ → BlockPhase) (e : LogEvent) (used' : ℕ → Bool)
    (phase' : ℕ → BlockPhase) (h : Leads m used phase e used' phase') where
  -- ---- what the event asks

  asks : (law : Law) (place : ℕ) → IsPlace m law place → (sentence m law place).later e ≡ true
      → settled m used phase law place ≡ true
  asks Once f inside later = not_from_false (used f) (h.free f later)
  asks InUse f inside later = h.in_use f later
  asks Present f inside later = not_from_false (is_offline (phase (block_of m f))) (h.present f later)
  asks Empty f inside later = not_from_false (used f) (h.empty f later)
  asks MovableLaw f inside later = h.normal f later
  asks GoingOnlineLaw b inside later =
      let parts = and_parts (is_of b e) (not (is_online_end e)) later in
      not_from_false (is_going_online (phase b))
      (asks-going_online (h.turn b parts.0) (not-true (is_online_end e) parts.1))
  asks GoingOfflineLaw b inside later =
      let parts = and_parts (is_of b e) (not (is_offline_end e)) later in
      not_from_false (is_going_offline (phase b))
      (asks-going_offline (h.turn b parts.0) (not-true (is_offline_end e) parts.1))
  asks OnlineLaw b inside later =
      let parts = and_parts (is_of b e) (not (is_offline_begin e)) later in
      not_from_false (is_online (phase b))
      (asks-online (h.turn b parts.0) (not-true (is_offline_begin e) parts.1))
  asks OfflineLaw b inside later =
      let parts = and_parts (is_of b e) (not (is_online_begin e)) later in
      not_from_false (is_offline (phase b))
      (asks-offline (h.turn b parts.0) (not-true (is_online_begin e) parts.1))

  -- ---- what it opens

  -- a frame that is not in use afterwards
  unused : (f : ℕ) → not (used' f) ≡ true
      → (allocates m f e ≡ false) × ((not (frees m f e) && used f) ≡ false)
  unused f is =
      or_parts (allocates m f e) (not (frees m f e) && used f)
      (sym (h.used_is f) ∙ not-true (used' f) is)

  -- a frame that is in use afterwards
  not_freed : (f : ℕ) → used' f ≡ true → frees m f e ≡ false
  not_freed f is = elim (or_cases (allocates m f e) (not (frees m f e) && used f) (sym (h.used_is f) ∙ is)) [
    | inl taken ↦ elim (cases_Bool (frees m f e)) [
      | inl freed ↦ absurd (both_ways (used f) (h.free f taken) (h.in_use f freed))
      | inr not ↦ not
    ]
    | inr kept ↦ not-true (frees m f e) (and_parts (not (frees m f e)) (used f) kept).0
  ]

  -- an event of a block opens no law that the block's phase settles
  of_block : (b : ℕ) (test : LogEvent → Bool) → (is_of b e ≡ true → test e ≡ false)
      → (is_of b e && test e) ≡ false
  of_block b test shut = elim (cases_Bool (is_of b e)) [
    | inl of ↦ and_right (is_of b e) (test e) (shut of)
    | inr not ↦ and_left (is_of b e) (test e) not
  ]

  opens : (law : Law) (place : ℕ) → IsPlace m law place → settled m used' phase' law place ≡ true
      → (sentence m law place).earlier e ≡ false
  opens Once f inside is = (unused f is).0
  opens InUse f inside is = not_freed f is
  opens Present f inside is =
      of_block (block_of m f) leaves_offline (λ of. opens-offline (h.turn (block_of m f) of)
      (not-true (is_offline (phase' (block_of m f))) is))
  opens Empty f inside is = (unused f is).0
  opens MovableLaw f inside is =
      of_block (block_of m f) is_movable_online_begin (λ of. opens-movable (h.turn (block_of m f) of) is)
  opens GoingOnlineLaw b inside is =
      of_block b is_online_begin (λ of. opens-going_online (h.turn b of)
      (not-true (is_going_online (phase' b)) is))
  opens GoingOfflineLaw b inside is =
      of_block b is_offline_begin (λ of. opens-going_offline (h.turn b of)
      (not-true (is_going_offline (phase' b)) is))
  opens OnlineLaw b inside is =
      of_block b leaves_online (λ of. opens-online (h.turn b of) (not-true (is_online (phase' b)) is))
  opens OfflineLaw b inside is =
      of_block b leaves_offline (λ of. opens-offline (h.turn b of) (not-true (is_offline (phase' b)) is))

  -- ---- what it settles

  -- a frame that is not in use came back, or was not in use
  settles_unused : (f : ℕ) → not (used' f) ≡ true
      → (not (used f) ≡ true) ⊎ ((frees m f e || onlines m f e) ≡ true)
  settles_unused f is = elim (and_cases (not (frees m f e)) (used f) (unused f is).1) [
    | inl freed ↦ inr (or_left (frees m f e) (onlines m f e) (not-false (frees m f e) freed))
    | inr was ↦ inl (not_from_false (used f) was)
  ]

  -- a block's phase that settles a law did before, if the event is not of the block
  of_phase : (b : ℕ) (test : BlockPhase → Bool) → test (phase' b) ≡ true
      → (test (phase b) ≡ true) ⊎ (is_of b e ≡ true)
  of_phase b test is = elim (cases_Bool (is_of b e)) [
    | inl of ↦ inr of
    | inr not ↦ inl (ap test (sym (h.same b not)) ∙ is)
  ]

  settles : (law : Law) (place : ℕ) → IsPlace m law place → settled m used' phase' law place ≡ true
      → (settled m used phase law place ≡ true) ⊎ ((sentence m law place).settles e ≡ true)
  settles Once f inside is = settles_unused f is
  settles InUse f inside is =
      elim (or_cases (allocates m f e) (not (frees m f e) && used f) (sym (h.used_is f) ∙ is)) [
        | inl taken ↦ inr (or_left (allocates m f e) (onlines m f e) taken)
        | inr kept ↦ inl (and_parts (not (frees m f e)) (used f) kept).1
      ]
  settles Present f inside is =
      elim (of_phase (block_of m f) (λ p. not (is_offline p)) is) [
        | inl was ↦ inl was
        | inr of ↦ elim (settles-offline (h.turn (block_of m f) of)
            (not-true (is_offline (phase' (block_of m f))) is)) [
              | inl was ↦ inl (not_from_false (is_offline (phase (block_of m f))) was)
              | inr begin ↦ inr (and_from (is_of (block_of m f) e) (is_online_begin e) of begin)
            ]
      ]
  settles Empty f inside is = settles_unused f is
  settles MovableLaw f inside is =
      elim (of_phase (block_of m f) is_normal is) [
        | inl was ↦ inl was
        | inr of ↦ elim (settles-movable (h.turn (block_of m f) of) is) [
          | inl was ↦ inl was
          | inr begin ↦ inr (and_from (is_of (block_of m f) e) (is_online_begin e) of begin)
        ]
      ]
  settles GoingOnlineLaw b inside is = of_phase b (λ p. not (is_going_online p)) is
  settles GoingOfflineLaw b inside is = of_phase b (λ p. not (is_going_offline p)) is
  settles OnlineLaw b inside is = of_phase b (λ p. not (is_online p)) is
  settles OfflineLaw b inside is = of_phase b (λ p. not (is_offline p)) is

  pub allowed : IsAllowed m (settled m used phase) e (settled m used' phase')
  allowed = record { well_formed = h.well_formed; asks = asks; opens_none = opens; settles = settles }
