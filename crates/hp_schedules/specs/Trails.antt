-- The trail, which lists the shares that were added to the ends. It shows how much the ends' counts
-- have grown since an earlier time.
use Rattle.std.specs.Prelude.{◌≡◌, ℕ, ◌+◌, ◌≤◌, List, Some, drop, length, slice_get, sum_by, take}
use Rattle.hp_schedules.specs.Notes.{TallyValue}
use Rattle.hp_schedules.specs.Shares.{AreAtEnds, AreSince}
use Rattle.hp_schedules.specs.declared.trail.Share.{Share}

-- ---- sums in place of shares

-- the function `f` of shares is additive: two shares of one end give as much as one share with their
-- sum
abbrev pub AddsUp : (Share → ℕ) → Type 0
AddsUp f = (end a b : ℕ)
    → f (record { end = end; count = a + b })
    ≡ f (record { end = end; count = a }) + f (record { end = end; count = b })

-- the shares from index `start` on are replaced by others with the same sums
pub record IsGathered (start : ℕ) (old new : List Share) : Type 0 where
  pub before : take start new ≡ take start old
  pub longer : start ≤ length new
  pub same : (f : Share → ℕ) → AddsUp f → sum_by f (drop start new) ≡ sum_by f (drop start old)
  pub at_ends : (many : ℕ) → AreAtEnds many old → AreAtEnds many new

-- the share at this index belongs to the end
abbrev pub IsShareOf : List Share → (end : ℕ) → (place : ℕ) → Type 0
IsShareOf shares end place = (s : Share) × (slice_get shares place ≡ Some s) × (s.end ≡ end)

-- the sum of `f` over the shares before index `end` and the shares from index `at` on
abbrev pub left_over : (Share → ℕ) → (end at : ℕ) → List Share → ℕ
left_over f end at shares = sum_by f (take end shares) + sum_by f (drop at shares)

-- the shares from index `start` to before index `end` are the sums so far; the share at index `at`
-- is added to them, and they now end before index `later`
pub record IsSummedUp (start end at : ℕ) (old : List Share) (later : ℕ) (new : List Share) : Type 0 where
  pub long : length new ≡ length old
  pub before : take start new ≡ take start old
  pub not_less : end ≤ later
  pub within : later ≤ at + 1
  pub same : (f : Share → ℕ) → AddsUp f → left_over f later (at + 1) new ≡ left_over f end at old
  pub at_ends : (many : ℕ) → AreAtEnds many old → AreAtEnds many new

-- ---- the counts

-- the ends had these counts when the trail had `start` shares
abbrev pub WereCounted : TallyValue → (start : ℕ) → (earlier : List ℕ) → Type 0
WereCounted t start earlier = AreSince earlier t.ends (drop start t.trail)

-- the new trail still gives the counts of each time when the trail had at most `start` shares
pub record KeepsBefore (start : ℕ) (old new : TallyValue) : Type 0 where
  pub longer : start ≤ length new.trail
  pub told : (s : ℕ) (earlier : List ℕ) → s ≤ start → length earlier ≤ length old.ends
      → WereCounted old s earlier → WereCounted new s earlier
