-- Named results are replaced by their numbers, which are known once the first lines have run in
-- order. The source of a line is the index of the line whose result it works on by name.
use Rattle.std.specs.Prelude.{◌≡◌, ◌⊎◌, ℕ, List, [], ◌∷◌, ◌++◌, take, drop, Bool, false, Option, Some, None, map, min, nat_lt, slice_get}
use Rattle.std.specs.List.{list_any}
use Rattle.std.specs.Option.{option_map_or}
use Rattle.hp_units.specs.declared.events.Event.{Event}
use Rattle.hp_units.specs.declared.events.Event.TheVariants.{KernelFree, DrainFor, Migrate, Commit, Cancel}
use Rattle.hp_units.specs.LayoutParts.{LayoutParts}
use Rattle.hp_machine.specs.Machine.{MachineValue, booted}
use Rattle.hp_scenario.specs.declared.lines.Line.{Line}
use Rattle.hp_scenario.specs.declared.lines.Work.{Work}
use Rattle.hp_scenario.specs.declared.lines.Work.TheVariants as work
use Rattle.hp_scripts.specs.Bindings.{Bound, numbered}
use Rattle.hp_scripts.specs.Named.{NamedValue}
use Rattle.hp_scripts.specs.Results.{no_frame}
use Rattle.hp_scripts.specs.Runs.{RunsLine}

-- ---- one line

-- the frame with this number; `no_frame` for a number that is too large
abbrev pub frame_of : ℕ → ℕ
frame_of n = min n no_frame

-- the event with `n` as the number of the operation that it works on, or of the frame that it frees
abbrev pub event_with : ℕ → Event → Event
event_with n (KernelFree frame) = KernelFree (frame_of n)
event_with n (DrainFor op cpu) = DrainFor n cpu
event_with n (Migrate op) = Migrate n
event_with n (Commit op) = Commit n
event_with n (Cancel op) = Cancel n
event_with n e = e

-- the work with `n` as the number in its event
abbrev pub work_with : ℕ → Work → Work
work_with n (work.Event e) = work.Event (event_with n e)
work_with n w = w

-- the line with this number in its event, if there is a number
abbrev pub line_with : Option ℕ → Line → Line
line_with None line = line
line_with (Some n) line = record line { work = work_with n line.work }

-- the number of the result of the line at index `place`, if `numbers` has it
abbrev pub number_at : List ℕ → Option ℕ → Option ℕ
number_at numbers None = None
number_at numbers (Some place) = slice_get numbers place

-- the line with the number of the result that it works on, if `numbers` has it; `source` is the
-- index of the line with that result
abbrev pub line_after : List ℕ → Option ℕ → Line → Line
line_after numbers source line = line_with (number_at numbers source) line

-- the source (the index of a line), unless `numbers` has the number of that line's result
abbrev pub source_after : List ℕ → Option ℕ → Option ℕ
source_after numbers source = option_map_or (λ n. None) (number_at numbers source) source

-- ---- all lines

-- the first of the sources; `None` if there are none
abbrev pub first_source : List (Option ℕ) → Option ℕ
first_source [] = None
first_source (source ∷ sources) = source

-- the lines; each that works on an earlier line's result by name gets the number of that result, if
-- `numbers` has it
abbrev pub lines_after : List ℕ → List (Option ℕ) → List Line → List Line
lines_after numbers sources [] = []
lines_after numbers sources (line ∷ lines) =
    line_after numbers (first_source sources) line ∷ lines_after numbers (drop 1 sources) lines

-- the sources (indices of lines). Each is replaced by None if `numbers` has the number of that
-- line's result
abbrev pub sources_after : List ℕ → List (Option ℕ) → List (Option ℕ)
sources_after numbers sources = map (source_after numbers) sources

-- the lines were run in order. Each that works by name on a result in `before`, or on that of an
-- earlier one of these lines, got the result's number. `ran` are the lines as they were run.
-- `before` and `after` are the numbers of all results so far, before and after these lines
abbrev pub RunsFront : MachineValue → (before : List ℕ) → List (Option ℕ) → (lines ran : List Line)
    → (new : MachineValue) → (after : List ℕ) → Type 0
RunsFront m before sources [] ran new after = (ran ≡ []) × (new ≡ m) × (after ≡ before)
RunsFront m before sources (line ∷ lines) ran new after =
    (next : MachineValue) × (number : ℕ) × (more : List Line)
    × (ran ≡ line_after before (first_source sources) line ∷ more)
    × RunsLine m (line_after before (first_source sources) line) next number
    × RunsFront next (before ++ number ∷ []) (drop 1 sources) lines more new after

-- the source (the index of a line) is below `count`; false without a source
abbrev pub is_below : (count : ℕ) → Option ℕ → Bool
is_below count None = false
is_below count (Some place) = nat_lt place count

-- the first `count` lines were run in order on a machine just booted. A line whose source (the
-- index of a line) is one of these has the number of the source's result, and no source any more. A
-- name that is bound to a result of these lines has its number
pub record PutsNumbers (l : LayoutParts) (count : ℕ) (lines : List Line) (sources : List (Option ℕ))
    (bound : Bound) (new_lines : List Line) (new_sources : List (Option ℕ)) (new_bound : Bound)
    : Type 0 where
  pub front : List Line
  pub numbers : List ℕ
  pub last : MachineValue
  pub runs : RunsFront (booted l) [] sources (take count lines) front last numbers
  pub lines_are : new_lines ≡ front ++ lines_after numbers (drop count sources) (drop count lines)
  pub sources_are : new_sources ≡ sources_after numbers sources
  pub bound_is : new_bound ≡ numbered numbers bound

-- the first `count` lines of a scenario were run, and the numbers of their results put into its
-- lines and its names; its layout and its owners' names stay
pub record IsResolved (count : ℕ) (old new : NamedValue) : Type 0 where
  pub layout : new.scenario.layout ≡ old.scenario.layout
  pub names : new.scenario.names ≡ old.scenario.names
  pub puts :
      PutsNumbers old.scenario.layout count old.scenario.lines old.sources old.bound new.scenario.lines
      new.sources new.bound

-- the scenario after the first `count` lines were run and the numbers of their results put into its
-- lines and names. Nothing is run if no result has a name and no line works on a result of the
-- first `count` lines
abbrev pub Resolves : (count : ℕ) → (old new : NamedValue) → Type 0
Resolves count old new =
    ((old.bound ≡ []) × (list_any (is_below count) old.sources ≡ false) × (new ≡ old))
    ⊎ IsResolved count old new
