-- How many interleavings scripts have does not depend on the operations that were begun before them, nor
-- on which of their lines work on the results of others.
use Rattle.std.proofs.Common.{◌≡◌, ℕ, ◌+◌, ◌==◌, Bool, true, false, if◌then◌else◌, List, [], ◌∷◌, drop, length, map, Option, Some, None, refl, sym, ◌∙◌, arith}
use Rattle.std.specs.Prelude.{◌||◌}
use Rattle.std.specs.List.{list_all, range_with_len}
use Rattle.std.proofs.lemmas.List.{length-map, map-append}
use Rattle.std.proofs.lemmas.Option.{none-some, slice_get_within}
use Rattle.hp_units.specs.declared.events.Event.{Event}
use Rattle.hp_schedules.specs.Interleavings.{IsKnown, holds_no_plan, is_one_call, script_lengths}
use Rattle.hp_schedules.specs.declared.multinomials.HowMany.{HowMany}
use Rattle.hp_schedules.specs.declared.multinomials.HowMany.TheVariants.{Exactly, MoreThanLimit, Unknown}
use Rattle.hp_schedules.specs.declared.scripts.OwnWork.{OwnWork}
use Rattle.hp_schedules.specs.declared.scripts.Step.{Step}
use Rattle.hp_scenario.specs.Asked as asks
use Rattle.hp_scenario.specs.declared.lines.Line.{Line}
use Rattle.hp_scripts.specs.Begins.{last_begun, line_begins}
use Rattle.hp_scripts.specs.Checks.{AreFit, IsUnfit}
use Rattle.hp_scripts.specs.Counting.{AreKnownAs, AreScripts, IsKnownAfter}
use Rattle.hp_scripts.specs.ScriptResults.{named_at}
use Rattle.hp_scripts.specs.Scripts.{event_step, explored, script_of, scripts_of, step_for, steps_in, steps_of}
use Rattle.hp_scripts.specs.declared.begins.Begin.{Begin}
use Rattle.hp_scripts.specs.declared.start_fault.StartFault.{StartFault}
use Rattle.hp_scripts.specs.declared.start_fault.StartFault.TheVariants.{NotForScript, OutOfMemory}

-- which lines of a script are one call
abbrev shape : List Step → List Bool
shape steps = map is_one_call steps

-- ---- one line

step_one : (op : ℕ) (begun : Bool) (named : Option OwnWork) (e : Event)
    → is_one_call (event_step op begun named e) ≡ true
step_one op begun named e = grind arith

line_alike : (op other : ℕ) (begun : Bool) (named also : Option OwnWork) (m : asks.Meaning) (own : Bool)
    → shape (steps_of (if own then explored op begun named m else None))
    ≡ shape (steps_of (if own then explored other begun also m else None))
line_alike op other begun named also (asks.event e) true =
    rw (step_one op begun named e, step_one other begun also e)
line_alike op other begun named also m true = refl
line_alike op other begun named also m false = refl

-- ---- all lines

steps_alike : (cpu op other : ℕ) (begun : Bool) (lines : List Line) (sources others : List (Option ℕ))
    (place : ℕ) (left : List Line)
    → shape (steps_in cpu op begun lines sources place left)
    ≡ shape (steps_in cpu other begun lines others place left)
steps_alike cpu op other begun lines sources others place [] = refl
steps_alike cpu op other begun lines sources others place (line ∷ left) =
    let named = named_at cpu lines sources place (asks.asked_by line.work) in
    let also = named_at cpu lines others place (asks.asked_by line.work) in
    let later = begun || line_begins cpu line in
    rw (
      map-append is_one_call (steps_of (step_for cpu op begun named line))
          (steps_in cpu op later lines sources (place + 1) left),
      map-append is_one_call (steps_of (step_for cpu other begun also line))
          (steps_in cpu other later lines others (place + 1) left),
      line_alike op other begun named also (asks.asked_by line.work) (line.cpu == cpu),
      steps_alike cpu op other later lines sources others (place + 1) left,
    )

scripts_alike : (begins others : List Begin) (lines : List Line) (sources also : List (Option ℕ))
    (cpus : List ℕ)
    → map shape (map (script_of begins lines sources) cpus)
    ≡ map shape (map (script_of others lines also) cpus)
scripts_alike begins others lines sources also [] = refl
scripts_alike begins others lines sources also (cpu ∷ cpus) =
    rw (
      steps_alike cpu (last_begun cpu begins) (last_begun cpu others) false lines sources also 0 lines,
      scripts_alike begins others lines sources also cpus,
    )

-- ---- what is known by them

lengths_by : (scripts : List (List Step))
    → script_lengths scripts ≡ map (λ (bs : List Bool). length bs) (map shape scripts)
lengths_by [] = refl
lengths_by (s ∷ scripts) = rw (lengths_by scripts, length-map s is_one_call)

lines_by : (s : List Step) → holds_no_plan s ≡ list_all (λ (b : Bool). b) (shape s)
lines_by [] = refl
lines_by (line ∷ s) = rw (lines_by s)

calls_by : (scripts : List (List Step))
    → list_all holds_no_plan scripts
    ≡ list_all (λ (bs : List Bool). list_all (λ (b : Bool). b) bs) (map shape scripts)
calls_by [] = refl
calls_by (s ∷ scripts) = rw (lines_by s, calls_by scripts)

known_alike : (scripts others : List (List Step)) (limit : ℕ) (known : HowMany)
    → script_lengths scripts ≡ script_lengths others
    → list_all holds_no_plan scripts ≡ list_all holds_no_plan others
    → IsKnown scripts limit known → IsKnown others limit known
known_alike scripts others limit (Exactly m) lengths calls h = (sym calls ∙ h.0, rw lengths at h.1, h.2)
known_alike scripts others limit MoreThanLimit lengths calls h =
    (sym calls ∙ h.0, λ m is. h.1 m (rw lengths is))
known_alike scripts others limit Unknown lengths calls h = λ one. rw lengths at (h (calls ∙ one))

-- of the scripts of lines after any operations, with any sources
pub known_after_any : (cpus : ℕ) (begins others : List Begin) (lines : List Line)
    (sources also : List (Option ℕ)) (limit : ℕ) (known : HowMany)
    → IsKnown (scripts_of cpus begins lines sources) limit known
    → IsKnown (scripts_of cpus others lines also) limit known
known_after_any cpus begins others lines sources also limit known h =
    let first = scripts_of cpus begins lines sources in
    let second = scripts_of cpus others lines also in
    let same = scripts_alike begins others lines sources also (range_with_len 0 cpus) in
    known_alike first second limit known (rw (lengths_by first, same, ← lengths_by second))
    (rw (calls_by first, same, ← calls_by second)) h

-- ---- a line that cannot stand in a script

pub unscripted : (cpus setup before : ℕ) (lines after : List Line) (fault : StartFault)
    → after ≡ drop setup lines → IsUnfit cpus before after fault → AreScripts cpus setup lines → ⊥
unscripted cpus setup before lines after (NotForScript place why) is h fit =
    let fit' : AreFit cpus after (length after) = rw is fit in
    none-some why (sym (fit' h.at h.line (slice_get_within after h.at h.line h.here) h.here) ∙ h.cause)
unscripted cpus setup before lines after OutOfMemory is h fit = h

-- what is known of the scripts of the lines after the first so many
pub known_there : (cpus setup limit : ℕ) (lines after : List Line) (known : HowMany)
    → after ≡ drop setup lines → AreFit cpus after (length after) → AreKnownAs cpus after limit known
    → IsKnownAfter cpus setup lines limit (Some known)
known_there cpus setup limit lines after known is fit h = (rw is at fit, rw is at h)
