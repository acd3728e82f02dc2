-- The number of interleavings of a scenario's scripts, computed without a search, and its text.
use Rattle.std.specs.Prelude.{◌≡◌, ℕ, List, [], ◌++◌, codes, drop, length, Option, Some, None}
use Rattle.std.specs.Fmt.{decimal}
use Rattle.hp_text.specs.State.{newline}
use Rattle.hp_schedules.specs.Interleavings.{IsKnown}
use Rattle.hp_schedules.specs.declared.multinomials.HowMany.{HowMany}
use Rattle.hp_schedules.specs.declared.multinomials.HowMany.TheVariants.{Exactly, MoreThanLimit, Unknown}
use Rattle.hp_scenario.specs.declared.lines.Line.{Line}
use Rattle.hp_scripts.specs.Checks.{AreFit}
use Rattle.hp_scripts.specs.Scripts.{scripts_of}
use Rattle.hp_scripts.specs.declared.begins.Begin.{Begin}

-- the lines after the first `setup` may all be in scripts
abbrev pub AreScripts : (cpus setup : ℕ) → List Line → Type 0
AreScripts cpus setup lines = AreFit cpus (drop setup lines) (length (drop setup lines))

-- the number of interleavings of these lines is `known`, whatever operations were begun before them,
-- and whatever results they work on
abbrev pub AreKnownAs : (cpus : ℕ) → List Line → (limit : ℕ) → HowMany → Type 0
AreKnownAs cpus lines limit known =
    (begins : List Begin) (sources : List (Option ℕ))
    → IsKnown (scripts_of cpus begins lines sources) limit known

-- the number of interleavings of the lines after the first `setup`; `None` if one of these may not be
-- in a script
abbrev pub IsKnownAfter : (cpus setup : ℕ) → List Line → (limit : ℕ) → Option HowMany → Type 0
IsKnownAfter cpus setup lines limit None = AreScripts cpus setup lines → ⊥
IsKnownAfter cpus setup lines limit (Some known) =
    AreScripts cpus setup lines × AreKnownAs cpus (drop setup lines) limit known

-- the line that reports the number of interleavings, or that it is above `limit`, or that it is not
-- known; empty for None
abbrev pub told_text : (limit : ℕ) → Option HowMany → List ℕ
told_text limit None = []
told_text limit (Some (Exactly count)) = codes "interleavings: " ++ decimal count ++ newline
told_text limit (Some MoreThanLimit) = codes "interleavings: more than " ++ decimal limit ++ newline
told_text limit (Some Unknown) =
    codes "interleavings: not known: the calls of a plan are counted only by explore\n"

-- the text reports what is known of the number of interleavings of the lines after the first `setup`.
-- It is empty if one of these may not be in a script
abbrev pub IsCountTold : (cpus setup : ℕ) → List Line → (limit : ℕ) → (text : List ℕ) → Type 0
IsCountTold cpus setup lines limit text =
    (known : Option HowMany) × IsKnownAfter cpus setup lines limit known × (text ≡ told_text limit known)
