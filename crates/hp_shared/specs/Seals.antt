-- How many volumes the lines of a run can hand out, and the order of volumes.
use Rattle.std.specs.Prelude.{ℕ, ◌+◌, ◌*◌, Bool, true, false, List, [], ◌∷◌, ◌++◌, length, sum_by}
use Rattle.std.specs.List.{All}
use Rattle.std.specs.List.Sorted.{IsNonDecreasingBy}
use Rattle.hp_units.specs.LayoutParts.{LayoutParts}
use Rattle.hp_history.specs.declared.volumes.Volume.{Volume}
use Rattle.hp_scenario.specs.Asked.{is_seal}
use Rattle.hp_scenario.specs.declared.lines.Line.{Line}
use Rattle.hp_shared.specs.Volumes.{IsSealOf}

-- 1 if the test holds, otherwise 0
abbrev pub one_if : Bool → ℕ
one_if true = 1
one_if false = 0

-- how many lines of a script are seals
abbrev pub seals_in : List Line → ℕ
seals_in lines = sum_by (λ line. one_if (is_seal line.work)) lines

-- how many lines of all scripts are seals
abbrev pub seals_in_all : List (List Line) → ℕ
seals_in_all scripts = sum_by seals_in scripts

-- each volume is that of some state of the shared machine: it holds all records since the last seal
abbrev pub AreSealed : LayoutParts → List Volume → Type 0
AreSealed l volumes = All (λ v. IsSealOf l v 0) volumes

-- the volumes of all lists, one list after another
abbrev pub joined : List (List Volume) → List Volume
joined [] = []
joined (volumes ∷ lists) = volumes ++ joined lists

-- a number that orders volumes by how many records came before them, then by how many they hold
-- (fewer than 2^64)
abbrev pub rank : Volume → ℕ
rank v = v.before * 18446744073709551616 + length v.records

abbrev pub AreInOrder : List Volume → Type 0
AreInOrder volumes = IsNonDecreasingBy rank volumes
