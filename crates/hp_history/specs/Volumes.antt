-- Volumes of sealed records, and when each of a list follows those before it.
use Rattle.std.specs.Prelude.{ℕ, ◌≡◌, List, Some, fold, length, map, slice_get, sum_by, take}
use Rattle.hp_units.specs.Boot.{boot_memory}
use Rattle.hp_units.specs.LayoutParts.{LayoutParts}
use Rattle.hp_units.specs.Memory.{Memory}
use Rattle.hp_units.specs.History.{IsLegal, value_of}
use Rattle.hp_units.specs.declared.replies.Record.{Record}
use Rattle.hp_history.specs.Course.{CourseValue}
use Rattle.hp_history.specs.Kept.{pictured}
use Rattle.hp_history.specs.declared.volumes.Volume.{Volume}

-- the volume of all records of a course
abbrev pub volume_of : CourseValue → Volume
volume_of c = record { before = c.before; base = pictured c.layout c.base; records = c.history }

-- how many records the volumes hold
abbrev pub records_in : List Volume → ℕ
records_in volumes = sum_by (λ v. length v.records) volumes

-- the state that the volumes lead to from boot
abbrev pub state_after : LayoutParts → List Volume → Memory
state_after l volumes = fold (λ s v. value_of l s v.records) (boot_memory l) volumes

-- a volume follows the earlier ones: it was sealed after as many records as they hold, and its base
-- is the state that they lead to. Its records are a legal history over its base
pub record FollowsVolumes (l : LayoutParts) (earlier : List Volume) (v : Volume) : Type 0 where
  pub count : v.before ≡ records_in earlier
  pub base : v.base ≡ pictured l (state_after l earlier)
  pub legal : IsLegal l (state_after l earlier) (records_in earlier) v.records

-- each volume follows those before it
abbrev pub IsChain : LayoutParts → List Volume → Type 0
IsChain l volumes =
    (at : ℕ) (v : Volume) → slice_get volumes at ≡ Some v → FollowsVolumes l (take at volumes) v

-- the records of each volume
abbrev pub histories_of : List Volume → List (List Record)
histories_of volumes = map (λ v. v.records) volumes
