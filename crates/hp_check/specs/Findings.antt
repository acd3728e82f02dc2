-- The findings and the keys of a scenario.
use Rattle.std.specs.Prelude.{ℕ, Bool, true, false, List, [], ◌∷◌, codes}
use Rattle.hp_check.specs.declared.finding.Finding.{Finding}
use Rattle.hp_check.specs.declared.finding.Finding.TheVariants as finding
use Rattle.hp_check.specs.declared.finding.Key.{Key}
use Rattle.hp_check.specs.declared.finding.Key.TheVariants as key
use Rattle.hp_check.specs.declared.finding.ScenarioObject.{ScenarioObject}
use Rattle.hp_check.specs.declared.finding.ScenarioObject.TheVariants.{Whole, Layout}

-- the finding is a fault, not a warning
abbrev pub is_fault : Finding → Bool
is_fault (finding.NotJson hint line column) = true
is_fault (finding.Shape s) = true
is_fault (finding.Layout r) = true
is_fault (finding.BadCall number text names) = true
is_fault (finding.Repeat place k) = false
is_fault (finding.Warning number w) = false

-- the text of a key in a scenario
abbrev pub key_name : Key → List ℕ
key_name key.Layout = codes "layout"
key_name key.Calls = codes "calls"
key_name key.Order = codes "order"
key_name key.Pageblocks = codes "pageblocks"
key_name key.Blocks = codes "blocks"
key_name key.Cpus = codes "cpus"
key_name key.Batch = codes "batch"
key_name key.High = codes "high"
key_name key.Owners = codes "owners"
key_name key.Pages = codes "pages"
key_name key.Words = codes "words"
key_name key.History = codes "history"
key_name key.Boot = codes "boot"

-- the keys of a layout whose values are numbers
abbrev pub number_keys : List Key
number_keys =
    key.Order ∷ key.Pageblocks ∷ key.Blocks ∷ key.Cpus ∷ key.Batch ∷ key.High ∷ key.Owners ∷ key.Pages
    ∷ key.Words ∷ key.History ∷ []

-- the keys that an object must have, and no others
abbrev pub keys_of : ScenarioObject → List Key
keys_of Whole = key.Layout ∷ key.Calls ∷ []
keys_of Layout =
    key.Order ∷ key.Pageblocks ∷ key.Blocks ∷ key.Cpus ∷ key.Batch ∷ key.High ∷ key.Owners ∷ key.Pages
    ∷ key.Words ∷ key.History ∷ key.Boot ∷ []
