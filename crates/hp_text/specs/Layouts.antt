-- A layout as an object of a scenario.
use Rattle.std.specs.Prelude.{ℕ, true, List, ◌++◌, codes}
use Rattle.std.specs.Fmt.{decimal}
use Rattle.hp_units.specs.LayoutParts.{LayoutParts}
use Rattle.hp_units.specs.declared.rows.Boot.{Boot}
use Rattle.hp_units.specs.declared.rows.Boot.TheVariants.{Offline, Normal, Movable, Absent}
use Rattle.hp_text.specs.Separated.{separated}

-- the word for a memory block's state at boot
abbrev pub boot_word : Boot → List ℕ
boot_word Offline = codes "offline"
boot_word Normal = codes "normal"
boot_word Movable = codes "movable"
boot_word Absent = codes "absent"

abbrev pub boot_entry : Boot → List ℕ
boot_entry boot = codes "\"" ++ boot_word boot ++ codes "\""

unfoldable pub boots_text : List Boot → List ℕ
boots_text boots = separated (codes ", ") boot_entry true boots

unfoldable pub boot_list_text : List Boot → List ℕ
boot_list_text boots = codes ",\n\"boot\": [" ++ boots_text boots ++ codes "]}"

-- the numbers, each after its key
unfoldable pub frames_text : (order pageblocks : ℕ) → List ℕ
frames_text order pageblocks =
    codes "{\"order\": " ++ decimal order ++ codes ", \"pageblocks\": " ++ decimal pageblocks

unfoldable pub counts_text : (blocks cpus : ℕ) → List ℕ
counts_text blocks cpus = codes ", \"blocks\": " ++ decimal blocks ++ codes ", \"cpus\": " ++ decimal cpus

unfoldable pub marks_text : (batch high : ℕ) → List ℕ
marks_text batch high = codes ", \"batch\": " ++ decimal batch ++ codes ", \"high\": " ++ decimal high

unfoldable pub pages_text : (owners pages : ℕ) → List ℕ
pages_text owners pages = codes ",\n\"owners\": " ++ decimal owners ++ codes ", \"pages\": " ++ decimal pages

unfoldable pub rest_text : (words history : ℕ) → List ℕ
rest_text words history = codes ", \"words\": " ++ decimal words ++ codes ", \"history\": " ++ decimal history

-- the sizes, with `batch` and `high` of the processors' lists; the limits
unfoldable pub sizes_text : LayoutParts → List ℕ
sizes_text l = frames_text l.order l.pageblocks ++ counts_text l.blocks l.cpus ++ marks_text l.batch l.high

unfoldable pub limits_text : LayoutParts → List ℕ
limits_text l = pages_text l.owners l.pages ++ rest_text l.words l.history

-- the whole object: sizes, limits, and the blocks' states at boot
unfoldable pub layout_text : LayoutParts → List ℕ
layout_text l = sizes_text l ++ limits_text l ++ boot_list_text l.boot
