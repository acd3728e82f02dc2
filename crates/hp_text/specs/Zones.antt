-- The text of buddyinfo: the free blocks of each zone by order (Linux, /proc/buddyinfo).
use Rattle.std.specs.Prelude.{ℕ, zero, suc, ◌+◌, ◌-◌, List, [], ◌∷◌, ◌++◌, codes, length, replicate}
use Rattle.std.specs.Fmt.{decimal}
use Rattle.hp_units.specs.LayoutParts.{LayoutParts}
use Rattle.hp_units.specs.Memory.{FreeAreas, free_list}
use Rattle.hp_text.specs.Names.{Zone, NormalZone, MovableZone, Class, Nu, Nm, Mm, IsoN, IsoM}

-- a text with spaces before it, so that it has at least `places` bytes
abbrev pub aligned : ℕ → List ℕ → List ℕ
aligned places text = replicate (places - length text) 32 ++ text

-- the name of a zone (Linux, /proc/buddyinfo)
abbrev pub zone_name : Zone → List ℕ
zone_name NormalZone = codes "Normal"
zone_name MovableZone = codes "Movable"

-- how many free blocks of an order a class has
abbrev pub free_count : FreeAreas → Class → ℕ → ℕ
free_count a class order = length (free_list a class order)

-- how many free blocks of an order a zone has, isolated ones too
abbrev pub zone_count : FreeAreas → Zone → ℕ → ℕ
zone_count a NormalZone order = free_count a Nu order + free_count a Nm order + free_count a IsoN order
zone_count a MovableZone order = free_count a Mm order + free_count a IsoM order

-- a count, right-aligned in 6 columns, with a space before it
unfoldable pub count_text : ℕ → List ℕ
count_text count = codes " " ++ aligned 6 (decimal count)

-- the counts of the orders below `order`, from 0
abbrev pub counts_below : FreeAreas → Zone → ℕ → List ℕ
counts_below a zone zero = []
counts_below a zone (suc order) = counts_below a zone order ++ count_text (zone_count a zone order)

-- the start of a zone's line
abbrev pub zone_head : Zone → List ℕ
zone_head zone = codes "Node 0, zone " ++ aligned 8 (zone_name zone)

-- a zone's line
unfoldable pub zone_line : LayoutParts → FreeAreas → Zone → List ℕ
zone_line l a zone = zone_head zone ++ counts_below a zone (l.order + 1) ++ 10 ∷ []

-- the text of `buddyinfo`: the line of each zone
unfoldable pub buddyinfo_text : LayoutParts → FreeAreas → List ℕ
buddyinfo_text l a = zone_line l a NormalZone ++ zone_line l a MovableZone
