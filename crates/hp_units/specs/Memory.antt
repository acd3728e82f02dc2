-- The state of the machine's memory, as plain lists, with the readers and writers of each part. For
-- a number outside the layout, a reader returns nothing or the state of an offline block, and a
-- writer changes nothing.
use Rattle.std.specs.Prelude.{ℕ, zero, suc, ◌+◌, ◌*◌, false, List, [], Option, None, slice_index_or, slice_set}
use Rattle.hp_units.specs.Numbers.{Frame, Order, Pageblock, Block, Cpu, Owner, Page}
use Rattle.hp_units.specs.Names.{Zone, NormalZone, MovableZone, Mobility, Unmovable, Movable, Class, Nu, Nm, Mm, IsoN, IsoM, Pool, NuPool, NmPool, MmPool, OfflineState, Auto, Kind, Row}

-- the free areas: the free blocks of each class and order, front first, and each pageblock's kind
-- (Gorman, chapter 6: free_area; Linux, memory hotplug: zones)
pub record FreeAreas : Type 0 where
  pub lists : List (List Frame)
  pub kinds : List Kind

-- the frames that can be handed out: the free areas, and each processor's list of each pool
-- (Gorman, chapter 6: per-cpu lists)
pub record FreeFrames : Type 0 where
  pub areas : FreeAreas
  pub cached : List (List Frame)

-- by owner and page: the frame that holds the page, and the page's words
pub record Pages : Type 0 where
  pub table : List (List (Option Frame))
  pub contents : List (List (Option (List ℕ)))

-- each memory block's row, and what an added block becomes (Linux, memory hotplug: state,
-- auto_online_blocks)
pub record Blocks : Type 0 where
  pub rows : List Row
  pub auto : Auto

-- the whole state; `kernel` has, for each frame, the order of the kernel block that starts there,
-- if any
pub record Memory : Type 0 where
  pub free : FreeFrames
  pub pages : Pages
  pub kernel : List (Option Order)
  pub blocks : Blocks

-- ---- the classes and the pools

abbrev pub class_index : Class → ℕ
class_index Nu = 0
class_index Nm = 1
class_index Mm = 2
class_index IsoN = 3
class_index IsoM = 4

-- the class with this index; any greater index gives the last class
abbrev pub class_numbered : ℕ → Class
class_numbered zero = Nu
class_numbered (suc zero) = Nm
class_numbered (suc (suc zero)) = Mm
class_numbered (suc (suc (suc zero))) = IsoN
class_numbered (suc (suc (suc (suc n)))) = IsoM

abbrev pub pool_index : Pool → ℕ
pool_index NuPool = 0
pool_index NmPool = 1
pool_index MmPool = 2

-- the class that a pool's frames are taken from and given back to
abbrev pub class_of_pool : Pool → Class
class_of_pool NuPool = Nu
class_of_pool NmPool = Nm
class_of_pool MmPool = Mm

-- the zone of a pool's frames
abbrev pub zone_of_pool : Pool → Zone
zone_of_pool NuPool = NormalZone
zone_of_pool NmPool = NormalZone
zone_of_pool MmPool = MovableZone

-- the class of free blocks that are not isolated, by zone and mobility
abbrev pub usable_class : Zone → Mobility → Class
usable_class NormalZone Unmovable = Nu
usable_class NormalZone Movable = Nm
usable_class MovableZone mobility = Mm

-- the class of a zone's isolated free blocks
abbrev pub isolated_class : Zone → Class
isolated_class NormalZone = IsoN
isolated_class MovableZone = IsoM

-- the pool of a zone and a mobility
abbrev pub pool_of : Zone → Mobility → Pool
pool_of NormalZone Unmovable = NuPool
pool_of NormalZone Movable = NmPool
pool_of MovableZone mobility = MmPool

-- ---- reading and writing the free areas

abbrev pub free_list : FreeAreas → Class → Order → List Frame
free_list a class order = slice_index_or a.lists (5 * order + class_index class) []

abbrev pub with_free_list : FreeAreas → Class → Order → List Frame → FreeAreas
with_free_list a class order frames =
    record a { lists = slice_set a.lists (5 * order + class_index class) frames }

-- the kind of a pageblock in an offline block. `kind_of` also returns it for a number outside the
-- layout
abbrev pub plain_kind : Kind
plain_kind = record { mobility = Movable; isolated = false }

abbrev pub kind_of : FreeAreas → Pageblock → Kind
kind_of a pageblock = slice_index_or a.kinds pageblock plain_kind

abbrev pub with_kind : FreeAreas → Pageblock → Kind → FreeAreas
with_kind a pageblock kind = record a { kinds = slice_set a.kinds pageblock kind }

-- ---- the processors' lists

abbrev pub cached_list : FreeFrames → Cpu → Pool → List Frame
cached_list fs cpu pool = slice_index_or fs.cached (3 * cpu + pool_index pool) []

abbrev pub with_cached_list : FreeFrames → Cpu → Pool → List Frame → FreeFrames
with_cached_list fs cpu pool frames =
    record fs { cached = slice_set fs.cached (3 * cpu + pool_index pool) frames }

-- ---- the owners' pages

-- a page's entry in a table by owner and page, and the table with another entry
abbrev pub entry_of : {A : Type 0} → List (List (Option A)) → Owner → Page → Option A
entry_of table owner page = slice_index_or (slice_index_or table owner []) page None

abbrev pub with_entry : {A : Type 0} → List (List (Option A)) → Owner → Page → Option A
    → List (List (Option A))
with_entry table owner page entry =
    slice_set table owner (slice_set (slice_index_or table owner []) page entry)

-- ---- the rows

-- the row of an offline block that no operation claims. `row_of` also returns it for a number
-- outside the layout
abbrev pub offline_row : Row
offline_row = record { state = OfflineState; zone = None; claim = None }

abbrev pub row_of : Blocks → Block → Row
row_of bs block = slice_index_or bs.rows block offline_row

abbrev pub with_row : Blocks → Block → Row → Blocks
with_row bs block row = record bs { rows = slice_set bs.rows block row }

-- ---- the kernel blocks

abbrev pub kernel_order : Memory → Frame → Option Order
kernel_order s frame = slice_index_or s.kernel frame None

abbrev pub with_kernel_order : Memory → Frame → Option Order → Memory
with_kernel_order s frame order = record s { kernel = slice_set s.kernel frame order }
