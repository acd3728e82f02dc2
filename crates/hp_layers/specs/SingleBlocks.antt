-- What an added memory block becomes.
use Rattle.std.specs.Prelude.{Option, None, Some}
use Rattle.hp_units.specs.declared.rows.Auto.{Auto}
use Rattle.hp_units.specs.declared.rows.Auto.TheVariants.{Offline, Online, OnlineKernel, OnlineMovable}
use Rattle.hp_units.specs.declared.rows.Zone.{Zone}
use Rattle.hp_units.specs.declared.rows.Zone.TheVariants.{Normal, Movable}

-- the zone in which an added memory block goes online at once; None if it stays offline (Linux,
-- memory hotplug: auto_online_blocks)
abbrev pub added_zone : Auto → Option Zone
added_zone Offline = None
added_zone Online = Some Normal
added_zone OnlineKernel = Some Normal
added_zone OnlineMovable = Some Movable
