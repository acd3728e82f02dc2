-- What undo and Cancel need to know of a step: its serial, and whether it begins an operation or is
-- one of its own drains and migrations.
use Rattle.std.specs.Prelude.{ℕ, suc, ◌==◌, Bool, true, false, if◌then◌else◌, ◌&&◌, List, [], ◌∷◌, Option, Some, None}
use Rattle.std.specs.Option.{option_map}
use Rattle.hp_units.specs.Numbers.{Serial}
use Rattle.hp_units.specs.Names.{Event, Begin, DrainFor, Migrate, Mark, Opens, Works, Other, Tag, Record}

-- the mark of an event
abbrev pub mark_of : Event → Mark
mark_of (Begin plan) = Opens
mark_of (DrainFor op cpu) = Works op
mark_of (Migrate op) = Works op
mark_of event = Other

-- the serial and the mark of a record
abbrev pub tag_of : Record → Tag
tag_of r = record { serial = r.serial; mark = mark_of r.event }

-- the mark is that of a Begin; the mark is that of the operation's own work
abbrev pub is_opening : Mark → Bool
is_opening Opens = true
is_opening (Works op) = false
is_opening Other = false

abbrev pub is_work_of : Serial → Mark → Bool
is_work_of op Opens = false
is_work_of op (Works other) = other == op
is_work_of op Other = false

-- the step begins the operation
abbrev pub begins : Serial → Tag → Bool
begins op t = is_opening t.mark && (t.serial == op)

-- the steps are the operation's own drains and migrations
abbrev pub holds_only_own_work : Serial → List Tag → Bool
holds_only_own_work op [] = true
holds_only_own_work op (t ∷ ts) = is_work_of op t.mark && holds_only_own_work op ts

-- the index of the operation's Begin if only the operation's own work follows it: then the
-- operation is sole
unfoldable pub sole_at : Serial → List Tag → Option ℕ
sole_at op [] = None
sole_at op (t ∷ ts) =
    if begins op t && holds_only_own_work op ts then Some 0 else option_map suc (sole_at op ts)
