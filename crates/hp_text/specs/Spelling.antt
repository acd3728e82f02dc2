-- Calls, events and plans as lines of a scenario.
use Rattle.std.specs.Prelude.{ℕ, List, ◌++◌, codes, false}
use Rattle.std.specs.Fmt.{decimal, digits}
use Rattle.std.specs.List.{flat_map}
use Rattle.hp_units.specs.Texts.{auto_text, zone_text}
use Rattle.hp_units.specs.declared.events.Event.{Event}
use Rattle.hp_units.specs.declared.events.Event.TheVariants.{KernelAlloc, KernelFree, Map, Unmap, Write, Read, Drain, Online, Begin, DrainFor, Migrate, Commit, Cancel, UndoAfter, Probe, Remove, SetAuto}
use Rattle.hp_units.specs.declared.plans.Item.{Item}
use Rattle.hp_units.specs.declared.rows.Wish.{Wish}
use Rattle.hp_units.specs.declared.rows.Wish.TheVariants as wish
use Rattle.hp_text.specs.State.{name_of, number_word}

-- an item of a plan after a space
abbrev pub wish_word : Wish → List ℕ
wish_word wish.Off = codes " off"
wish_word wish.Normal = codes " normal"
wish_word wish.Movable = codes " movable"

abbrev pub item_word : Item → List ℕ
item_word item = wish_word item.wish ++ number_word item.block

-- an access to an owner's page, with the owner's name
abbrev pub access_text : (verb : List ℕ) → (names : List (List ℕ)) → (owner page : ℕ) → List ℕ
access_text verb names owner page = verb ++ codes " " ++ name_of names owner ++ number_word page

-- an event; one that only a control file takes is an `echo` (Linux guide: probe,
-- auto_online_blocks)
abbrev pub event_text : (names : List (List ℕ)) → Event → List ℕ
event_text names (KernelAlloc order) = codes "kalloc" ++ number_word order
event_text names (KernelFree frame) = codes "kfree" ++ number_word frame
event_text names (Map owner page) = access_text (codes "map") names owner page
event_text names (Unmap owner page) = access_text (codes "unmap") names owner page
event_text names (Write owner page index value) =
    access_text (codes "write") names owner page ++ number_word index ++ number_word value
event_text names (Read owner page index) = access_text (codes "read") names owner page ++ number_word index
event_text names (Drain cpu) = codes "drain" ++ number_word cpu
event_text names (Online block zone) = codes "online" ++ number_word block ++ codes " " ++ zone_text zone
event_text names (Begin items) = codes "begin" ++ flat_map item_word items
event_text names (DrainFor op cpu) = codes "drainfor" ++ number_word op ++ number_word cpu
event_text names (Migrate op) = codes "migrate" ++ number_word op
event_text names (Commit op) = codes "commit" ++ number_word op
event_text names (Cancel op) = codes "cancel" ++ number_word op
event_text names (UndoAfter serial) = codes "undo" ++ number_word serial
event_text names (Probe address) = codes "echo 0x" ++ digits 16 false address ++ codes " probe"
event_text names (Remove block) = codes "remove" ++ number_word block
event_text names (SetAuto auto) = codes "echo " ++ auto_text auto ++ codes " auto_online_blocks"

-- a plan to be carried out with at most `turns` migrations
abbrev pub plan_text : List Item → (turns : ℕ) → List ℕ
plan_text items turns = codes "plan" ++ number_word turns ++ flat_map item_word items

-- a line: the processor, then the event
abbrev pub call_text : (names : List (List ℕ)) → (cpu : ℕ) → Event → List ℕ
call_text names cpu event = decimal cpu ++ codes " " ++ event_text names event
