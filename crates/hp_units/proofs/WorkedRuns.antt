-- Worked runs of the driver, places of frames, and contents by the net, computed.
use Rattle.std.proofs.Common.{◌≡◌, List, [], ◌∷◌, Some, None, true, length, refl}
use Rattle.hp_units.specs.Names.{Item, OffWish, KernelAlloc, Map, Unmap, Write, Begin, DrainFor, Migrate, Commit, Done, Opened, Moved, NoFrame, NotOnline, EndsDone, EndsRefused, EndsCancelled, Record}
use Rattle.hp_units.specs.LayoutParts.{layout_fault}
use Rattle.hp_units.specs.Boot.{boot_memory}
use Rattle.hp_units.specs.History.{value_of, run}
use Rattle.hp_units.specs.Contents.{contents_of_net}
use Rattle.hp_units.specs.Driver.{end_of}
use Rattle.hp_units.proofs.Script.{everything, off_2, played, driven, value_on, is_placed}
use Rattle.hp_units.proofs.Worked.{small}

abbrev off_3 : List Item
off_3 = record { block = 3; wish = OffWish } ∷ []

abbrev full : List Record
full = played small (boot_memory small) 0 [] ((0, KernelAlloc 2) ∷ (0, KernelAlloc 2) ∷ (0, Map 0 0) ∷ [])

-- no frame to move to: cancelled after two turns, which restores
full_end : end_of (driven small (boot_memory small) 0 2 off_2 full).1
    ≡ Some (EndsCancelled (Some NoFrame) true)
unfolding everything
full_end = refl

full_length : length (driven small (boot_memory small) 0 2 off_2 full).0 ≡ 13
unfolding everything
full_length = refl

full_value : value_of small (boot_memory small) (driven small (boot_memory small) 0 2 off_2 full).0
    ≡ value_of small (boot_memory small) full
unfolding everything
full_value = refl

-- no turns, one turn, and two turns; then a block that isn't online
abbrev one_page : List Record
one_page = played small (boot_memory small) 0 [] ((0, Map 0 0) ∷ [])

abbrev first_plan : List Record
first_plan = (driven small (boot_memory small) 0 0 off_2 one_page).0

abbrev second_plan : List Record
second_plan = (driven small (boot_memory small) 0 1 off_2 first_plan).0

no_turns : end_of (driven small (boot_memory small) 0 0 off_2 one_page).1 ≡ Some (EndsCancelled None true)
unfolding everything
no_turns = refl

one_turn : end_of (driven small (boot_memory small) 0 1 off_2 first_plan).1 ≡ Some (EndsCancelled None true)
unfolding everything
one_turn = refl

two_turns : end_of (driven small (boot_memory small) 0 2 off_2 second_plan).1 ≡ Some EndsDone
unfolding everything
two_turns = refl

then_length : length (driven small (boot_memory small) 0 2 off_2 second_plan).0 ≡ 16
unfolding everything
then_length = refl

not_online : end_of (driven small (boot_memory small) 0 5 off_3 one_page).1 ≡ Some (EndsRefused (NotOnline 3))
unfolding everything
not_online = refl

-- each frame is in one place: after boot, with a page mapped, with a block going offline, and with
-- one gone
booted_is_placed : is_placed small (boot_memory small) ≡ true
unfolding everything
booted_is_placed = refl

used_is_placed : is_placed small
    (value_on small ((0, Map 0 0) ∷ (1, KernelAlloc 0) ∷ (0, KernelAlloc 1) ∷ (0, Begin off_2) ∷ [])) ≡ true
unfolding everything
used_is_placed = refl

offline_is_placed : is_placed small (value_on small
    ((0, Map 0 0) ∷ (0, Begin off_2) ∷ (0, Migrate 2) ∷ (0, DrainFor 2 0) ∷ (0, Commit 2) ∷ [])) ≡ true
unfolding everything
offline_is_placed = refl

-- the contents are those of the net
abbrev written : List Record
written =
    record { serial = 1; cpu = 0; event = Map 0 0; reply = Done }
    ∷ record { serial = 2; cpu = 0; event = Write 0 0 1 5; reply = Done }
    ∷ record { serial = 3; cpu = 1; event = Map 1 3; reply = Done }
    ∷ record { serial = 4; cpu = 0; event = Begin off_2; reply = Opened 4 }
    ∷ record { serial = 5; cpu = 0; event = Migrate 4; reply = Moved 8 0 }
    ∷ record { serial = 6; cpu = 0; event = Unmap 1 3; reply = Done }
    ∷ []

written_contents : contents_of_net small (boot_memory small).pages.contents written
    ≡ (run small (boot_memory small) written).pages.contents
unfolding everything
written_contents = refl

-- the layouts are within the limits
small_fault : layout_fault small ≡ None
small_fault = refl
