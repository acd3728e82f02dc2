-- The law that what `auto_online_blocks` shows can be written back.
use Rattle.std.specs.Prelude.{◌≡◌, ℕ, List, codes, Ok}
use Rattle.hp_units.specs.LayoutParts.{LayoutParts}
use Rattle.hp_units.specs.Memory.{Memory}
use Rattle.hp_units.specs.declared.events.Event.TheVariants.{SetAuto}
use Rattle.hp_text.specs.ControlFiles.{file_text}
use Rattle.hp_requests.specs.Writes.{request_of}
use Rattle.hp_requests.specs.declared.writes.Request.TheVariants.{Event}

-- the text of `auto_online_blocks`, written back to the file, asks for the policy that it shows
abbrev pub AutoIsWrittenBack : Type 0
AutoIsWrittenBack =
    (l : LayoutParts) (s : Memory) (text : List ℕ) → file_text l s (codes "auto_online_blocks") ≡ Ok text
    → request_of (codes "auto_online_blocks") text ≡ Ok (Event (SetAuto s.blocks.auto))
