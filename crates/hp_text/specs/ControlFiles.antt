-- The texts of the control files (Linux guide, Memory Hot(Un)Plug; what the files show of a block
-- that is going offline is this model's choice).
use Rattle.std.specs.Prelude.{ℕ, false, List, [], ◌∷◌, ◌++◌, codes, Option, Some, None, Result, Ok, Err, slice_get}
use Rattle.std.specs.Fmt.{digits}
use Rattle.std.specs.Option.{option_and_then, option_map}
use Rattle.hp_units.specs.Arithmetic.{block_bytes}
use Rattle.hp_units.specs.LayoutParts.{LayoutParts}
use Rattle.hp_units.specs.Memory.{Memory}
use Rattle.hp_units.specs.Texts.{auto_text}
use Rattle.hp_requests.specs.Files.{file_at}
use Rattle.hp_requests.specs.Gives.{or_fault, ◌>>=◌}
use Rattle.hp_text.specs.Zones.{buddyinfo_text, zone_name}
use Rattle.hp_text.specs.Names.{Zone, State, OfflineState, OnlineState, GoingState, AbsentState, Row, ControlFault, NoFile, WriteOnly, File, BlockSizeBytes, Buddyinfo, Probe, AutoOnlineBlocks, OfBlock, BlockFile, StateFile, OnlineFile, ZonesFile, RemovableFile}

-- a text with its newline
abbrev pub line : List ℕ → List ℕ
line text = text ++ 10 ∷ []

-- the word of `valid_zones`: the block's zone, or both if it has none
abbrev pub zones_word : Option Zone → List ℕ
zones_word None = codes "Normal Movable"
zones_word (Some zone) = zone_name zone

-- what a file of a memory block shows; an absent block has no files
abbrev pub block_word : BlockFile → State → Option Zone → Option (List ℕ)
block_word _ AbsentState _ = None
block_word StateFile OnlineState _ = Some (codes "online")
block_word StateFile GoingState _ = Some (codes "going-offline")
block_word StateFile OfflineState _ = Some (codes "offline")
block_word OnlineFile OnlineState _ = Some (codes "1")
block_word OnlineFile GoingState _ = Some (codes "1")
block_word OnlineFile OfflineState _ = Some (codes "0")
block_word ZonesFile _ current = Some (zones_word current)
block_word RemovableFile _ _ = Some (codes "1")

-- what a file of the block with this number shows; None if the layout has no such block or it is
-- absent
abbrev pub word_at : List Row → ℕ → BlockFile → Option (List ℕ)
word_at rows block file = option_and_then (λ row. block_word file row.state row.zone) (slice_get rows block)

-- the text of a file
unfoldable pub text_of : LayoutParts → Memory → File → Result (List ℕ) ControlFault
text_of l s BlockSizeBytes = Ok (line (digits 16 false (block_bytes l)))
text_of l s Buddyinfo = Ok (buddyinfo_text l s.free.areas)
text_of l s Probe = Err WriteOnly
text_of l s AutoOnlineBlocks = Ok (line (auto_text s.blocks.auto))
text_of l s (OfBlock block file) = or_fault NoFile (option_map line (word_at s.blocks.rows block file))

-- the text of the file at a path
unfoldable pub file_text : LayoutParts → Memory → List ℕ → Result (List ℕ) ControlFault
file_text l s path = do
  file ← or_fault NoFile (file_at path)
  text_of l s file
