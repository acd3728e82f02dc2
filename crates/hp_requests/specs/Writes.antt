-- The requests made by writing to control files (Linux guide, Memory Hot(Un)Plug).
use Rattle.std.specs.Prelude.{ℕ, List, [], ◌∷◌, ◌++◌, codes, Option, Some, None, Result, Ok, Err, if◌then◌else◌}
use Rattle.std.specs.Option.{option_map}
use Rattle.std.specs.Str.{bytes_eq}
use Rattle.hp_units.specs.declared.events.Event.TheVariants.{Online, Probe as ProbeEvent, SetAuto}
use Rattle.hp_requests.specs.Files.{file_at}
use Rattle.hp_requests.specs.Gives.{or_fault, ◌>>=◌}
use Rattle.hp_requests.specs.Words.{address_of, without_newline}
use Rattle.hp_requests.specs.Names.{Zone, NormalZone, MovableZone, OffWish, Auto, OfflineAuto, OnlineAuto, KernelAuto, MovableAuto, ControlFault, NoFile, ReadOnly, BadText, File, BlockSizeBytes, Buddyinfo, Probe, AutoOnlineBlocks, OfBlock, BlockFile, StateFile, OnlineFile, ZonesFile, RemovableFile}
use Rattle.hp_requests.specs.declared.writes.Request.{Request}
use Rattle.hp_requests.specs.declared.writes.Request.TheVariants.{Event, Plan}

-- a block goes online in a zone
abbrev pub online : ℕ → Zone → Request
online block zone = Event (Online block zone)

-- a block goes offline
abbrev pub offline : ℕ → Request
offline block = Plan (record { block = block; wish = OffWish } ∷ [])

-- what a text written to a block's `state` asks for
unfoldable pub state_request : ℕ → List ℕ → Result Request ControlFault
state_request block text =
    if bytes_eq text (codes "online") then Ok (online block NormalZone)
    else (if bytes_eq text (codes "online_kernel") then Ok (online block NormalZone)
    else (if bytes_eq text (codes "online_movable") then Ok (online block MovableZone)
    else (if bytes_eq text (codes "offline") then Ok (offline block)
    else Err BadText)))

-- what a text written to a block's `online` asks for
unfoldable pub online_request : ℕ → List ℕ → Result Request ControlFault
online_request block text =
    if bytes_eq text (codes "1") then Ok (online block NormalZone)
    else (if bytes_eq text (codes "0") then Ok (offline block)
    else Err BadText)

-- what a text written to a file of a memory block asks for
abbrev pub block_request : ℕ → BlockFile → List ℕ → Result Request ControlFault
block_request block StateFile text = state_request block text
block_request block OnlineFile text = online_request block text
block_request block ZonesFile text = Err ReadOnly
block_request block RemovableFile text = Err ReadOnly

-- what a block becomes when it is added, from its word
unfoldable pub auto_of : List ℕ → Option Auto
auto_of text =
    if bytes_eq text (codes "offline") then Some OfflineAuto
    else (if bytes_eq text (codes "online") then Some OnlineAuto
    else (if bytes_eq text (codes "online_kernel") then Some KernelAuto
    else (if bytes_eq text (codes "online_movable") then Some MovableAuto
    else None)))

-- what a text written to a file asks for
unfoldable pub request_to : File → List ℕ → Result Request ControlFault
request_to BlockSizeBytes text = Err ReadOnly
request_to Buddyinfo text = Err ReadOnly
request_to Probe text =
    or_fault BadText (option_map (λ address. Event (ProbeEvent address)) (address_of text))
request_to AutoOnlineBlocks text = or_fault BadText (option_map (λ auto. Event (SetAuto auto)) (auto_of text))
request_to (OfBlock block file) text = block_request block file text

-- what bytes written to the file at a path ask for
unfoldable pub request_of : List ℕ → List ℕ → Result Request ControlFault
request_of path bytes = do
  file ← or_fault NoFile (file_at path)
  request_to file (without_newline bytes)

-- what a word asks for if `echo` writes it, with a newline
abbrev pub echo_request : (path word : List ℕ) → Result Request ControlFault
echo_request path word = request_of path (word ++ codes "\n")

-- the most migrations that a plan from a control file may try
abbrev pub control_turns : ℕ
control_turns = 1024
