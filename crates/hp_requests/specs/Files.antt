-- The control files by their paths, relative to the directory of memory devices (Linux guide,
-- Memory Hot(Un)Plug).
use Rattle.std.specs.Prelude.{ℕ, ◌==◌, List, codes, length, nat_lt, Option, Some, None, if◌then◌else◌}
use Rattle.std.specs.Option.{option_and_then, option_map}
use Rattle.std.specs.List.{before_first, after_first, position_or_len}
use Rattle.std.specs.Str.{bytes_eq}
use Rattle.hp_requests.specs.Words.{block_named}
use Rattle.hp_requests.specs.Names.{File, BlockSizeBytes, Buddyinfo, Probe, AutoOnlineBlocks, OfBlock, BlockFile, StateFile, OnlineFile, ZonesFile, RemovableFile}

-- the texts before and after the first slash
unfoldable pub halves_of : List ℕ → Option (List ℕ × List ℕ)
halves_of path =
    if nat_lt (position_or_len (λ b. b == 47) path) (length path) then Some
    (before_first (λ b. b == 47) path, after_first (λ b. b == 47) path)
    else None

-- the kind of a memory block's file, by the file's name
unfoldable pub block_file_named : List ℕ → Option BlockFile
block_file_named name =
    if bytes_eq name (codes "state") then Some StateFile
    else (if bytes_eq name (codes "online") then Some OnlineFile
    else (if bytes_eq name (codes "valid_zones") then Some ZonesFile
    else (if bytes_eq name (codes "removable") then Some RemovableFile
    else None)))

-- the file with this name in the directory of a memory block
abbrev pub file_of_block : (directory name : List ℕ) → Option File
file_of_block directory name =
    option_and_then (λ block. option_map (λ kind. OfBlock block kind) (block_file_named name))
    (block_named directory)

-- the file at a path
unfoldable pub file_at : List ℕ → Option File
file_at path =
    if bytes_eq path (codes "block_size_bytes") then Some BlockSizeBytes
    else (if bytes_eq path (codes "buddyinfo") then Some Buddyinfo
    else (if bytes_eq path (codes "probe") then Some Probe
    else (if bytes_eq path (codes "auto_online_blocks") then Some AutoOnlineBlocks
    else option_and_then (λ halves. file_of_block halves.0 halves.1) (halves_of path))))
