-- Laws of paths and texts, in plain terms.
use Rattle.std.specs.Prelude.{◌≡◌, ℕ, ◌^◌, ◌<◌, ◌≤◌, List, ◌++◌, codes, length, Some, ◌↔◌}
use Rattle.std.specs.Fmt.{decimal}
use Rattle.std.specs.Str.Parse.{IsNumeral, digits_value}
use Rattle.hp_requests.specs.Files.{file_at}
use Rattle.hp_requests.specs.Names.{OfBlock, BlockFile, StateFile, OnlineFile, ZonesFile, RemovableFile}
use Rattle.hp_requests.specs.Words.{address_of}

-- the name of a file of a memory block (Linux guide, Memory Hot(Un)Plug)
abbrev pub file_name : BlockFile → List ℕ
file_name StateFile = codes "state"
file_name OnlineFile = codes "online"
file_name ZonesFile = codes "valid_zones"
file_name RemovableFile = codes "removable"

-- the path of a file of a memory block (Linux guide: memoryXXX)
abbrev pub block_path : ℕ → BlockFile → List ℕ
block_path block file = (codes "memory" ++ decimal block) ++ (codes "/" ++ file_name file)

-- a path is a file of a memory block if and only if it is spelled as `block_path`, and the block's
-- number is below 2^32
abbrev pub BlockPathsAreSpelled : Type 0
BlockPathsAreSpelled =
    (path : List ℕ) (block : ℕ) (file : BlockFile)
    → (file_at path ≡ Some (OfBlock block file)) ↔ ((path ≡ block_path block file) × (block < 2 ^ 32))

-- a text is an address if and only if it is `0x` and 1 to 16 hexadecimal digits that write the
-- address
abbrev pub AddressesAreSpelled : Type 0
AddressesAreSpelled =
    (text : List ℕ) (address : ℕ)
    → (address_of text ≡ Some address) ↔ ((digits : List ℕ) × (text ≡ codes "0x" ++ digits)
    × IsNumeral 16 digits × (length digits ≤ 16) × (digits_value 16 digits ≡ address))
