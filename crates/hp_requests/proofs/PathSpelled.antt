-- A path stands for a file of a memory block exactly if it is spelled as one.
use Rattle.std.proofs.Common.{◌≡◌, ℕ, ◌+◌, ◌^◌, ◌<◌, ◌≤◌, Bool, true, false, cond, eqb, ltb, List, [], ◌∷◌, ◌++◌, length, get_or, take, drop, Option, Some, None, refl, sym, ap, ◌∙◌, arith, add-one, codes, drop-cons}
use Rattle.std.specs.Fmt.{decimal}
use Rattle.std.specs.List.{AllByRecursion, position_or_len, starts_with}
use Rattle.std.specs.Option.{option_and_then, option_map}
use Rattle.std.specs.Str.{bytes_eq}
use Rattle.std.specs.Str.Parse.{AllDigits}
use Rattle.std.proofs.Math.Seq.{take-append_seam, drop-append-add}
use Rattle.std.proofs.lemmas.Bool.{lt-ltb, ltb-true, ne_eqb, eqb-true}
use Rattle.std.proofs.lemmas.Bool.Decides.{Decides-eqb}
use Rattle.std.proofs.lemmas.Fmt.{decimal_is_IsNumeral}
use Rattle.std.proofs.lemmas.List.{take-append-drop, length-append}
use Rattle.std.proofs.lemmas.List.Sums.{passes_at_first}
use Rattle.std.proofs.lemmas.Option.{same_Some}
use Rattle.std.proofs.lemmas.Slice.Eq.{bytes_eq-Decides, starts_is}
use Rattle.std.proofs.lemmas.Str.Parse.{digit_from_value}
use Rattle.hp_requests.specs.Files.{block_file_named, file_at, file_of_block, halves_of}
use Rattle.hp_requests.specs.Laws.{BlockPathsAreSpelled, block_path, file_name}
use Rattle.hp_requests.specs.Names.{File, BlockSizeBytes, Buddyinfo, Probe, AutoOnlineBlocks, OfBlock, BlockFile, StateFile, OnlineFile, ZonesFile, RemovableFile}
use Rattle.hp_units.specs.NumberWords.{number_of}
use Rattle.hp_requests.specs.Words.{block_named}
use Rattle.hp_units.proofs.NumbersSpelled.{chosen, is_spelled, spelled_is}

-- ---- the slash

-- a digit is no slash
digit_no_slash : (byte : ℕ) → (48 ≤ byte) × (byte ≤ 57) → eqb byte 47 ≡ false
digit_no_slash byte h = ne_eqb byte 47 (λ e. omega arith)

-- digits have no slash
digits_no_slash : (bytes : List ℕ) → AllDigits 10 bytes → AllByRecursion (λ byte. eqb byte 47 ≡ false) bytes
digits_no_slash [] h = h
digits_no_slash (byte ∷ bytes) h =
    (digit_no_slash byte (digit_from_value byte h.0), digits_no_slash bytes h.1)

-- nor has the name of a memory block's directory
directory_no_slash : (block : ℕ) → block < 2 ^ 64
    → AllByRecursion (λ byte. eqb byte 47 ≡ false) (codes "memory" ++ decimal block)
directory_no_slash block small = (
  refl,
  (
    refl,
    (refl, (refl, (refl, (refl, digits_no_slash (decimal block) (decimal_is_IsNumeral block small).0.1)))),
  ),
)

-- the first slash comes after a text that has none
slash_at : (front rest : List ℕ) → AllByRecursion (λ byte. eqb byte 47 ≡ false) front
    → position_or_len (λ byte. eqb byte 47) (front ++ 47 ∷ rest) ≡ length front
slash_at [] rest h = refl
slash_at (byte ∷ front) rest h = rw h.0 (omega (arith, slash_at front rest h.1))

-- a text without a slash, a slash and a text are cut at that slash
halves_at : (front rest : List ℕ) → AllByRecursion (λ byte. eqb byte 47 ≡ false) front
    → halves_of (front ++ 47 ∷ rest) ≡ Some (front, rest)
unfolding halves_of
halves_at front rest h =
    let within : length front < length (front ++ 47 ∷ rest) =
    omega (arith, length-append front (47 ∷ rest)) in
    rw (slash_at front rest h, lt-ltb _ _ within, take-append_seam front (47 ∷ rest))
    (rw (drop-append-add front (47 ∷ rest) 1))

-- a list is what comes before a place, the element there, and what comes after it
whole : (path : List ℕ) (n byte : ℕ) → n < length path → get_or path n 0 ≡ byte
    → path ≡ take n path ++ byte ∷ drop (n + 1) path
whole path n byte within there =
    rw (add-one n, ← there, ← drop-cons path n 0 within) (sym (take-append-drop n path))

-- what is cut is the whole with its slash
halves_join : (path : List ℕ) (halves : List ℕ × List ℕ) → halves_of path ≡ Some halves
    → path ≡ halves.0 ++ 47 ∷ halves.1
unfolding halves_of
halves_join path halves e =
    let n : ℕ = position_or_len (λ byte. eqb byte 47) path in
    let cut = chosen (ltb n (length path)) (Some (take n path, drop (n + 1) path)) halves e in
    let within : n < length path = ltb-true _ _ cut.0 in
    let slash : get_or path n 0 ≡ 47 = eqb-true _ _ (passes_at_first (λ byte. eqb byte 47) path 0 within) in
    rw (← same_Some _ _ cut.1) (whole path n 47 within slash)

-- ---- the directory

-- the directory of a block below 2 ^ 32 names it
directory_is : (block : ℕ) → block < 2 ^ 32 → block_named (codes "memory" ++ decimal block) ≡ Some block
unfolding block_named
directory_is block small = spelled_is 32 (decimal block) block (omega arith) (refl, small)

-- and a name that names a block is `memory` and the block in decimal
directory_named : (name : List ℕ) (block : ℕ) → block_named name ≡ Some block
    → (name ≡ codes "memory" ++ decimal block) × (block < 2 ^ 32)
unfolding block_named
directory_named name block e =
    let made = chosen (starts_with eqb name (codes "memory")) (number_of 32 (drop 6 name)) block e in
    let split =
    (starts_is Decides-eqb name (codes "memory") (starts_with eqb name (codes "memory")) refl).0 made.0 in
    let number = is_spelled 32 (drop 6 name) block (omega arith) made.1 in
    (rw (← number.0) split, number.1)

-- ---- the file's name

-- the name of a file names it
name_is : (file : BlockFile) → block_file_named (file_name file) ≡ Some file
unfolding block_file_named
name_is StateFile = refl
name_is OnlineFile = refl
name_is ZonesFile = refl
name_is RemovableFile = refl

-- one name, or one of the others
named_or : (name text : List ℕ) (kind : BlockFile) (others : Option BlockFile) (file : BlockFile)
    → text ≡ file_name kind → cond (bytes_eq name text) (Some kind) others ≡ Some file
    → (others ≡ Some file → name ≡ file_name file) → name ≡ file_name file
named_or name text kind others file is e other =
    by_test (bytes_eq name text) ((bytes_eq-Decides name text).0) e
  where
    by_test : (test : Bool) → (test ≡ true → name ≡ text) → cond test (Some kind) others ≡ Some file
        → name ≡ file_name file
    by_test true same e = let it : kind ≡ file = cc in same refl ∙ is ∙ ap file_name it
    by_test false same e = other e

-- and a name that names a file is its name
name_named : (name : List ℕ) (file : BlockFile) → block_file_named name ≡ Some file → name ≡ file_name file
unfolding block_file_named
name_named name file e =
    named_or name (codes "state") StateFile _ file refl e (λ e. named_or name (codes
    "online") OnlineFile _ file refl e (λ e. named_or name (codes "valid_zones") ZonesFile _ file refl e
    (λ e. named_or name (codes "removable") RemovableFile None file refl e (λ e. absurd cc))))

-- ---- the whole path

-- both parts of a file of a block
both_named : (number : Option ℕ) (kind : Option BlockFile) (block : ℕ) (file : BlockFile)
    → option_and_then (λ n. option_map (λ k. OfBlock n k) kind) number ≡ Some (OfBlock block file)
    → (number ≡ Some block) × (kind ≡ Some file)
both_named None kind block file e = absurd cc
both_named (Some n) None block file e = absurd cc
both_named (Some n) (Some k) block file e = (cc, cc)

-- a path that was cut
from_halves : (path : List ℕ) (halves : Option (List ℕ × List ℕ)) → halves_of path ≡ halves
    → (block : ℕ) (file : BlockFile)
    → option_and_then (λ h. file_of_block h.0 h.1) halves ≡ Some (OfBlock block file)
    → (path ≡ block_path block file) × (block < 2 ^ 32)
from_halves path None cut block file e = absurd cc
from_halves path (Some h) cut block file e =
    let named = both_named (block_named h.0) (block_file_named h.1) block file e in
    let directory = directory_named h.0 block named.0 in
    (rw (directory.0, name_named h.1 file named.1) at (halves_join path h cut), directory.1)

-- a file that was not the first of the choices is one of the others
not_first : (test : Bool) (first : File) (others : Option File) (file : File)
    → cond test (Some first) others ≡ Some file → (first ≡ file → ⊥) → others ≡ Some file
not_first true first others file e ne = absurd (ne cc)
not_first false first others file e ne = e

-- a path that stands for a file of a block is spelled so
path_named : (path : List ℕ) (block : ℕ) (file : BlockFile) → file_at path ≡ Some (OfBlock block file)
    → (path ≡ block_path block file) × (block < 2 ^ 32)
unfolding file_at
path_named path block file e =
    from_halves path (halves_of path) refl block file
    (not_first _ AutoOnlineBlocks _ _ (not_first _ Probe _ _ (not_first _ Buddyinfo _ _
    (not_first _ BlockSizeBytes _ _ e (λ h. cc)) (λ h. cc)) (λ h. cc)) (λ h. cc))

-- and a path that is spelled so stands for the file
path_is : (block : ℕ) (file : BlockFile) → block < 2 ^ 32
    → file_at (block_path block file) ≡ Some (OfBlock block file)
unfolding file_at
path_is block file small =
    ap (option_and_then (λ h. file_of_block h.0 h.1)) (halves_at (codes "memory" ++ decimal block)
    (file_name file) (directory_no_slash block (omega arith))) ∙ rw (directory_is block small, name_is file)

-- both directions
pub paths_law : BlockPathsAreSpelled
paths_law path block file = (path_named path block file, λ h. ap file_at h.0 ∙ path_is block file h.1)
