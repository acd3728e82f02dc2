-- The sizes of a machine.
use Rattle.std.specs.Prelude.{◌≡◌, ℕ, ◌*◌, ◌^◌, ◌≤◌, Bool, not, ◌&&◌, List, [], ◌∷◌, length, Option, ◌==◌, nat_le}
use Rattle.std.specs.List.{list_any, range_with_len}
use Rattle.std.specs.Bool.{then_some}
use Rattle.hp_units.specs.Choices.{first_some}
use Rattle.hp_units.specs.declared.layouts.LayoutFault.{LayoutFault}
use Rattle.hp_units.specs.declared.layouts.LayoutFault.TheVariants.{BadOrder, BadPageblocks, BadBlocks, TooManyFrames, BadCpus, BadMarks, BadOwners, BadPages, BadWords, BadLimit, BadBoot}
use Rattle.hp_units.specs.declared.rows.Boot.{Boot}

-- the parts of a layout
pub record LayoutParts : Type 0 where
  pub order : ℕ
  pub pageblocks : ℕ
  pub blocks : ℕ
  pub cpus : ℕ
  pub batch : ℕ
  pub high : ℕ
  pub owners : ℕ
  pub pages : ℕ
  pub words : ℕ
  pub history : ℕ
  pub boot : List Boot

-- the parts are within their limits
pub record IsLayout (l : LayoutParts) : Type 0 where
  pub order : l.order ≤ 10
  pub pageblocks : (k : ℕ) × (k ≤ 6) × (l.pageblocks ≡ 2 ^ k)
  pub some_blocks : 1 ≤ l.blocks
  pub blocks : l.blocks ≤ 256
  pub frames : l.blocks * (l.pageblocks * 2 ^ l.order) ≤ 2 ^ 20
  pub some_cpus : 1 ≤ l.cpus
  pub cpus : l.cpus ≤ 64
  pub some_batch : 1 ≤ l.batch
  pub batch : l.batch ≤ l.high
  pub high : l.high ≤ 1024
  pub some_owners : 1 ≤ l.owners
  pub owners : l.owners ≤ 64
  pub some_pages : 1 ≤ l.pages
  pub pages : l.pages ≤ 2 ^ 16
  pub some_words : 1 ≤ l.words
  pub words : l.words ≤ 512
  pub some_history : 1 ≤ l.history
  pub history : l.history ≤ 2 ^ 24
  pub boot : length l.boot ≡ l.blocks

-- a number is within two bounds
abbrev pub is_within : (low high n : ℕ) → Bool
is_within low high n = nat_le low n && nat_le n high

-- a valid number of pageblocks per memory block: a power of two up to 64
abbrev pub is_pageblock_count : ℕ → Bool
is_pageblock_count n = list_any (λ k. n == 2 ^ k) (range_with_len 0 7)

-- the first fault of a layout's frames, the first of its processors, and the first of the rest
abbrev pub frame_fault : LayoutParts → Option LayoutFault
frame_fault l = first_some (
    then_some (not (is_within 0 10 l.order)) BadOrder
    ∷ then_some (not (is_pageblock_count l.pageblocks)) BadPageblocks
    ∷ then_some (not (is_within 1 256 l.blocks)) BadBlocks
    ∷ then_some (not (nat_le (l.blocks * (l.pageblocks * 2 ^ l.order)) (2 ^ 20))) TooManyFrames
    ∷ [])

abbrev pub processor_fault : LayoutParts → Option LayoutFault
processor_fault l = first_some (
    then_some (not (is_within 1 64 l.cpus)) BadCpus
    ∷ then_some (not (is_within 1 l.high l.batch && nat_le l.high 1024)) BadMarks
    ∷ [])

abbrev pub owner_fault : LayoutParts → Option LayoutFault
owner_fault l = first_some (
    then_some (not (is_within 1 64 l.owners)) BadOwners
    ∷ then_some (not (is_within 1 (2 ^ 16) l.pages)) BadPages
    ∷ then_some (not (is_within 1 512 l.words)) BadWords
    ∷ then_some (not (is_within 1 (2 ^ 24) l.history)) BadLimit
    ∷ then_some (not (length l.boot == l.blocks)) BadBoot
    ∷ [])

-- the first fault of a layout
abbrev pub layout_fault : LayoutParts → Option LayoutFault
layout_fault l = first_some (frame_fault l ∷ processor_fault l ∷ owner_fault l ∷ [])
