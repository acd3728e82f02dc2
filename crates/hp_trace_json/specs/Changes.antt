-- The changes that a row reports: each part of the state that differs from the row above, and
-- nothing else.
use Rattle.std.specs.Prelude.{ℕ, ◌≡◌, ◌+◌, ◌*◌, ◌==◌, ◌&&◌, Bool, List, Option, Some, None, ◌≢◌, ◌⊎◌}
use Rattle.hp_units.specs.Arithmetic.{frame_count, pageblock_count}
use Rattle.hp_units.specs.declared.rows.Auto.{Auto}
use Rattle.hp_units.specs.declared.rows.Row.{Row}
use Rattle.hp_units.specs.Memory.{class_index, pool_index}
use Rattle.hp_plain.specs.Image.{Pictured}
use Rattle.hp_trace_json.specs.declared.blocks.BlockNow.{BlockNow}
use Rattle.hp_trace_json.specs.declared.blocks.PageblockNow.{PageblockNow}
use Rattle.hp_trace_json.specs.declared.frames.KernelNow.{KernelNow}
use Rattle.hp_trace_json.specs.declared.frames.PageNow.{PageNow}
use Rattle.hp_trace_json.specs.declared.lists.CpuListNow.{CpuListNow}
use Rattle.hp_trace_json.specs.declared.lists.FreeListNow.{FreeListNow}
use Rattle.hp_trace_json.specs.declared.words.WordNow.{WordNow}
use Rattle.hp_trace_json.specs.Parts.{auto_in, cpu_list_at, free_list_at, kernel_in, page_in, row_in, unmovable_in, word_of, words_in}
use Rattle.hp_trace_json.specs.Splices.{IsSplice}
use Rattle.hp_trace_json.specs.Told.{IsSilent, Tells, TellsBelow}

-- ---- memory blocks and pageblocks

-- the entry is about this memory block
abbrev pub is_block : (block : ℕ) → BlockNow → Bool
is_block block x = x.block == block

-- the entry has the block's new row
abbrev pub SetsRow : Option Row → Option Row → BlockNow → Type 0
SetsRow was now x = x.row ≡ now

-- the entries report each memory block below `count` whose row changed
abbrev pub BlocksTold : Option Pictured → Pictured → (count : ℕ) → List BlockNow → Type 0
BlocksTold was now =
    TellsBelow (λ block. Tells (is_block block) SetsRow (row_in was block) (row_in (Some now) block))
    (λ block. IsSilent (is_block block))

-- the entry is about this pageblock
abbrev pub is_pageblock : (pageblock : ℕ) → PageblockNow → Bool
is_pageblock pageblock x = x.pageblock == pageblock

-- the entry has the pageblock's new mobility
abbrev pub SetsMobility : Bool → Bool → PageblockNow → Type 0
SetsMobility was now x = x.is_unmovable ≡ now

-- the entries report each pageblock below `count` whose mobility changed
abbrev pub PageblocksTold : Option Pictured → Pictured → (count : ℕ) → List PageblockNow → Type 0
PageblocksTold was now =
    TellsBelow
    (λ pageblock. Tells (is_pageblock pageblock) SetsMobility (unmovable_in was pageblock)
    (unmovable_in (Some now) pageblock))
    (λ pageblock. IsSilent (is_pageblock pageblock))

-- ---- lists, by number: 5 times the order plus the class's number, or 3 times the processor plus the
-- pool's

-- the entry is about the free list with this number
abbrev pub is_free_list : (number : ℕ) → FreeListNow → Bool
is_free_list number x = 5 * x.order + class_index x.class == number

-- the entry turns the old free list into the new one
abbrev pub SplicesFree : List ℕ → List ℕ → FreeListNow → Type 0
SplicesFree was now x = IsSplice was now x.splice

-- the entries report each free list below `count` that changed
abbrev pub FreeListsTold : Option Pictured → Pictured → (count : ℕ) → List FreeListNow → Type 0
FreeListsTold was now =
    TellsBelow
    (λ number. Tells (is_free_list number) SplicesFree (free_list_at was number)
    (free_list_at (Some now) number))
    (λ number. IsSilent (is_free_list number))

-- the entry is about the processor's list with this number
abbrev pub is_cpu_list : (number : ℕ) → CpuListNow → Bool
is_cpu_list number x = 3 * x.cpu + pool_index x.pool == number

-- the entry turns the old processor's list into the new one
abbrev pub SplicesCpu : List ℕ → List ℕ → CpuListNow → Type 0
SplicesCpu was now x = IsSplice was now x.splice

-- the entries report each processor's list below `count` that changed
abbrev pub CpuListsTold : Option Pictured → Pictured → (count : ℕ) → List CpuListNow → Type 0
CpuListsTold was now =
    TellsBelow
    (λ number. Tells (is_cpu_list number) SplicesCpu (cpu_list_at was number) (cpu_list_at (Some now) number))
    (λ number. IsSilent (is_cpu_list number))

-- ---- the kernel's blocks and the owners' pages

-- the entry is about the kernel's block that starts at this frame
abbrev pub is_kernel : (frame : ℕ) → KernelNow → Bool
is_kernel frame x = x.frame == frame

-- the entry has the new order of the kernel's block
abbrev pub SetsOrder : Option ℕ → Option ℕ → KernelNow → Type 0
SetsOrder was now x = x.order ≡ now

-- the entries report each frame below `count` at which the kernel's block changed
abbrev pub KernelTold : Option Pictured → Pictured → (count : ℕ) → List KernelNow → Type 0
KernelTold was now =
    TellsBelow (λ frame. Tells (is_kernel frame) SetsOrder (kernel_in was frame) (kernel_in (Some now) frame))
    (λ frame. IsSilent (is_kernel frame))

-- the entry is about this page of the owner
abbrev pub is_page : (owner page : ℕ) → PageNow → Bool
is_page owner page x = (x.owner == owner) && (x.page == page)

-- the entry has the page's new frame
abbrev pub SetsFrame : Option ℕ → Option ℕ → PageNow → Type 0
SetsFrame was now x = x.frame ≡ now

-- the entries report each of the owner's pages below `count` whose frame changed
abbrev pub OwnersPagesTold : Option Pictured → Pictured → (owner count : ℕ) → List PageNow → Type 0
OwnersPagesTold was now owner =
    TellsBelow
    (λ page. Tells (is_page owner page) SetsFrame (page_in was owner page) (page_in (Some now) owner page))
    (λ page. IsSilent (is_page owner page))

-- the entries report no page of the owner
abbrev pub NoOwnersPages : (owner : ℕ) → List PageNow → Type 0
NoOwnersPages owner told = (page : ℕ) → IsSilent (is_page owner page) told

-- the entries report each page of the owners below `count` whose frame changed
abbrev pub PagesTold : Option Pictured → Pictured → (count : ℕ) → List PageNow → Type 0
PagesTold was now =
    TellsBelow (λ owner. OwnersPagesTold was now owner now.layout.pages) NoOwnersPages

-- ---- words

-- the entry is about this word of the owner's page
abbrev pub is_word : (owner page index : ℕ) → WordNow → Bool
is_word owner page index x = ((x.owner == owner) && (x.page == page)) && (x.index == index)

-- the entry has the new word
abbrev pub SetsWord : ℕ → ℕ → WordNow → Type 0
SetsWord was now x = x.word ≡ now

-- the entries report each word of the page that changed and has an index below `count`
abbrev pub PagesWordsTold : (owner page : ℕ) → (was now : List ℕ) → (count : ℕ) → List WordNow → Type 0
PagesWordsTold owner page was now =
    TellsBelow (λ index. Tells (is_word owner page index) SetsWord (word_of was index) (word_of now index))
    (λ index. IsSilent (is_word owner page index))

-- the entries report no word of the page
abbrev pub NoWords : (owner page : ℕ) → List WordNow → Type 0
NoWords owner page told = (index : ℕ) → IsSilent (is_word owner page index) told

-- the entries report each word that changed in the owner's pages below `count`
abbrev pub OwnersWordsTold : Option Pictured → Pictured → (owner count : ℕ) → List WordNow → Type 0
OwnersWordsTold was now owner =
    TellsBelow
    (λ page. PagesWordsTold owner page (words_in was owner page) (words_in (Some now) owner page)
    now.layout.words)
    (NoWords owner)

-- the entries report no word of the owner's pages
abbrev pub NoOwnersWords : (owner : ℕ) → List WordNow → Type 0
NoOwnersWords owner told = (page : ℕ) → NoWords owner page told

-- the entries report each word that changed in the pages of the owners below `count`
abbrev pub WordsTold : Option Pictured → Pictured → (count : ℕ) → List WordNow → Type 0
WordsTold was now =
    TellsBelow (λ owner. OwnersWordsTold was now owner now.layout.pages) NoOwnersWords

-- ---- the policy for added memory blocks

-- the new policy is reported if it differs from the old one
abbrev pub IsAutoTold : Option Auto → Auto → Option Auto → Type 0
IsAutoTold was now told =
    ((was ≡ Some now) × (told ≡ None)) ⊎ ((was ≢ Some now) × (told ≡ Some now))

-- ---- the whole state

-- the changes of all parts of a state
pub record ChangeValue : Type 0 where
  pub blocks : List BlockNow
  pub pageblocks : List PageblockNow
  pub free_lists : List FreeListNow
  pub cpu_lists : List CpuListNow
  pub kernel : List KernelNow
  pub pages : List PageNow
  pub words : List WordNow
  pub auto : Option Auto

-- `c` has the changes from the state of the row above, if there is one, to the state now
pub record IsChange (was : Option Pictured) (now : Pictured) (c : ChangeValue) : Type 0 where
  pub blocks : BlocksTold was now now.layout.blocks c.blocks
  pub pageblocks : PageblocksTold was now (pageblock_count now.layout) c.pageblocks
  pub free_lists : FreeListsTold was now (5 * (now.layout.order + 1)) c.free_lists
  pub cpu_lists : CpuListsTold was now (3 * now.layout.cpus) c.cpu_lists
  pub kernel : KernelTold was now (frame_count now.layout) c.kernel
  pub pages : PagesTold was now now.layout.owners c.pages
  pub words : WordsTold was now now.layout.owners c.words
  pub auto : IsAutoTold (auto_in was) now.memory.blocks.auto c.auto
