-- The first part of a layout that is out of its range is the layout's fault.
use Rattle.std.proofs.Common.{arith, ◌≡◌, ℕ, ◌^◌, ◌==◌, Bool, not, ◌&&◌, [], ◌∷◌, length, nat_le, nat_lt, Option}
use Rattle.std.specs.Bool.{then_some}
use Rattle.std.specs.Option.{option_map}
use Rattle.hp_units.specs.Choices.{first_some}
use Rattle.hp_units.specs.LayoutParts.{LayoutParts, is_pageblock_count, is_within}
use Rattle.hp_units.specs.declared.layouts.LayoutFault.TheVariants.{BadOrder, BadPageblocks, BadBlocks, TooManyFrames, BadCpus, BadMarks, BadOwners, BadPages, BadWords, BadLimit, BadBoot}
use Rattle.hp_scenario.specs.declared.fault.ScenarioFault.TheVariants.{Layout}
use Rattle.hp_check.specs.Adds.{first_at, limit_fault, out_fault}
use Rattle.hp_check.specs.Ranges.{frames_out}
use Rattle.hp_check.specs.declared.finding.OutOfRange.{OutOfRange}
use Rattle.hp_check.specs.declared.finding.OutOfRange.TheVariants as range

first_of : (order pageblocks blocks frames cpus batch high owners pages words history boot : ℕ)
    (a b c d e f g h i j k l : Bool)
    → first_at out_fault 1 (then_some (not a) (range.Order order)
    ∷ then_some (not b) (range.Pageblocks pageblocks) ∷ then_some (not c) (range.Blocks blocks)
    ∷ then_some ((a && (b && c)) && not d) (range.Frames frames)
    ∷ then_some (not e) (range.Cpus cpus) ∷ then_some (not f) (range.Batch batch high)
    ∷ then_some (not g) (range.High high)
    ∷ then_some (not h) (range.Owners owners) ∷ then_some (not i) (range.Pages pages)
    ∷ then_some (not j) (range.Words words) ∷ then_some (not k) (range.History history)
    ∷ then_some (not l) (range.Boot boot blocks) ∷ [])
    ≡ option_map Layout (first_some (first_some (then_some (not a) BadOrder ∷ then_some (not b) BadPageblocks
    ∷ then_some (not c) BadBlocks ∷ then_some (not d) TooManyFrames ∷ [])
    ∷ first_some (then_some (not e) BadCpus ∷ then_some (not (f && g)) BadMarks ∷ [])
    ∷ first_some (then_some (not h) BadOwners ∷ then_some (not i) BadPages ∷ then_some (not j) BadWords
    ∷ then_some (not k) BadLimit ∷ then_some (not l) BadBoot ∷ []) ∷ []))
first_of n1 n2 n3 n4 n5 n6 n7 n8 n9 n10 n11 n12 a b c d e f g h i j k l = grind arith

-- a test the other way round
pub is_above : (most n : ℕ) → nat_lt most n ≡ not (nat_le n most)
is_above most n = grind arith

-- the same of what tests gave
pub outs_are : (l : LayoutParts) (words : ℕ) (a b c d e f g h i j k m : Option OutOfRange)
    → a ≡ then_some (not (is_within 0 10 l.order)) (range.Order l.order)
    → b ≡ then_some (not (is_pageblock_count l.pageblocks)) (range.Pageblocks l.pageblocks)
    → c ≡ then_some (not (is_within 1 256 l.blocks)) (range.Blocks l.blocks)
    → d ≡ frames_out l
    → e ≡ then_some (not (is_within 1 64 l.cpus)) (range.Cpus l.cpus)
    → f ≡ then_some (not (is_within 1 l.high l.batch)) (range.Batch l.batch l.high)
    → g ≡ then_some (not (nat_le l.high 1024)) (range.High l.high)
    → h ≡ then_some (not (is_within 1 64 l.owners)) (range.Owners l.owners)
    → i ≡ then_some (not (is_within 1 (2 ^ 16) l.pages)) (range.Pages l.pages)
    → j ≡ then_some (not (is_within 1 512 l.words)) (range.Words l.words)
    → k ≡ then_some (not (is_within 1 (2 ^ 24) l.history)) (range.History l.history)
    → m ≡ then_some (not (length l.boot == l.blocks)) (range.Boot words l.blocks)
    → first_at out_fault 1 (a ∷ b ∷ c ∷ d ∷ e ∷ f ∷ g ∷ h ∷ i ∷ j ∷ k ∷ m ∷ []) ≡ limit_fault l
outs_are l words a b c d e f g h i j k m ea eb ec ed ee ef eg eh ei ej ek em = grind (arith, first_of)
