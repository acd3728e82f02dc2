-- Parts without a fault are within their limits.
use Rattle.std.proofs.Common.{◌≡◌, ℕ, ◌≤◌, ◌<◌, ◌*◌, ◌^◌, Bool, true, false, length, Option, Some, None, refl, arith, inl, inr, sym, ◌∙◌}
use Rattle.std.specs.Prelude.{not, ◌&&◌, ◌||◌, ◌==◌, nat_le}
use Rattle.std.specs.Bool.{then_some}
use Rattle.std.specs.Option.{option_or}
use Rattle.std.proofs.Math.Pow.{pow_mono}
use Rattle.std.proofs.lemmas.Bool.{leb-true, eqb-true, and_parts, false≢true, or_cases}
use Rattle.hp_units.specs.declared.layouts.LayoutFault.{LayoutFault}
use Rattle.hp_units.specs.declared.layouts.LayoutFault.TheVariants.{BadOrder, BadPageblocks, BadBlocks, TooManyFrames, BadCpus, BadMarks, BadOwners, BadPages, BadWords, BadLimit, BadBoot}
use Rattle.hp_units.specs.LayoutParts.{LayoutParts, IsLayout, layout_fault, frame_fault, processor_fault, owner_fault, is_within, is_pageblock_count}

-- `option_or` is None only if both options are
neither : {A : Type 0} (a b : Option A) → option_or a b ≡ None → (a ≡ None) × (b ≡ None)
neither None b e = (refl, e)
neither (Some x) b e = absurd cc

-- a test that yields no fault holds
holds : {A : Type 0} (test : Bool) (fault : A) → then_some (not test) fault ≡ None → test ≡ true
holds true fault e = refl
holds false fault e = absurd cc

first : {A : Type 0} (test : Bool) (fault : A) (rest : Option A)
    → option_or (then_some (not test) fault) rest ≡ None → (test ≡ true) × (rest ≡ None)
first test fault rest e =
    let both = neither (then_some (not test) fault) rest e in (holds test fault both.0, both.1)

within : (low high n : ℕ) → is_within low high n ≡ true → (low ≤ n) × (n ≤ high)
within low high n e =
    let both = and_parts (nat_le low n) (nat_le n high) e in (leb-true low n both.0, leb-true n high both.1)

-- a number is the power that is tested, or passes one of the other tests
power : (n k : ℕ) (others : Bool) → k ≤ 6 → ((n == 2 ^ k) || others) ≡ true
    → (others ≡ true → (k : ℕ) × (k ≤ 6) × (n ≡ 2 ^ k)) → (k : ℕ) × (k ≤ 6) × (n ≡ 2 ^ k)
power n k others low some later = elim (or_cases (n == 2 ^ k) others some) [
  | inl is ↦ (k, low, eqb-true n (2 ^ k) is)
  | inr more ↦ later more
]

-- the exponent of a number of pageblocks
exponent : (n : ℕ) → is_pageblock_count n ≡ true → (k : ℕ) × (k ≤ 6) × (n ≡ 2 ^ k)
exponent n some =
    power n 0 _ (omega arith) some (λ s. power n 1 _ (omega arith) s (λ s. power n 2 _ (omega arith) s
    (λ s. power n 3 _ (omega arith) s (λ s. power n 4 _ (omega arith) s (λ s. power n 5 _ (omega arith) s
    (λ s. power n 6 _ (omega arith) s (λ s. absurd (false≢true s))))))))

pub within_limits : (l : LayoutParts) → layout_fault l ≡ None → IsLayout l
within_limits l none =
    let parts =
    neither (frame_fault l) (option_or (processor_fault l) (option_or (owner_fault l) None)) none in
    let more = neither (processor_fault l) (option_or (owner_fault l) None) parts.1 in
    let last = neither (owner_fault l) None more.1 in
    let order = first (is_within 0 10 l.order) BadOrder _ parts.0 in
    let pageblocks = first (is_pageblock_count l.pageblocks) BadPageblocks _ order.1 in
    let blocks = first (is_within 1 256 l.blocks) BadBlocks _ pageblocks.1 in
    let frames = first (nat_le (l.blocks * (l.pageblocks * 2 ^ l.order)) (2 ^ 20)) TooManyFrames _ blocks.1 in
    let cpus = first (is_within 1 64 l.cpus) BadCpus _ more.0 in
    let marks = first (is_within 1 l.high l.batch && nat_le l.high 1024) BadMarks _ cpus.1 in
    let both = and_parts (is_within 1 l.high l.batch) (nat_le l.high 1024) marks.0 in
    let owners = first (is_within 1 64 l.owners) BadOwners _ last.0 in
    let pages = first (is_within 1 (2 ^ 16) l.pages) BadPages _ owners.1 in
    let words = first (is_within 1 512 l.words) BadWords _ pages.1 in
    let history = first (is_within 1 (2 ^ 24) l.history) BadLimit _ words.1 in
    let boot = first (length l.boot == l.blocks) BadBoot _ history.1 in
    record {
      order = (within 0 10 l.order order.0).1;
      pageblocks = exponent l.pageblocks pageblocks.0;
      some_blocks = (within 1 256 l.blocks blocks.0).0;
      blocks = (within 1 256 l.blocks blocks.0).1;
      frames = leb-true (l.blocks * (l.pageblocks * 2 ^ l.order)) (2 ^ 20) frames.0;
      some_cpus = (within 1 64 l.cpus cpus.0).0;
      cpus = (within 1 64 l.cpus cpus.0).1;
      some_batch = (within 1 l.high l.batch both.0).0;
      batch = (within 1 l.high l.batch both.0).1;
      high = leb-true l.high 1024 both.1;
      some_owners = (within 1 64 l.owners owners.0).0;
      owners = (within 1 64 l.owners owners.0).1;
      some_pages = (within 1 (2 ^ 16) l.pages pages.0).0;
      pages = (within 1 (2 ^ 16) l.pages pages.0).1;
      some_words = (within 1 512 l.words words.0).0;
      words = (within 1 512 l.words words.0).1;
      some_history = (within 1 (2 ^ 24) l.history history.0).0;
      history = (within 1 (2 ^ 24) l.history history.0).1;
      boot = eqb-true (length l.boot) l.blocks boot.0;
    }

-- all parts of a layout, except its limit of records, are numbers of 32 bits
pub record AreShort (l : LayoutParts) : Type 0 where
  pub order : l.order < 2 ^ 32
  pub pageblocks : l.pageblocks < 2 ^ 32
  pub blocks : l.blocks < 2 ^ 32
  pub cpus : l.cpus < 2 ^ 32
  pub batch : l.batch < 2 ^ 32
  pub high : l.high < 2 ^ 32
  pub owners : l.owners < 2 ^ 32
  pub pages : l.pages < 2 ^ 32
  pub words : l.words < 2 ^ 32

short_of : (l : LayoutParts) → IsLayout l → AreShort l
short_of l limits =
    let power : 2 ^ limits.pageblocks.0 ≤ 2 ^ 6 = pow_mono limits.pageblocks.1 in
    record {
      order = omega (arith, limits.order);
      pageblocks = omega (arith, power, limits.pageblocks.2);
      blocks = omega (arith, limits.blocks);
      cpus = omega (arith, limits.cpus);
      batch = omega (arith, limits.batch, limits.high);
      high = omega (arith, limits.high);
      owners = omega (arith, limits.owners);
      pages = omega (arith, limits.pages);
      words = omega (arith, limits.words);
    }

pub short_within : {fault : Option LayoutFault} (l : LayoutParts) → fault ≡ layout_fault l → fault ≡ None
    → AreShort l
short_within l is none = short_of l (within_limits l (sym is ∙ none))
