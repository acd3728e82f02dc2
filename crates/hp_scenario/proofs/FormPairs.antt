-- The numbers of a layout, two by two.
use Rattle.std.proofs.Common.{◌≡◌, ℕ, List, codes, Option, Some, arith}
use Rattle.hp_units.specs.LayoutParts.{LayoutParts}
use Rattle.hp_units.specs.declared.rows.Boot.{Boot}
use Rattle.serde_json.specs.Data.{Data}
use Rattle.hp_scenario.specs.Form.{◌>>=◌, pair_at, parts_with}

abbrev pub paired : Option ℕ → Option ℕ → Option (ℕ × ℕ)
paired a b = do
  one ← a
  other ← b
  Some (one, other)

abbrev pub parts_of_pairs : List Boot → (a b c d e : Option (ℕ × ℕ)) → Option LayoutParts
parts_of_pairs boot a b c d e = do
  p ← a
  q ← b
  r ← c
  s ← d
  t ← e
  Some (record {
    order = p.0;
    pageblocks = p.1;
    blocks = q.0;
    cpus = q.1;
    batch = r.0;
    high = r.1;
    owners = s.0;
    pages = s.1;
    words = t.0;
    history = t.1;
    boot = boot;
  })

abbrev parts_of_numbers : List Boot → (a b c d e f g h i j : Option ℕ) → Option LayoutParts
parts_of_numbers boot a b c d e f g h i j = do
  order ← a
  pageblocks ← b
  blocks ← c
  cpus ← d
  batch ← e
  high ← f
  owners ← g
  pages ← h
  words ← i
  history ← j
  Some (record {
    order = order;
    pageblocks = pageblocks;
    blocks = blocks;
    cpus = cpus;
    batch = batch;
    high = high;
    owners = owners;
    pages = pages;
    words = words;
    history = history;
    boot = boot;
  })

by_pairs : (boot : List Boot) (a b c d e f g h i j : Option ℕ)
    → parts_of_numbers boot a b c d e f g h i j
    ≡ parts_of_pairs boot (paired a b) (paired c d) (paired e f) (paired g h) (paired i j)
by_pairs boot a b c d e f g h i j = grind arith

-- the parts, by the pairs of their numbers
pub parts_paired : (boot : List Boot) (l : Data)
    → parts_with boot l
    ≡ parts_of_pairs boot (pair_at (codes "order") (codes "pageblocks") l)
    (pair_at (codes "blocks") (codes "cpus") l) (pair_at (codes "batch") (codes "high") l)
    (pair_at (codes "owners") (codes "pages") l) (pair_at (codes "words") (codes "history") l)
unfolding parts_with pair_at
parts_paired boot l = grind (arith, by_pairs)

-- the same, where the pairs are known
pub of_pairs : (boot : List Boot) (l : Data) (a b c d e : Option (ℕ × ℕ))
    → a ≡ pair_at (codes "order") (codes "pageblocks") l → b ≡ pair_at (codes "blocks") (codes "cpus") l
    → c ≡ pair_at (codes "batch") (codes "high") l → d ≡ pair_at (codes "owners") (codes "pages") l
    → e ≡ pair_at (codes "words") (codes "history") l → parts_of_pairs boot a b c d e ≡ parts_with boot l
of_pairs boot l a b c d e one two three four five = grind (arith, parts_paired)
