-- Layouts whose parts are the same are the same.
use Rattle.std.proofs.Common.{◌≡◌, ◌∙◌, ℕ, List, ap}
use Rattle.hp_units.specs.LayoutParts.{LayoutParts}
use Rattle.hp_units.specs.declared.rows.Boot.{Boot}
use Rattle.hp_machine.specs.SameLayouts.{blocks_of, owners_of, processors_of}

-- a layout of such parts
abbrev layout_from : (ℕ × ℕ × ℕ) → (ℕ × ℕ × ℕ) → (ℕ × ℕ × ℕ × ℕ) → List Boot → LayoutParts
layout_from b p o boot = record {
  order = b.0;
  pageblocks = b.1;
  blocks = b.2;
  cpus = p.0;
  batch = p.1;
  high = p.2;
  owners = o.0;
  pages = o.1;
  words = o.2;
  history = o.3;
  boot = boot;
}

pub same_parts : (l m : LayoutParts) → blocks_of l ≡ blocks_of m → processors_of l ≡ processors_of m
    → owners_of l ≡ owners_of m → l.boot ≡ m.boot → l ≡ m
same_parts l m blocks processors owners boot =
    ap (λ b. layout_from b (processors_of l) (owners_of l) l.boot) blocks
    ∙ (ap (λ p. layout_from (blocks_of m) p (owners_of l) l.boot) processors
    ∙ (ap (λ o. layout_from (blocks_of m) (processors_of m) o l.boot) owners
    ∙ ap (layout_from (blocks_of m) (processors_of m) (owners_of m)) boot))
