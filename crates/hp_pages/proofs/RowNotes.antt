-- What the calls of the layer of memory blocks note.
use Rattle.std.proofs.lemmas.List.{set-set, set-get_or}
use Rattle.hp_units.specs.Memory.{offline_row}
use Rattle.std.proofs.Common.{◌≡◌, ℕ, ◌<◌, List, [], ◌∷◌, ◌++◌, refl, ap, ◌∙◌, arith}
use Rattle.hp_units.specs.InLayout.{AreBlocksOf}
use Rattle.hp_units.specs.LayoutParts.{LayoutParts}
use Rattle.hp_units.specs.Memory.{Blocks, row_of, with_row}
use Rattle.hp_units.specs.declared.rows.Row.{Row}
use Rattle.hp_units.specs.declared.rows.Auto.{Auto}
use Rattle.hp_units.proofs.Tables.{get_set as get_row}
use Rattle.hp_tape.specs.declared.deltas.Delta.{Delta}
use Rattle.hp_tape.specs.declared.deltas.Delta.TheVariants.{Row as RowDelta, Auto as AutoDelta}
use Rattle.hp_tape.specs.RowChanges.{RowChangeValue}
use Rattle.hp_tape.specs.Tapes.{TapeValue, NotesBlocks}

-- a tape by its parts
seen_as : (was now : TapeValue) (deltas : List Delta) → now.room ≡ was.room
    → now.deltas ≡ was.deltas ++ deltas
    → now ≡ record { room = was.room; deltas = was.deltas ++ deltas }
seen_as was now deltas room noted =
    ap (λ (r : ℕ). record now { room = r }) room
    ∙ ap (λ (ds : List Delta). record { room = was.room; deltas = ds }) noted

-- a row before it is set, and the one that it is set to
abbrev pub change_of : (block : ℕ) → (before after : Row) → RowChangeValue
change_of block before after = record { block = block; before = before; after = after }

-- a row was set
pub notes-row : (l : LayoutParts) (bs : Blocks) (block : ℕ) (row : Row) (was now : TapeValue)
    → AreBlocksOf l bs → block < l.blocks
    → now.room ≡ was.room
    → now.deltas ≡ was.deltas ++ RowDelta (change_of block (row_of bs block) row) ∷ []
    → NotesBlocks l 1 was now (with_row bs block row) bs
notes-row l bs block row was now are lt room noted = record {
  deltas = RowDelta (change_of block (row_of bs block) row) ∷ [];
  tape = seen_as was now _ room noted;
  few = omega arith;
  own = (tt, tt);
  numbers = (lt, tt);
  lead = record {
    fit = (tt, get_row bs.rows block row (omega (arith, are.rows, lt)));
    back =
        ap (λ (rows : List Row). record bs { rows = rows })
        (set-set bs.rows block row (row_of bs block) ∙ set-get_or bs.rows block offline_row);
  };
}

-- what an added block becomes was set
pub notes-auto : (l : LayoutParts) (bs : Blocks) (auto : Auto) (was now : TapeValue)
    → now.room ≡ was.room → now.deltas ≡ was.deltas ++ AutoDelta bs.auto auto ∷ []
    → NotesBlocks l 1 was now (record bs { auto = auto }) bs
notes-auto l bs auto was now room noted = record {
  deltas = AutoDelta bs.auto auto ∷ [];
  tape = seen_as was now _ room noted;
  few = omega arith;
  own = (tt, tt);
  numbers = (tt, tt);
  lead = record { fit = (tt, refl); back = refl };
}
