-- The parts of a layout, and the parts that are out of their ranges.
use Rattle.std.specs.Prelude.{ℕ, ◌*◌, ◌^◌, ◌&&◌, Bool, not, codes, Option, nat_le, option_and_then}
use Rattle.std.specs.Bool.{then_some}
use Rattle.serde_json.specs.Data.{Data}
use Rattle.serde_json.specs.Find.{get}
use Rattle.hp_units.specs.LayoutParts.{LayoutParts, is_pageblock_count, is_within}
use Rattle.hp_scenario.specs.Form.{boots_at, parts_with}
use Rattle.hp_check.specs.declared.finding.OutOfRange.{OutOfRange}
use Rattle.hp_check.specs.declared.finding.OutOfRange.TheVariants.{Frames}

-- the parts of the layout in a scenario's value; None if they cannot be read
unfoldable pub parts_in : Data → Option LayoutParts
parts_in d =
    option_and_then
    (λ layout. option_and_then (λ boot. parts_with boot layout) (boots_at (codes "boot") layout))
    (get (codes "layout") d)

-- the sizes that give the number of frames are in their ranges
abbrev pub has_sizes : LayoutParts → Bool
has_sizes l = is_within 0 10 l.order && (is_pageblock_count l.pageblocks && is_within 1 256 l.blocks)

-- the number of frames
abbrev pub frames_of : LayoutParts → ℕ
frames_of l = l.blocks * (l.pageblocks * 2 ^ l.order)

-- the number of frames, if it is too large although the sizes are in their ranges
abbrev pub frames_out : LayoutParts → Option OutOfRange
frames_out l = then_some (has_sizes l && not (nat_le (frames_of l) (2 ^ 20))) (Frames (frames_of l))
