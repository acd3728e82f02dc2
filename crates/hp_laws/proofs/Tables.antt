-- The owners' pages: one entry of the tables written.
use Rattle.std.proofs.Common.{◌≡◌, ℕ, ◌<◌, List, Bool, true, false, cond, Option, Some, None, refl, arith, ◌||◌}
use Rattle.hp_units.specs.declared.rows.Claim.{Claim}
use Rattle.hp_units.specs.declared.rows.Row.{Row}
use Rattle.hp_units.specs.declared.rows.State.{State}
use Rattle.hp_units.specs.declared.rows.State.TheVariants.{Online as OnlineState, Going as GoingState}
use Rattle.hp_units.specs.declared.rows.Zone.{Zone}
use Rattle.hp_units.specs.LayoutParts.{LayoutParts}
use Rattle.hp_units.specs.Arithmetic.{block_of, pageblock_of}
use Rattle.hp_units.specs.Memory.{Memory, Pages, entry_of, with_entry, row_of}
use Rattle.hp_units.specs.Pages.{frame_at, words_at}
use Rattle.hp_units.specs.Rows.{is_absent_state, is_offline_state}
use Rattle.hp_units.specs.Step.{with_pages}
use Rattle.hp_units.specs.Placement.{IsInOrder, IsPage, IsRowOf, is_unplugged, offline_places, row_at}
use Rattle.hp_laws.proofs.States.{block_of-pageblock}
use Rattle.hp_units.proofs.Tables.{IsTable, contents_of, entry-apart, entry-cases, entry-same, table_of, with_entry-table}

-- ---- the pages of a state

pub pages-in_order : (l : LayoutParts) (s : Memory) (ps : Pages) → IsInOrder l s
    → IsTable l.owners l.pages ps.table → IsTable l.owners l.pages ps.contents
    → ((owner page : ℕ) → IsPage l (frame_at ps owner page) (words_at ps owner page))
    → IsInOrder l (with_pages s ps)
pages-in_order l s ps h table contents words = record {
  shape =
      record {
        lists = h.shape.lists;
        kinds = h.shape.kinds;
        cached = h.shape.cached;
        owners = table.tall;
        pages = table.wide;
        content_owners = contents.tall;
        content_pages = contents.wide;
        kernel = h.shape.kernel;
        rows = h.shape.rows;
      };
  blocks = h.blocks;
  joined = h.joined;
  cached = h.cached;
  kernel = h.kernel;
  mobility = h.mobility;
  isolated = h.isolated;
  rows = h.rows;
  words = words;
}

-- a page's frame and its words written together
pub both-in_order : (l : LayoutParts) (s : Memory) (owner page : ℕ) (f : Option ℕ) (w : Option (List ℕ))
    → owner < l.owners → page < l.pages → IsInOrder l s → IsPage l f w
    → IsInOrder l (with_pages s (record s.pages
    { table = with_entry s.pages.table owner page f; contents = with_entry s.pages.contents owner page w }))
both-in_order l s owner page f w low short h is =
    let table = table_of l s h in
    let contents = contents_of l s h in
    pages-in_order l s _ h (with_entry-table _ _ _ owner page f low table)
    (with_entry-table _ _ _ owner page w low contents) (entry-cases
    (λ (o p : ℕ) (e : Option ℕ). IsPage l e (entry_of (with_entry s.pages.contents owner page w) o p))
    _ _ _ owner page f low short table (rw (entry-same _ _ _ owner page w low short contents) is)
    (λ o p elsewhere. rw (entry-apart _ owner page w o p elsewhere) (h.words o p)))

-- a frame that is mapped has a zone
pub record HasZone (l : LayoutParts) (rows : List Row) (frame : ℕ) : Type 0 where
  pub zone : Zone
  pub zone_is : (row_at l rows (pageblock_of l frame)).zone ≡ Some zone

live_zone : (state : State) (zone : Option Zone) (claim : Option Claim)
    → (is_offline_state state || is_absent_state state) ≡ false → IsRowOf state zone claim
    → (z : Zone) × (zone ≡ Some z)
live_zone OnlineState (Some z) claim e h = (z, refl)
live_zone OnlineState None claim e h = absurd (cc h.0)
live_zone GoingState (Some z) claim e h = (z, refl)
live_zone GoingState None claim e h = absurd (cc h.0)
live_zone _ zone claim e h = cc

pub live_row : (l : LayoutParts) (s : Memory) (frame : ℕ) → IsInOrder l s → offline_places l s frame ≡ 0
    → HasZone l s.blocks.rows frame
live_row l s frame h e =
    let row : Row = row_of s.blocks (block_of l frame) in
    let found =
    live_zone _ _ _ (plugged (is_unplugged row) (offline_places l s frame) refl e)
    (h.rows (block_of l frame)) in
    record {
      zone = found.0;
      zone_is = rw (← block_of-pageblock l frame) found.1;
    }
  where
    plugged : (b : Bool) (n : ℕ) → n ≡ cond b 1 0 → n ≡ 0 → b ≡ false
    plugged true n e f = absurd (omega arith)
    plugged false n e f = refl
