-- A frame is in one place, and a page has words exactly if it has a frame.
use Rattle.hp_units.proofs.Placed.{pages_fit}
use Rattle.hp_pages.proofs.Views.{are_page_frames, settled_placed}
use Rattle.hp_pages.proofs.laws.well_placed_pages_are_settled.Goals as goal

pub returns-clause-settled : goal.returns-clause-settled
returns-clause-settled c l s layout p = settled_placed l s p (pages_fit l s layout p)

pub returns-clause-numbers : goal.returns-clause-numbers
returns-clause-numbers c l s layout p = are_page_frames l s.pages (pages_fit l s layout p)
