-- Each number of a state is one of a place, and each place asks that it is the layout's.
use Rattle.hp_laws.proofs.Fitting.{placed-fits}
use Rattle.hp_laws.proofs.placement.well_placed_states_fit_their_layout.Goals as goal

pub returns : goal.returns
returns c = placed-fits
