-- A frame of a piece is in one such place, and any other in none.
use Rattle.hp_judge.proofs.FrameUse.{shown_places}
use Rattle.hp_judge.proofs.machine_logs.shown_frames_are_in_place.Goals as goal

pub returns : goal.returns
returns c = shown_places
