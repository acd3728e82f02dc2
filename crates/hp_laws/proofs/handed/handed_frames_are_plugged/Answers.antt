-- A frame that is handed out comes from a pageblock with a zone, and one that a page moves to from
-- one that isn't isolated.
use Rattle.hp_laws.proofs.HandedRecords.{record-plugged, record-staying}
use Rattle.hp_laws.proofs.handed.handed_frames_are_plugged.Goals as goal

pub returns-clause-plugged : goal.returns-clause-plugged
returns-clause-plugged c = record-plugged

pub returns-clause-staying : goal.returns-clause-staying
returns-clause-staying c = record-staying
