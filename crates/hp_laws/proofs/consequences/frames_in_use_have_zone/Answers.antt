-- A frame in use is in no other place.
use Rattle.hp_units.specs.History.{value_of}
use Rattle.hp_laws.proofs.EventSteps.{value-placed}
use Rattle.hp_laws.proofs.ConsequencesPlaces.{kernel_zone, page_plugged, plugged, zone_plugged}
use Rattle.hp_laws.proofs.consequences.frames_in_use_have_zone.Goals as goal

pub returns-clause-kernel : goal.returns-clause-kernel
returns-clause-kernel c l s first order frame p e within =
    let zone = kernel_zone l s first order frame p e within in
    (zone, zone_plugged l s frame _ p zone)

pub returns-clause-page : goal.returns-clause-page
returns-clause-page c l s owner page frame p e = plugged l s frame p (page_plugged l s owner page frame p e)

pub returns-clause-kernel_history : goal.returns-clause-kernel_history
returns-clause-kernel_history c l base h first order frame layout p e within =
    let placed = value-placed l base h layout p in
    let zone = kernel_zone l _ first order frame placed e within in
    (zone, zone_plugged l _ frame _ placed zone)

pub returns-clause-page_history : goal.returns-clause-page_history
returns-clause-page_history c l base h owner page frame layout p e =
    let placed = value-placed l base h layout p in
    plugged l (value_of l base h) frame placed (page_plugged l _ owner page frame placed e)
