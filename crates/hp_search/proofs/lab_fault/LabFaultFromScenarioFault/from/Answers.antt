use Rattle.std.proofs.Common.{rules}
use Rattle.hp_search.proofs.lab_fault.LabFaultFromScenarioFault.from.Goals as goal

pub returns-in-BadShape : goal.returns-in-BadShape
returns-in-BadShape c = search rules
