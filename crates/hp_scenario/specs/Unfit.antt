-- Lines that make no call, and the text of the reason.
use Rattle.std.specs.Prelude.{ℕ, List, ◌++◌, codes, Option, Some, None, nat_lt, if◌then◌else◌}
use Rattle.hp_requests.specs.FaultName.{fault_name}
use Rattle.hp_scenario.specs.Asked as asks
use Rattle.hp_scenario.specs.declared.lines.Line.{Line}
use Rattle.hp_scenario.specs.declared.unfit.Unfit.{Unfit}
use Rattle.hp_scenario.specs.declared.unfit.Unfit.TheVariants.{Processor, Cat, Seal, Echo}

-- why a line's work is no call
abbrev pub no_call : asks.Meaning → Option Unfit
no_call (asks.event e) = None
no_call (asks.plan items turns) = None
no_call (asks.not_taken fault) = Some (Echo fault)
no_call (asks.cat path) = Some Cat
no_call asks.seal = Some Seal

-- why a line makes no call, with `cpus` processors
abbrev pub unfit : (cpus : ℕ) → Line → Option Unfit
unfit cpus line = if nat_lt line.cpu cpus then no_call (asks.asked_by line.work) else Some Processor

abbrev pub unfit_text : Unfit → List ℕ
unfit_text Processor = codes "its processor is not in the layout"
unfit_text Cat = codes "cat makes no call"
unfit_text Seal = codes "seal makes no call"
unfit_text (Echo fault) = codes "echo: fault " ++ fault_name fault
