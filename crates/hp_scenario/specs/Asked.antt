-- What a line asks for. For an echo, that is what its control file makes of the word.
use Rattle.std.specs.Prelude.{ℕ, Bool, true, false, List, Result, Ok, Err}
use Rattle.hp_units.specs.declared.events.Event.{Event}
use Rattle.hp_units.specs.declared.plans.Item.{Item}
use Rattle.hp_requests.specs.Writes.{control_turns, echo_request}
use Rattle.hp_requests.specs.declared.fault.ControlFault.{ControlFault}
use Rattle.hp_requests.specs.declared.writes.Request.{Request}
use Rattle.hp_requests.specs.declared.writes.Request.TheVariants as request
use Rattle.hp_scenario.specs.declared.lines.Work.{Work}
use Rattle.hp_scenario.specs.declared.lines.Work.TheVariants as work

-- an event; a plan, with the most migrations that it may try; nothing, since a control file does
-- not take the word; a control file to read; or a seal
pub data Meaning : Type 0 where
  event : Event → Meaning
  plan : (items : List Item) → (turns : ℕ) → Meaning
  not_taken : ControlFault → Meaning
  cat : (path : List ℕ) → Meaning
  seal : Meaning

-- what an echo asks for
abbrev pub asked_of : Result Request ControlFault → Meaning
asked_of (Ok (request.Event e)) = event e
asked_of (Ok (request.Plan items)) = plan items control_turns
asked_of (Err fault) = not_taken fault

-- what a line asks for
unfoldable pub asked_by : Work → Meaning
asked_by (work.Event e) = event e
asked_by (work.Plan items turns) = plan items turns
asked_by (work.Echo echo) = asked_of (echo_request echo.path echo.word)
asked_by (work.Cat path) = cat path
asked_by work.Seal = seal

-- a line reads a control file; a line is a seal
abbrev pub asks_text : Meaning → Bool
asks_text (cat path) = true
asks_text m = false

abbrev pub asks_seal : Meaning → Bool
asks_seal seal = true
asks_seal m = false

abbrev pub is_cat : Work → Bool
is_cat w = asks_text (asked_by w)

abbrev pub is_seal : Work → Bool
is_seal w = asks_seal (asked_by w)
