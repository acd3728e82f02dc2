-- Names are numbered as owners from 0, in the order in which they first occur.
use Rattle.std.specs.Prelude.{ℕ, List, Option, option_map}
use Rattle.std.specs.Str.{bytes_eq}
use Rattle.std.specs.List.{position_or_len}
use Rattle.indexmap.specs.IndexSet.{insert_key}
use Rattle.hp_units.specs.declared.events.Event.{Event}
use Rattle.hp_units.specs.declared.events.Event.TheVariants as event
use Rattle.hp_scenario.specs.Lines.{Request, plain, named, Said, line_says}
use Rattle.hp_scenario.specs.declared.lines.Line.{Line}
use Rattle.hp_scenario.specs.declared.lines.Work.{Work}
use Rattle.hp_scenario.specs.declared.lines.Work.TheVariants as work
use Rattle.hp_scenario.specs.declared.requests.Access.{Access}
use Rattle.hp_scenario.specs.declared.requests.Access.TheVariants.{Map, Unmap, Write, Read}

-- the names after a request: a new name goes last
abbrev pub names_with : List (List ℕ) → Request → List (List ℕ)
names_with names (plain w) = names
names_with names (named name access) = insert_key bytes_eq names name

-- the number of a name: its index among the names, or for a new name, how many names there are
abbrev pub owner_of : List (List ℕ) → List ℕ → ℕ
owner_of names name = position_or_len (bytes_eq name) names

-- the event of an owner's access
abbrev pub access_event : ℕ → Access → Event
access_event owner (Map page) = event.Map owner page
access_event owner (Unmap page) = event.Unmap owner page
access_event owner (Write page index value) = event.Write owner page index value
access_event owner (Read page index) = event.Read owner page index

-- the work of a request, given the names of the lines before it
abbrev pub work_of : List (List ℕ) → Request → Work
work_of names (plain w) = w
work_of names (named name access) = work.Event (access_event (owner_of names name) access)

-- a line, and the names after it
pub record Numbered : Type 0 where
  pub names : List (List ℕ)
  pub line : Line

abbrev pub numbered : List (List ℕ) → Said → Numbered
numbered names said = record {
  names = names_with names said.request;
  line = record { cpu = said.cpu; work = work_of names said.request };
}

-- the line in a text, given the names of the lines before it; and the names after it
unfoldable pub line_in : List (List ℕ) → List ℕ → Option Numbered
line_in names text = option_map (numbered names) (line_says text)
