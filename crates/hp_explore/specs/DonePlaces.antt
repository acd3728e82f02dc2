-- Places with which some thread of a search is done. Their codes mean the same in each thread.
use Rattle.std.specs.Prelude.{◌≡◌, ℕ, List, [], Some, slice_get}
use Rattle.hp_units.specs.Boot.{empty_memory}
use Rattle.hp_units.specs.LayoutParts.{LayoutParts}
use Rattle.hp_units.specs.declared.replies.Record.{Record}
use Rattle.hp_schedules.specs.Schedules.{Setting, plays, schedule_of}
use Rattle.hp_explore.specs.Aims.{AimValue, IsDone}
use Rattle.hp_explore.specs.Visited.{IsPlaceKey, no_stops}

-- the code is that of an admitted place that is done
pub record IsDoneKey (g : Setting) (aim : AimValue) (key : List ℕ) : Type 0 where
  pub news : List Record
  pub played : plays g (schedule_of news) ≡ Some news
  pub admitted : aim.admits (schedule_of news)
  pub key_is : IsPlaceKey g aim no_stops news key
  pub done : IsDone g aim (schedule_of news)

-- each code is that of a place that is done
abbrev pub AreDoneKeys : Setting → AimValue → (keys : List (List ℕ)) → Type 0
AreDoneKeys g aim keys = (i : ℕ) (key : List ℕ) → slice_get keys i ≡ Some key → IsDoneKey g aim key

-- ---- a question before a proof chooses one

-- no memory and no processors
abbrev pub no_layout : LayoutParts
no_layout = record {
  order = 0;
  pageblocks = 0;
  blocks = 0;
  cpus = 0;
  batch = 0;
  high = 0;
  owners = 0;
  pages = 0;
  words = 0;
  history = 0;
  boot = [];
}

-- no scripts there
abbrev pub no_setting : Setting
no_setting = record {
  layout = no_layout;
  base = empty_memory no_layout;
  before = 0;
  start = [];
  scripts = [];
}
