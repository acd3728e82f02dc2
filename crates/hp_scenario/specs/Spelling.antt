-- How each line is spelled: a text is read as a line if and only if it is the line's `line_text`, and
-- the line can be written.
use Rattle.std.specs.Prelude.{◌≡◌, ℕ, ◌^◌, ◌<◌, ◌==◌, List, [], ◌∷◌, codes, Bool, true, not, length, Some, ◌↔◌}
use Rattle.std.specs.Fmt.{decimal}
use Rattle.std.specs.List.{join_with_byte, list_all}
use Rattle.hp_units.specs.declared.events.Event.{Event}
use Rattle.hp_units.specs.declared.events.Event.TheVariants.{KernelAlloc, KernelFree, Drain, Online, Begin, DrainFor, Migrate, Commit, Cancel, UndoAfter, Remove}
use Rattle.hp_units.specs.declared.plans.Item.{Item}
use Rattle.hp_units.specs.declared.rows.Wish.{Wish}
use Rattle.hp_units.specs.declared.rows.Wish.TheVariants as wish
use Rattle.hp_units.specs.declared.rows.Zone.{Zone}
use Rattle.hp_units.specs.declared.rows.Zone.TheVariants as zone
use Rattle.hp_scenario.specs.Lines.{Request, plain, named, Said, line_says}
use Rattle.hp_scenario.specs.Words.{is_name}
use Rattle.hp_scenario.specs.declared.lines.Work.{Work}
use Rattle.hp_scenario.specs.declared.lines.Work.TheVariants as work
use Rattle.hp_scenario.specs.declared.requests.Access.{Access}
use Rattle.hp_scenario.specs.declared.requests.Access.TheVariants as access

-- ---- the words

abbrev pub zone_word : Zone → List ℕ
zone_word zone.Normal = codes "normal"
zone_word zone.Movable = codes "movable"

abbrev pub wish_word : Wish → List ℕ
wish_word wish.Off = codes "off"
wish_word wish.Normal = codes "normal"
wish_word wish.Movable = codes "movable"

abbrev pub item_words : List Item → List (List ℕ)
item_words [] = []
item_words (item ∷ items) = wish_word item.wish ∷ decimal item.block ∷ item_words items

abbrev pub event_words : Event → List (List ℕ)
event_words (KernelAlloc order) = codes "kalloc" ∷ decimal order ∷ []
event_words (KernelFree frame) = codes "kfree" ∷ decimal frame ∷ []
event_words (Drain cpu) = codes "drain" ∷ decimal cpu ∷ []
event_words (Online block zone) = codes "online" ∷ decimal block ∷ zone_word zone ∷ []
event_words (Begin items) = codes "begin" ∷ item_words items
event_words (DrainFor op cpu) = codes "drainfor" ∷ decimal op ∷ decimal cpu ∷ []
event_words (Migrate op) = codes "migrate" ∷ decimal op ∷ []
event_words (Commit op) = codes "commit" ∷ decimal op ∷ []
event_words (Cancel op) = codes "cancel" ∷ decimal op ∷ []
event_words (UndoAfter serial) = codes "undo" ∷ decimal serial ∷ []
event_words (Remove block) = codes "remove" ∷ decimal block ∷ []
event_words event = []

abbrev pub access_words : List ℕ → Access → List (List ℕ)
access_words name (access.Map page) = codes "map" ∷ name ∷ decimal page ∷ []
access_words name (access.Unmap page) = codes "unmap" ∷ name ∷ decimal page ∷ []
access_words name (access.Write page index value) =
    codes "write" ∷ name ∷ decimal page ∷ decimal index ∷ decimal value ∷ []
access_words name (access.Read page index) = codes "read" ∷ name ∷ decimal page ∷ decimal index ∷ []

abbrev pub work_words : Work → List (List ℕ)
work_words (work.Event event) = event_words event
work_words (work.Plan items turns) = codes "plan" ∷ decimal turns ∷ item_words items
work_words (work.Echo echo) = codes "echo" ∷ echo.word ∷ echo.path ∷ []
work_words (work.Cat path) = codes "cat" ∷ path ∷ []
work_words work.Seal = codes "seal" ∷ []

abbrev pub request_words : Request → List (List ℕ)
request_words (plain w) = work_words w
request_words (named name a) = access_words name a

-- the words, joined by single spaces
abbrev pub line_text : Said → List ℕ
line_text said = join_with_byte 32 (decimal said.cpu ∷ request_words said.request)

-- ---- what can be written: numbers that fit, names, and texts without a space

abbrev pub is_spaceless : List ℕ → Bool
is_spaceless word = list_all (λ b. not (b == 32)) word

abbrev pub IsText : List ℕ → Type 0
IsText word = (is_spaceless word ≡ true) × (0 < length word)

abbrev pub FitItems : List Item → Type 0
FitItems [] = Unit {0}
FitItems (item ∷ items) = (item.block < 2 ^ 32) × FitItems items

abbrev pub FitsEvent : Event → Type 0
FitsEvent (KernelAlloc order) = order < 2 ^ 32
FitsEvent (KernelFree frame) = frame < 2 ^ 32
FitsEvent (Drain cpu) = cpu < 2 ^ 32
FitsEvent (Online block zone) = block < 2 ^ 32
FitsEvent (Begin items) = FitItems items
FitsEvent (DrainFor op cpu) = (op < 2 ^ 64) × (cpu < 2 ^ 32)
FitsEvent (Migrate op) = op < 2 ^ 64
FitsEvent (Commit op) = op < 2 ^ 64
FitsEvent (Cancel op) = op < 2 ^ 64
FitsEvent (UndoAfter serial) = serial < 2 ^ 64
FitsEvent (Remove block) = block < 2 ^ 32
FitsEvent event = ⊥

abbrev pub FitsAccess : Access → Type 0
FitsAccess (access.Map page) = page < 2 ^ 32
FitsAccess (access.Unmap page) = page < 2 ^ 32
FitsAccess (access.Write page index value) = (page < 2 ^ 32) × (index < 2 ^ 32) × (value < 2 ^ 64)
FitsAccess (access.Read page index) = (page < 2 ^ 32) × (index < 2 ^ 32)

abbrev pub FitsWork : Work → Type 0
FitsWork (work.Event event) = FitsEvent event
FitsWork (work.Plan items turns) = (turns < 2 ^ 32) × FitItems items
FitsWork (work.Echo echo) = IsText echo.word × IsText echo.path
FitsWork (work.Cat path) = IsText path
FitsWork work.Seal = Unit {0}

abbrev pub FitsRequest : Request → Type 0
FitsRequest (plain w) = FitsWork w
FitsRequest (named name a) = (is_name name ≡ true) × FitsAccess a

abbrev pub CanBeSaid : Said → Type 0
CanBeSaid said = (said.cpu < 2 ^ 32) × FitsRequest said.request

abbrev pub LinesAreSpelled : Type 0
LinesAreSpelled =
    (text : List ℕ) (said : Said) → (line_says text ≡ Some said) ↔ ((text ≡ line_text said) × CanBeSaid said)
