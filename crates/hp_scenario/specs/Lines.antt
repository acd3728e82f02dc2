-- The contents of a line, with names as they are written.
use Rattle.std.specs.Prelude.{ℕ, List, [], ◌∷◌, codes, Option, Some, None, if◌then◌else◌, option_map, option_and_then}
use Rattle.std.specs.Str.{bytes_eq}
use Rattle.hp_units.specs.declared.events.Event.{Event}
use Rattle.hp_units.specs.declared.events.Event.TheVariants.{KernelAlloc, KernelFree, Drain, Online, Begin, DrainFor, Migrate, Commit, Cancel, UndoAfter, Remove}
use Rattle.hp_units.specs.declared.plans.Item.{Item}
use Rattle.hp_units.specs.declared.rows.Wish.{Wish}
use Rattle.hp_units.specs.declared.rows.Wish.TheVariants as wish
use Rattle.hp_units.specs.declared.rows.Zone.{Zone}
use Rattle.hp_units.specs.declared.rows.Zone.TheVariants as zone
use Rattle.hp_units.specs.NumberWords.{number_of}
use Rattle.hp_scenario.specs.Words.{is_name, words_of}
use Rattle.hp_scenario.specs.declared.lines.Work.{Work}
use Rattle.hp_scenario.specs.declared.lines.Work.TheVariants as work
use Rattle.hp_scenario.specs.declared.requests.Access.{Access}
use Rattle.hp_scenario.specs.declared.requests.Access.TheVariants as access

infixl 10 ◌>>=◌
abbrev pub ◌>>=◌ : {A B : Type 0} → Option A → (A → Option B) → Option B
o >>= f = option_and_then f o

-- work that names no owner, or an access to a page of a named one
pub data Request : Type 0 where
  plain : Work → Request
  named : (name : List ℕ) → Access → Request

-- an event that names no owner
abbrev pub event : Event → Request
event e = plain (work.Event e)

-- ---- words by their kind

-- the only word as a number below 2^`bits`; None for any other word, or if there is not exactly one
unfoldable pub only_number : (bits : ℕ) → List (List ℕ) → Option ℕ
only_number bits (word ∷ []) = number_of bits word
only_number bits _ = None

-- the zone that a word names
unfoldable pub zone_of : List ℕ → Option Zone
zone_of word =
    if bytes_eq word (codes "normal") then Some zone.Normal
    else (if bytes_eq word (codes "movable") then Some zone.Movable
    else None)

-- the wish that a word names: what a memory block is to become
unfoldable pub wish_of : List ℕ → Option Wish
wish_of word =
    if bytes_eq word (codes "off") then Some wish.Off
    else (if bytes_eq word (codes "normal") then Some wish.Normal
    else (if bytes_eq word (codes "movable") then Some wish.Movable
    else None))

-- a plan's item: what becomes of a memory block, and the block's number
unfoldable pub item_of : (wish block : List ℕ) → Option Item
item_of wish block = do
  w ← wish_of wish
  b ← number_of 32 block
  Some (record { block = b; wish = w })

-- the items of a plan, two words each
unfoldable pub items_of : List (List ℕ) → Option (List Item)
items_of [] = Some []
items_of (wish ∷ []) = None
items_of (wish ∷ block ∷ rest) = do
  item ← item_of wish block
  items ← items_of rest
  Some (item ∷ items)

-- a text of at least one byte
abbrev pub text_of : List ℕ → Option (List ℕ)
text_of [] = None
text_of (b ∷ bs) = Some (b ∷ bs)

-- ---- verbs without a list, by how many words come after them

-- an access to a page of the owner that a word names
abbrev pub named_if : List ℕ → Access → Option Request
named_if name a = if is_name name then Some (named name a) else None

unfoldable pub event_of_number : (verb word : List ℕ) → Option Event
event_of_number verb word =
    if bytes_eq verb (codes "kalloc") then option_map (λ n. KernelAlloc n) (number_of 32 word)
    else (if bytes_eq verb (codes "kfree") then option_map (λ n. KernelFree n) (number_of 32 word)
    else (if bytes_eq verb (codes "drain") then option_map (λ n. Drain n) (number_of 32 word)
    else (if bytes_eq verb (codes "remove") then option_map (λ n. Remove n) (number_of 32 word)
    else (if bytes_eq verb (codes "migrate") then option_map (λ n. Migrate n) (number_of 64 word)
    else (if bytes_eq verb (codes "commit") then option_map (λ n. Commit n) (number_of 64 word)
    else (if bytes_eq verb (codes "cancel") then option_map (λ n. Cancel n) (number_of 64 word)
    else (if bytes_eq verb (codes "undo") then option_map (λ n. UndoAfter n) (number_of 64 word)
    else None)))))))

abbrev pub map_of : (name page : List ℕ) → Option Request
map_of name page = number_of 32 page >>= λ p. named_if name (access.Map p)

abbrev pub unmap_of : (name page : List ℕ) → Option Request
unmap_of name page = number_of 32 page >>= λ p. named_if name (access.Unmap p)

abbrev pub online_of : (block zone : List ℕ) → Option Request
online_of block zone = do
  b ← number_of 32 block
  z ← zone_of zone
  Some (event (Online b z))

abbrev pub drainfor_of : (op cpu : List ℕ) → Option Request
drainfor_of op cpu = do
  o ← number_of 64 op
  c ← number_of 32 cpu
  Some (event (DrainFor o c))

unfoldable pub request_of_two : (verb first second : List ℕ) → Option Request
request_of_two verb first second =
    if bytes_eq verb (codes "map") then map_of first second
    else (if bytes_eq verb (codes "unmap") then unmap_of first second
    else (if bytes_eq verb (codes "online") then online_of first second
    else (if bytes_eq verb (codes "drainfor") then drainfor_of first second
    else None)))

abbrev pub read_of : (name page index : List ℕ) → Option Request
read_of name page index = do
  p ← number_of 32 page
  i ← number_of 32 index
  named_if name (access.Read p i)

unfoldable pub request_of_three : (verb name page index : List ℕ) → Option Request
request_of_three verb name page index =
    if bytes_eq verb (codes "read") then read_of name page index else None

abbrev pub write_of : (name page index value : List ℕ) → Option Request
write_of name page index value = do
  p ← number_of 32 page
  i ← number_of 32 index
  v ← number_of 64 value
  named_if name (access.Write p i v)

unfoldable pub request_of_four : (verb name page index value : List ℕ) → Option Request
request_of_four verb name page index value =
    if bytes_eq verb (codes "write") then write_of name page index value else None

unfoldable pub event_of : (verb : List ℕ) → List (List ℕ) → Option Request
event_of verb (word ∷ []) = option_map event (event_of_number verb word)
event_of verb (first ∷ second ∷ []) = request_of_two verb first second
event_of verb (name ∷ page ∷ index ∷ []) = request_of_three verb name page index
event_of verb (name ∷ page ∷ index ∷ value ∷ []) = request_of_four verb name page index value
event_of verb _ = None

-- ---- the other verbs, by the words after each

unfoldable pub begin_of : List (List ℕ) → Option Request
begin_of args = option_map (λ items. event (Begin items)) (items_of args)

unfoldable pub plan_of : List (List ℕ) → Option Request
plan_of [] = None
plan_of (turns ∷ rest) = do
  n ← number_of 32 turns
  items ← items_of rest
  Some (plain (work.Plan items n))

unfoldable pub echo_of : List (List ℕ) → Option Request
echo_of (word ∷ path ∷ []) = do
  w ← text_of word
  p ← text_of path
  Some (plain (work.Echo (record { path = p; word = w })))
echo_of _ = None

unfoldable pub cat_of : List (List ℕ) → Option Request
cat_of (path ∷ []) = option_map (λ p. plain (work.Cat p)) (text_of path)
cat_of _ = None

unfoldable pub seal_of : List (List ℕ) → Option Request
seal_of [] = Some (plain work.Seal)
seal_of _ = None

-- ---- a line

-- what the words after the processor ask for
unfoldable pub request_of : List (List ℕ) → Option Request
request_of [] = None
request_of (verb ∷ args) =
    if bytes_eq verb (codes "begin") then begin_of args
    else (if bytes_eq verb (codes "plan") then plan_of args
    else (if bytes_eq verb (codes "echo") then echo_of args
    else (if bytes_eq verb (codes "cat") then cat_of args
    else (if bytes_eq verb (codes "seal") then seal_of args
    else event_of verb args))))

-- a processor and what it asks for, from the words of a line
pub record Said : Type 0 where
  pub cpu : ℕ
  pub request : Request

unfoldable pub words_say : List (List ℕ) → Option Said
words_say [] = None
words_say (cpu ∷ rest) = do
  c ← number_of 32 cpu
  r ← request_of rest
  Some (record { cpu = c; request = r })

-- the contents of a text, if it can be read as a line
unfoldable pub line_says : List ℕ → Option Said
line_says text = words_say (words_of text)
