-- The rings that store the lists: the head of a list closes it into a ring, and neighbours point to
-- each other.
use Rattle.std.specs.Prelude.{ℕ, zero, suc, ◌≡◌, ◌≢◌, ◌<◌, ◌+◌, List, [], ◌∷◌, ◌⊎◌, Option, None, Some, length, slice_index_or, cond, nat_lt}
use Rattle.hp_buddy.specs.LinkedLists.{LinkedLists}
use Rattle.hp_buddy.specs.declared.rings.Node.{Node}

-- what each entry of the table holds
pub record Table : Type 0 where
  pub next : ℕ → ℕ
  pub prev : ℕ → ℕ
  pub list : ℕ → Option ℕ

-- an entry that is its own neighbour, on no list
abbrev pub alone_at : ℕ → Node
alone_at place = record { next = place; prev = place; list = 0 }

-- the list that a code means: 0 is none, any other code is the list's number plus one
abbrev pub list_of_code : ℕ → Option ℕ
list_of_code zero = None
list_of_code (suc list) = Some list

unfoldable pub table : List Node → Table
table nodes = record {
  next = λ i. (slice_index_or nodes i (record { next = 0; prev = 0; list = 0 })).next;
  prev = λ i. (slice_index_or nodes i (record { next = 0; prev = 0; list = 0 })).prev;
  list = λ i. list_of_code (slice_index_or nodes i (record { next = 0; prev = 0; list = 0 })).list;
}

-- a frame is put between two neighbours
pub record Inserts (old new : Table) (list before frame after : ℕ) : Type 0 where
  pub next_before : new.next before ≡ frame
  pub next_frame : new.next frame ≡ after
  pub next_same : (x : ℕ) → x ≢ before → x ≢ frame → new.next x ≡ old.next x
  pub prev_after : new.prev after ≡ frame
  pub prev_frame : new.prev frame ≡ before
  pub prev_same : (x : ℕ) → x ≢ after → x ≢ frame → new.prev x ≡ old.prev x
  pub list_frame : new.list frame ≡ Some list
  pub list_same : (x : ℕ) → x ≢ frame → new.list x ≡ old.list x

-- a frame is taken out from between its neighbours
pub record Removes (old new : Table) (before frame after : ℕ) : Type 0 where
  pub next_before : new.next before ≡ after
  pub next_same : (x : ℕ) → x ≢ before → x ≢ frame → new.next x ≡ old.next x
  pub prev_after : new.prev after ≡ before
  pub prev_same : (x : ℕ) → x ≢ after → x ≢ frame → new.prev x ≡ old.prev x
  pub list_frame : new.list frame ≡ None
  pub list_same : (x : ℕ) → x ≢ frame → new.list x ≡ old.list x

-- each of the first n entries is its own neighbour, and on no list
pub record IsAlone (t : Table) (n : ℕ) : Type 0 where
  pub next : (i : ℕ) → i < n → t.next i ≡ i
  pub prev : (i : ℕ) → i < n → t.prev i ≡ i
  pub list : (i : ℕ) → i < n → t.list i ≡ None

-- the frame at an index, or None for a head
abbrev pub frame_at : ℕ → ℕ → Option ℕ
frame_at frames place = cond (nat_lt place frames) (Some place) None

-- n entries: x, and those that follow it along `next`
unfoldable pub walk : Table → ℕ → ℕ → List ℕ
walk t zero x = []
walk t (suc n) x = x ∷ walk t n (t.next x)

-- the frames of each list, given its length; the first list has the head `head`, the next one `head
-- + 1`
unfoldable pub lists_from : Table → ℕ → List ℕ → List (List ℕ)
lists_from t head [] = []
lists_from t head (n ∷ ns) = walk t n (t.next head) ∷ lists_from t (suc head) ns

-- the value in contracts of a table and the lengths of its lists
abbrev pub shown : ℕ → Table → List ℕ → LinkedLists
shown frames t lens = record { frame_count = frames; lists = lists_from t frames lens }

-- y is one of the numbers
abbrev pub Member : ℕ → List ℕ → Type 0
Member y [] = ⊥
Member y (x ∷ xs) = (x ≡ y) ⊎ Member y xs

-- y is none of the numbers
abbrev pub Absent : ℕ → List ℕ → Type 0
Absent y [] = Unit {0}
Absent y (x ∷ xs) = (x ≢ y) × Absent y xs

-- no two of the numbers are equal
abbrev pub Distinct : List ℕ → Type 0
Distinct [] = Unit {0}
Distinct (x ∷ xs) = Absent x xs × Distinct xs

-- the links lead from `before` through these frames to `after`, and back. By the table, each of the
-- frames is on `list`
abbrev pub Chain : Table → ℕ → ℕ → List ℕ → ℕ → Type 0
Chain t list before [] after = (t.next before ≡ after) × (t.prev after ≡ before)
Chain t list before (x ∷ xs) after =
    (t.next before ≡ x) × (t.prev x ≡ before) × (t.list x ≡ Some list) × Chain t list x xs after

-- the table and the lengths store these lists
pub record Linked (frames : ℕ) (t : Table) (lens : List ℕ) (lists : List (List ℕ)) : Type 0 where
  pub count : length lists ≡ length lens
  pub rings : (l : ℕ) → l < length lists → Chain t l (frames + l) (slice_index_or lists l []) (frames + l)
  pub below : (l x : ℕ) → Member x (slice_index_or lists l []) → x < frames
  pub distinct : (l : ℕ) → Distinct (slice_index_or lists l [])
  pub sizes : (l : ℕ) → l < length lists → slice_index_or lens l 0 ≡ length (slice_index_or lists l [])
  pub owned : (l x : ℕ) → x < frames → t.list x ≡ Some l → Member x (slice_index_or lists l [])

-- the table and the lengths agree: they store the lists that are read from them along `next`
abbrev pub Keeps : ℕ → Table → List ℕ → Type 0
Keeps frames t lens = Linked frames t lens (lists_from t frames lens)
