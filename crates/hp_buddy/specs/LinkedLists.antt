-- The value of a `Links` in contracts: lists by number, each a sequence of frames.
use Rattle.std.specs.Prelude.{ℕ, ◌≡◌, ◌<◌, cond, ◌==◌, List, [], ◌∷◌, map, Option, None, Some, length, slice_index_or, slice_set}
use Rattle.std.specs.List.{Contains}

pub record LinkedLists : Type 0 where
  pub frame_count : ℕ
  pub lists : List (List ℕ)

-- the frames of a list, in order
abbrev pub list_at : LinkedLists → ℕ → List ℕ
list_at links list = slice_index_or links.lists list []

-- all lists, with the frames of one list replaced
abbrev pub with_list : LinkedLists → ℕ → List ℕ → LinkedLists
with_list links list frames = record links { lists = slice_set links.lists list frames }

-- the frame is on this list
abbrev pub IsOn : LinkedLists → ℕ → ℕ → Type 0
IsOn links list frame = Contains (list_at links list) frame

-- the frame is on some list
abbrev pub IsListed : LinkedLists → ℕ → Type 0
IsListed links frame = (list : ℕ) × IsOn links list frame

-- the frame is on no list
abbrev pub IsUnlisted : LinkedLists → ℕ → Type 0
IsUnlisted links frame = (list : ℕ) → IsOn links list frame → ⊥

-- the first frame
abbrev pub first : List ℕ → Option ℕ
first [] = None
first (x ∷ xs) = Some x

-- the last frame, or `before` if the list is empty
abbrev pub last_from : Option ℕ → List ℕ → Option ℕ
last_from before [] = before
last_from before (x ∷ xs) = last_from (Some x) xs

abbrev pub last : List ℕ → Option ℕ
last xs = last_from None xs

-- the list without this frame's first entry
abbrev pub without : ℕ → List ℕ → List ℕ
without frame [] = []
without frame (x ∷ xs) = cond (x == frame) xs (x ∷ without frame xs)

-- the lists, each `without` this frame
abbrev pub off_lists : ℕ → LinkedLists → LinkedLists
off_lists frame links = record links { lists = map (without frame) links.lists }

-- the frame before this one, or `before` if this one is the first; None if this one is not on the
-- list
abbrev pub predecessor_from : Option ℕ → ℕ → List ℕ → Option ℕ
predecessor_from before frame [] = None
predecessor_from before frame (x ∷ xs) = cond (x == frame) before (predecessor_from (Some x) frame xs)

-- the frame before this one
abbrev pub predecessor : ℕ → List ℕ → Option ℕ
predecessor frame xs = predecessor_from None frame xs

-- the frame after this one
abbrev pub successor : ℕ → List ℕ → Option ℕ
successor frame [] = None
successor frame (x ∷ xs) = cond (x == frame) (first xs) (successor frame xs)

-- the list with one more frame, after `after` or at the front; unchanged if `after` is not on it
abbrev pub with_behind : Option ℕ → ℕ → List ℕ → List ℕ
with_behind None frame xs = frame ∷ xs
with_behind (Some after) frame [] = []
with_behind (Some after) frame (x ∷ xs) =
    cond (x == after) (x ∷ frame ∷ xs) (x ∷ with_behind (Some after) frame xs)

-- each frame is on at most one list, and only once there; all frames on lists are below
-- `frame_count`
pub record IsApart (links : LinkedLists) : Type 0 where
  pub in_range : (list frame : ℕ) → IsOn links list frame → frame < links.frame_count
  pub one_list : (list other frame : ℕ) → IsOn links list frame → IsOn links other frame → list ≡ other
  pub once : (list i j : ℕ) → i < length (list_at links list) → j < length (list_at links list)
      → slice_index_or (list_at links list) i 0 ≡ slice_index_or (list_at links list) j 0 → i ≡ j
