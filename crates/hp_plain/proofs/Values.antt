-- Values made of their parts, and equal if their parts are.
use Rattle.std.proofs.Common.{◌≡◌, ℕ, suc, ◌<◌, List, [], ◌∷◌, ◌++◌, length, get_or, set, Option, None, refl, sym, subst}
use Rattle.std.specs.List.{slice_get}
use Rattle.std.specs.Option.{option_flatten}
use Rattle.std.proofs.lemmas.List.{get_or_default}
use Rattle.hp_units.specs.LayoutParts.{LayoutParts}
use Rattle.hp_units.specs.declared.rows.Auto.{Auto}
use Rattle.hp_units.specs.declared.rows.Row.{Row}
use Rattle.hp_units.specs.Memory.{FreeAreas, FreeFrames, Pages, Blocks, Memory, with_entry}
use Rattle.hp_plain.specs.Image.{Pictured}

-- free frames, from areas and processors' lists
abbrev pub frames_value : FreeAreas → List (List ℕ) → FreeFrames
frames_value areas cached = record { areas = areas; cached = cached }

-- pages, from the frames that hold them and their words
abbrev pub pages_value : List (List (Option ℕ)) → List (List (Option (List ℕ))) → Pages
pages_value table contents = record { table = table; contents = contents }

-- blocks, from their rows and what an added block becomes
abbrev pub blocks_value : List Row → Auto → Blocks
blocks_value rows auto = record { rows = rows; auto = auto }

-- a state, from its parts
abbrev pub memory_value : FreeFrames → Pages → List (Option ℕ) → Blocks → Memory
memory_value free pages kernel blocks =
    record { free = free; pages = pages; kernel = kernel; blocks = blocks }

-- a layout and a state of it
abbrev pub image_value : LayoutParts → Memory → Pictured
image_value layout memory = record { layout = layout; memory = memory }

-- states of equal parts are equal
pub memory_is : (f g : FreeFrames) (p q : Pages) (k j : List (Option ℕ)) (b c : Blocks)
    → f ≡ g → p ≡ q → k ≡ j → b ≡ c → memory_value f p k b ≡ memory_value g q j c
memory_is f g p q k j b c free pages kernel blocks = rw (free, pages, kernel, blocks)

-- an entry that may be nothing, and nothing past the end
pub entry_read : {X : Type 0} (xs : List (Option X)) (i : ℕ)
    → option_flatten (slice_get xs i) ≡ get_or xs i None
entry_read (x ∷ xs) (suc i) = entry_read xs i
entry_read _ _ = refl

-- a list of lists with one more item at the back of one of them
pub list_added : (lists : List (List ℕ)) (n number item : ℕ) (row new : List ℕ) → n ≡ number
    → number < length lists → row ≡ get_or lists n row → new ≡ row ++ item ∷ []
    → set lists n new ≡ set lists number (get_or lists number [] ++ item ∷ [])
list_added lists n number item row new same below read wrote =
    rw (wrote, read)
    (rw ((get_or_default lists n row [] (subst (λ (m : ℕ). m < length lists) (sym same) below)), same))

-- a table with one entry of one of its rows set
pub entry_set : {A : Type 0} (table : List (List (Option A))) (n owner page : ℕ) (entry : Option A)
    (row new : List (Option A)) → n ≡ owner → owner < length table → row ≡ get_or table n row
    → new ≡ set row page entry → set table n new ≡ with_entry table owner page entry
entry_set {A} table n owner page entry row new same below read wrote =
    rw (wrote, read)
    (rw ((get_or_default table n row [] (subst (λ (m : ℕ). m < length table) (sym same) below)), same))
