-- Byte strings or rows of shares, one after another in one buffer.
use Rattle.std.specs.Prelude.{ℕ, zero, suc, ◌≡◌, ◌≤◌, List, [], ◌∷◌, slice_range}

-- the strings of a buffer from `start` on; `ends` are the indexes at which they end
abbrev pub texts_from : {X : Type 0} → List X → (start : ℕ) → (ends : List ℕ) → List (List X)
texts_from items start [] = []
texts_from items start (end ∷ ends) = slice_range items start end ∷ texts_from items end ends

-- no string ends before it starts, and the last one ends at the end of the buffer
abbrev pub AreTextsFrom : (size start : ℕ) → (ends : List ℕ) → Type 0
AreTextsFrom size start [] = start ≡ size
AreTextsFrom size start (end ∷ ends) = (start ≤ end) × AreTextsFrom size end ends

-- the index at which string `number` starts
abbrev pub start_of : (start : ℕ) → (ends : List ℕ) → (number : ℕ) → ℕ
start_of start ends zero = start
start_of start [] (suc number) = start
start_of start (end ∷ ends) (suc number) = start_of end ends number
