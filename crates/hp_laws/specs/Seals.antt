-- Histories that follow one another, as seals make them: each begins with the state that the one
-- before it leads to, and its serials go on from there.
use Rattle.std.specs.Prelude.{ℕ, ◌+◌, ◌-◌, if◌then◌else◌, List, [], ◌∷◌, ◌++◌, fold, length, nat_lt, take}
use Rattle.hp_units.specs.LayoutParts.{LayoutParts}
use Rattle.hp_units.specs.Memory.{Memory}
use Rattle.hp_units.specs.History.{IsLegal, net_of, value_of}
use Rattle.hp_units.specs.declared.replies.Record.{Record}

-- each history is legal from the state that those before it lead to, after all their records
abbrev pub AreLegal : LayoutParts → Memory → ℕ → List (List Record) → Type 0
AreLegal l base before [] = Unit {0}
AreLegal l base before (h ∷ later) =
    IsLegal l base before h × AreLegal l (value_of l base h) (before + length h) later

-- the state that the histories lead to from a base state, one after another
abbrev pub value_of_all : LayoutParts → Memory → List (List Record) → Memory
value_of_all l base histories = fold (λ s h. value_of l s h) base histories

-- the steps that are not undone, history after history
abbrev pub net_of_all : List (List Record) → List Record
net_of_all [] = []
net_of_all (h ∷ later) = net_of h ++ net_of_all later

-- the state after the first `count` records of the histories; a seal is no record and changes no
-- state
abbrev pub state_at : LayoutParts → Memory → List (List Record) → ℕ → Memory
state_at l base [] count = base
state_at l base (h ∷ later) count =
    if nat_lt count (length h) then value_of l base (take count h)
    else state_at l (value_of l base h) later (count - length h)

-- the state just before a record of one of the histories
abbrev pub state_just_before : LayoutParts → Memory → ℕ → List (List Record) → Record → Memory
state_just_before l base before histories r = state_at l base histories (r.serial - before - 1)

-- the state just after a record of one of the histories
abbrev pub state_just_after : LayoutParts → Memory → ℕ → List (List Record) → Record → Memory
state_just_after l base before histories r = state_at l base histories (r.serial - before)
