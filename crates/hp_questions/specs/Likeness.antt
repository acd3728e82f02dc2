-- Hashes of the ends of plans: equal ends have equal hashes.
use Rattle.std.specs.Prelude.{ℕ, true, false, List, fold}
use Rattle.hp_units.specs.declared.replies.OpEnd.{OpEnd}
use Rattle.hp_units.specs.declared.replies.OpEnd.TheVariants.{Done, Refused, Cancelled, Undone, Left}
use Rattle.hp_schedules.specs.Digests.{mixed}

-- a number for each kind of end
abbrev pub end_number : OpEnd → ℕ
end_number Done = 1
end_number (Refused refusal) = 2
end_number (Cancelled why true) = 3
end_number (Cancelled why false) = 4
end_number Undone = 5
end_number (Left op fault) = 6

-- the hash of the ends of one processor's plans
abbrev pub ends_digest : List OpEnd → ℕ
ends_digest ends = fold (λ digest end. mixed digest (end_number end)) 0 ends

-- the hash of the ends of all processors' plans
abbrev pub plans_digest : List (List OpEnd) → ℕ
plans_digest all = fold (λ digest ends. mixed digest (ends_digest ends)) 0 all
