-- The operation that each processor began last. A search renumbers operations by these.
use Rattle.std.specs.Prelude.{◌≡◌, ℕ, ◌-◌, Bool, true, false, if◌then◌else◌, List, [], ◌∷◌, ◌++◌, drop, fold, length, map}
use Rattle.std.specs.List.{range_with_len}
use Rattle.hp_units.specs.Receipts.{receipts_of}
use Rattle.hp_units.specs.declared.replies.Record.{Record}
use Rattle.hp_laws.specs.Numberings.{number_of}
use Rattle.hp_schedules.specs.Openings.{change_of}
use Rattle.hp_schedules.specs.Schedules.{Setting}
use Rattle.hp_schedules.specs.Scripts.{greatest_named, own_operation}
use Rattle.hp_explore.specs.declared.latest_ops.LatestOps.{LatestOps}
use Rattle.hp_schedules.specs.declared.changes.Change.{Change}
use Rattle.hp_schedules.specs.declared.changes.Change.TheVariants.{Stays, Begins, Works, Cancels, Ends}

-- the operation that each processor with a script began last
abbrev pub ops_after : Setting → List Record → List ℕ
ops_after g news = map (λ cpu. own_operation (receipts_of cpu news)) (range_with_len 0 (length g.scripts))

-- whether the change is `Ends`, which empties the list of operations that a Cancel can undo
abbrev pub is_end : Change → Bool
is_end Stays = false
is_end Begins = false
is_end (Works op) = false
is_end (Cancels op) = false
is_end Ends = true

-- all new records so far, and those up to the latest one whose change is `Ends`. Such a record is not
-- refused, and its event is no Read, Begin, DrainFor, Migrate or Cancel
pub record Ended : Type 0 where
  pub all : List Record
  pub kept : List Record

-- the records and their kept beginning, after one more record
abbrev pub ended_with : Ended → Record → Ended
ended_with e r = record {
  all = e.all ++ r ∷ [];
  kept = if is_end (change_of r) then e.all ++ r ∷ [] else e.kept;
}

-- the records and their kept beginning
abbrev pub ended : List Record → Ended
ended news = fold ended_with (record { all = []; kept = [] }) news

-- the operations by which a search renumbers at the place after the new records: the operation that
-- each processor had begun last when the latest record with the change `Ends` was made; 0 for each
-- if there is no such record
unfoldable pub ops_at : Setting → List Record → List ℕ
ops_at g news = ops_after g (ended news).kept

-- the number that a search gives an operation at the place after the new records. An operation up
-- to the greatest one that a script names by number gets twice its own number at every place
abbrev pub numbering : Setting → List Record → ℕ → ℕ
numbering g news op = number_of (greatest_named g.scripts) (ops_at g news) op

-- the last `count` numbers of a list, or all, if there are fewer
abbrev pub last_of : (count : ℕ) → List ℕ → List ℕ
last_of count numbers = drop (length numbers - count) numbers

-- the operations at the current place
abbrev pub latest_here : LatestOps → List ℕ
latest_here l = last_of l.processors l.ops.items

-- the records so far, the operations at all earlier places, and those at the current place
pub record Along : Type 0 where
  pub all : List Record
  pub earlier : List ℕ
  pub here : List ℕ

-- the same after one more record
abbrev pub along_with : Setting → Along → Record → Along
along_with g a r = record {
  all = a.all ++ r ∷ [];
  earlier = a.earlier ++ a.here;
  here = ops_at g (a.all ++ r ∷ []);
}

-- the operations at the places that the new records lead through, from the first place on
abbrev pub along : Setting → (news : List Record) → Along
along g news = fold (along_with g) (record { all = []; earlier = []; here = ops_at g [] }) news

-- `l` holds the operations at all places up to the one after the new records
abbrev pub AreLatestAt : Setting → (news : List Record) → LatestOps → Type 0
AreLatestAt g news l =
    (l.processors ≡ length g.scripts) × (l.ops.items ≡ (along g news).earlier ++ (along g news).here)
