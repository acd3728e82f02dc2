-- The end at its place counts the schedules of both, and keeps the earlier of their firsts.
use Rattle.std.proofs.Common.{◌≡◌, ℕ, ◌+◌, ◌<◌, List, Result, Ok, Err, Some, Vec, Global, length, set, arith, ap, refl, sym, ◌∙◌}
use Rattle.std.specs.Prelude.{OnErr, sum_by}
use Rattle.std.proofs.lemmas.List.{set-get_or}
use Rattle.std.proofs.lemmas.List.Sums.{get_or-le-sum_by, sum_by-set}
use Rattle.std.proofs.lemmas.Option.{get_or_from_slice_get, slice_get_within}
use Rattle.hp_schedules.specs.Notes.{AreKnown}
use Rattle.hp_schedules.specs.Outcomes.{OutcomeValue}
use Rattle.hp_schedules.specs.declared.tally.Ending.{Ending}
use Rattle.hp_schedules.proofs.Known.{known_set}
use Rattle.hp_parts.proofs.merged_ends.MergedEnds.add_at.Goals as goal
use Rattle.hp_parts.proofs.merged_ends.MergedEnds.add_at.Goals.{After-index_mut-entry}

-- an end of these parts
abbrev ending : OutcomeValue → ℕ → Vec ℕ Global → Ending
ending x n first = record { outcome = x; count = n; first = first }

-- what is read at the place is the end there
read : (c : After-index_mut-entry) → c.index_mut-entry.result.now ≡ c.requires.at.0
read c =
    c.index_mut-entry.ensures.value
    ∙ get_or_from_slice_get c.self.inside.ends.items c.args.place c.requires.at.0 _
    (rw c.self.view_is c.requires.at.1)

within : (c : After-index_mut-entry) → c.args.place < length c.self.inside.ends.items
within c = rw c.self.view_is (slice_get_within c.args.self.now c.args.place c.requires.at.0 c.requires.at.1)

-- the counts with another in its place
total : (c : After-index_mut-entry) (count : ℕ) (more : Ending)
    → more.count ≡ c.index_mut-entry.result.now.count + count
    → c.self.inside.total + count
    ≡ sum_by (λ (f : Ending). f.count) (set c.self.inside.ends.items c.args.place more)
total c count more counted =
    omega (
      arith,
      c.self.invariant.0,
      counted,
      ap (λ (f : Ending). f.count) c.index_mut-entry.ensures.value,
      sum_by-set (λ (f : Ending). f.count) c.self.inside.ends.items c.args.place more
          c.index_mut-entry.result.now (within c),
    )

-- the digests are known still
known : (c : After-index_mut-entry) (more : Ending)
    → more.outcome ≡ c.index_mut-entry.result.now.outcome
    → AreKnown (set c.self.inside.ends.items c.args.place more) c.self.inside.latest
known c more same =
    known_set c.self.inside.ends.items c.args.place c.index_mut-entry.result.now more c.self.inside.latest
    (rw c.self.view_is (c.requires.at.1 ∙ ap Some (sym (read c)))) same c.self.invariant.1

-- of an error a fact that holds at any rate
at_err : {A E : Type 0} (r : Result A E) (P : Type 0) → P → OnErr r P
at_err (Ok x) P holds = tt
at_err (Err e) P holds = holds

pub overflow_add-entry : goal.overflow_add-entry
overflow_add-entry c =
    omega (
      arith,
      c.requires.room,
      ap (λ (xs : List Ending). sum_by (λ (f : Ending). f.count) xs) c.self.view_is,
      ap (λ (f : Ending). f.count) c.index_mut-entry.ensures.value,
      get_or-le-sum_by (λ (f : Ending). f.count) c.self.inside.ends.items c.args.place
          c.index_mut-entry.result.now (within (goal.at.overflow_add-entry c).After-index_mut-entry),
    )

pub invariant_of-self : goal.invariant_of-self
invariant_of-self c =
    let here = (goal.at.invariant_of-self c).After-index_mut-entry in
    let e = c.index_mut-entry.result.now in
    let same : Ending = ending e.outcome e.count c.keep_earlier.new.kept in
    (omega (arith, total here 0 same (omega arith)), known here same refl)

pub invariant_of-self-2 : goal.invariant_of-self-2
invariant_of-self-2 c =
    let here = (goal.at.invariant_of-self-2 c).After-index_mut-entry in
    let e = c.index_mut-entry.result.now in
    let more : Ending = ending e.outcome (e.count + c.args.end.now.count) c.keep_earlier.new.kept in
    (total here c.args.end.now.count more refl, known here more refl)

pub returns-clause-ok : goal.returns-clause-ok
returns-clause-ok c =
    let e = c.index_mut-entry.result.now in
    let here = read (goal.at.returns-clause-ok c).After-index_mut-entry in
    record {
      at = c.args.place;
      entry = c.requires.at.0;
      more = ending e.outcome (e.count + c.args.end.now.count) c.keep_earlier.new.kept;
      here = c.requires.at.1;
      same = c.requires.at.2;
      outcome_is = rw here;
      count = rw here;
      first = rw (c.in_ok-keep_earlier.ensures.ok, c.as_slice.ensures.value, here);
      new_is = rw c.self.view_is;
    }

pub returns-in_err-keep_earlier-clause-err : goal.returns-in_err-keep_earlier-clause-err
returns-in_err-keep_earlier-clause-err c =
    let e = c.index_mut-entry.result.now in
    at_err c.from_residual.result _
    (ap (λ (first : Vec ℕ Global). set c.self.inside.ends.items c.args.place (ending e.outcome e.count first))
    c.in_err-keep_earlier.ensures.err
    ∙ (ap (set c.self.inside.ends.items c.args.place) c.index_mut-entry.ensures.value
    ∙ (set-get_or c.self.inside.ends.items c.args.place e ∙ c.self.view_is)))
