-- The end stands after the others.
use Rattle.std.proofs.Common.{◌∷◌, ◌++◌, [], List, ap, arith, ◌∙◌}
use Rattle.std.specs.Prelude.{sum_by}
use Rattle.std.proofs.lemmas.List.Sums.{sum_by_push}
use Rattle.hp_schedules.specs.declared.tally.Ending.{Ending}
use Rattle.hp_schedules.proofs.Known.{known_first}
use Rattle.hp_parts.proofs.merged_ends.MergedEnds.push.Goals as goal

pub invariant_of-self-2 : goal.invariant_of-self-2
invariant_of-self-2 c =
    let copy = c.in_ok-copy.copy in
    let pushed =
    c.push_reserved.ensures.items
    ∙ ap (λ (xs : List Ending). xs ++ copy ∷ []) c.in_ok-reserve.ensures.items in
    let all = ap (λ (xs : List Ending). sum_by (λ (e : Ending). e.count) xs) pushed in (
      omega (
        arith,
        all,
        sum_by_push (λ (e : Ending). e.count) c.self.inside.ends.items copy,
        c.in_ok-copy.ensures.count,
        c.self.invariant.0,
      ),
      known_first c.self.inside.ends.items c.push_reserved.new.self.items copy c.args.end.now.outcome
          c.args.digest c.self.inside.latest c.learn.new.latest c.in_ok-copy.ensures.outcome c.requires.digest
          pushed c.learn.ensures.kept c.in_ok-learn.ensures.ok c.self.invariant.1,
    )

pub returns-clause-ok : goal.returns-clause-ok
returns-clause-ok c =
    let copy = c.in_ok-copy.copy in record {
      entry = copy;
      none = c.requires.none;
      outcome_is = c.in_ok-copy.ensures.outcome;
      count = c.in_ok-copy.ensures.count;
      first = c.in_ok-copy.ensures.first;
      new_is = rw (c.push_reserved.ensures.items, c.in_ok-reserve.ensures.items, c.self.view_is);
    }
