-- The key that was found or added is the place's.
use Rattle.std.proofs.Common.{[], ◌∷◌, subst, sym, ◌∙◌, inl, inr}
use Rattle.hp_states.specs.Interned.{KeepNumbers}
use Rattle.hp_states.specs.Stops.{StopsValue}
use Rattle.hp_explore.proofs.Visits.{common, key_kept}
use Rattle.hp_explore.proofs.visited.Visited.look_up.Goals as goal

pub look_up-requires-clause-common : goal.look_up-requires-clause-common
look_up-requires-clause-common g c =
    let v = c.write_key.new.self in
    let p = c.args.path.now in
    λ told. common p.setting (g.A.Aim.shows c.args.aim.now p.setting) v.stops p.news v.numbers.items v.key
    (subst (λ (s : StopsValue). KeepNumbers ([] ∷ []) s.lists) (sym c.in_ok-write_key.ensures.same.1)
    c.requires.base)
    (c.is_common-is_common.ensures told) (c.in_ok-write_key.ensures.ok c.if-not-branch.false)

pub returns-then-branch-clause-ok : goal.returns-then-branch-clause-ok
returns-then-branch-clause-ok g c =
    let is = (c.in_ok-write_key.ensures.ok c.if-not-branch.false).0 in
    let on = c.if-not-self.false in
    let same = c.in_ok-write_key.ensures.same in
    let found = rw c.if-branch.true at c.in_ok-look_up.ensures.ok in
    elim found [
      | inl own ↦ (
        on,
        own.0 ∙ same.2,
        inl (record {
          on = same.0 ∙ on;
          key = c.write_key.new.self.key;
          at = own.1.0;
          here = rw own.0 own.1.1;
          key_is = is;
        }),
      )
      | inr other ↦ (on, other.0 ∙ same.2, inr (c.write_key.new.self.key, other.1))
    ]

pub returns-clause-ok : goal.returns-clause-ok
returns-clause-ok g c =
    let v = c.write_key.new.self in
    let p = c.args.path.now in
    let same = c.in_ok-write_key.ensures.same in
    let is = key_kept p.setting (g.A.Aim.shows c.args.aim.now p.setting) v.stops
    c.number_before_begin.new.self.stops p.news v.key c.in_ok-number_before_begin.ensures.kept
    (c.in_ok-write_key.ensures.ok c.if-not-branch.false).0 in
    let found =
    rw (← c.in_ok-number_before_begin.ensures.same.1, c.if-branch.false) at c.in_ok-look_up.ensures.ok in
    elim found [
      | inl added ↦ inr (v.key, rw (added, same.2), is)
      | inr kept ↦ inl (kept ∙ same.2)
    ]
