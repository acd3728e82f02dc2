-- The end at its place counts so many more.
use Rattle.std.proofs.Common.{◌+◌, [], ℕ, length, set, ap, arith, refl}
use Rattle.std.proofs.lemmas.List.{length-set}
use Rattle.std.proofs.lemmas.List.Sums.{get_or-le-sum_by, sum_by-cons, sum_by-set}
use Rattle.std.proofs.lemmas.Option.{slice_get_read}
use Rattle.hp_schedules.specs.declared.tally.Ending.{Ending}
use Rattle.hp_schedules.proofs.Shares.{put_at}
use Rattle.hp_schedules.proofs.Known.{known_set}
use Rattle.hp_schedules.proofs.Trails.{keeps_at, trail_pushed}
use Rattle.hp_schedules.proofs.tally.Tally.add_at.Goals as goal

pub overflow_add-end : goal.overflow_add-end
overflow_add-end c =
    let within = rw (← c.self.view_is) at c.requires.place in
    omega (
      arith,
      rw (← c.self.view_is) at c.requires.room,
      sum_by-cons (λ (n : ℕ). n) c.args.count [],
      get_or-le-sum_by (λ (f : Ending). f.count) c.self.inside.ends.items c.args.place
          c.index_mut-end.result.now within,
      ap (λ (f : Ending). f.count) c.index_mut-end.ensures.value,
    )

pub overflow_add-self : goal.overflow_add-self
overflow_add-self c =
    let room = rw (← c.self.view_is) at c.requires.room in
    omega (arith, c.self.invariant.0, room, sum_by-cons (λ (n : ℕ). n) c.args.count [])

pub invariant_of-self-2 : goal.invariant_of-self-2
invariant_of-self-2 c =
    let within = rw (← c.self.view_is) at c.requires.place in
    let e = c.index_mut-end.result.now in
    let more : Ending = record { outcome = e.outcome; count = e.count + c.args.count; first = e.first } in
    let here =
    slice_get_read c.self.inside.ends.items (length c.self.inside.ends.items) c.args.place e refl within
    c.index_mut-end.ensures.value in
    let was = ap (λ (f : Ending). f.count) c.index_mut-end.ensures.value in
    let room = rw (← c.self.view_is) at c.requires.room in
    let trailed =
    trail_pushed c.self.inside.trail.shares.items c.push.new.self.items
    (record { end = c.args.place; count = c.args.count }) (length c.self.inside.ends.items)
    (length (set c.self.inside.ends.items c.args.place more)) c.self.inside.total
    (c.self.inside.total + c.args.count) c.in_ok-push.ensures.items c.self.invariant.3
    (omega (arith, within, length-set c.self.inside.ends.items c.args.place more))
    (omega (arith, length-set c.self.inside.ends.items c.args.place more)) c.self.invariant.4 refl in (
      omega (
        arith,
        sum_by-set (λ (f : Ending). f.count) c.self.inside.ends.items c.args.place more e within,
        was,
        c.self.invariant.0,
      ),
      omega (arith, c.self.invariant.0, room, sum_by-cons (λ (n : ℕ). n) c.args.count []),
      known_set c.self.inside.ends.items c.args.place e more c.self.inside.latest here refl
          c.self.invariant.2,
      trailed.0,
      trailed.1,
    )

pub returns-clause-added : goal.returns-clause-added
returns-clause-added c =
    rw (← c.self.view_is)
    (put_at c.self.inside.ends.items c.args.place c.args.count c.index_mut-end.result.now
    (rw (← c.self.view_is) at c.requires.place) c.index_mut-end.ensures.value)

pub returns-clause-trail : goal.returns-clause-trail
returns-clause-trail c =
    rw (← c.self.view_is) (keeps_at _ _ c.args.place c.args.count
    (put_at c.self.inside.ends.items c.args.place c.args.count c.index_mut-end.result.now
    (rw (← c.self.view_is) at c.requires.place) c.index_mut-end.ensures.value) c.in_ok-push.ensures.items)
