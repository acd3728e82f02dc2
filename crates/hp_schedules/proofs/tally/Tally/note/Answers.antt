-- The end at its place counts one more, or an end is added.
use Rattle.std.proofs.Common.{inl, inr}
use Rattle.std.proofs.lemmas.Option.{slice_get_within}
use Rattle.std.proofs.lemmas.Result.{on_ok_weaker}
use Rattle.hp_schedules.specs.Outcomes.{outcome_with}
use Rattle.hp_schedules.proofs.Places.{adds_one}
use Rattle.hp_schedules.proofs.tally.Tally.note.Goals as goal

pub place_of-requires : goal.place_of-requires
place_of-requires c =
    rw (c.as_slice.ensures.value, ← c.as_slice-2.ensures.value) at c.digest_of-digest.ensures

pub add_at-requires-clause-place : goal.add_at-requires-clause-place
add_at-requires-clause-place c =
    let at = c.in-Some.ensures.some in
    slice_get_within c.args.self.now.ends c.in-Some.place at.0 at.1

pub returns-in-Some-clause-ok : goal.returns-in-Some-clause-ok
returns-in-Some-clause-ok c =
    let told = outcome_with c.args.processors c.args.records.now in
    on_ok_weaker c.add_at.result
    (λ added. inl (adds_one c.args.self.now.ends c.add_at.new.self.ends (told c.args.blocks.items)
    c.in-Some.place (rw (← c.as_slice-2.ensures.value) c.in-Some.ensures.some) added))
    c.add_at.ensures.added

pub add_end-requires-clause-none : goal.add_end-requires-clause-none
add_end-requires-clause-none c =
    rw (← c.as_slice-2.ensures.value) c.in-None.ensures.none

pub add_end-requires-clause-digest : goal.add_end-requires-clause-digest
add_end-requires-clause-digest c =
    rw c.as_slice.ensures.value at c.digest_of-digest.ensures

pub returns-in-None-clause-ok : goal.returns-in-None-clause-ok
returns-in-None-clause-ok c = on_ok_weaker c.add_end.result inr c.add_end.ensures.ok
