-- What was counted since the walk came to the place is what goes on from there.
use Rattle.std.proofs.Common.{refl}
use Rattle.std.proofs.lemmas.Result.{on_ok_weaker}
use Rattle.hp_states.specs.Places.{standing}
use Rattle.hp_states.proofs.Keeping.{memo_more, memo_written, row_kept}
use Rattle.hp_states.proofs.arrivals.keep.Goals as goal

pub write_key-requires-clause-way : goal.write_key-requires-clause-way
write_key-requires-clause-way c =
    let keeping = c.requires.keeping in
    (keeping.0, keeping.1, keeping.3.cursors_are, keeping.3.way)

pub returns-then-not-has_key-clause-memo : goal.returns-then-not-has_key-clause-memo
returns-then-not-has_key-clause-memo c =
    λ g news ends keeping. memo_written g ends c.args.memo.now c.write_key.new.self c.write_key.ensures.same
    keeping.memo_is

pub returns-clause-memo : goal.returns-clause-memo
returns-clause-memo c =
    on_ok_weaker c.keep.result
    (λ more g news ends keeping.
    let walked = keeping.walked in
    let memo = c.write_key.new.self in
    let key_is =
    c.in_ok-has_key.ensures.ok c.if-not-has_key.false g news keeping.cursors_are keeping.way in
    memo_more g ends memo c.keep.new.self c.args.shares.now more
    (memo_written g ends c.args.memo.now memo c.write_key.ensures.same keeping.memo_is)
    (row_kept g walked.part (standing g news) _ walked.old ends _ _ walked.all
    (record { layout = refl; played = keeping.played; state = refl }) walked.counted walked.grown
    walked.before walked.through key_is))
    c.keep.ensures.ok
