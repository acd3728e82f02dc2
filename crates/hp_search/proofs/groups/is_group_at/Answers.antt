-- The group that is read is the one at the place.
use Rattle.std.proofs.Common.{length, refl}
use Rattle.std.proofs.lemmas.Option.{slice_get_read}
use Rattle.std.proofs.lemmas.Result.{IfOk-weaker}
use Rattle.hp_search.proofs.groups.is_group_at.Goals as goal

pub returns-in-Some : goal.returns-in-Some
returns-in-Some c =
    let here =
    slice_get_read c.args.groups.now (length c.args.groups.now) c.args.place c.in-Some.group.now refl
    c.in-Some.ensures.lookup.3.0 c.in-Some.ensures.lookup.1 in
    IfOk-weaker c.agree.result _ _ (λ is same. λ yes. (c.in-Some.group.now, here, same.0 yes)) c.agree.ensures
