use Rattle.std.proofs.Common.{◌≡◌, ◌-◌, suc, length, sym, arith}
use Rattle.hp_scripts.proofs.NamedLists.{last_two_lacks, last_two_there}
use Rattle.hp_scripts.proofs.words.last_two.Goals as goal

pub returns-in_default : goal.returns-in_default
returns-in_default c = sym (last_two_lacks c.args.words.now (omega (arith, c.in_default.len_below)))

pub returns-in-len2-up : goal.returns-in-len2-up
returns-in-len2-up c =
    let words = c.args.words.now in
    let next : length words - 1 ≡ suc (length words - 2) = omega (arith, c.in-len2-up.len_at_least) in
    rw next (sym (last_two_there words (length words - 2) _ (omega (arith, c.in-len2-up.len_at_least))))
