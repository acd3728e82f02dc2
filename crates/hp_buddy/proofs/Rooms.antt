-- Room for one turn more, and as many notes for each turn.
use Rattle.std.proofs.Common.{◌≡◌, ℕ, suc, ◌+◌, ◌*◌, ◌<◌, ◌≤◌, add-one, sym, ◌∙◌, ap, arith}
use Rattle.std.proofs.Math.Nat.{mul-le-mul_right, suc-mul}

-- one turn of all has room beside those before it
pub room_for_one : (done all each : ℕ) → done < all → done * each + each ≤ all * each
room_for_one done all each below =
    omega (arith, mul-le-mul_right {m = suc done} {n = all} each below, suc-mul done each)

-- one turn more
pub one_done : (done each : ℕ) → done * each + each ≡ (done + 1) * each
one_done done each = sym (suc-mul done each) ∙ ap (λ (n : ℕ). n * each) (sym (add-one done))
