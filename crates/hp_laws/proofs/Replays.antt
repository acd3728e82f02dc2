-- A list with one item more, and the net after a refusal.
use Rattle.std.proofs.Common.{◌≡◌, ℕ, ◌+◌, List, [], ◌∷◌, ◌++◌, take, Bool, true, cond, Some, slice_get, ap, sym, add-one}
use Rattle.hp_units.specs.History.{net_with, net_with_effect, is_refused, effect_of}
use Rattle.hp_laws.proofs.Names.{Record}
use Rattle.hp_laws.proofs.Lists.{take_next}

-- a beginning that is longer by one item
pub take_one : {A : Type 0} (xs : List A) (k : ℕ) (x : A) → slice_get xs k ≡ Some x
    → take (k + 1) xs ≡ take k xs ++ x ∷ []
take_one xs k x e = rw add-one (take_next xs k x e)

-- a refusal leaves the net
pub net_bad : (n : List Record) (r : Record) → is_refused r.reply ≡ true → n ≡ net_with n r
unfolding net_with
net_bad n r bad = sym (ap (λ (b : Bool). cond b n (net_with_effect n r (effect_of r.event))) bad)
