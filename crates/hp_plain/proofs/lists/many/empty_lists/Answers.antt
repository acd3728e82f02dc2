-- One more list without frames.
use Rattle.std.proofs.Common.{◌≡◌, ℕ, zero, suc, List, [], ◌∷◌, ◌++◌, add-one, replicate, refl, sym, ◌∙◌, ap, arith}
use Rattle.hp_plain.proofs.lists.many.empty_lists.Goals as goal

more : (n : ℕ) → replicate {A = List ℕ} n [] ++ [] ∷ [] ≡ replicate (suc n) []
more zero = refl
more (suc n) = ap (λ (xs : List (List ℕ)). [] ∷ xs) (more n)

pub loop-number-preserved : goal.loop-number-preserved
loop-number-preserved c =
    rw (c.in_ok-push.ensures.items, c.new.ensures, c.loop-number.invariant)
    (rw (more c.loop-number._number) (ap (λ (n : ℕ). replicate n []) (sym (add-one c.loop-number._number))))

pub returns : goal.returns
returns c =
    let all : c.loop-number._number ≡ c.args.count = omega arith in
    c.loop-number.invariant ∙ ap (λ (n : ℕ). replicate n []) all
