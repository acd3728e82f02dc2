-- Tokens that are put behind others.
use Rattle.std.proofs.Common.{arith, ◌≡◌, [], ◌∷◌, ◌++◌, append_assoc}
use Rattle.json.specs.Token.{Token}
use Rattle.json.specs.Written.{Written}
use Rattle.hp_trace_json.specs.ChangeObjects.{PutsSome}

pub some_more : (a b c : Written) → PutsSome a b → PutsSome b c → PutsSome a c
some_more a b c x y = grind (arith, append_assoc)

pub one_put : (a b : Written) (t : Token) → b.before ≡ a.before → b.tokens ≡ a.tokens ++ t ∷ [] → PutsSome a b
one_put a b t same more = (t ∷ [], record { before = same; tokens = more })
