-- Tokens that are appended.
use Rattle.std.proofs.Common.{arith, ◌≡◌, ℕ, ◌+◌, ◌<◌, List, [], ◌∷◌, ◌++◌, Result, length, get_or, take, refl, sym, ap, ◌∙◌, append_assoc, append-nil}
use Rattle.std.specs.Prelude.{OnOk}
use Rattle.std.proofs.lemmas.List.{take_more}
use Rattle.std.proofs.lemmas.Result.{on_ok_weaker}
use Rattle.json.specs.Token.{Token}
use Rattle.json.specs.Written.{Writes, Written}
use Rattle.hp_units.specs.declared.replies.Receipt.{Receipt}
use Rattle.hp_live.specs.Objects.{Adds, TellsCalls, call_object}

-- one token
pub wrote : {E : Type 0} (r : Result (Unit {0}) E) (old new : Written) (t : Token) → Writes r old new t
    → OnOk r (Adds old new (t ∷ []))
wrote r old new t w = on_ok_weaker r (λ is. record { before = w.room.0; tokens = is }) w.ok

-- tokens after tokens
pub adds_more : (a b c : Written) (xs ys : List Token) → Adds a b xs → Adds b c ys → Adds a c (xs ++ ys)
adds_more a b c xs ys x y = grind (arith, append_assoc)

pub none_added : (a : Written) → Adds a a []
none_added a = record { before = refl; tokens = sym (append-nil a.tokens) }

-- ---- the calls of a plan

pub no_calls : (a : Written) (calls : List Receipt)
    → (told : List Token) × TellsCalls (take 0 calls) told × Adds a a told
no_calls a calls = ([], refl, none_added a)

call_last : (calls : List Receipt) (r : Receipt) (told : List Token) (words : List ℕ)
    → TellsCalls calls told → TellsCalls (calls ++ r ∷ []) (told ++ call_object r words)
call_last [] r told words tells = (
  words,
  [],
  ap (λ (l : List Token). l ++ call_object r words) tells ∙ sym (append-nil (call_object r words)),
  refl,
)
call_last (x ∷ calls) r told words tells = (
  tells.0,
  tells.1 ++ call_object r words,
  ap (λ (l : List Token). l ++ call_object r words) tells.2
      ∙ append_assoc (call_object x tells.0) tells.1 (call_object r words),
  call_last calls r tells.1 words tells.3,
)

pub more_calls : (calls : List Receipt) (i : ℕ) (r : Receipt) (a b c : Written) → i < length calls
    → (told : List Token) × TellsCalls (take i calls) told × Adds a b told → r ≡ get_or calls i r
    → (words : List ℕ) × Adds b c (call_object r words)
    → (told : List Token) × TellsCalls (take (i + 1) calls) told × Adds a c told
more_calls calls i r a b c lt so_far is_at one = (
  so_far.0 ++ call_object r one.0,
  rw (take_more calls i r lt, ← is_at) (call_last (take i calls) r so_far.0 one.0 so_far.1),
  adds_more a b c so_far.0 (call_object r one.0) so_far.2 one.1,
)
