-- What is sent and said, one part after another.
use Rattle.std.proofs.Common.{arith, ◌≡◌, ℕ, List, [], ◌∷◌, ◌++◌, take, drop, Option, sym, ap, subst, ◌∙◌, append-nil, append_assoc}
use Rattle.std.proofs.lemmas.List.Elements.{All-append, All-nil, All-push}
use Rattle.std.specs.Io.KnownBytes.{Appends, Consumes, Keeps}
use Rattle.hp_streams.specs.Talks.{Answers, AreReplies, Breaks, Desk, Fails, IsTurn, Misses, Says, Sends, desk}

-- ---- known bytes

pub appends_joined : (a b c : Option (List ℕ)) (m n : List ℕ) → Appends a b m → Appends b c n
    → Appends a c (m ++ n)
appends_joined a b c m n p q = grind (arith, append_assoc)

pub consumes_none : (a : Option (List ℕ)) → Consumes a a []
consumes_none a = grind arith

pub consumes_kept : (a b : Option (List ℕ)) → Keeps a b → Consumes a b []
consumes_kept a b q = grind arith

pub consumes_joined : (a b c : Option (List ℕ)) (m n : List ℕ) → Consumes a b m → Consumes b c n
    → Consumes a c (m ++ n)
consumes_joined a b c m n p q = grind (arith, append_assoc)

-- ---- what is sent

sends_joined : (a b c : Option (List ℕ)) (w x u y v : List ℕ) → Sends a w x b u → Sends b u y c v
    → Sends a w (x ++ y) c v
sends_joined a b c w x u y v s t = grind (arith, appends_joined, append_assoc)

breaks_joined : (a b c : Option (List ℕ)) (w x u y : List ℕ) → Sends a w x b u → Breaks b u y c
    → Breaks a w (x ++ y) c
breaks_joined a b c w x u y s t = grind (arith, appends_joined, append_assoc)

-- a beginning of what waits was sent
breaks_off : (a b c : Option (List ℕ)) (w x u : List ℕ) → Sends a w x b u → Breaks b u [] c → Breaks a w x c
breaks_off a b c w x u s t = grind (arith, appends_joined, append_assoc, append-nil)

-- a text was sent after what waits
pub sent_with : (a b c : Option (List ℕ)) (w text t waits : List ℕ) → Appends a b w → waits ≡ [] → t ≡ text
    → Appends b c t → Sends a w text c waits
sent_with a b c w text t waits first none same second = grind (arith, appends_joined, append-nil)

pub broken_with : (a b c : Option (List ℕ)) (w text t : List ℕ) → Appends a b w → t ≡ text → Breaks b t [] c
    → Breaks a w text c
broken_with a b c w text t first same second = grind (arith, appends_joined, append_assoc, append-nil)

pub broken_before : (a b : Option (List ℕ)) (w text : List ℕ) → Breaks a w [] b → Breaks a w text b
broken_before a b w text t = record {
  now = t.now;
  beyond = t.beyond ++ text;
  appended = t.appended;
  is =
      sym (append_assoc t.now t.beyond text) ∙ ap (λ (l : List ℕ). l ++ text) (t.is ∙ append-nil w);
}

-- a beginning of bytes was sent, and then no more
pub broken_at : (a b c : Option (List ℕ)) (bytes : List ℕ) (at : ℕ) → Appends a b (take at bytes) → Keeps b c
    → take at bytes ++ drop at bytes ≡ bytes → Breaks a bytes [] c
broken_at a b c bytes at first kept cut = grind (arith, append-nil)

-- ---- replies

replies_joined : {S : Type 0} (P : S → List ℕ → List ℕ → S → Type 0) (s mid new : S) (xs ys : List (List ℕ))
    (x y : List ℕ)
    → AreReplies P s xs x mid → AreReplies P mid ys y new → AreReplies P s (xs ++ ys) (x ++ y) new
replies_joined {S} P s mid new [] ys x y p q = rw p.0 (subst (λ (m : S). AreReplies P m ys y new) p.1 q)
replies_joined {S} P s mid new (l ∷ xs) ys x y p q = (
  p.0,
  p.1,
  p.2 ++ y,
  p.3,
  ap (λ (t : List ℕ). t ++ y) p.4 ∙ append_assoc p.0 p.2 y,
  replies_joined P p.1 mid new xs ys p.2 y p.5 q,
)

pub answers_none : {S : Type 0} (P : S → List ℕ → List ℕ → S → Type 0) (d : Desk S) → Answers P d [] d
answers_none P d = grind (arith, All-nil, append-nil)

pub answers_joined : {S : Type 0} (P : S → List ℕ → List ℕ → S → Type 0) (d e f : Desk S)
    (xs ys : List (List ℕ)) → Answers P d xs e → Answers P e ys f → Answers P d (xs ++ ys) f
answers_joined P d e f xs ys a b = record {
  turns = All-append IsTurn xs ys a.turns b.turns;
  text = a.text ++ b.text;
  replied = replies_joined P d.talk e.talk f.talk xs ys a.text b.text a.replied b.replied;
  sends =
      sends_joined d.sent e.sent f.sent d.waiting a.text e.waiting b.text f.waiting a.sends b.sends;
}

pub fails_joined : {S : Type 0} (P : S → List ℕ → List ℕ → S → Type 0) (d e f : Desk S)
    (xs ys : List (List ℕ)) → Answers P d xs e → Fails P e ys f → Fails P d (xs ++ ys) f
fails_joined P d e f xs ys a b = record {
  turns = All-append IsTurn xs ys a.turns b.turns;
  text = a.text ++ b.text;
  replied = replies_joined P d.talk e.talk f.talk xs ys a.text b.text a.replied b.replied;
  breaks = breaks_joined d.sent e.sent f.sent d.waiting a.text e.waiting b.text a.sends b.breaks;
}

pub said_once : {S : Type 0} (P : S → List ℕ → List ℕ → S → Type 0) (d e : Desk S) (line : List ℕ)
    → IsTurn line → Says P d line e → Answers P d (line ∷ []) e
said_once P d e line turn says = grind (arith, All-push, All-nil, append-nil)

pub missed_once : {S : Type 0} (P : S → List ℕ → List ℕ → S → Type 0) (d e : Desk S) (line : List ℕ)
    → IsTurn line → Misses P d line e → Fails P d (line ∷ []) e
missed_once P d e line turn misses = grind (arith, All-push, All-nil, append-nil)

-- what waits was sent
pub answers_sent : {S : Type 0} (P : S → List ℕ → List ℕ → S → Type 0) (d e : Desk S)
    (sent : Option (List ℕ)) (xs : List (List ℕ)) → Answers P d xs e → Appends e.sent sent e.waiting
    → Answers P d xs (desk e.talk sent [])
answers_sent P d e sent xs a now = grind (arith, appends_joined, append-nil)

pub answers_broken : {S : Type 0} (P : S → List ℕ → List ℕ → S → Type 0) (d e : Desk S)
    (sent : Option (List ℕ)) (xs : List (List ℕ)) → Answers P d xs e → Breaks e.sent e.waiting [] sent
    → Fails P d xs (desk e.talk sent [])
answers_broken P d e sent xs a now = record {
  turns = a.turns;
  text = a.text;
  replied = a.replied;
  breaks = breaks_off d.sent e.sent sent d.waiting a.text e.waiting a.sends now;
}
