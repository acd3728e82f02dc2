-- What is heard, one part after another, and how a talk ends after it.
use Rattle.std.proofs.Common.{arith, ◌≡◌, ◌≢◌, ℕ, List, [], ◌∷◌, ◌++◌, Option, refl, sym, ap, subst, ◌∙◌, append-nil, append_assoc}
use Rattle.std.proofs.lemmas.List.Elements.{All-append, All-nil}
use Rattle.std.specs.Io.KnownBytes.{Appends, Consumes, IsAtEnd, Keeps}
use Rattle.hp_streams.specs.Cuts.{IsCut}
use Rattle.hp_streams.specs.Ends.{Ends, GoesOn, IsEndOf, IsSaid, with_last}
use Rattle.hp_streams.specs.Talks.{Answers, Breaks, Desk, Fails, Hears, HearsLine, HearsTo, HeldValue, Holds, IsTurn, IsWhole, desk, ended, newline, nothing_held, quit}
use Rattle.hp_streams.specs.declared.hearing.Pause.{Pause}
use Rattle.hp_streams.specs.declared.hearing.Pause.TheVariants.{Broken, More, Quit}
use Rattle.hp_streams.specs.declared.talking.TalkEnd.{TalkEnd}
use Rattle.hp_streams.specs.declared.talking.TalkEnd.TheVariants as ends
use Rattle.hp_streams.proofs.Ended.{cut_at, ended_after, longer, one_more, with_last_after}
use Rattle.hp_streams.proofs.Joined.{answers_broken, answers_joined, answers_none, answers_sent, consumes_joined, consumes_kept, consumes_none, fails_joined, missed_once, said_once}

holds_nothing : (h : HeldValue) → h ≡ nothing_held → Holds h []
holds_nothing h e = subst (λ (k : HeldValue). Holds k []) (sym e) refl

turn : (last front : List ℕ) → IsWhole last → IsWhole front → last ++ front ≢ quit → IsTurn (last ++ front)
turn last front a b other =
    record { whole = All-append (λ (b : ℕ). b ≢ newline) last front a b; other = other }

-- a line `quit`, and what is beyond it
quit_in : (lines : List (List ℕ)) (bytes beyond : List ℕ)
    → bytes ≡ ended lines ++ (quit ++ newline ∷ beyond)
    → bytes ++ newline ∷ [] ≡ ended lines ++ (quit ++ newline ∷ (beyond ++ newline ∷ []))
quit_in lines bytes beyond is = grind (arith, longer, append_assoc)

-- a line without its newline
last_of : (line : List ℕ) → (line ++ []) ++ newline ∷ [] ≡ ended (line ∷ []) ++ []
last_of line = cc (append-nil line, append-nil (line ++ newline ∷ []))

as_last : (line : List ℕ) → line ≢ [] → line ∷ [] ≡ with_last [] line
as_last line other = grind arith

end_after : (how : TalkEnd) (front : List (List ℕ)) (bytes : List ℕ) (lines : List (List ℕ))
    (left : Option (List ℕ)) → IsEndOf how bytes lines left
    → IsEndOf how (ended front ++ bytes) (front ++ lines) left
end_after how front bytes lines left e = grind (arith, ended_after, with_last_after, append_assoc)

module _ {S : Type 0} (P : S → List ℕ → List ℕ → S → Type 0) where
  -- ---- a block

  -- nothing of it yet
  pub heard_none : (d : Desk S) (line block : List ℕ) (h : HeldValue) → IsWhole line → Holds h line
      → HearsTo P d (line ++ block) block d h
  heard_none d line block h whole holds = record {
    lines = [];
    last = line;
    is = refl;
    whole = whole;
    holds = holds;
    answers = answers_none P d;
  }

  -- one line more
  pub heard_line : (d e f : Desk S) (bytes rest front after : List ℕ) (h k : HeldValue)
      → HearsTo P d bytes rest e h → IsCut rest front after
      → ((line : List ℕ) → Holds h line → HearsLine P More e (line ++ front) f k)
      → HearsTo P d bytes after f k
  heard_line d e f bytes rest front after h k t cut heard =
      let line = t.last ++ front in
      let x = heard t.last t.holds in record {
        lines = t.lines ++ line ∷ [];
        last = [];
        is =
            t.is ∙ cut_at t.lines t.last front after rest cut.is ∙ one_more t.lines line after;
        whole = All-nil (λ (b : ℕ). b ≢ newline);
        holds = holds_nothing k x.2;
        answers =
            answers_joined P d e f t.lines (line ∷ []) t.answers
            (said_once P e f line (turn t.last front t.whole cut.whole x.0) x.1);
      }

  -- the last line of it
  pub heard_last : (pause : Pause) (d e f : Desk S) (bytes rest front after : List ℕ) (h k : HeldValue)
      → pause ≢ More → HearsTo P d bytes rest e h → IsCut rest front after
      → ((line : List ℕ) → Holds h line → HearsLine P pause e (line ++ front) f k) → Hears P pause d bytes f k
  heard_last More d e f bytes rest front after h k other t cut heard = absurd (other refl)
  heard_last Quit d e f bytes rest front after h k other t cut heard =
      let x = heard t.last t.holds in (
        t.lines,
        after,
        t.is ∙ cut_at t.lines t.last front after rest cut.is
            ∙ ap (λ (l : List ℕ). ended t.lines ++ (l ++ newline ∷ after)) x.0,
        rw x.1 t.answers,
      )
  heard_last Broken d e f bytes rest front after h k other t cut heard =
      let line = t.last ++ front in
      let x = heard t.last t.holds in (
        t.lines ++ line ∷ [],
        after,
        t.is ∙ cut_at t.lines t.last front after rest cut.is ∙ one_more t.lines line after,
        fails_joined P d e f t.lines (line ∷ []) t.answers
            (missed_once P e f line (turn t.last front t.whole cut.whole x.0) x.1),
      )

  -- ---- what waits is sent

  pub more_broken : (d e : Desk S) (line block : List ℕ) (h : HeldValue) (sent input left : Option (List ℕ))
      → Consumes input left block → Hears P More d (line ++ block) e h → Breaks e.sent e.waiting [] sent
      → Ends P ends.WriteFailed d line input left (desk e.talk sent [])
  more_broken d e line block h sent input left read x now = record {
    bytes = block;
    read = read;
    lines = x.0;
    end = (x.1 ++ newline ∷ [], longer x.0 (line ++ block) x.1 (newline ∷ []) x.2);
    said = answers_broken P d e sent x.0 x.5 now;
  }

  pub quit_sent : (d e : Desk S) (line block : List ℕ) (h : HeldValue) (sent input left : Option (List ℕ))
      → Consumes input left block → Hears P Quit d (line ++ block) e h → Appends e.sent sent e.waiting
      → Ends P ends.Quit d line input left (desk e.talk sent [])
  quit_sent d e line block h sent input left read x now = record {
    bytes = block;
    read = read;
    lines = x.0;
    end = (x.1 ++ newline ∷ [], quit_in x.0 (line ++ block) x.1 x.2);
    said = (answers_sent P d e sent x.0 x.3 now, refl);
  }

  pub quit_broken : (d e : Desk S) (line block : List ℕ) (h : HeldValue) (sent input left : Option (List ℕ))
      → Consumes input left block → Hears P Quit d (line ++ block) e h → Breaks e.sent e.waiting [] sent
      → Ends P ends.WriteFailed d line input left (desk e.talk sent [])
  quit_broken d e line block h sent input left read x now = record {
    bytes = block;
    read = read;
    lines = x.0;
    end = (quit ++ newline ∷ (x.1 ++ newline ∷ []), quit_in x.0 (line ++ block) x.1 x.2);
    said = answers_broken P d e sent x.0 x.3 now;
  }

  -- what waits no longer counts once a write failed
  fails_desk : (d e : Desk S) (xs : List (List ℕ)) → Fails P d xs e → Fails P d xs (desk e.talk e.sent [])
  fails_desk d e xs f = record { turns = f.turns; text = f.text; replied = f.replied; breaks = f.breaks }

  pub block_broken : (d e : Desk S) (line block : List ℕ) (h : HeldValue) (input left : Option (List ℕ))
      → Consumes input left block → Hears P Broken d (line ++ block) e h
      → Ends P ends.WriteFailed d line input left (desk e.talk e.sent [])
  block_broken d e line block h input left read x = record {
    bytes = block;
    read = read;
    lines = x.0;
    end = (x.1 ++ newline ∷ [], longer x.0 (line ++ block) x.1 (newline ∷ []) x.2);
    said = fails_desk d e x.0 x.3;
  }

  -- ---- the end of the input

  -- it ends with a newline, or is empty
  pub ended_whole : (d : Desk S) (line : List ℕ) (input left : Option (List ℕ)) → Consumes input left []
      → IsAtEnd left → line ≡ [] → d.waiting ≡ [] → Ends P ends.Input d line input left d
  ended_whole d line input left read end none waits = grind (arith, append-nil, All-nil, answers_none)

  -- nothing is said to a line `quit`
  quit_said : (d e : Desk S) → e ≡ d → d.waiting ≡ [] → Answers P d [] (desk e.talk e.sent [])
  quit_said d e same none =
      rw same (subst (λ (w : List ℕ). Answers P d [] (desk d.talk d.sent w)) none (answers_none P d))

  line_said : (d e : Desk S) (line : List ℕ) (h : HeldValue) → IsWhole line
      → HearsLine P More d (line ++ []) e h → Answers P d (line ∷ []) e
  line_said d e line h whole x = grind (arith, append-nil, said_once)

  pub last_replied : (d e : Desk S) (line : List ℕ) (h : HeldValue) (input left sent : Option (List ℕ))
      → Consumes input left [] → IsAtEnd left → IsWhole line → line ≢ [] → HearsLine P More d (line ++ []) e h
      → Appends e.sent sent e.waiting → Ends P ends.Input d line input left (desk e.talk sent [])
  last_replied d e line h input left sent read end whole some x now = record {
    bytes = [];
    read = read;
    lines = line ∷ [];
    end = (end, [], line, append-nil line, whole, as_last line some);
    said = (answers_sent P d e sent (line ∷ []) (line_said d e line h whole x) now, refl);
  }

  -- the reply was not sent, or not all of it
  pub last_unsent : (d e : Desk S) (line : List ℕ) (h : HeldValue) (input left sent : Option (List ℕ))
      → Consumes input left [] → IsWhole line → HearsLine P More d (line ++ []) e h
      → Breaks e.sent e.waiting [] sent → Ends P ends.WriteFailed d line input left (desk e.talk sent [])
  last_unsent d e line h input left sent read whole x now = record {
    bytes = [];
    read = read;
    lines = line ∷ [];
    end = ([], last_of line);
    said = answers_broken P d e sent (line ∷ []) (line_said d e line h whole x) now;
  }

  pub last_quit : (d e : Desk S) (line : List ℕ) (h : HeldValue) (input left : Option (List ℕ))
      → Consumes input left [] → d.waiting ≡ [] → HearsLine P Quit d (line ++ []) e h
      → Ends P ends.Quit d line input left (desk e.talk e.sent [])
  last_quit d e line h input left read none x = record {
    bytes = [];
    read = read;
    lines = [];
    end = ([], ap (λ (l : List ℕ). l ++ newline ∷ []) x.0);
    said = (quit_said d e x.1 none, refl);
  }

  pub last_broken : (d e : Desk S) (line : List ℕ) (h : HeldValue) (input left : Option (List ℕ))
      → Consumes input left [] → IsWhole line → HearsLine P Broken d (line ++ []) e h
      → Ends P ends.WriteFailed d line input left (desk e.talk e.sent [])
  last_broken d e line h input left read whole x =
      let y = subst (λ (l : List ℕ). HearsLine P Broken d l e h) (append-nil line) x in
      let fails = missed_once P d e line (record { whole = whole; other = y.0 }) y.1 in record {
        bytes = [];
        read = read;
        lines = line ∷ [];
        end = ([], last_of line);
        said = fails_desk d e (line ∷ []) fails;
      }

  -- a read failed
  pub unread : (d : Desk S) (line : List ℕ) (input left : Option (List ℕ)) → Keeps input left → IsWhole line
      → d.waiting ≡ [] → Ends P ends.ReadFailed d line input left d
  unread d line input left kept whole waits = grind (arith, consumes_kept, append-nil, answers_none)

  -- ---- a whole talk

  pub begun : (d : Desk S) (input : Option (List ℕ)) (h : HeldValue) → h ≡ nothing_held
      → GoesOn P d input input d h
  begun d input h none = grind (arith, consumes_none, All-nil, holds_nothing, answers_none)

  pub gone_on : (d e f : Desk S) (input mid left : Option (List ℕ)) (h k : HeldValue)
      → GoesOn P d input mid e h
      → ((line : List ℕ) → IsWhole line → Holds h line
      → (bytes : List ℕ) × Consumes mid left bytes × Hears P More e (line ++ bytes) f k)
      → GoesOn P d input left f k
  gone_on d e f input mid left h k t more =
      let a = t.heard in
      let x = more a.1 a.3 a.4 in
      let b = x.2 in record {
        bytes = t.bytes ++ x.0;
        read = consumes_joined input mid left t.bytes x.0 t.read x.1;
        heard = (
          a.0 ++ b.0,
          b.1,
          ap (λ (l : List ℕ). l ++ x.0) a.2 ∙ append_assoc (ended a.0) a.1 x.0
              ∙ ended_after a.0 b.0 (a.1 ++ x.0) b.1 b.2,
          b.3,
          b.4,
          answers_joined P d e f a.0 b.0 a.5 b.5,
        );
      }

  said_after : (how : TalkEnd) (d e f : Desk S) (xs ys : List (List ℕ)) → Answers P d xs e
      → IsSaid P how e ys f → IsSaid P how d (xs ++ ys) f
  said_after ends.WriteFailed d e f xs ys a b = fails_joined P d e f xs ys a b
  said_after how d e f xs ys a b = (answers_joined P d e f xs ys a b.0, b.1)

  pub at_end : (how : TalkEnd) (d e f : Desk S) (input mid left : Option (List ℕ)) (h : HeldValue)
      → GoesOn P d input mid e h
      → ((line : List ℕ) → IsWhole line → Holds h line → Ends P how e line mid left f)
      → Ends P how d [] input left f
  at_end how d e f input mid left h t last =
      let a = t.heard in
      let x = last a.1 a.3 a.4 in record {
        bytes = t.bytes ++ x.bytes;
        read = consumes_joined input mid left t.bytes x.bytes t.read x.read;
        lines = a.0 ++ x.lines;
        end = rw (a.2, append_assoc (ended a.0) a.1 x.bytes)
            (end_after how a.0 (a.1 ++ x.bytes) x.lines left x.end);
        said = said_after how d e f a.0 x.lines a.5 x.said;
      }
