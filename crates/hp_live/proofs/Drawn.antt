-- Rows in the replies of a talk in rows.
use Rattle.std.proofs.Common.{arith, ◌≡◌, ℕ, ◌+◌, Bool, List, [], ◌∷◌, ◌++◌, Option, Some, None, length, refl, sym, ap, ◌∙◌, append-nil, append_assoc, inl, inr}
use Rattle.std.proofs.lemmas.List.{length-append}
use Rattle.std.specs.Prelude.{flat_map, map}
use Rattle.std.specs.List.{AllByRecursion}
use Rattle.hp_scripts.specs.Named.{NamedValue}
use Rattle.hp_scripts.specs.Plain.{plain_in}
use Rattle.hp_scripts.specs.declared.plain.PlainLine.{PlainLine}
use Rattle.hp_scenario.specs.Names.{Numbered, line_in}
use Rattle.hp_scenario.specs.declared.lines.Line.{Line}
use Rattle.hp_streams.specs.Talks.{AreReplies}
use Rattle.hp_trace.specs.Lives.{AreRead, LiveValue, LivesThrough, ShowTheTrace, without_text}
use Rattle.hp_live.specs.Results.{Typed, typed_in, typed_of}
use Rattle.hp_live.specs.RowTalks.{DrawsTrace, HasRows, RepliesWhole, RowsBegun, RowsRead, RowsSession, RowsText, RowsWord, Stays, cleared}
use Rattle.hp_live.specs.declared.live_words.LiveWord.{LiveWord}

-- the replies after these names and lines have the rows of the lines that came
record Draws (names : List (List ℕ)) (lines : List Line) (trace : LiveValue) (text : List ℕ)
    (new : RowsSession) : Type 0 where
  told : List (List ℕ × List ℕ)
  replies : text ≡ flat_map (λ (p : List ℕ × List ℕ). p.0) told
  rows : AllByRecursion HasRows told
  came : List Numbered
  read : AreRead names came new.names
  kept : new.lines ≡ lines ++ map (λ (n : Numbered). n.line) came
  last : LiveValue
  lives : LivesThrough (length lines + 1) came (flat_map (λ (p : List ℕ × List ℕ). p.1) told) trace last

-- whether the text was emptied before makes no difference
through_cleared : (number : ℕ) (came : List Numbered) (shown : List ℕ) (trace last : LiveValue)
    → LivesThrough number came shown (without_text trace) last
    → (end : LiveValue) × LivesThrough number came shown trace end
through_cleared number [] shown trace last lives = (trace, (lives.0, refl))
through_cleared number (n ∷ came) shown trace last lives = (last, lives)

-- ---- a reply

-- one that ran no line
quiet : (s next new : RowsSession) (reply rest : List ℕ) → Stays (cleared s) next
    → Draws next.names next.lines next.trace rest new → Draws s.names s.lines s.trace (reply ++ rest) new
quiet s next new reply rest stays later =
    let same = rw (stays.trace, stays.lines, stays.names) at later in
    let lives =
    through_cleared (length s.lines + 1) same.came
    (flat_map (λ (p : List ℕ × List ℕ). p.1) same.told) s.trace same.last same.lives in record {
      told = (reply, []) ∷ same.told;
      replies = ap (λ (l : List ℕ). reply ++ l) same.replies;
      rows = (inr refl, same.rows);
      came = same.came;
      read = same.read;
      kept = same.kept;
      last = lives.0;
      lives = lives.1;
    }

-- one that ran a line
ran : (t : Typed) (s next new : RowsSession) (line reply rest : List ℕ)
    → line_in s.names line ≡ Some t.numbered
    → RowsRead (Some t) (cleared s) reply next → Draws next.names next.lines next.trace rest new
    → Draws s.names s.lines s.trace (reply ++ rest) new
ran t s next new line reply rest is read later =
    let n = t.numbered in
    let keeps = read.keeps in
    let more = rw (keeps.lines, keeps.names) at later in
    let shown = flat_map (λ (p : List ℕ × List ℕ). p.1) more.told in
    let count : length (s.lines ++ n.line ∷ []) ≡ length s.lines + 1 = length-append s.lines (n.line ∷ []) in
    record {
      told = (reply, reply) ∷ more.told;
      replies = ap (λ (l : List ℕ). reply ++ l) more.replies;
      rows = (inl refl, more.rows);
      came = n ∷ more.came;
      read = (line, is, more.read);
      kept =
          more.kept ∙ append_assoc s.lines (n.line ∷ []) (map (λ (x : Numbered). x.line) more.came);
      last = more.last;
      lives = (
        next.trace,
        shown,
        rw (keeps.lines, count) at read.lives,
        ap (λ (l : List ℕ). l ++ shown) read.is,
        rw count at more.lives,
      );
    }

one_read : (n : Option Numbered) (plain : PlainLine) (s next new : RowsSession) (reply rest : List ℕ)
    → line_in s.names plain.text ≡ n → RowsRead (typed_of plain n) (cleared s) reply next
    → Draws next.names next.lines next.trace rest new → Draws s.names s.lines s.trace (reply ++ rest) new
one_read None plain s next new reply rest is read later = quiet s next new reply rest read later
one_read (Some n) plain s next new reply rest is read later =
    ran (record { numbered = n; naming = plain.naming }) s next new plain.text reply rest is read later

one_line : (s next new : RowsSession) (line reply rest : List ℕ)
    → RowsRead (typed_in s.names s.bound line) (cleared s) reply next
    → Draws next.names next.lines next.trace rest new → Draws s.names s.lines s.trace (reply ++ rest) new
one_line s next new line reply rest read later =
    let plain = plain_in s.bound line in
    one_read (line_in s.names plain.text) plain s next new reply rest refl read later

one_word : (w : LiveWord) (s next new : RowsSession) (line reply rest : List ℕ)
    → RowsWord w (cleared s) line reply next → Draws next.names next.lines next.trace rest new
    → Draws s.names s.lines s.trace (reply ++ rest) new
one_word w s next new line reply rest said later = grind (arith, quiet, one_line)

one_text : (s next new : RowsSession) (line reply rest : List ℕ) → RowsText (cleared s) line reply next
    → Draws next.names next.lines next.trace rest new → Draws s.names s.lines s.trace (reply ++ rest) new
one_text s next new line reply rest x later = grind (arith, quiet, one_word)

-- ---- all replies

all_drawn : (lines : List (List ℕ)) (s new : RowsSession) (text : List ℕ)
    → AreReplies RepliesWhole s lines text new → Draws s.names s.lines s.trace text new
all_drawn [] s new text replied = record {
  told = [];
  replies = replied.0;
  rows = tt;
  came = [];
  read = ap (λ (x : RowsSession). x.names) replied.1;
  kept = ap (λ (x : RowsSession). x.lines) replied.1 ∙ sym (append-nil s.lines);
  last = s.trace;
  lives = (refl, refl);
}
all_drawn (line ∷ lines) s new text replied =
    rw replied.4 (one_text s replied.1 new line replied.0 replied.2 replied.3 (all_drawn lines replied.1 new
    replied.2 replied.5))

pub talks_draw : ShowTheTrace → (scenario : NamedValue) (width : ℕ) (orders : Bool) (first s : RowsSession)
    (lines : List (List ℕ)) (text : List ℕ) → (begun : RowsBegun scenario width orders first)
    → AreReplies RepliesWhole first lines text s
    → DrawsTrace begun.plain.scenario width orders first.trace.rows.text text s
talks_draw law scenario width orders first s lines text begun replied = grind (arith, all_drawn)
