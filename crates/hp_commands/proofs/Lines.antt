-- Lines that are run one after another, and when their text is the one that is due.
use Rattle.std.proofs.Common.{◌≡◌, ℕ, ◌+◌, ◌<◌, List, [], ◌∷◌, ◌++◌, length, get_or, take, refl, sym, append_assoc, append-nil}
use Rattle.std.proofs.lemmas.List.{take_more}
use Rattle.hp_units.specs.LayoutParts.{LayoutParts}
use Rattle.hp_units.specs.History.{value_of, net_of, run}
use Rattle.hp_machine.specs.Machine.{MachineValue, booted}
use Rattle.hp_plain.specs.Image.{Pictured}
use Rattle.hp_scenario.specs.declared.lines.Line.{Line}
use Rattle.hp_scenario.specs.Asked as asks
use Rattle.hp_commands.specs.Serial.{GrowsBy, IsWhole, LeavesImage, WritesAsked, WritesLine, WritesLines, asked_text, lines_text, line_text, machine_after, machine_after_asked, machine_after_lines}
use Rattle.hp_commands.proofs.EventsDue.{IsUpToDate, event_due, event_is}
use Rattle.hp_commands.proofs.FilesDue.{cat_due}
use Rattle.hp_commands.proofs.PlansDue.{plan_due, plan_is}
use Rattle.hp_commands.proofs.SealsDue.{seal_is}
use Rattle.hp_commands.proofs.Whole.{whole_back}

-- no line yet
pub lines_none : (m : MachineValue) (xs : List Line) (old : List ℕ)
    → GrowsBy old old (λ (text : List ℕ). WritesLines m (take 0 xs) text m)
unfolding WritesLines
lines_none m xs old = record { text = []; grown = sym (append-nil old); is = (refl, refl) }

-- one more line at the end
pub one_more : (xs : List Line) (line : Line) (m mid new : MachineValue) (text written : List ℕ)
    → WritesLines m xs text mid → WritesLine mid line written new
    → WritesLines m (xs ++ line ∷ []) (text ++ written) new
unfolding WritesLines
one_more [] line m mid new text written ran w = (
  written,
  new,
  [],
  rw ran.1 at w,
  rw (ran.0, append-nil written),
  (refl, refl),
)
one_more (x ∷ xs) line m mid new text written ran w = (
  ran.0,
  ran.1,
  ran.2 ++ written,
  ran.3,
  rw ran.4 (append_assoc ran.0 ran.2 written),
  one_more xs line ran.1 mid new ran.2 written ran.5 w,
)

-- one more line of a loop over lines
pub lines_more : (xs : List Line) (i : ℕ) (line : Line) (old now new : List ℕ) (m mid next : MachineValue)
    → i < length xs → GrowsBy old now (λ (text : List ℕ). WritesLines m (take i xs) text mid)
    → line ≡ get_or xs i line → GrowsBy now new (λ (text : List ℕ). WritesLine mid line text next)
    → GrowsBy old new (λ (text : List ℕ). WritesLines m (take (i + 1) xs) text next)
lines_more xs i line old now new m mid next lt so_far is_at one = record {
  text = so_far.text ++ one.text;
  grown = rw (one.grown, so_far.grown) (append_assoc old so_far.text one.text);
  is =
      rw (take_more xs i line lt, ← is_at)
      (one_more (take i xs) line m mid next so_far.text one.text so_far.is one.is);
}

-- the image of a machine that lines led to
pub image_left : (old new : List ℕ) (start m mid : MachineValue) (lines taken : List Line) (image : Pictured)
    → m ≡ start → taken ≡ lines → GrowsBy old new (λ (text : List ℕ). WritesLines m taken text mid)
    → image ≡ record { layout = mid.layout; memory = mid.state }
    → GrowsBy old new (λ (text : List ℕ). LeavesImage start lines text image)
image_left old new start m mid lines taken image begun same ran is = record {
  text = ran.text;
  grown = ran.grown;
  is = (mid, rw (begun, same) at ran.is, is);
}

-- ---- the state is that of the history

-- the start
booted_is : (l : LayoutParts) → IsUpToDate (booted l)
unfolding value_of net_of run
booted_is l = refl

-- one more line, or list of lines
asked_is : (m : MachineValue) (cpu : ℕ) (w : asks.Meaning) (text : List ℕ) (new : MachineValue)
    → IsUpToDate m
    → WritesAsked m cpu w text new → IsUpToDate new
asked_is m cpu (asks.event event) text new h ran = event_is m cpu event text new h ran
asked_is m cpu (asks.plan items turns) text new h ran = plan_is m cpu turns items text new h ran
asked_is m cpu (asks.not_taken fault) text new h ran = rw ran.1 h
asked_is m cpu (asks.cat path) text new h ran = rw ran.1 h
asked_is m cpu asks.seal text new h ran = seal_is m text new ran

lines_are : (xs : List Line) (m new : MachineValue) (text : List ℕ) → IsUpToDate m → WritesLines m xs text new
    → IsUpToDate new
unfolding WritesLines
lines_are [] m new text h ran = rw ran.1 h
lines_are (x ∷ xs) m new text h ran =
    lines_are xs ran.1 new ran.2 (asked_is m x.cpu (asks.asked_by x.work) ran.0 ran.1 h ran.3) ran.5

-- a run from the start keeps the state that of the history
pub run_is : (l : LayoutParts) (xs : List Line) (text : List ℕ) (new : MachineValue)
    → WritesLines (booted l) xs text new → IsUpToDate new
run_is l xs text new ran = lines_are xs (booted l) new text (booted_is l) ran

-- ---- a text with no line that wanted memory

-- the text is the one that is due, and so is the machine after it
abbrev pub AreDue : MachineValue → List Line → List ℕ → MachineValue → Type 0
AreDue m xs text new = (text ≡ lines_text m xs) × (new ≡ machine_after_lines m xs)

-- one more line in front
due_more : (x : Line) (xs : List Line) (m next new : MachineValue) (text written rest : List ℕ)
    → text ≡ written ++ rest → written ≡ line_text m x → next ≡ machine_after m x → AreDue next xs rest new
    → AreDue m (x ∷ xs) text new
unfolding lines_text machine_after_lines
due_more x xs m next new text written rest e w n due = (rw (e, w, due.0, n), rw (due.1, n))

-- in a whole text a line wrote what is due
asked_due : (m : MachineValue) (cpu : ℕ) (w : asks.Meaning) (text : List ℕ) (new : MachineValue)
    (rest : List ℕ)
    → WritesAsked m cpu w text new → IsWhole (text ++ rest)
    → (text ≡ asked_text m cpu w) × (new ≡ machine_after_asked m cpu w)
asked_due m cpu (asks.event event) text new rest ran whole = event_due m cpu event text new rest ran whole
asked_due m cpu (asks.plan items turns) text new rest ran whole =
    plan_due m cpu turns items text new rest ran whole
asked_due m cpu (asks.not_taken fault) text new rest ran whole = ran
asked_due m cpu (asks.cat path) text new rest ran whole = (cat_due m path text rest ran.0 whole, ran.1)
asked_due m cpu asks.seal text new rest ran whole = ran

-- a line in front that wrote what is due, since the text is whole
line_due : (x : Line) (xs : List Line) (m next new : MachineValue) (text written rest end : List ℕ)
    → WritesLine m x written next → text ≡ written ++ rest → (IsWhole (rest ++ end) → AreDue next xs rest new)
    → IsWhole (written ++ (rest ++ end)) → AreDue m (x ∷ xs) text new
line_due x xs m next new text written rest end ran e due whole =
    let one = asked_due m x.cpu (asks.asked_by x.work) written next (rest ++ end) ran whole in
    due_more x xs m next new text written rest e one.0 one.1 (due (whole_back written (rest ++ end) whole))

-- the text of a run in which no line wanted memory is the one that is due
pub lines_due : (xs : List Line) (m new : MachineValue) (text end : List ℕ) → WritesLines m xs text new
    → IsWhole (text ++ end) → AreDue m xs text new
unfolding WritesLines lines_text machine_after_lines
lines_due [] m new text end ran whole = ran
lines_due (x ∷ xs) m new text end ran whole =
    line_due x xs m ran.1 new text ran.0 ran.2 end ran.3 ran.4
    (lines_due xs ran.1 new ran.2 end ran.5)
    (rw (ran.4, append_assoc ran.0 ran.2 end) at whole)
