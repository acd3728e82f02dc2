-- Lines, one after another.
use Rattle.std.proofs.Common.{◌≡◌, ℕ, List, [], ◌∷◌, ◌++◌, length, take, Option, Some, None, slice_get, refl, ap, subst, ◌∙◌, arith, add-one, inl, inr}
use Rattle.std.specs.Prelude.{IfSome}
use Rattle.std.proofs.lemmas.List.{append_assoc, append-nil, length-append}
use Rattle.std.proofs.lemmas.Option.{slice_get_within}
use Rattle.hp_units.specs.LayoutParts.{LayoutParts}
use Rattle.hp_units.specs.declared.replies.CallFault.{CallFault}
use Rattle.hp_units.specs.declared.replies.CallFault.TheVariants.{HistoryFull, OutOfMemory}
use Rattle.hp_units.specs.declared.replies.Receipt.{Receipt}
use Rattle.hp_ops.specs.Ports.{AreMade}
use Rattle.hp_laws.proofs.Lists.{take_next}
use Rattle.hp_scenario.specs.Asked.{Meaning, asked_by}
use Rattle.hp_scenario.specs.declared.lines.Line.{Line}
use Rattle.hp_history.specs.declared.volumes.Volume.{Volume}
use Rattle.hp_shared.specs.Shared.{MayBeFull, SeatValue, left_by}
use Rattle.hp_shared.specs.SeatPorts.{AreTurns}
use Rattle.hp_shared.specs.declared.lines.LineEnd.{LineEnd}
use Rattle.hp_shared.specs.declared.lines.LineEnd.TheVariants.{Fault as Faulted, Sealed}
use Rattle.hp_shared.specs.Lines.{AreLines, IsAskedRun, IsCallsRun, IsLine, IsLineRun, IsSealRun, IsWorked, left_with}

-- the last call's fault has its cause
abbrev pub FaultCaused : LayoutParts → SeatValue → CallFault → Type 0
FaultCaused l seat fault = fault ≡ HistoryFull → MayBeFull l seat

-- what a port's calls made of its seat
pub seat_made : {S N : Type 0} (l : LayoutParts) (makes : S → List Receipt → S → Type 0)
    (leaves : S → CallFault → S → Type 0) (old new : S) (gained : List Receipt) (fault : Option CallFault)
    → AreMade makes leaves old gained fault new
    → (name : S → N) (seat : S → SeatValue)
    → ((p q : S) (gained : List Receipt) → makes p gained q
    → (name q ≡ name p) × AreTurns l (seat p) gained (seat q))
    → ((p q : S) (fault : CallFault) → leaves p fault q
    → (name q ≡ name p) × (seat q ≡ left_by (seat p) fault) × FaultCaused l (seat p) fault)
    → (name new ≡ name old) × (called : SeatValue) × AreTurns l (seat old) gained called
    × (seat new ≡ left_with called fault) × IfSome fault (FaultCaused l called)
seat_made l makes leaves old new gained None made name seat as_turns as_left =
    let turns = as_turns old new gained made in (turns.0, seat new, turns.1, refl, tt)
seat_made l makes leaves old new gained (Some fault) made name seat as_turns as_left =
    let turns = as_turns old made.0 gained made.1 in
    let left = as_left made.0 new fault made.2 in
    (left.0 ∙ turns.0, seat made.0, turns.1, left.1, left.2)

-- a line was run by the seat that a port had
pub line_run : (l : LayoutParts) (old first called last new : SeatValue) (asked : Meaning)
    (gained : List Receipt) (fault : Option CallFault) (end : LineEnd)
    → first ≡ old → new ≡ last → AreTurns l first gained called → last ≡ left_with called fault
    → IsAskedRun l.cpus asked gained fault end → IfSome fault (FaultCaused l called)
    → IsCallsRun l old asked end new
line_run l old first called last new asked gained fault end first_is new_is turns left ran caused =
    rw (← first_is, new_is) (record {
      gained = gained;
      fault = fault;
      called = called;
      turns = turns;
      left = left;
      line = ran;
      caused = λ named. let here : FaultCaused l called HistoryFull = rw named at caused in here refl;
    })

-- one more line
lines_more : (l : LayoutParts) (lines : List Line) (line : Line) (old mid new : SeatValue)
    (handed out : List Volume) (ends : List LineEnd) (end : LineEnd)
    → AreLines l old lines handed ends mid → IsLine l mid (asked_by line.work) out end new
    → AreLines l old (lines ++ line ∷ []) (handed ++ out) (ends ++ end ∷ []) new
lines_more l [] line old mid new handed out ends end none ran = (
  new,
  out,
  end,
  [],
  [],
  rw (none.0, append-nil out),
  rw none.1,
  (subst (λ (s : SeatValue). IsLine l s (asked_by line.work) out end new) none.2 ran, (refl, refl, refl)),
)
lines_more l (x ∷ lines) line old mid new handed out ends end before ran =
    let later = lines_more l lines line before.0 mid new before.3 out before.4 end before.7.1 ran in (
      before.0,
      before.1,
      before.2,
      before.3 ++ out,
      before.4 ++ end ∷ [],
      rw before.5 (append_assoc before.1 before.3 out),
      rw before.6,
      (before.7.0, later),
    )

-- one more line of a script
pub worked_next : (l : LayoutParts) (old mid new : SeatValue) (lines : List Line) (line : Line)
    (before after : List Volume) (ends more : List LineEnd) (end : LineEnd)
    → slice_get lines (length ends) ≡ Some line → more ≡ ends ++ end ∷ []
    → IsWorked l old lines mid before ends → IsLineRun l mid before (asked_by line.work) end new after
    → IsWorked l old lines new after more
worked_next l old mid new lines line before after ends more end here is worked run =
    rw (run.kept, is) (record {
      ran =
          rw taken (lines_more l (take (length ends) lines) line old mid new before run.handed ends end
          worked.ran run.line);
      within =
          (let inside = slice_get_within lines (length ends) line here in
          omega (arith, length-append ends (end ∷ []), inside));
    })
  where
    taken : take (length (ends ++ end ∷ [])) lines ≡ take (length ends) lines ++ line ∷ []
    taken =
        ap (λ (k : ℕ). take k lines) (omega (arith, length-append ends (end ∷ [])) ∙ add-one (length ends))
        ∙ take_next lines (length ends) line here

-- ---- whose seat it is

turns_cpu : (l : LayoutParts) (gained : List Receipt) (old new : SeatValue) → AreTurns l old gained new
    → new.cpu ≡ old.cpu
turns_cpu l [] old new turns = rw turns
turns_cpu l (r ∷ rs) old new turns = turns_cpu l rs turns.0 new turns.2 ∙ turns.1.cpu

left_cpu : (seat : SeatValue) (fault : Option CallFault) → (left_with seat fault).cpu ≡ seat.cpu
left_cpu seat None = refl
left_cpu seat (Some HistoryFull) = refl
left_cpu seat (Some OutOfMemory) = refl

seal_cpu : (l : LayoutParts) (old new : SeatValue) (handed : List Volume) (end : LineEnd)
    → IsSealRun l old handed end new → new.cpu ≡ old.cpu
seal_cpu l old new handed (Faulted named) ran = rw ran.2
seal_cpu l old new handed (Sealed count) ran = rw ran.4
seal_cpu l old new handed _ ran = absurd ran

line_cpu : (l : LayoutParts) (old new : SeatValue) (asked : Meaning) (handed : List Volume) (end : LineEnd)
    → IsLine l old asked handed end new → new.cpu ≡ old.cpu
line_cpu l old new asked handed end (inl ran) =
    let run = ran.1 in
    rw run.left (left_cpu run.called run.fault ∙ turns_cpu l run.gained old run.called run.turns)
line_cpu l old new asked handed end (inr ran) = seal_cpu l old new handed end ran.1

lines_cpu : (l : LayoutParts) (lines : List Line) (old new : SeatValue) (handed : List Volume)
    (ends : List LineEnd)
    → AreLines l old lines handed ends new → new.cpu ≡ old.cpu
lines_cpu l [] old new handed ends none = rw none.2
lines_cpu l (line ∷ lines) old new handed ends ran =
    lines_cpu l lines ran.0 new ran.3 ran.4 ran.7.1
    ∙ line_cpu l old ran.0 (asked_by line.work) ran.1 ran.2 ran.7.0

-- lines don't change a seat's processor
pub worked_cpu : (l : LayoutParts) (old : SeatValue) (lines : List Line) (new : SeatValue)
    (handed : List Volume) (ends : List LineEnd)
    → IsWorked l old lines new handed ends → new.cpu ≡ old.cpu
worked_cpu l old lines new handed ends worked =
    lines_cpu l (take (length ends) lines) old new handed ends worked.ran
