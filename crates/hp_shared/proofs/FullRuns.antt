-- Where a line ended at a full history, all records reach the limit.
use Rattle.std.proofs.Common.{◌≡◌, ℕ, zero, suc, ◌<◌, ◌≤◌, List, [], ◌∷◌, length, take, Option, Some, None, slice_get, get_or, ap, sym, subst, ◌∙◌, arith, inl, inr}
use Rattle.std.specs.List.{All, last_or}
use Rattle.std.specs.Option.{option_and_then}
use Rattle.std.proofs.lemmas.List.Elements.{All-get_or}
use Rattle.std.proofs.lemmas.Option.{slice_get-get_or, slice_get_within}
use Rattle.hp_laws.proofs.Lists.{get_some}
use Rattle.hp_units.specs.Driver.{Ends, cause_of, end_after, next_event, operation_of}
use Rattle.hp_units.specs.LayoutParts.{LayoutParts}
use Rattle.hp_units.specs.declared.events.Event.{Event}
use Rattle.hp_units.specs.declared.events.Event.TheVariants.{Begin, Cancel, Commit}
use Rattle.hp_units.specs.declared.replies.CallFault.{CallFault}
use Rattle.hp_units.specs.declared.replies.CallFault.TheVariants.{HistoryFull, OutOfMemory}
use Rattle.hp_units.specs.declared.replies.OpEnd.{OpEnd}
use Rattle.hp_units.specs.declared.replies.OpEnd.TheVariants.{Left}
use Rattle.hp_units.specs.declared.replies.Receipt.{Receipt}
use Rattle.hp_units.specs.declared.replies.Refusal.{Refusal}
use Rattle.hp_units.specs.declared.replies.Refusal.TheVariants.{NoOp}
use Rattle.hp_units.specs.declared.replies.Reply.{Reply}
use Rattle.hp_units.specs.declared.replies.Reply.TheVariants.{Done, Refused, Released, Restored}
use Rattle.hp_history.specs.declared.volumes.Volume.{Volume}
use Rattle.hp_scenario.specs.Asked as asks
use Rattle.hp_scenario.specs.declared.lines.Line.{Line}
use Rattle.hp_shared.specs.Shared.{HasReached, SeatValue}
use Rattle.hp_shared.specs.SeatPorts.{AreTurns}
use Rattle.hp_shared.proofs.Comparisons.{same_item}
use Rattle.hp_shared.specs.declared.fault.RunFault.{RunFault}
use Rattle.hp_shared.specs.declared.lines.LineEnd.{LineEnd}
use Rattle.hp_shared.specs.declared.lines.LineEnd.TheVariants.{Reply as Replied, Fault as Faulted, Plan as Planned, Sealed}
use Rattle.hp_shared.specs.Lines.{AreLines, EndsFull, IsAskedRun, IsCallsRun, IsLine, IsSealRun, left_with}
use Rattle.hp_shared.specs.Workers.{AreWorkers, ReachWhereFull}

-- ---- the last call's fault

-- no answer makes the end of a call that left a fault
never_left : (cause : Option Refusal) (event : Event) (reply : Reply) (op : Option ℕ) (fault : CallFault)
    → end_after cause event reply ≡ Some (Left op fault) → ⊥
never_left cause (Begin plan) (Refused refusal) op fault is = absurd cc
never_left cause event (Refused NoOp) op fault is = absurd cc
never_left cause (Commit of) Done op fault is = absurd cc
never_left cause (Cancel of) Restored op fault is = absurd cc
never_left cause (Cancel of) Released op fault is = absurd cc
never_left cause event reply op fault is = absurd cc

never_ends : (cause : Option Refusal) (last : Option Receipt) (op : Option ℕ) (fault : CallFault)
    → option_and_then (λ r. end_after cause r.event r.reply) last ≡ Some (Left op fault) → ⊥
never_ends cause None op fault is = absurd cc
never_ends cause (Some r) op fault is = never_left cause r.event r.reply op fault is

plan_fault : (next : Option Event) (receipts : List Receipt) (fault : Option CallFault) (end : OpEnd)
    (op : Option ℕ)
    → Ends receipts next fault end → end ≡ Left op HistoryFull → fault ≡ Some HistoryFull
plan_fault (Some event) receipts (Some fault) end op ends is =
    let same : Left (operation_of receipts) fault ≡ Left op HistoryFull = sym ends ∙ is in cc
plan_fault (Some event) receipts None end op ends is = absurd ends
plan_fault None receipts (Some fault) end op ends is = absurd ends
plan_fault None receipts None end op ends is =
    absurd (never_ends (cause_of receipts) (last_or None receipts) op HistoryFull (ends ∙ ap Some is))

asked_fault : (cpus : ℕ) (asked : asks.Meaning) (gained : List Receipt) (fault : Option CallFault)
    (end : LineEnd)
    → IsAskedRun cpus asked gained fault end → EndsFull end → fault ≡ Some HistoryFull
asked_fault cpus (asks.event e) gained fault (Replied reply) ran full = absurd full
asked_fault cpus (asks.event e) gained fault (Faulted named) ran full = ran.1 ∙ ap Some full
asked_fault cpus (asks.event e) gained fault _ ran full = absurd ran
asked_fault cpus (asks.plan items turns) gained fault (Planned end) (inl run) full =
    plan_fault (next_event cpus turns items gained) gained fault end full.0 run.ends full.1
asked_fault cpus (asks.plan items turns) gained fault (Planned end) (inr unasked) full =
    let bad : Left None OutOfMemory ≡ Left full.0 HistoryFull = sym unasked.left ∙ full.1 in absurd cc
asked_fault cpus (asks.plan items turns) gained fault _ ran full = absurd ran
asked_fault cpus (asks.not_taken why) gained fault end ran full = absurd (rw ran.2 at full)
asked_fault cpus _ gained fault end ran full = absurd ran

-- ---- what a seat counts

turns_keep : (l : LayoutParts) (gained : List Receipt) (old new : SeatValue) → AreTurns l old gained new
    → new.fulls ≡ old.fulls
turns_keep l [] old new turns = rw turns
turns_keep l (r ∷ rs) old new turns = turns_keep l rs turns.0 new turns.2 ∙ turns.1.fulls

left_grows : (seat : SeatValue) (fault : Option CallFault) → seat.fulls ≤ (left_with seat fault).fulls
left_grows seat None = omega arith
left_grows seat (Some HistoryFull) = omega arith
left_grows seat (Some OutOfMemory) = omega arith

calls_grow : (l : LayoutParts) (old new : SeatValue) (asked : asks.Meaning) (end : LineEnd)
    → IsCallsRun l old asked end new → old.fulls ≤ new.fulls
calls_grow l old new asked end run =
    rw run.left
    (omega (arith, turns_keep l run.gained old run.called run.turns, left_grows run.called run.fault))

calls_full : (l : LayoutParts) (old new : SeatValue) (asked : asks.Meaning) (end : LineEnd)
    → IsCallsRun l old asked end new → EndsFull end → 0 < new.fulls
calls_full l old new asked end run full =
    rw (run.left, asked_fault l.cpus asked run.gained run.fault end run.line full) (omega arith)

seal_grows : (l : LayoutParts) (old new : SeatValue) (handed : List Volume) (end : LineEnd)
    → IsSealRun l old handed end new → old.fulls ≤ new.fulls
seal_grows l old new handed (Faulted named) ran = rw ran.2 (omega arith)
seal_grows l old new handed (Sealed count) ran = rw ran.4 (omega arith)
seal_grows l old new handed _ ran = absurd ran

seal_full : (l : LayoutParts) (old new : SeatValue) (handed : List Volume) (end : LineEnd)
    → IsSealRun l old handed end new → EndsFull end → ⊥
seal_full l old new handed (Faulted named) ran full =
    let bad : OutOfMemory ≡ HistoryFull = sym ran.1 ∙ full in absurd cc
seal_full l old new handed (Planned end) ran full = absurd ran
seal_full l old new handed _ ran full = absurd full

line_grows : (l : LayoutParts) (old new : SeatValue) (asked : asks.Meaning) (handed : List Volume)
    (end : LineEnd)
    → IsLine l old asked handed end new → old.fulls ≤ new.fulls
line_grows l old new asked handed end (inl ran) = calls_grow l old new asked end ran.1
line_grows l old new asked handed end (inr ran) = seal_grows l old new handed end ran.1

line_full : (l : LayoutParts) (old new : SeatValue) (asked : asks.Meaning) (handed : List Volume)
    (end : LineEnd)
    → IsLine l old asked handed end new → EndsFull end → 0 < new.fulls
line_full l old new asked handed end (inl ran) full = calls_full l old new asked end ran.1 full
line_full l old new asked handed end (inr ran) full = absurd (seal_full l old new handed end ran.1 full)

lines_grow : (l : LayoutParts) (lines : List Line) (old new : SeatValue) (handed : List Volume)
    (ends : List LineEnd)
    → AreLines l old lines handed ends new → old.fulls ≤ new.fulls
lines_grow l [] old new handed ends none = rw none.2 (omega arith)
lines_grow l (line ∷ lines) old new handed ends ran =
    omega (
      arith,
      line_grows l old ran.0 (asks.asked_by line.work) ran.1 ran.2 ran.7.0,
      lines_grow l lines ran.0 new ran.3 ran.4 ran.7.1,
    )

lines_full : (l : LayoutParts) (lines : List Line) (old new : SeatValue) (handed : List Volume)
    (ends : List LineEnd) (at : ℕ) (end : LineEnd)
    → AreLines l old lines handed ends new → slice_get ends at ≡ Some end → EndsFull end → 0 < new.fulls
lines_full l [] old new handed ends at end none here full =
    let bad : None ≡ Some end = rw none.1 at here in absurd cc
lines_full l (line ∷ lines) old new handed ends zero end ran here full =
    let first : Some ran.2 ≡ Some end = rw ran.6 at here in
    let own : ran.2 ≡ end = cc in
    omega (
      arith,
      line_full l old ran.0 (asks.asked_by line.work) ran.1 ran.2 ran.7.0 (rw own full),
      lines_grow l lines ran.0 new ran.3 ran.4 ran.7.1,
    )
lines_full l (line ∷ lines) old new handed ends (suc at) end ran here full =
    lines_full l lines ran.0 new ran.3 ran.4 at end ran.7.1 (rw ran.6 at here) full

-- after a run of seats that found the history full only where all records reach the limit
pub reach_where_full : (l : LayoutParts) (olds : List SeatValue) (scripts : List (List Line))
    (news : List SeatValue) (volumes : List Volume) (lists : List (List LineEnd)) (fault : Option RunFault)
    (all : ℕ)
    → AreWorkers l olds scripts news volumes lists fault → length olds ≤ length scripts
    → All (HasReached l all) news → ReachWhereFull l lists all
reach_where_full l olds scripts news volumes lists fault all workers within reached cpu own at end here there
    full =
    let inside = slice_get_within lists cpu own here in
    let old = get_some olds cpu (omega (arith, workers.ends, inside)) in
    let script = get_some scripts cpu (omega (arith, workers.ends, inside, within)) in
    let found = workers.each cpu old.0 script.0 old.1 script.1 in
    let same = same_item (slice_get lists cpu) found.own own found.end here in
    let some =
    lines_full l (take (length found.own) script.0) old.0 found.new found.handed found.own at end
    found.worker.worked.ran (rw same there) full in
    let placed = slice_get_within news cpu found.new found.seat in
    let read =
    same_item (slice_get news cpu) (get_or news cpu found.new) found.new
    (slice_get-get_or news cpu found.new placed) found.seat in
    subst (HasReached l all) read (All-get_or (HasReached l all) news cpu found.new placed reached) some
