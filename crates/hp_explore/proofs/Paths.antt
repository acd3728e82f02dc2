-- A path one turn further, and one turn back.
use Rattle.std.proofs.Common.{◌≡◌, ◌<◌, ℕ, List, [], ◌∷◌, ◌++◌, length, reverse, set, Option, Some, None, Bool, true, false, Result, Ok, Err, IfOk, OnErr, refl, ap, sym, subst, ◌∙◌, arith}
use Rattle.std.proofs.lemmas.List.{reverse-append}
use Rattle.hp_units.specs.declared.events.Event.{Event}
use Rattle.hp_units.specs.declared.replies.Record.{Record}
use Rattle.hp_memory.specs.Steps.{StepsValue}
use Rattle.hp_schedules.specs.Cursors.{AreCursors, IsCalledFor}
use Rattle.hp_explore.specs.Paths.{IsAdvanced, IsBack, IsForth, IsPath, IsTakenBack, IsTurned, IsWayBack, PathValue}
use Rattle.hp_schedules.specs.Schedules.{Setting, record_of_call}
use Rattle.hp_schedules.specs.declared.cursors.Cursor.{Cursor}
use Rattle.hp_schedules.specs.declared.cursors.NextCall.{NextCall}
use Rattle.hp_explore.specs.declared.exploring.ExploreFault.{ExploreFault}
use Rattle.hp_explore.specs.declared.ways.Turn.{Turn}
use Rattle.hp_explore.specs.declared.ways.Way.{Way}
use Rattle.hp_units.specs.LayoutParts.{LayoutParts}

-- what a script asks for after the new records
pub called_there : (g : Setting) (cpu cpus : ℕ) (l : LayoutParts) (given news : List Record)
    (cursors : List Cursor) (found request : Option NextCall)
    → found ≡ request → given ≡ news → cpus ≡ l.cpus → l ≡ g.layout
    → ((h : Setting) → h.scripts ≡ g.scripts → h.layout.cpus ≡ cpus → AreCursors h given cursors
    → IsCalledFor h cpu given found)
    → AreCursors g news cursors → IsCalledFor g cpu news request
called_there g cpu cpus l given news cursors found request is told many same calls at =
    rw (← is, ← told) (calls g refl (rw (many, same)) (rw told at))

-- where scripts stand after new records
abbrev pub path_of : Setting → List Record → PathValue
path_of g news = record { setting = g; news = news }

-- one turn more
path_forth : (g : Setting) (old new : StepsValue) (cpu : ℕ) (event : Event) (turn : Turn)
    (cursors moved : List Cursor) (reserved turns : List Turn)
    → IsPath g old cursors reserved → IsTurned g old cpu event turn.way new → AreCursors g new.records moved
    → cpu < length moved → set moved cpu turn.from ≡ cursors → turns ≡ reserved ++ turn ∷ []
    → IsPath g new moved turns
unfolding record_of_call
path_forth g old new cpu event turn cursors moved reserved turns so_far turned there within undone is =
    record {
      at = turned.at;
      cursors_at = there;
      back =
          subst (IsWayBack g new moved) (sym (ap reverse is ∙ reverse-append reserved (turn ∷ []))) (
            old,
            record_of_call g old.records cpu event,
            so_far.at,
            turned.records,
            turned.over,
            within,
            subst (AreCursors g old.records) (sym undone) so_far.cursors_at,
            subst (λ (cs : List Cursor). IsWayBack g old cs (reverse reserved)) (sym undone) so_far.back,
          );
    }

-- its record is the latest
pub turned_latest : (g : Setting) (old new : StepsValue) (cpu : ℕ) (event : Event) (way : Way)
    (latest : Record)
    → IsTurned g old cpu event way new
    → ((before : List Record) (r : Record) → new.records ≡ before ++ r ∷ [] → latest ≡ r)
    → (latest.cpu ≡ cpu) × (new.records ≡ old.records ++ latest ∷ [])
unfolding record_of_call
turned_latest g old new cpu event way latest turned last = grind arith

-- ---- as a path sees it

pub path_advanced : (g : Setting) (old new : StepsValue) (cpu : ℕ) (cursors moved : List Cursor)
    (turns later : List Turn) (result : Result Bool ExploreFault)
    → IsPath g old cursors turns
    → IfOk result (λ went. IsAdvanced g old cursors turns cpu went new moved later)
    → OnErr result ((new ≡ old) × (moved ≡ cursors) × (later ≡ turns)) → IsPath g new moved later
path_advanced g old new cpu cursors moved turns later (Ok true) path ok err =
    path_forth g old new cpu ok.0 ok.1 cursors moved turns later path ok.3 ok.4 ok.5 ok.6 ok.7
path_advanced g old new cpu cursors moved turns later (Ok false) path ok err =
    rw (ok.1, ok.2, ok.3) path
path_advanced g old new cpu cursors moved turns later (Err fault) path ok err =
    rw (err.0, err.1, err.2) path

pub forth_shown : (g : Setting) (old new : StepsValue) (cpu : ℕ) (cursors moved : List Cursor)
    (turns later : List Turn) (went : Bool) (p : PathValue)
    → path_of g old.records ≡ p → IsAdvanced g old cursors turns cpu went new moved later
    → IsForth p cpu went (path_of g new.records)
forth_shown g old new cpu cursors moved turns later true p is ok =
    rw (← is) (ok.0, ok.2, ok.3.room, ap (path_of g) ok.3.records)
forth_shown g old new cpu cursors moved turns later false p is ok =
    rw (← is) (ok.0, ap (λ (x : StepsValue). path_of g x.records) ok.1)

pub path_taken : (g : Setting) (old new : StepsValue) (result : Option ℕ) (cursors : List Cursor)
    (turns : List Turn)
    → IsTakenBack g old result new cursors turns → IsPath g new cursors turns
path_taken g old new None cursors turns taken = taken.2
path_taken g old new (Some cpu) cursors turns taken = taken.3

pub back_shown : (g : Setting) (old new : StepsValue) (result : Option ℕ) (cursors : List Cursor)
    (turns : List Turn) (p : PathValue)
    → path_of g old.records ≡ p → IsTakenBack g old result new cursors turns
    → IsBack p result (path_of g new.records)
back_shown g old new None cursors turns p is taken =
    rw (← is) (taken.0, ap (λ (x : StepsValue). path_of g x.records) taken.1)
back_shown g old new (Some cpu) cursors turns p is taken =
    rw (← is) (taken.0, taken.1, ap (path_of g) taken.2)
