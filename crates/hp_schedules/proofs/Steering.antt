-- Positions with equal numbers: their scripts call the same after the same further receipts.
use Rattle.std.proofs.Common.{◌≡◌, ℕ, zero, suc, ◌+◌, ◌<◌, true, false, cond, List, [], ◌∷◌, ◌++◌, drop, length, Some, slice_get, refl, sym, ◌∙◌, arith}
use Rattle.std.specs.Prelude.{fold, option_map}
use Rattle.std.proofs.lemmas.Bool.{and_parts, cases_Bool}
use Rattle.std.proofs.lemmas.List.Sums.{fold-append}
use Rattle.std.proofs.lemmas.Option.{slice_get_within}
use Rattle.hp_laws.proofs.Lists.{get_some}
use Rattle.hp_ops.specs.Stages.{event_in, stage_number, stage_op}
use Rattle.hp_ops.specs.declared.stages.Driver.{Driver}
use Rattle.hp_ops.specs.declared.stages.Stage.{Stage}
use Rattle.hp_ops.specs.declared.stages.Stage.TheVariants.{Begin as Begins, DrainFor as DrainsFor, Migrate as Migrates, Commit as Commits, Cancel as Cancels}
use Rattle.hp_ops.proofs.Keys.{same_event}
use Rattle.hp_units.specs.History.{net_of}
use Rattle.hp_units.specs.Marks.{is_opening, mark_of}
use Rattle.hp_units.specs.Receipts.{receipts_of}
use Rattle.hp_units.specs.declared.plans.Item.{Item}
use Rattle.hp_units.specs.declared.replies.Receipt.{Receipt}
use Rattle.hp_units.specs.declared.replies.Record.{Record}
use Rattle.hp_laws.specs.Renumbered.{renumbered_event}
use Rattle.hp_laws.proofs.Alike.{unseen_same}
use Rattle.hp_schedules.specs.Alike.{AreMergeable, is_mergeable, is_mergeable_line}
use Rattle.hp_schedules.specs.Continuing.{AreJoinedBy, AreSameBy, AreSameReceipts}
use Rattle.hp_schedules.specs.Cursors.{IsInFirst, IsSteered, frames_ahead, steering_of}
use Rattle.hp_schedules.specs.Schedules.{Setting}
use Rattle.hp_schedules.specs.Scripts.{Known, frames_of, known_of, later_operation, next_in, next_of, own_operation, step_work_of, takes_frame}
use Rattle.hp_schedules.specs.Starts.{same_starts}
use Rattle.hp_schedules.specs.declared.scripts.OwnWork.TheVariants.{Latest, Nth, Free}
use Rattle.hp_schedules.specs.declared.scripts.Step.{Step}
use Rattle.hp_schedules.specs.declared.scripts.Step.TheVariants.{Ask, Own, Carry}
use Rattle.hp_schedules.specs.declared.scripts.StepWork.{StepWork}
use Rattle.hp_schedules.specs.declared.scripts.StepWork.TheVariants as work
use Rattle.hp_schedules.proofs.Agreeing.{Agree, Agrees, all_named, all_named_long, drop_passes, frames_more, script_mergeable}
use Rattle.hp_schedules.proofs.RenumberedLines.{AgreeBy, AgreesBy, carried_alike, next_alike}

-- ---- a driver

-- a stage of work on the operation's other number
abbrev renumbered_stage : (ℕ → ℕ) → Stage → Stage
renumbered_stage f (DrainsFor op cpu) = DrainsFor (f op) cpu
renumbered_stage f (Migrates op) = Migrates (f op)
renumbered_stage f (Commits op) = Commits (f op)
renumbered_stage f (Cancels op) = Cancels (f op)
renumbered_stage f stage = stage

stage_event : (f : ℕ → ℕ) (plan : List Item) (s : Stage)
    → option_map (renumbered_event f) (event_in plan s) ≡ event_in plan (renumbered_stage f s)
stage_event f plan Begins = refl
stage_event f plan s = refl

stage_kept : (f : ℕ → ℕ) (s : Stage) → stage_number (renumbered_stage f s) ≡ stage_number s
stage_kept f Begins = refl
stage_kept f s = refl

-- the operation by the two numbers of a stage
abbrev op_at : (number op : ℕ) → ℕ
op_at zero op = 0
op_at (suc zero) op = op
op_at (suc (suc zero)) op = op
op_at (suc (suc (suc zero))) op = op
op_at (suc (suc (suc (suc zero)))) op = 0
op_at (suc (suc (suc (suc (suc cpu))))) op = op

stage_named : (f : ℕ → ℕ) (s : Stage)
    → stage_op (renumbered_stage f s) ≡ op_at (stage_number s) (f (stage_op s))
stage_named f (DrainsFor op cpu) = grind arith
stage_named f s = refl

-- drivers with equal numbers ask for the same, as `p` and `q` number the operations
pub record AreSameDrivers (p q : ℕ → ℕ) (d e : Driver) : Type 0 where
  pub left : d.left ≡ e.left
  pub stage : stage_number d.stage ≡ stage_number e.stage
  pub op : p (stage_op d.stage) ≡ q (stage_op e.stage)

pub drivers_ask : (p q : ℕ → ℕ) (d e : Driver) (plan : List Item) → AreSameDrivers p q d e
    → option_map (renumbered_event p) (event_in plan d.stage)
    ≡ option_map (renumbered_event q) (event_in plan e.stage)
drivers_ask p q d e plan same = grind (arith, stage_kept, stage_named, stage_event, same_event)

-- ---- lines

-- what lines call whose first one was begun alike
begun_alike : (p q : ℕ → ℕ) (cpus : ℕ) (a b : Known) (lines : List Step) (own given xs ys : List Receipt)
    (d e : Driver)
    → AreSameDrivers p q d e → IsInFirst cpus lines own d → IsInFirst cpus lines given e
    → AgreeBy p q a b lines → AreSameReceipts p q xs ys
    → option_map (renumbered_event p) (next_in cpus a lines (own ++ xs))
    ≡ option_map (renumbered_event q) (next_in cpus b lines (given ++ ys))
begun_alike p q cpus a b [] own given xs ys d e same first second agree are = refl
begun_alike p q cpus a b (Ask event ∷ lines) own given xs ys d e same first second agree are =
    rw (first.0, second.0) (next_alike p q cpus a b (Ask event ∷ lines) xs ys agree are)
begun_alike p q cpus a b (Own work ∷ lines) own given xs ys d e same first second agree are =
    rw (first.0, second.0) (next_alike p q cpus a b (Own work ∷ lines) xs ys agree are)
begun_alike p q cpus a b (Carry plan turns ∷ lines) own given xs ys d e same first second agree are =
    carried_alike p q cpus a b turns plan lines own given xs ys are (first.1 a xs) (second.1 b ys)
    (record {
      next = rw (← first.0.next plan, ← second.0.next plan) (drivers_ask p q d e plan same);
      left = sym first.0.left ∙ (same.left ∙ second.0.left);
    })
    (λ rest left. next_alike p q cpus a b lines rest left agree.1)

-- ---- results

-- the operation that a processor began last, after the same further receipts
operation_alike : (p q : ℕ → ℕ) (m n : ℕ) (xs ys : List Receipt) → p m ≡ q n → AreSameReceipts p q xs ys
    → p (fold later_operation m xs) ≡ q (fold later_operation n ys)
operation_alike p q m n [] [] op same = op
operation_alike p q m n [] (s ∷ ys) op same = absurd same
operation_alike p q m n (r ∷ xs) [] op same = absurd same
operation_alike p q m n (r ∷ xs) (s ∷ ys) op same =
    operation_alike p q (later_operation m r) (later_operation n s) xs ys
    (rw (← opens) (elim (is_opening (mark_of r.event)) as (λ b. p (cond b r.serial m) ≡ q (cond b s.serial n))
    [ true ↦ same.0.number | false ↦ op ])) same.1
  where
    opens : is_opening (mark_of r.event) ≡ is_opening (mark_of s.event)
    opens =
        unseen_same (λ e. is_opening (mark_of e)) (λ op other drained. refl) (λ op other. refl)
        (λ op other. refl) (λ op other. refl) p q r.event s.event same.0.event

-- the frames that it took with them
frames_alike : (p q : ℕ → ℕ) (xs ys : List Receipt) → AreSameReceipts p q xs ys → frames_of xs ≡ frames_of ys
frames_alike p q [] [] same = refl
frames_alike p q [] (s ∷ ys) same = absurd same
frames_alike p q (r ∷ xs) [] same = absurd same
frames_alike p q (r ∷ xs) (s ∷ ys) same =
    grind (arith, cases_Bool, takes, frames_alike p q xs ys same.1)
  where
    takes : takes_frame r.event ≡ takes_frame s.event
    takes =
        unseen_same takes_frame (λ op other drained. refl) (λ op other. refl) (λ op other. refl)
        (λ op other. refl) p q r.event s.event same.0.event

-- ---- lines that work on them

-- an event that a line names is the same by `p` and by `q`
abbrev pub IsNamedBy : (p q : ℕ → ℕ) → Step → Type 0
IsNamedBy p q (Ask event) = renumbered_event p event ≡ renumbered_event q event
IsNamedBy p q (Own work) = Unit {0}
IsNamedBy p q (Carry plan turns) = Unit {0}

abbrev pub AreNamedBy : (p q : ℕ → ℕ) → List Step → Type 0
AreNamedBy p q [] = Unit {0}
AreNamedBy p q (line ∷ lines) = IsNamedBy p q line × AreNamedBy p q lines

drop_named : (p q : ℕ → ℕ) (k : ℕ) (lines : List Step) → AreNamedBy p q lines → AreNamedBy p q (drop k lines)
drop_named p q zero lines named = named
drop_named p q (suc k) [] named = tt
drop_named p q (suc k) (line ∷ lines) named = drop_named p q k lines named.1

-- the results that lines may work on, with another number for the operation
abbrev renumbered_known : (ℕ → ℕ) → Known → Known
renumbered_known f known = record { op = f known.op; begun = known.begun; frames = known.frames }

step_renumbered : (f : ℕ → ℕ) (op : ℕ) (w : StepWork)
    → renumbered_event f (step_work_of op w) ≡ step_work_of (f op) w
step_renumbered f op (work.DrainFor cpu) = refl
step_renumbered f op w = refl

line_agrees : (p q : ℕ → ℕ) (a b : Known) (line : Step) → is_mergeable_line line ≡ true → IsNamedBy p q line
    → Agrees (renumbered_known p a) (renumbered_known q b) line → AgreesBy p q a b line
line_agrees p q a b (Ask event) merges named agrees = named
line_agrees p q a b (Own (Latest w)) merges named agrees =
    step_renumbered p a.op w ∙ (agrees ∙ sym (step_renumbered q b.op w))
line_agrees p q a b (Own (Nth nth w)) merges named agrees = absurd cc
line_agrees p q a b (Own (Free nth)) merges named agrees = agrees
line_agrees p q a b (Carry plan turns) merges named agrees = tt

lines_agree : (p q : ℕ → ℕ) (a b : Known) (lines : List Step) → is_mergeable lines ≡ true
    → AreNamedBy p q lines → Agree (renumbered_known p a) (renumbered_known q b) lines
    → AgreeBy p q a b lines
lines_agree p q a b [] merges named agree = tt
lines_agree p q a b (line ∷ lines) merges named agree = (
  line_agrees p q a b line (and_parts _ _ merges).0 named.0 agree.0,
  lines_agree p q a b lines (and_parts _ _ merges).1 named.1 agree.1,
)

-- ---- scripts

pub steered_alike : (p q : ℕ → ℕ) (g : Setting) (cpu : ℕ) (lines : List Step) (h k : List Record)
    (part : List ℕ) (xs ys : List Receipt)
    → slice_get g.scripts cpu ≡ Some lines → is_mergeable lines ≡ true → AreNamedBy p q lines
    → IsSteered p g cpu h part → IsSteered q g cpu k part → AreSameReceipts p q xs ys
    → option_map (renumbered_event p) (next_of g.layout.cpus lines (receipts_of cpu h ++ xs))
    ≡ option_map (renumbered_event q) (next_of g.layout.cpus lines (receipts_of cpu k ++ ys))
steered_alike p q g cpu lines h k part xs ys here merges named first second are =
    let a = first lines here in
    let b = second lines here in
    let same =
    same_starts (steering_of p a.0) (frames_ahead a.0 lines (receipts_of cpu h)) (steering_of q b.0)
    (frames_ahead b.0 lines (receipts_of cpu k)) refl (sym a.2 ∙ b.2) in
    let line : a.0.line ≡ b.0.line = cc in
    let op_is : p a.0.op ≡ q b.0.op = cc in
    let op : p (own_operation (receipts_of cpu h ++ xs)) ≡ q (own_operation (receipts_of cpu k ++ ys)) =
    rw (fold-append, fold-append)
    (operation_alike p q (own_operation (receipts_of cpu h)) (own_operation (receipts_of cpu k)) xs ys
    (rw (← a.1.begun, ← b.1.begun) op_is) are) in
    let frames = rw line at same.1 in
    let known = known_of (receipts_of cpu h ++ xs) in
    let other = known_of (receipts_of cpu k ++ ys) in
    let agree =
    lines_agree p q known other (drop b.0.line lines) (drop_passes is_mergeable_line b.0.line lines merges)
    (drop_named p q b.0.line lines named)
    (all_named (renumbered_known p known) (renumbered_known q other) (frames_of (receipts_of cpu h))
    (frames_of (receipts_of cpu k)) (frames_of xs) (drop b.0.line lines)
    (drop_passes is_mergeable_line b.0.line lines merges) op (frames_more (receipts_of cpu h) xs)
    (rw (frames_alike p q xs ys are) (frames_more (receipts_of cpu k) ys)) frames) in
    rw (a.1.ahead known xs, b.1.ahead other ys, line)
    (begun_alike p q g.layout.cpus known other (drop b.0.line lines) a.1.own b.1.own xs ys a.0.driver
    b.0.driver (record { left = cc; stage = cc; op = cc }) (rw line at a.1.here) b.1.here agree are)

-- numbers of one processor that begin a list are the same, and so is what follows them
pub parts_apart : (f h : ℕ → ℕ) (g : Setting) (cpu : ℕ) (one other : List Record) (p q xs ys : List ℕ)
    → cpu < length g.scripts → IsSteered f g cpu one p → IsSteered h g cpu other q → p ++ xs ≡ q ++ ys
    → (p ≡ q) × (xs ≡ ys)
parts_apart f h g cpu one other p q xs ys within first second is =
    let script = get_some g.scripts cpu within in
    let a = first script.0 script.1 in
    let b = second script.0 script.1 in
    let both = rw (a.2, b.2) at is in
    let line : a.0.line ≡ b.0.line = cc in
    let long = all_named_long (frames_of (receipts_of cpu one)) (frames_of (receipts_of cpu other)) in
    same_starts p xs q ys (rw (a.2, b.2, line, long (drop b.0.line script.0))) is

-- beginnings after which equal numbers steer every processor, and whose nets join, are the same
pub steered_same : (p q : ℕ → ℕ) (g : Setting) (h k : List Record) → AreMergeable g.scripts
    → length h ≡ length k
    → ((n : ℕ) → g.before + length (g.start ++ h) < n → p n ≡ q n)
    → ((cpu : ℕ) (lines : List Step) → slice_get g.scripts cpu ≡ Some lines → AreNamedBy p q lines)
    → ((cpu : ℕ) → cpu < length g.scripts
    → (part : List ℕ) × IsSteered p g cpu h part × IsSteered q g cpu k part)
    → AreJoinedBy p q g.layout g.base (net_of (g.start ++ h)) (net_of (g.start ++ k)) → AreSameBy p q g h k
steered_same p q g h k all calls later named steered nets = record {
  calls = calls;
  later = later;
  ahead =
      λ cpu lines here xs ys are. let numbers = steered cpu (slice_get_within g.scripts cpu lines here) in
      steered_alike p q g cpu lines h k numbers.0 xs ys here (script_mergeable g.scripts cpu lines all here)
      (named cpu lines here) numbers.1 numbers.2 are;
  nets = nets;
}
