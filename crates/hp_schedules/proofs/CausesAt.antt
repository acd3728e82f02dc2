-- The last refusal of the plan in progress: its numbers, and where it is.
use Rattle.std.proofs.Common.{◌≡◌, ℕ, ◌+◌, Bool, true, false, cond, List, [], ◌∷◌, ◌++◌, length, take, drop, get_or, Option, Some, None, Result, Ok, Err, slice_get, refl, ap, sym, ◌∙◌, arith}
use Rattle.std.specs.Prelude.{OnOk, if◌then◌else◌, is_ok}
use Rattle.std.proofs.lemmas.List.{take-append-drop}
use Rattle.hp_ops.specs.Stages.{is_over}
use Rattle.hp_units.specs.Receipts.{receipts_of}
use Rattle.hp_units.specs.declared.replies.Receipt.{Receipt}
use Rattle.hp_units.specs.declared.replies.Record.{Record}
use Rattle.hp_units.specs.declared.replies.Refusal.{Refusal}
use Rattle.hp_units.specs.declared.replies.Refusal.TheVariants.{NoOwner, NoPage, NoWord, AlreadyMapped, NotMapped, BadOrder, NoFrame, NoSuchFrame, NotKernel, NoCpu, NoBlock, EmptyPlan, Twice, Busy, NotOnline, NotOffline, Unmovable, NoOp, NothingToMove, NotFree, Gone, BadAddress, NotAbsent}
use Rattle.std.proofs.lemmas.Option.{none-some}
use Rattle.hp_laws.proofs.Options.{cases_option}
use Rattle.hp_schedules.specs.Causes.{IsCaused, cause_at, cause_in, cause_numbers, met_at}
use Rattle.hp_schedules.specs.Cursors.{AreCursors, IsCursor, IsInFirst}
use Rattle.hp_schedules.specs.Schedules.{Setting}
use Rattle.hp_schedules.specs.Scripts.{after_lines, nothing_known}
use Rattle.hp_schedules.specs.declared.cursors.Cursor.{Cursor}
use Rattle.hp_schedules.specs.declared.scripts.Step.{Step}
use Rattle.hp_schedules.specs.declared.scripts.Step.TheVariants.{Ask, Own, Carry}
use Rattle.hp_schedules.proofs.Asked.{at_first, lines_here, own_over, plan_on}
use Rattle.hp_schedules.proofs.Begun.{asks_none, asks_some}

-- ---- the numbers

-- the refusals that name this block or frame, by their kinds
abbrev causes_naming : ℕ → List (Option Refusal)
causes_naming n =
    None ∷ Some NoOwner ∷ Some NoPage ∷ Some NoWord ∷ Some AlreadyMapped ∷ Some NotMapped ∷ Some BadOrder
    ∷ Some NoFrame ∷ Some NoSuchFrame ∷ Some NotKernel ∷ Some NoCpu ∷ Some NoBlock ∷ Some EmptyPlan
    ∷ Some NoOp ∷ Some NothingToMove ∷ Some Gone ∷ Some BadAddress ∷ Some (Twice n) ∷ Some (Busy n)
    ∷ Some (NotOnline n) ∷ Some (NotOffline n) ∷ Some (Unmovable n) ∷ Some (NotFree n)
    ∷ Some (NotAbsent n) ∷ []

abbrev cause_by : List ℕ → Option Refusal
cause_by numbers = get_or (causes_naming (get_or numbers 1 0)) (get_or numbers 0 0) None

read_back : (why : Option Refusal) → cause_by (cause_numbers why) ≡ why
read_back (Some NoOwner) = refl
read_back why = refl

-- equal numbers are of one cause
pub same_cause : (why other : Option Refusal) → cause_numbers why ≡ cause_numbers other → why ≡ other
same_cause why other same = sym (read_back why) ∙ (ap cause_by same ∙ read_back other)

pub two_numbers : (why : Option Refusal) → length (cause_numbers why) ≡ 2
two_numbers (Some NoOwner) = refl
two_numbers why = refl

-- they are appended
pub extended : {T E : Type 0} (r : Result T E) (old new piece numbers : List ℕ)
    → new ≡ (if is_ok r then old ++ piece else old) → piece ≡ numbers → OnOk r (new ≡ old ++ numbers)
extended (Ok done) old new piece numbers is same = is ∙ ap (λ (xs : List ℕ). old ++ xs) same
extended (Err fault) old new piece numbers is same = tt

-- ---- the first line

none_met : (cpus : ℕ) (lines : List Step) → cause_in cpus lines [] ≡ None
none_met cpus (Ask event ∷ lines) = refl
none_met cpus lines = refl

-- ---- at a cursor

-- the lines before it do not matter
pub cause_past : (cpus : ℕ) (lines others : List Step) (receipts rest : List Receipt)
    → after_lines cpus nothing_known lines receipts ≡ Some rest
    → cause_in cpus (lines ++ others) receipts ≡ cause_in cpus others rest
cause_past cpus [] others receipts rest is = cc
cause_past cpus (line ∷ lines) others receipts rest is =
    grind (arith, cases_option, none-some, cause_past cpus lines)

pub cause_from : (cpus : ℕ) (lines : List Step) (receipts : List Receipt) (c : Cursor)
    (is : IsCursor cpus lines receipts c)
    → cause_in cpus lines receipts ≡ cause_in cpus (drop c.line lines) is.own
cause_from cpus lines receipts c is =
    rw take-append-drop at
    (cause_past cpus (take c.line lines) (drop c.line lines) receipts is.own (is.passed nothing_known))

-- what its own line met
met_in : (cpus : ℕ) (line : Step) (lines : List Step) (own : List Receipt) (c : Cursor)
    → IsInFirst cpus (line ∷ lines) own c.driver → cause_in cpus (line ∷ lines) own ≡ met_at c line
met_in cpus (Ask event) lines own c first = rw first.0
met_in cpus (Own work) lines own c first = rw first.0
met_in cpus (Carry plan turns) lines own c first = by_end (is_over c.driver.stage) refl
  where
    by_end : (b : Bool) → is_over c.driver.stage ≡ b
        → cause_in cpus (Carry plan turns ∷ lines) own ≡ cond b None c.driver.why
    by_end true over =
        rw (own_over cpus nothing_known [] (Carry plan turns) lines own c first
        (asks_none c.driver.stage plan over)) (none_met cpus lines)
    by_end false on =
        let next = asks_some c.driver.stage plan on in
        rw (plan_on cpus turns nothing_known plan lines own c.driver next.0 first next.1, first.0.why)

pub cause_here : (cpus : ℕ) (lines : List Step) (receipts : List Receipt) (c : Cursor) (line : Step)
    → slice_get lines c.line ≡ Some line → IsCursor cpus lines receipts c
    → met_at c line ≡ cause_in cpus lines receipts
cause_here cpus lines receipts c line here is =
    rw (cause_from cpus lines receipts c is, lines_here lines c.line line here)
    (sym (met_in cpus line (drop (c.line + 1) lines) is.own c (at_first cpus lines receipts c line is here)))

-- ---- of a processor

pub cause_of_script : (g : Setting) (cpu : ℕ) (news : List Record) (lines : List Step)
    → slice_get g.scripts cpu ≡ Some lines
    → cause_at g cpu news ≡ cause_in g.layout.cpus lines (receipts_of cpu news)
unfolding cause_at
cause_of_script g cpu news lines here = rw (here, cause_at)

pub caused_at : (g : Setting) (cpu : ℕ) (news : List Record) (lines : List Step)
    (cursors : List Cursor) (cursor : Cursor) (why : Option Refusal)
    → slice_get g.scripts cpu ≡ Some lines → slice_get cursors cpu ≡ Some cursor → AreCursors g news cursors
    → ((cpus : ℕ) (receipts : List Receipt) → IsCursor cpus lines receipts cursor
    → why ≡ cause_in cpus lines receipts)
    → IsCaused g cpu news (cause_numbers why)
caused_at g cpu news lines cursors cursor why here there all is =
    ap cause_numbers (is g.layout.cpus (receipts_of cpu news) (all.each cpu lines cursor here there)
    ∙ sym (cause_of_script g cpu news lines here))
