-- Lines that work on equal results call the same.
use Rattle.std.proofs.Common.{◌≡◌, ℕ, zero, suc, Bool, true, List, [], ◌∷◌, ◌++◌, drop, get_or, length, map, Some, slice_get, refl, ap, arith}
use Rattle.std.specs.Prelude.{flat_map}
use Rattle.std.specs.List.{list_all}
use Rattle.std.proofs.lemmas.Bool.{and_parts, cases_Bool, cases_lt}
use Rattle.std.proofs.lemmas.List.{get_or_append_left, get_or-append_right, length-append, map-append}
use Rattle.std.proofs.lemmas.List.Elements.{filter-append}
use Rattle.std.proofs.lemmas.List.Sums.{fold-append}
use Rattle.std.proofs.lemmas.Option.{same_Some}
use Rattle.hp_units.specs.declared.events.Event.{Event}
use Rattle.hp_units.specs.declared.replies.Receipt.{Receipt}
use Rattle.hp_schedules.specs.Alike.{AreMergeable, is_mergeable, is_mergeable_line, unnumbered}
use Rattle.hp_schedules.specs.Cursors.{frames_named}
use Rattle.hp_schedules.specs.Scripts.{Known, frames_of, known_of, later_operation, line_next, next_in, no_frame, once, own_operation, work_of}
use Rattle.hp_schedules.specs.Starts.{same_starts}
use Rattle.hp_schedules.specs.declared.scripts.OwnWork.TheVariants.{Latest, Nth, Free}
use Rattle.hp_schedules.specs.declared.scripts.Step.{Step}
use Rattle.hp_schedules.specs.declared.scripts.Step.TheVariants.{Ask, Own, Carry}
use Rattle.hp_schedules.proofs.AfterLines.{any_known}
use Rattle.hp_laws.proofs.Options.{cases_option}

-- ---- results with further receipts

pub frames_more : (xs ys : List Receipt) → frames_of (xs ++ ys) ≡ frames_of xs ++ frames_of ys
frames_more xs ys = simp (filter-append, map-append)

pub operation_more : (xs ys later : List Receipt) → own_operation xs ≡ own_operation ys
    → own_operation (xs ++ later) ≡ own_operation (ys ++ later)
operation_more xs ys later same =
    rw (fold-append later_operation 0 xs later, fold-append later_operation 0 ys later, same)

-- the frames do not depend on the receipts' serials
pub frames_plain : (rs : List Receipt) → frames_of (map unnumbered rs) ≡ frames_of rs
frames_plain [] = refl
frames_plain (r ∷ rs) = grind (arith, cases_Bool, frames_plain rs)

-- ---- lines

-- a line that works on a result works on the same one by both
abbrev pub Agrees : (a b : Known) → Step → Type 0
Agrees a b (Ask event) = Unit {0}
Agrees a b (Own work) = work_of a work ≡ work_of b work
Agrees a b (Carry plan turns) = Unit {0}

abbrev pub Agree : (a b : Known) → List Step → Type 0
Agree a b [] = Unit {0}
Agree a b (line ∷ lines) = Agrees a b line × Agree a b lines

line_agrees : (cpus : ℕ) (a b : Known) (line : Step) (rs : List Receipt) → Agrees a b line
    → line_next cpus a line rs ≡ line_next cpus b line rs
line_agrees cpus a b (Own work) rs same = ap (λ (e : Event). once e rs) same
line_agrees cpus a b line rs same = refl

-- so they call the same
pub next_agree : (cpus : ℕ) (a b : Known) (lines : List Step) (rs : List Receipt) → Agree a b lines
    → next_in cpus a lines rs ≡ next_in cpus b lines rs
next_agree cpus a b [] rs agree = refl
next_agree cpus a b (line ∷ lines) rs agree =
    grind (arith, cases_option, any_known, line_agrees, next_agree cpus a b lines)

-- ---- equal numbers of the frames that lines name

-- as many numbers, whatever the frames
named_long : (f g : List ℕ) (line : Step) → length (frames_named f line) ≡ length (frames_named g line)
named_long f g (Own (Latest work)) = refl
named_long f g line = refl

pub all_named_long : (f g : List ℕ) (lines : List Step)
    → length (flat_map (frames_named f) lines) ≡ length (flat_map (frames_named g) lines)
all_named_long f g [] = refl
all_named_long f g (line ∷ lines) =
    omega (arith, length-append {A = ℕ}, named_long f g line, all_named_long f g lines)

-- the frame of this number, with the same further frames
frame_more : (f g more : List ℕ) (nth : ℕ) → length f ≡ length g
    → get_or f nth no_frame ≡ get_or g nth no_frame
    → get_or (f ++ more) nth no_frame ≡ get_or (g ++ more) nth no_frame
frame_more f g more nth long same = grind (arith, cases_lt, get_or_append_left, get_or-append_right)

line_named : (a b : Known) (f g more : List ℕ) (line : Step) → is_mergeable_line line ≡ true
    → a.op ≡ b.op → a.frames ≡ f ++ more → b.frames ≡ g ++ more
    → frames_named f line ≡ frames_named g line → Agrees a b line
line_named a b f g more (Ask event) merges op first second same = tt
line_named a b f g more (Own (Latest work)) merges op first second same = grind arith
line_named a b f g more (Own (Nth nth work)) merges op first second same = absurd cc
line_named a b f g more (Own (Free nth)) merges op first second same = grind (arith, frame_more)
line_named a b f g more (Carry plan turns) merges op first second same = tt

pub all_named : (a b : Known) (f g more : List ℕ) (lines : List Step) → is_mergeable lines ≡ true
    → a.op ≡ b.op → a.frames ≡ f ++ more → b.frames ≡ g ++ more
    → flat_map (frames_named f) lines ≡ flat_map (frames_named g) lines → Agree a b lines
all_named a b f g more [] merges op first second same = tt
all_named a b f g more (line ∷ lines) merges op first second same =
    let parts =
    same_starts (frames_named f line) (flat_map (frames_named f) lines) (frames_named g line)
    (flat_map (frames_named g) lines) (named_long f g line) same in (
      line_named a b f g more line (and_parts _ _ merges).0 op first second parts.0,
      all_named a b f g more lines (and_parts _ _ merges).1 op first second parts.1,
    )

-- after receipts with one latest operation, and one list of these numbers, lines call the same after
-- any further receipts
pub results_agree : (xs ys later : List Receipt) (lines : List Step) → is_mergeable lines ≡ true
    → own_operation xs ≡ own_operation ys
    → flat_map (frames_named (frames_of xs)) lines ≡ flat_map (frames_named (frames_of ys)) lines
    → Agree (known_of (xs ++ later)) (known_of (ys ++ later)) lines
results_agree xs ys later lines merges op same = grind (arith, all_named, operation_more, frames_more)

-- ---- scripts that may be merged

-- what each item of a list passes, the item at a place passes
pub each_passes : {A : Type 0} (p : A → Bool) (xs : List A) (k : ℕ) (x : A) → list_all p xs ≡ true
    → slice_get xs k ≡ Some x → p x ≡ true
each_passes p [] k x all here = absurd cc
each_passes p (y ∷ xs) zero x all here = rw (← same_Some y x here) (and_parts _ _ all).0
each_passes p (y ∷ xs) (suc k) x all here = each_passes p xs k x (and_parts _ _ all).1 here

pub script_mergeable : (scripts : List (List Step)) (cpu : ℕ) (lines : List Step) → AreMergeable scripts
    → slice_get scripts cpu ≡ Some lines → is_mergeable lines ≡ true
script_mergeable scripts cpu lines all here = each_passes is_mergeable scripts cpu lines all here

-- what each item of a list passes, each item from a place on passes
pub drop_passes : {A : Type 0} (p : A → Bool) (k : ℕ) (xs : List A) → list_all p xs ≡ true
    → list_all p (drop k xs) ≡ true
drop_passes p zero xs all = all
drop_passes p (suc k) [] all = refl
drop_passes p (suc k) (x ∷ xs) all = drop_passes p k xs (and_parts _ _ all).1
