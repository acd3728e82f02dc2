-- How a search numbers operations, as it goes on and back: no two alike, later ones and those that scripts
-- name by themselves.
use Rattle.std.proofs.Common.{◌≡◌, ℕ, zero, suc, ◌+◌, ◌*◌, ◌<◌, ◌≤◌, Bool, true, false, cond, List, [], ◌∷◌, ◌++◌, length, map, Some, slice_get, refl, ap, sym, subst, ◌∙◌, arith, ◌-◌, drop, take}
use Rattle.std.specs.Prelude.{fold, slice_range}
use Rattle.std.specs.List.{AllByRecursion, range_with_len}
use Rattle.std.proofs.lemmas.Bool.{ltb-false, ltb-true}
use Rattle.std.proofs.lemmas.List.{append-nil, append_assoc, length-append, length_push, length-drop, take_all}
use Rattle.std.proofs.lemmas.List.Sums.{fold_push}
use Rattle.std.proofs.lemmas.Option.{same_Some}
use Rattle.hp_units.specs.Receipts.{receipts_of}
use Rattle.hp_units.specs.declared.events.Event.{Event}
use Rattle.hp_units.specs.declared.events.Event.TheVariants.{DrainFor, Migrate, Commit, Cancel}
use Rattle.hp_units.specs.declared.replies.Record.{Record}
use Rattle.hp_laws.specs.Numberings.{number_of}
use Rattle.hp_laws.specs.Renumbered.{renumbered_event}
use Rattle.hp_laws.proofs.Numbered.{differ, fixed_number, later}
use Rattle.hp_schedules.specs.Openings.{change_of}
use Rattle.hp_schedules.specs.Schedules.{Setting, plays, record_of_call, schedule_of}
use Rattle.hp_schedules.specs.Scripts.{greater, greatest_in, greatest_named, later_operation, named_by, named_in, own_operation}
use Rattle.hp_schedules.specs.declared.changes.Change.{Change}
use Rattle.hp_schedules.specs.declared.changes.Change.TheVariants.{Ends}
use Rattle.hp_schedules.specs.declared.scripts.Step.{Step}
use Rattle.hp_schedules.specs.declared.scripts.Step.TheVariants.{Ask}
use Rattle.hp_schedules.proofs.Plays.{from_news}
use Rattle.hp_schedules.proofs.Steering.{AreNamedBy, IsNamedBy}
use Rattle.hp_states.specs.Stops.{IsNumbering}
use Rattle.hp_explore.proofs.Continued.{first_played}
use Rattle.hp_explore.specs.LatestOps.{Ended, ended, ended_with, is_end, numbering, ops_after, ops_at, Along, AreLatestAt, along, along_with, last_of, latest_here}
use Rattle.std.proofs.Math.Seq.{drop-append_seam, take-append_seam}
use Rattle.std.proofs.lemmas.List.FromFn.{length-map-range_with_len}
use Rattle.hp_explore.specs.declared.latest_ops.LatestOps.{LatestOps}

-- ---- what was recorded up to the last end

all_kept : (news : List Record) (e : Ended) → (fold ended_with e news).all ≡ e.all ++ news
all_kept [] e = sym (append-nil e.all)
all_kept (r ∷ news) e = all_kept news (ended_with e r) ∙ append_assoc e.all (r ∷ []) news

ended_push : (news : List Record) (r : Record)
    → (ended (news ++ r ∷ [])).kept ≡ cond (is_end (change_of r)) (news ++ r ∷ []) (ended news).kept
ended_push news r = rw (fold_push, all_kept)

not_end : (change : Change) → (change ≡ Ends → ⊥) → is_end change ≡ false
not_end Ends other = absurd (other refl)
not_end change other = refl

pub ops_stay : (g : Setting) (news : List Record) (r : Record) → is_end (change_of r) ≡ false
    → ops_at g (news ++ r ∷ []) ≡ ops_at g news
unfolding ops_at
ops_stay g news r goes = grind (arith, ended_push)

pub ops_end : (g : Setting) (news : List Record) (r : Record) → is_end (change_of r) ≡ true
    → ops_at g (news ++ r ∷ []) ≡ ops_after g (news ++ r ∷ [])
unfolding ops_at
ops_end g news r goes = grind (arith, ended_push)

pub ops_begin : (g : Setting) → ops_at g [] ≡ ops_after g []
unfolding ops_at
ops_begin g = refl

-- so it is a numbering
pub is_numbering : (g : Setting) → IsNumbering (numbering g)
is_numbering g = record {
  differ = λ news. differ (greatest_named g.scripts) (ops_at g news);
  steady = λ news r other.
      ap (λ (ops : List ℕ). number_of (greatest_named g.scripts) ops)
      (ops_stay g news r (not_end (change_of r) other));
}

-- ---- later operations

-- all records have serials below a number
abbrev AreBelow : (n : ℕ) → List Record → Type 0
AreBelow n news = AllByRecursion (λ r. r.serial < n) news

below_raised : (n m : ℕ) (news : List Record) → n ≤ m → AreBelow n news → AreBelow m news
below_raised n m [] more all = tt
below_raised n m (r ∷ news) more all = (omega (arith, more, all.0), below_raised n m news more all.1)

below_joined : (n : ℕ) (a b : List Record) → AreBelow n a → AreBelow n b → AreBelow n (a ++ b)
below_joined n [] b first second = second
below_joined n (r ∷ a) b first second = (first.0, below_joined n a b first.1 second)

kept_below : (n : ℕ) (news : List Record) (e : Ended) → AreBelow n news → AreBelow n e.all → AreBelow n e.kept
    → AreBelow n (fold ended_with e news).kept
kept_below n [] e all before kept = kept
kept_below n (r ∷ news) e all before kept =
    kept_below n news (ended_with e r) all.1 longer (by_end (is_end (change_of r)))
  where
    longer : AreBelow n (e.all ++ r ∷ [])
    longer = below_joined n e.all (r ∷ []) before (all.0, tt)

    by_end : (b : Bool) → AreBelow n (cond b (e.all ++ r ∷ []) e.kept)
    by_end true = longer
    by_end false = kept

-- so have the operations that were begun by them
op_below : (n cpu op : ℕ) (news : List Record) → op < n → AreBelow n news
    → fold later_operation op (receipts_of cpu news) < n
op_below n cpu op [] less all = less
op_below n cpu op (r ∷ news) less all =
    grind (arith, op_below n cpu op news less all.1, op_below n cpu r.serial news all.0 all.1)

ops_below : (n : ℕ) (news : List Record) (cpus : List ℕ) → 0 < n → AreBelow n news
    → AllByRecursion (λ op. op < n) (map (λ cpu. own_operation (receipts_of cpu news)) cpus)
ops_below n news [] some all = tt
ops_below n news (cpu ∷ cpus) some all = (op_below n cpu 0 news some all, ops_below n news cpus some all)

-- each record of a schedule has a serial up to the number of records
serials_on : (g : Setting) (rest : List ℕ) (h end : List Record)
    → AreBelow (g.before + length (g.start ++ h) + 1) h → from_news g h rest ≡ Some end
    → AreBelow (g.before + length (g.start ++ end) + 1) end
unfolding record_of_call
serials_on g [] h end all is = rw (← same_Some h end is) all
serials_on g (cpu ∷ rest) h end all is =
    let one = first_played g cpu rest h end is in
    let r = record_of_call g h cpu one.0 in
    let now = g.before + length (g.start ++ (h ++ r ∷ [])) + 1 in
    let more : g.before + length (g.start ++ h) + 1 < now =
    omega (arith, length-append g.start (h ++ r ∷ []), length-append g.start h, length_push h r) in
    serials_on g rest (h ++ r ∷ []) end
    (below_joined now h (r ∷ [])
    (below_raised (g.before + length (g.start ++ h) + 1) now h (omega (arith, more)) all) (more, tt)) one.2

-- a later operation is numbered by itself, wherever the search is
pub later_number : (g : Setting) (news : List Record) (op : ℕ)
    → plays g (schedule_of news) ≡ Some news → g.before + length (g.start ++ news) < op
    → numbering g news op ≡ 2 * op
unfolding plays ops_at
later_number g news op played past =
    later (greatest_named g.scripts) (ops_after g (ended news).kept) op
    (ops_below op (ended news).kept (range_with_len 0 (length g.scripts)) (omega (arith, past))
    (kept_below op news (record { all = []; kept = [] })
    (below_raised (g.before + length (g.start ++ news) + 1) op news (omega (arith, past))
    (serials_on g (schedule_of news) [] news tt played)) tt tt))

-- ---- operations that scripts name

greater_left : (n m : ℕ) → n ≤ greater n m
greater_left n m = grind (arith, ltb-true, ltb-false)

greater_right : (n m : ℕ) → m ≤ greater n m
greater_right n m = grind (arith, ltb-true, ltb-false)

grows : (least : ℕ) (lines : List Step) → least ≤ greatest_in least lines
grows least [] = omega arith
grows least (line ∷ lines) = omega (arith, greater_left, grows (greater least (named_in line)) lines)

scripts_grow : (least : ℕ) (scripts : List (List Step)) → least ≤ fold greatest_in least scripts
scripts_grow least [] = omega arith
scripts_grow least (script ∷ scripts) =
    omega (arith, grows least script, scripts_grow (greatest_in least script) scripts)

event_named : (p q : ℕ → ℕ) (e : Event) → p (named_by e) ≡ q (named_by e)
    → renumbered_event p e ≡ renumbered_event q e
event_named p q (DrainFor op drained) same = ap (λ (n : ℕ). DrainFor n drained) same
event_named p q (Migrate op) same = ap (λ (n : ℕ). Migrate n) same
event_named p q (Commit op) same = ap (λ (n : ℕ). Commit n) same
event_named p q (Cancel op) same = ap (λ (n : ℕ). Cancel n) same
event_named p q event same = refl

line_named : (fixed : ℕ) (a b : List ℕ) (line : Step) → named_in line ≤ fixed
    → IsNamedBy (number_of fixed a) (number_of fixed b) line
line_named fixed a b (Ask event) up =
    event_named (number_of fixed a) (number_of fixed b) event
    (fixed_number fixed a (named_by event) up ∙ sym (fixed_number fixed b (named_by event) up))
line_named fixed a b line up = tt

lines_named : (fixed : ℕ) (a b : List ℕ) (lines : List Step) (least : ℕ) → greatest_in least lines ≤ fixed
    → AreNamedBy (number_of fixed a) (number_of fixed b) lines
lines_named fixed a b [] least up = tt
lines_named fixed a b (line ∷ lines) least up = (
  line_named fixed a b line (omega (
    arith,
    up,
    grows (greater least (named_in line)) lines,
    greater_right least (named_in line),
  )),
  lines_named fixed a b lines (greater least (named_in line)) up,
)

pub scripts_named : (a b : List ℕ) (scripts : List (List Step)) (cpu : ℕ) (lines : List Step)
    → slice_get scripts cpu ≡ Some lines
    → AreNamedBy (number_of (greatest_named scripts) a) (number_of (greatest_named scripts) b) lines
scripts_named a b scripts cpu lines here =
    in_scripts (greatest_named scripts) scripts 0 cpu (omega arith) here
  where
    in_scripts : (fixed : ℕ) (ls : List (List Step)) (least cpu : ℕ) → fold greatest_in least ls ≤ fixed
        → slice_get ls cpu ≡ Some lines → AreNamedBy (number_of fixed a) (number_of fixed b) lines
    in_scripts fixed [] least cpu up here = absurd cc
    in_scripts fixed (script ∷ ls) least zero up here =
        subst (AreNamedBy (number_of fixed a) (number_of fixed b)) (same_Some script lines here)
        (lines_named fixed a b script least
        (omega (arith, up, scripts_grow (greatest_in least script) ls)))
    in_scripts fixed (script ∷ ls) least (suc cpu) up here =
        in_scripts fixed ls (greatest_in least script) cpu up here

-- ---- the operations at the places of a path

-- the latest ones are those of the place
along_at : (g : Setting) (news : List Record) (a : Along) → a.here ≡ ops_at g a.all
    → (fold (along_with g) a news).here ≡ ops_at g (fold (along_with g) a news).all
along_at g [] a at = at
along_at g (r ∷ news) a at = along_at g news (along_with g a r) refl

along_all : (g : Setting) (news : List Record) (a : Along)
    → (fold (along_with g) a news).all ≡ a.all ++ news
along_all g [] a = sym (append-nil a.all)
along_all g (r ∷ news) a = along_all g news (along_with g a r) ∙ append_assoc a.all (r ∷ []) news

abbrev begun : (g : Setting) → Along
begun g = record { all = []; earlier = []; here = ops_at g [] }

along_here : (g : Setting) (news : List Record) → (along g news).here ≡ ops_at g news
along_here g news = along_at g news (begun g) refl ∙ ap (ops_at g) (along_all g news (begun g))

-- one per processor
ops_many : (g : Setting) (news : List Record) → length (ops_at g news) ≡ length g.scripts
unfolding ops_at
ops_many g news = grind (arith, length-map-range_with_len)

-- the last ones of a list that ends with them
last_is : (count : ℕ) (earlier here : List ℕ) → length here ≡ count → last_of count (earlier ++ here) ≡ here
last_is count earlier here many =
    ap (λ (n : ℕ). drop n (earlier ++ here)) (omega (arith, many, length-append earlier here))
    ∙ drop-append_seam earlier here

-- as a range of the list
pub last_range : (count first size : ℕ) (numbers : List ℕ) → size ≡ length numbers → first ≡ size - count
    → slice_range numbers first size ≡ last_of count numbers
last_range count first size numbers many is = grind (arith, take_all, length-drop)

pub here_at : (g : Setting) (news : List Record) (l : LatestOps) → AreLatestAt g news l
    → latest_here l ≡ ops_at g news
here_at g news l are = grind (arith, last_is, ops_many, along_here)

-- after one call more
along_more : (g : Setting) (news : List Record) (r : Record)
    → (along g (news ++ r ∷ [])).earlier ++ (along g (news ++ r ∷ [])).here
    ≡ ((along g news).earlier ++ (along g news).here) ++ ops_at g (news ++ r ∷ [])
along_more g news r = rw (fold_push (along_with g) (begun g) news r, along_all g news (begun g))

pub latest_more : (g : Setting) (news : List Record) (r : Record) (old : LatestOps) (new ops : List ℕ)
    → new ≡ old.ops.items ++ ops → ops ≡ ops_at g (news ++ r ∷ []) → AreLatestAt g news old
    → new ≡ (along g (news ++ r ∷ [])).earlier ++ (along g (news ++ r ∷ [])).here
latest_more g news r old new ops is at are = rw (is, at, are.1, ← along_more g news r)

-- and back over it
pub latest_less : (g : Setting) (news : List Record) (r : Record) (l : LatestOps)
    → AreLatestAt g (news ++ r ∷ []) l
    → take (length l.ops.items - l.processors) l.ops.items ≡ (along g news).earlier ++ (along g news).here
latest_less g news r l are =
    let path : l.ops.items ≡ ((along g news).earlier ++ (along g news).here) ++ ops_at g (news ++ r ∷ []) =
    are.1 ∙ along_more g news r in
    ap (λ (all : List ℕ). take (length all - l.processors) all) path
    ∙ (ap (λ (n : ℕ). take n (((along g news).earlier ++ (along g news).here) ++ ops_at g (news ++ r ∷ [])))
    (omega (
      arith,
      are.0,
      ops_many g (news ++ r ∷ []),
      length-append ((along g news).earlier ++ (along g news).here) (ops_at g (news ++ r ∷ [])),
    )) ∙ take-append_seam ((along g news).earlier ++ (along g news).here) (ops_at g (news ++ r ∷ [])))

-- ---- the numbers at a place

-- operations have the numbers of the place
pub numbers_here : (g : Setting) (news : List Record) (fixed : ℕ) (l : LatestOps) (given : List ℕ)
    → fixed ≡ greatest_named g.scripts → given ≡ latest_here l → AreLatestAt g news l
    → number_of fixed given ≡ numbering g news
numbers_here g news fixed l given greatest told are = rw (greatest, told, here_at g news l are)
