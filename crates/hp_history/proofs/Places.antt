-- Places in the journal, from the latest step down.
use Rattle.std.proofs.Common.{◌≡◌, ℕ, ◌<◌, ◌≤◌, ◌-◌, Bool, true, false, List, Some, None, slice_get, refl, ap, sym, subst, ◌∙◌, arith, inl, inr}
use Rattle.std.specs.Prelude.{◌==◌, ◌&&◌}
use Rattle.std.proofs.lemmas.Option.{same_Some}
use Rattle.std.proofs.lemmas.Bool.{cases_order, and_parts, and_from, false≢true}
use Rattle.hp_units.specs.Marks.{sole_at, is_opening, is_work_of, begins}
use Rattle.hp_laws.proofs.Undo.{sole_complete, sole_none, no_opening_works}
use Rattle.hp_history.proofs.Names.{Mark, Works, Tag}

-- the operation's Begin, with nothing but its own work after it
pub sole_found : (op : ℕ) (ts : List Tag) (k : ℕ) (t : Tag) → 0 < k → slice_get ts (k - 1) ≡ Some t
    → is_opening t.mark ≡ true → (t.serial == op) ≡ true
    → ((i : ℕ) (u : Tag) → k ≤ i → slice_get ts i ≡ Some u → is_work_of op u.mark ≡ true)
    → Some (k - 1) ≡ sole_at op ts
sole_found op ts k t pos here opens serial works =
    sym (sole_complete op ts (k - 1) (record {
      tag = t;
      here = here;
      opens = and_from (is_opening t.mark) (t.serial == op) opens serial;
      rest = λ i u lt e. works i u (omega arith) e;
    }))

-- a step that is neither the operation's Begin nor its own work: what stands after it doesn't matter
sole_missed : (op : ℕ) (ts : List Tag) (k : ℕ) (t : Tag) → 0 < k → slice_get ts (k - 1) ≡ Some t
    → begins op t ≡ false → is_work_of op t.mark ≡ false
    → ((i : ℕ) (u : Tag) → k ≤ i → slice_get ts i ≡ Some u → is_work_of op u.mark ≡ true)
    → None ≡ sole_at op ts
sole_missed op ts k t pos here opens work works =
    sym (sole_none op ts (λ j is. elim (cases_order (k - 1) j) [
      | inl same ↦
          false≢true (sym opens ∙ subst (λ (u : Tag). begins op u ≡ true)
          (sym (same_Some t is.tag (sym here ∙ (ap (λ i. slice_get ts i) same ∙ is.here)))) is.opens)
      | inr either ↦ elim either [
        | inl less ↦
            no_opening_works op is.tag.mark (and_parts (is_opening is.tag.mark) (is.tag.serial == op)
            is.opens).0 (works j is.tag (omega arith) is.here)
        | inr more ↦ false≢true (sym work ∙ is.rest (k - 1) t more here)
      ]
    ]))

-- another operation's Begin
pub sole_other : (op : ℕ) (ts : List Tag) (k : ℕ) (t : Tag) → 0 < k → slice_get ts (k - 1) ≡ Some t
    → is_opening t.mark ≡ true → (t.serial == op) ≡ false
    → ((i : ℕ) (u : Tag) → k ≤ i → slice_get ts i ≡ Some u → is_work_of op u.mark ≡ true)
    → None ≡ sole_at op ts
sole_other op ts k t pos here opens serial works =
    sole_missed op ts k t pos here (neither (is_opening t.mark) (t.serial == op) serial)
    (no_work t.mark opens) works
  where
    neither : (a b : Bool) → b ≡ false → (a && b) ≡ false
    neither true b e = e
    neither false b e = refl

    no_work : (m : Mark) → is_opening m ≡ true → is_work_of op m ≡ false
    no_work (Works own) e = absurd cc
    no_work _ e = refl

-- a step of no operation, or of another one
pub sole_broken : (op : ℕ) (ts : List Tag) (k : ℕ) (t : Tag) → 0 < k → slice_get ts (k - 1) ≡ Some t
    → is_opening t.mark ≡ false → is_work_of op t.mark ≡ false
    → ((i : ℕ) (u : Tag) → k ≤ i → slice_get ts i ≡ Some u → is_work_of op u.mark ≡ true)
    → None ≡ sole_at op ts
sole_broken op ts k t pos here opens work works = sole_missed op ts k t pos here (rw opens) work works

-- nothing but work of the operation
pub sole_empty : (op : ℕ) (ts : List Tag)
    → ((i : ℕ) (u : Tag) → 0 ≤ i → slice_get ts i ≡ Some u → is_work_of op u.mark ≡ true)
    → None ≡ sole_at op ts
sole_empty op ts works = grind (arith, sole_none, no_opening_works, and_parts)
