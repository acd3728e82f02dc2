-- The entries of the steps that going back drops, and where their deltas lead.
use Rattle.std.specs.Prelude.{zero, suc, Result, Ok, Err, IfOk}
use Rattle.std.specs.List.{slice_range}
use Rattle.std.proofs.Common.{◌≡◌, ℕ, ◌+◌, ◌-◌, ◌<◌, ◌≤◌, true, List, [], ◌∷◌, ◌++◌, drop, length, take, Some, slice_get, refl, ap, sym, subst, ◌∙◌, arith, inr}
use Rattle.std.proofs.lemmas.List.{append-nil, append_assoc, drop_all}
use Rattle.std.proofs.lemmas.List.Folds.{drop_split}
use Rattle.std.proofs.lemmas.Option.{same_Some}
use Rattle.hp_units.specs.History.{goes_back, net_of, run}
use Rattle.hp_units.specs.declared.replies.Receipt.{Receipt}
use Rattle.hp_tape.specs.declared.deltas.Delta.{Delta}
use Rattle.hp_memory.specs.Memory.{MemoryValue}
use Rattle.hp_history.specs.declared.entries.Entry.{Entry}
use Rattle.hp_history.specs.Course.{CourseValue, IsAnswered, NeedsNoMemory, receipt_for}
use Rattle.hp_history.specs.Entries.{IsEntry, IsUndone, joined, start_of}
use Rattle.hp_history.specs.Kept.{IsCourse}
use Rattle.hp_history.proofs.Journals.{entry_count, entry_shown, way_back}
use Rattle.hp_history.proofs.Courses.{IsBack, cut_net, value_with}
use Rattle.hp_history.proofs.Names.{Event, Record, Reply}
use Rattle.hp_history.proofs.Starts.{start-past}

-- the deltas of so many steps from one on, where each begins at a place of the tape
abbrev entries_from : (start : ℕ → ℕ) → List Delta → (at count : ℕ) → List (List Delta)
entries_from start ds at zero = []
entries_from start ds at (suc count) =
    slice_range ds (start at) (start (at + 1)) ∷ entries_from start ds (at + 1) count

entries-length : (start : ℕ → ℕ) (ds : List Delta) (at count : ℕ)
    → length (entries_from start ds at count) ≡ count
entries-length start ds at zero = refl
entries-length start ds at (suc count) = ap suc (entries-length start ds (at + 1) count)

-- which deltas stand at each place
entries-get : (start : ℕ → ℕ) (ds : List Delta) (at count j : ℕ) (deltas : List Delta)
    → slice_get (entries_from start ds at count) j ≡ Some deltas
    → (j < count) × (deltas ≡ slice_range ds (start (at + j)) (start (at + j + 1)))
entries-get start ds at zero j deltas here = absurd cc
entries-get start ds at (suc count) zero deltas here =
    let place : at ≡ at + 0 = omega arith in (
      omega arith,
      rw (← place) (sym (same_Some (slice_range ds (start at) (start (at + 1))) deltas here)),
    )
entries-get start ds at (suc count) (suc j) deltas here =
    let rest = entries-get start ds (at + 1) count j deltas here in
    let place : at + 1 + j ≡ at + suc j = omega arith in (
      omega (arith, rest.0),
      subst (λ (n : ℕ). deltas ≡ slice_range ds (start n) (start (n + 1))) place rest.1,
    )

-- all of them are what stands from the first one on
entries-joined : (start : ℕ → ℕ) (ds : List Delta) (at count : ℕ)
    → ((i j : ℕ) → i ≤ j → start i ≤ start j)
    → joined (entries_from start ds at count) ++ drop (start (at + count)) ds ≡ drop (start at) ds
entries-joined start ds at zero rising =
    let same : at + 0 ≡ at = omega arith in ap (λ (n : ℕ). drop (start n) ds) same
entries-joined start ds at (suc count) rising =
    let first = slice_range ds (start at) (start (at + 1)) in
    let rest = joined (entries_from start ds (at + 1) count) in
    let place : at + suc count ≡ at + 1 + count = omega arith in
    ap (λ (n : ℕ). (first ++ rest) ++ drop (start n) ds) place
    ∙ (append_assoc first rest (drop (start (at + 1 + count)) ds)
    ∙ (ap (λ (xs : List Delta). first ++ xs) (entries-joined start ds (at + 1) count rising)
    ∙ sym (drop_split ds (start at) (start (at + 1)) (rising at (at + 1) (omega arith)))))

-- where the state is that of the first steps, the others are undone
pub undone : (m new : CourseValue) (es : List Entry) (ds : List Delta) (keep : ℕ) → IsCourse m es ds
    → keep ≤ length (net_of m.history) → net_of new.history ≡ take keep (net_of m.history)
    → new.state ≡ run m.layout m.base (take keep (net_of m.history)) → IsUndone m new
undone m new es ds keep ok within net state = record {
  keep = keep;
  entries = entries;
  dropped = omega (arith, entries-length start ds keep more, within);
  net = net;
  each = each;
  leads = rw (state, all) (way_back m es ds keep ok within);
}
  where
    start : ℕ → ℕ
    start j = start_of es (length ds) j

    more : ℕ
    more = length (net_of m.history) - keep

    entries : List (List Delta)
    entries = entries_from start ds keep more

    end : start (keep + more) ≡ length ds
    end =
        start-past es (length ds) (keep + more) (omega (
          arith,
          within,
          entry_count ok.journal,
        ))

    all : joined entries ≡ drop (start keep) ds
    all =
        sym (append-nil (joined entries))
        ∙ (rw (← ap (λ (n : ℕ). drop n ds) end ∙ drop_all (length ds) ds (omega arith)) (entries-joined start
        ds keep more ok.journal.rising))

    each : (j : ℕ) (deltas : List Delta) → slice_get entries j ≡ Some deltas → IsEntry m (keep + j) deltas
    each j deltas here =
        let found = entries-get start ds keep more j deltas here in
        rw found.1 (entry_shown m es ds (keep + j) ok (omega (arith, found.0, within)))

-- going back undoes the steps that it does not keep
pub cut_undone : {m : CourseValue} {es : List Entry} {ds : List Delta} {cpu keep : ℕ} {r : Receipt}
    {v : MemoryValue} {h : List Record} {left : List Entry} {kept : List Delta}
    → IsBack m es ds cpu keep r v h left kept → IsUndone m (value_with m.before m.base h v)
cut_undone {m = m} {es = es} {ds = ds} {cpu = cpu} {keep = keep} {r = r} {v = v} {h = h} back =
    undone m (value_with m.before m.base h v) es ds keep back.course back.cut.within
    (ap net_of back.history ∙ cut_net r back.cut) back.state

-- the answer of a step does not say that an earlier state is back
pub acted : {E : Type 0} (m new : CourseValue) (cpu : ℕ) (event : Event) (result : Result (ℕ × Reply) E)
    → (NeedsNoMemory m cpu event → ⊥)
    → IfOk result (λ answer. IsAnswered m cpu event (receipt_for event answer) new)
    → IfOk result (λ answer. goes_back answer.1 ≡ true → IsUndone m new)
acted m new cpu event (Ok answer) needs called = λ back. absurd (needs (inr (rw (← called.reply, back))))
acted m new cpu event (Err fault) needs called = tt
