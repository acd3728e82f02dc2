-- The journal of a net that grows by a step, or is cut, and what its entries show.
use Rattle.std.proofs.Common.{◌≡◌, ℕ, ◌<◌, ◌≤◌, ◌+◌, ◌-◌, List, [], ◌∷◌, ◌++◌, drop, length, take, Some, slice_get, refl, ap, subst, ◌∙◌, arith, inl, inr}
use Rattle.std.specs.List.{slice_range}
use Rattle.std.proofs.lemmas.List.{drop-append-le, drop_all, length-append, length-map, length-take-le, length_push, map_push, take-append-le, take-map, take-take, take_all}
use Rattle.std.proofs.lemmas.List.Folds.{drop_split}
use Rattle.std.proofs.lemmas.Bool.{cases_lt}
use Rattle.std.proofs.lemmas.Option.{slice_get_within}
use Rattle.hp_units.specs.LayoutParts.{LayoutParts}
use Rattle.hp_units.specs.Memory.{Memory}
use Rattle.hp_units.specs.Marks.{tag_of}
use Rattle.hp_units.specs.Placement.{IsWellPlaced}
use Rattle.hp_units.specs.History.{net_of, run, value_of}
use Rattle.hp_tape.specs.Bounds.{delta_bound}
use Rattle.hp_tape.specs.declared.deltas.Delta.{Delta}
use Rattle.hp_memory.specs.Memory.{LeadsBack}
use Rattle.hp_laws.proofs.Lists.{get_push_cases, get_some, get_take}
use Rattle.hp_history.specs.declared.entries.Entry.{Entry}
use Rattle.hp_history.specs.Course.{CourseValue}
use Rattle.hp_history.specs.Entries.{IsEntry, IsWayBack, start_of, tag_in}
use Rattle.hp_history.specs.Kept.{IsCourse, IsJournal}
use Rattle.hp_history.proofs.Deltas.{between-length, leads-append, leads-left, leads-none, past-split}
use Rattle.hp_history.proofs.Names.{Record}
use Rattle.hp_history.proofs.Starts.{start-past, start-push, start-take}

-- the same bound, between places that are equal to others
moved : {a b c d : ℕ} (n : ℕ) → a ≡ b → c ≡ d → b ≤ d + n → a ≤ c + n
moved n same also le = omega arith

-- an order, between places that are equal to others
placed_up : {a b c d : ℕ} → a ≡ c → b ≡ d → c ≤ d → a ≤ b
placed_up same also le = omega arith

-- what is no more than a part is no more than the whole
within_whole : {whole : ℕ} (a part more : ℕ) → a ≤ part → whole ≡ part + more → a ≤ whole
within_whole a part more le is = omega arith

-- how many there are between two places
few_between : {n : ℕ} (from to bound : ℕ) → n ≡ to - from → to ≤ from + bound → n ≤ bound
few_between from to bound is le = omega arith

-- ---- what a journal's places are

-- as many entries as steps
pub entry_count : {l : LayoutParts} {base : Memory} {before : ℕ} {net : List Record} {es : List Entry}
    {ds : List Delta}
    → IsJournal l base before net es ds → length es ≡ length net
entry_count {before = before} {net = net} {es = es} ok = grind (arith, length-map)

-- the deltas of a step begin on the tape
pub start_within : {l : LayoutParts} {base : Memory} {before : ℕ} {net : List Record} {es : List Entry}
    {ds : List Delta} (j : ℕ)
    → IsJournal l base before net es ds → start_of es (length ds) j ≤ length ds
start_within {es = es} {ds = ds} j ok =
    let far : start_of es (length ds) (length es + j) ≡ length ds =
    start-past es (length ds) (length es + j) (omega arith) in
    subst (λ (n : ℕ). start_of es (length ds) j ≤ n) far (ok.rising j (length es + j) (omega arith))

-- ---- no steps

none_leads : {l : LayoutParts} {base : Memory} (j : ℕ) → IsWellPlaced l base → 0 ≡ j
    → LeadsBack l (drop (start_of [] 0 j) []) (run l base []) (run l base (take j []))
unfolding run
none_leads {l = l} {base = base} j placed is = rw (← is) (leads-none placed)

-- the journal of no steps
pub journal_none : {l : LayoutParts} {base : Memory} (before : ℕ) → IsWellPlaced l base
    → IsJournal l base before [] [] []
journal_none {l = l} {base = base} before placed = record {
  tagged = refl;
  rising =
      λ i j le. placed_up (start-past [] 0 i (omega arith)) (start-past [] 0 j (omega arith)) (omega arith);
  few = λ j r at. absurd cc;
  leads = λ j le. none_leads j placed (omega arith);
}

-- ---- the first steps

module _ {l : LayoutParts} {base : Memory} {before : ℕ} {net : List Record} {es : List Entry}
    {ds : List Delta} (k : ℕ) (ok : IsJournal l base before net es ds) (le : k ≤ length net) where
  -- where the tape is cut
  cut_long : length (take (start_of es (length ds) k) ds) ≡ start_of es (length ds) k
  cut_long = length-take-le (start_of es (length ds) k) ds (start_within k ok)

  -- where they begin on the tape that is cut: as before, and past the cut at its end
  cut_start : (j : ℕ) → j ≤ k
      → start_of (take k es) (length (take (start_of es (length ds) k) ds)) j ≡ start_of es (length ds) j
  cut_start j low =
      let reach : k ≤ length es = omega (arith, le, entry_count ok) in
      ap (λ (n : ℕ). start_of (take k es) n j) cut_long ∙ start-take es (length ds) j k low reach

  cut_past : (j : ℕ) → k ≤ j
      → start_of (take k es) (length (take (start_of es (length ds) k) ds)) j ≡ start_of es (length ds) k
  cut_past j high =
      let reach : k ≤ length es = omega (arith, le, entry_count ok) in
      let few : length (take k es) ≤ j = omega (arith, high, length-take-le k es reach) in
      start-past (take k es) (length (take (start_of es (length ds) k) ds)) j few ∙ cut_long

  cut_rising : (i j : ℕ) → i ≤ j
      → start_of (take k es) (length (take (start_of es (length ds) k) ds)) i
      ≤ start_of (take k es) (length (take (start_of es (length ds) k) ds)) j
  cut_rising i j less = elim (cases_lt j k) [
    | inl below ↦
        placed_up (cut_start i (omega arith)) (cut_start j (omega arith)) (ok.rising i j less)
    | inr past ↦ elim (cases_lt i k) [
      | inl below ↦
          placed_up (cut_start i (omega arith)) (cut_past j past) (ok.rising i k (omega arith))
      | inr also ↦ placed_up (cut_past i also) (cut_past j past) (omega arith)
    ]
  ]

  cut_few : (j : ℕ) (r : Record) → slice_get (take k net) j ≡ Some r
      → start_of (take k es) (length (take (start_of es (length ds) k) ds)) (j + 1)
      ≤ start_of (take k es) (length (take (start_of es (length ds) k) ds)) j
      + delta_bound l (run l base (take j (take k net))) r.event
  cut_few j r at =
      let here = get_take k net r j at in
      let low : j ≤ k = omega (arith, here.0) in
      let next : j + 1 ≤ k = omega (arith, here.0) in
      rw (take-take j k net low) (moved (delta_bound l (run l base (take j net)) r.event)
      (cut_start (j + 1) next) (cut_start j low) (ok.few j r here.1))

  cut_leads : (j : ℕ) → j ≤ k
      → LeadsBack l (drop (start_of (take k es) (length (take (start_of es (length ds) k) ds)) j)
      (take (start_of es (length ds) k) ds)) (run l base (take k net)) (run l base (take j (take k net)))
  cut_leads j low =
      let mark = start_of es (length ds) k in
      let from = start_of es (length ds) j in
      let reach : j ≤ length net = omega (arith, low, le) in
      let split : drop from ds ≡ drop from (take mark ds) ++ drop mark ds =
      past-split from mark ds (ok.rising j k low) (start_within k ok) in
      let whole : LeadsBack l (drop from (take mark ds) ++ drop mark ds) (run l base net)
      (run l base (take j net)) = rw (← split) (ok.leads j reach) in
      rw (cut_start j low, take-take j k net low)
      (leads-left (drop from (take mark ds)) whole (ok.leads k le))

  -- the journal of the first steps
  pub journal_take : IsJournal l base before (take k net) (take k es) (take (start_of es (length ds) k) ds)
  journal_take = record {
    tagged = rw (← take-map (tag_in before) k es, ok.tagged) (take-map tag_of k net);
    rising = cut_rising;
    few = cut_few;
    leads = λ j less. cut_leads j (omega (arith, less, length-take-le k net le));
  }

-- ---- one step more

-- what is known of it: its entry, its record, and the deltas that it noted
pub record IsNext (l : LayoutParts) (base : Memory) (before : ℕ) (net : List Record) (ds : List Delta)
    (r : Record) (e : Entry) (new : List Delta) : Type 0 where
  pub tag : tag_in before e ≡ tag_of r
  pub start : e.start ≡ length ds
  pub few : length new ≤ delta_bound l (run l base net) r.event
  pub leads : LeadsBack l new (run l base (net ++ r ∷ [])) (run l base net)
  pub placed : IsWellPlaced l (run l base (net ++ r ∷ []))

next_past : (es : List Entry) (e : Entry) (end j : ℕ) → length es < j → start_of (es ++ e ∷ []) end j ≡ end
next_past es e end j high = start-past (es ++ e ∷ []) end j (omega (arith, high, length_push es e))

module _ {l : LayoutParts} {base : Memory} {before : ℕ} {net : List Record} {es : List Entry}
    {ds : List Delta} {r : Record} {e : Entry} {new : List Delta} (ok : IsJournal l base before net es ds)
    (next : IsNext l base before net ds r e new) where
  -- where the deltas of each step begin now
  next_start : (j : ℕ) → j ≤ length es
      → start_of (es ++ e ∷ []) (length (ds ++ new)) j ≡ start_of es (length ds) j
  next_start j low = start-push es e (length (ds ++ new)) j next.start low

  next_rising : (i j : ℕ) → i ≤ j
      → start_of (es ++ e ∷ []) (length (ds ++ new)) i ≤ start_of (es ++ e ∷ []) (length (ds ++ new)) j
  next_rising i j less =
      let all = length (ds ++ new) in
      elim (cases_lt (length es) j) [
        | inl past ↦ elim (cases_lt (length es) i) [
          | inl also ↦ placed_up (next_past es e all i also) (next_past es e all j past) (omega arith)
          | inr low ↦
              placed_up (next_start i low) (next_past es e all j past) (within_whole
              (start_of es (length ds) i) (length ds) (length new) (start_within i ok) (length-append ds new))
        ]
        | inr low ↦ placed_up (next_start i (omega arith)) (next_start j low) (ok.rising i j less)
      ]

  next_few : (j : ℕ) (x : Record) → slice_get (net ++ r ∷ []) j ≡ Some x
      → start_of (es ++ e ∷ []) (length (ds ++ new)) (j + 1)
      ≤ start_of (es ++ e ∷ []) (length (ds ++ new)) j
      + delta_bound l (run l base (take j (net ++ r ∷ []))) x.event
  next_few j x at =
      let count = entry_count ok in
      let begins = start_of (es ++ e ∷ []) (length (ds ++ new)) j in
      let ends = start_of (es ++ e ∷ []) (length (ds ++ new)) (j + 1) in
      elim (get_push_cases net r x j at) [
        | inl old ↦ (let below : j < length net = slice_get_within net j x old in
            let low : j ≤ length es = omega (arith, below, count) in
            let after : j + 1 ≤ length es = omega (arith, below, count) in
            let inside : j ≤ length net = omega arith in
            rw (take-append-le j net (r ∷ []) inside)
            (moved (delta_bound l (run l base (take j net)) x.event) (next_start (j + 1) after)
            (next_start j low) (ok.few j x old)))
        | inr last ↦ (let inside : j ≤ length net = omega (arith, last.0) in
            let low : j ≤ length es = omega (arith, last.0, count) in
            let past : length es < j + 1 = omega (arith, last.0, count) in
            let all : length es ≤ j = omega (arith, last.0, count) in
            let front : take j (net ++ r ∷ []) ≡ net =
            take-append-le j net (r ∷ []) inside ∙ take_all j net (omega (arith, last.0)) in
            let start : begins ≡ length ds = next_start j low ∙ start-past es (length ds) j all in
            let end : ends ≡ length ds + length new =
            next_past es e (length (ds ++ new)) (j + 1) past ∙ length-append ds new in
            rw front (subst (λ (y : Record). ends ≤ begins + delta_bound l (run l base net) y.event) last.1
            (omega arith)))
      ]

  next_leads : (j : ℕ) → j ≤ length net + 1
      → LeadsBack l (drop (start_of (es ++ e ∷ []) (length (ds ++ new)) j) (ds ++ new))
      (run l base (net ++ r ∷ [])) (run l base (take j (net ++ r ∷ [])))
  next_leads j le =
      let count = entry_count ok in
      let now = run l base (net ++ r ∷ []) in
      elim (cases_lt (length net) j) [
        | inl past ↦ (let beyond : length es < j = omega (arith, past, count) in
            let whole : take j (net ++ r ∷ []) ≡ net ++ r ∷ [] =
            take_all j (net ++ r ∷ []) (omega (arith, past, length_push net r)) in
            rw (next_past es e (length (ds ++ new)) j beyond, whole)
            (rw (drop_all (length (ds ++ new)) (ds ++ new) (omega arith)) (leads-none next.placed)))
        | inr inside ↦ (let low : j ≤ length es = omega (arith, inside, count) in
            let from = start_of es (length ds) j in
            let joined : LeadsBack l (drop from ds ++ new) now (run l base (take j net)) =
            leads-append (ok.leads j inside) next.leads in
            rw (next_start j low, take-append-le j net (r ∷ []) inside)
            (rw (drop-append-le from ds new (start_within j ok)) joined))
      ]

  -- the journal of one step more
  pub journal_push : IsJournal l base before (net ++ r ∷ []) (es ++ e ∷ []) (ds ++ new)
  journal_push = record {
    tagged = rw (map_push (tag_in before) es e, ok.tagged, next.tag, ← map_push tag_of net r);
    rising = next_rising;
    few = next_few;
    leads = λ j less. next_leads j (omega (arith, less, length_push net r));
  }

-- ---- what the journal shows

-- from where the deltas of a step begin, they lead back from the present state
pub way_back : (m : CourseValue) (es : List Entry) (ds : List Delta) (k : ℕ) → IsCourse m es ds
    → k ≤ length (net_of m.history) → IsWayBack m k (drop (start_of es (length ds) k) ds)
unfolding value_of
way_back m es ds k ok le = rw ok.history.state (ok.journal.leads k le)

-- the deltas between the beginnings of a step and of the next are those of the step
pub entry_shown : (m : CourseValue) (es : List Entry) (ds : List Delta) (at : ℕ) → IsCourse m es ds
    → at < length (net_of m.history)
    → IsEntry m at (slice_range ds (start_of es (length ds) at) (start_of es (length ds) (at + 1)))
entry_shown m es ds at ok below =
    let l = m.layout in
    let base = m.base in
    let net = net_of m.history in
    let from = start_of es (length ds) at in
    let to = start_of es (length ds) (at + 1) in
    let here = get_some net at below in
    let rises : from ≤ to = ok.journal.rising at (at + 1) (omega arith) in
    let reach : to ≤ length ds = start_within (at + 1) ok.journal in
    let inside : at ≤ length net = omega arith in
    let next : at + 1 ≤ length net = omega arith in
    record {
      made = here.0;
      here = here.1;
      few =
          few_between from to (delta_bound l (run l base (take at net)) here.0.event)
          (between-length from to ds rises reach) (ok.journal.few at here.0 here.1);
      leads =
          leads-left (slice_range ds from to) (rw (← drop_split ds from to rises)
          (ok.journal.leads at inside)) (ok.journal.leads (at + 1) next);
    }
