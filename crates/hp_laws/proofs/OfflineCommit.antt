-- An operation that nothing disturbed commits: each frame of its going blocks is in a free block,
-- as it is nowhere else.
use Rattle.std.proofs.Common.{◌≡◌, ◌≢◌, ℕ, zero, suc, ◌+◌, ◌*◌, ◌/◌, ◌%◌, ◌<◌, List, [], ◌∷◌, ◌++◌, length, get_or, Bool, true, false, cond, Option, Some, None, map, slice_get, refl, ap, sym, ◌∙◌, arith, inl, inr, ◌==◌}
use Rattle.std.specs.Prelude.{position}
use Rattle.std.specs.List.{count_by, enumerate_from, list_any, position_from, sum_by}
use Rattle.std.specs.Option.{option_map, option_map_or, option_or}
use Rattle.std.proofs.lemmas.Iterator.Adapters.{position_from-zero}
use Rattle.std.proofs.lemmas.Bool.{and_parts, cases_lt, eqb-true}
use Rattle.std.proofs.lemmas.List.{get_or_past}
use Rattle.std.proofs.lemmas.List.Sums.{sum_by-cons}
use Rattle.std.proofs.lemmas.Option.{slice_get_within}
use Rattle.hp_units.specs.declared.plans.Item.{Item}
use Rattle.hp_units.specs.declared.rows.Pool.{Pool}
use Rattle.hp_units.specs.declared.rows.Pool.TheVariants.{Nu as NuPool, Nm as NmPool, Mm as MmPool}
use Rattle.hp_units.specs.LayoutParts.{LayoutParts, IsLayout}
use Rattle.hp_units.specs.Arithmetic.{block_of, block_of_pageblock}
use Rattle.hp_units.specs.Marks.{holds_only_own_work, is_opening, mark_of, tag_of}
use Rattle.hp_units.specs.Memory.{Memory, kernel_order, pool_index}
use Rattle.hp_units.specs.History.{IsLegal, is_refused, net_of, reply_of, run, value_of}
use Rattle.hp_units.specs.Pages.{holds, page_at, page_from}
use Rattle.hp_units.specs.Rows.{is_live}
use Rattle.hp_units.specs.Step.{step}
use Rattle.hp_units.specs.Placement.{IsWellPlaced, cached_places, covers, kernel_places, mapped_places}
use Rattle.hp_laws.specs.Consequences.{IsFrameOf, IsGoingFor, IsFrameInUse, IsInFreeBlock}
use Rattle.hp_laws.specs.Offline.{AreHeldBy, IsUndisturbed, drains_for}
use Rattle.hp_laws.proofs.Names.{Begin, Commit, Done, Record}
use Rattle.hp_laws.proofs.LawProofs.{last_follows, front_legal, opening_is_begin}
use Rattle.hp_laws.proofs.Lists.{get_left, one_if}
use Rattle.hp_laws.proofs.Net.{Numbered, run-append}
use Rattle.hp_laws.proofs.Earlier.{numbered_net}
use Rattle.hp_laws.proofs.OwnedContents.{AllSucceed}
use Rattle.hp_laws.proofs.States.{block_of-pageblock}
use Rattle.hp_units.proofs.KernelBlockFrames.{kernel_covered}
use Rattle.hp_laws.proofs.EventSteps.{run-placed, step-placed}
use Rattle.hp_laws.proofs.Commits.{going_plugged}
use Rattle.hp_laws.proofs.ConsequencesBlocks.{covered_in, free_block}
use Rattle.hp_laws.proofs.ConsequencesCommits.{found_in_use}
use Rattle.hp_laws.proofs.ConsequencesReplies.{IsCommitReply, commit_reply}
use Rattle.hp_laws.proofs.ConsequencesPlaces.{kernel_inside}
use Rattle.hp_laws.proofs.OfflineNet.{net_good, step_performed, succeed_behind}
use Rattle.hp_laws.proofs.OfflineClaims.{run-claims}
use Rattle.hp_laws.proofs.OfflineBegin.{begun_movable}
use Rattle.hp_laws.proofs.OfflineSteps.{IsDrained, own_run}

-- ---- places that a frame isn't in

-- lists that are all empty have no frame
empty_lists : (frame : ℕ) (lists : List (List ℕ)) → ((i : ℕ) → get_or lists i [] ≡ [])
    → sum_by (λ frames. count_by (λ other. other == frame) frames) lists ≡ 0
empty_lists frame [] e = refl
empty_lists frame (frames ∷ lists) e =
    omega (
      arith,
      sum_by-cons (λ (xs : List ℕ). count_by (λ other. other == frame) xs) frames lists,
      empty_lists frame lists (λ i. e (suc i)),
      ap (λ (xs : List ℕ). count_by (λ other. other == frame) xs) (e 0),
    )

-- the pool of a number
pool_of_index : (n : ℕ) → n < 3 → (pool : Pool) × (pool_index pool ≡ n)
pool_of_index zero low = (NuPool, refl)
pool_of_index (suc zero) low = (NmPool, refl)
pool_of_index (suc (suc zero)) low = (MmPool, refl)
pool_of_index (suc (suc (suc n))) low = absurd (omega arith)

-- where each processor is drained, no frame is on a list
pub none_cached : (l : LayoutParts) (s : Memory) (frame : ℕ) → IsWellPlaced l s
    → ((cpu : ℕ) → cpu < l.cpus → IsDrained s.free cpu) → cached_places s.free frame ≡ 0
none_cached l s frame p drained = empty_lists frame _ each
  where
    each : (i : ℕ) → get_or s.free.cached i [] ≡ []
    each i = elim (cases_lt i (length s.free.cached)) [
      | inl low ↦
          let pool = pool_of_index (i % 3) (omega arith) in
          let number : 3 * (i / 3) + pool_index pool.0 ≡ i = omega (arith, pool.1) in
          let cpu : i / 3 < l.cpus = omega (arith, p.in_order.shape.cached) in
          rw (← number) (drained _ cpu pool.0)
      | inr high ↦ get_or_past _ i [] high
    ]

-- a frame that has no page is in no entry of the table
no_entry_from : (frame n : ℕ) (row : List (Option ℕ)) → position_from (holds frame) n row ≡ None
    → count_by (holds frame) row ≡ 0
no_entry_from frame n [] e = refl
no_entry_from frame n (entry ∷ row) e =
    by_test _ refl e (no_entry_from frame (n + 1) row)
    (sum_by-cons (λ (x : Option ℕ). one_if (holds frame x)) entry row)
  where
    by_test : (b : Bool) → holds frame entry ≡ b
        → cond b (Some n) (position_from (holds frame) (n + 1) row) ≡ None
        → (position_from (holds frame) (n + 1) row ≡ None → count_by (holds frame) row ≡ 0)
        → count_by (holds frame) (entry ∷ row) ≡ one_if (holds frame entry) + count_by (holds frame) row
        → count_by (holds frame) (entry ∷ row) ≡ 0
    by_test true is e rest sum = cc
    by_test false is e rest sum = (let none = rest e in omega (arith, sum, ap one_if is))

-- of the whole table
no_page : (owner frame : ℕ) (table : List (List (Option ℕ))) → page_from owner table frame ≡ None
    → sum_by (λ row. count_by (holds frame) row) table ≡ 0
no_page owner frame [] e = refl
no_page owner frame (row ∷ rows) e =
    by_position _ refl e (no_page (owner + 1) frame rows)
    (sum_by-cons (λ (r : List (Option ℕ)). count_by (holds frame) r) row rows)
  where
    by_position : (o : Option ℕ) → position (holds frame) row ≡ o
        → option_or (option_map (λ page. (owner, page)) o) (page_from (owner + 1) rows frame) ≡ None
        → (page_from (owner + 1) rows frame ≡ None → sum_by (λ r. count_by (holds frame) r) rows ≡ 0)
        → sum_by (λ r. count_by (holds frame) r) (row ∷ rows)
        ≡ count_by (holds frame) row + sum_by (λ r. count_by (holds frame) r) rows
        → sum_by (λ r. count_by (holds frame) r) (row ∷ rows) ≡ 0
    by_position None is e rest sum = (let none = no_entry_from frame 0 row
        (sym (position_from-zero (holds frame) row) ∙ is) in let later = rest e in omega arith)
    by_position (Some page) is e rest sum = cc

-- a frame without a page is in no place of one
pub none_mapped : (s : Memory) (frame : ℕ) → page_at s.pages frame ≡ None → mapped_places s.pages frame ≡ 0
none_mapped s frame e = no_page 0 frame s.pages.table e

-- where no kernel's block has the frame, it is in none
kernel_sum : (frame n : ℕ) (entries : List (Option ℕ))
    → ((i : ℕ) → kernel_covered frame (n + i) (get_or entries i None) ≡ 0)
    → count_by (λ (entry : ℕ × Option ℕ). option_map_or (λ order. covers frame order entry.0) entry.1 false)
    (enumerate_from n entries) ≡ 0
kernel_sum frame n [] none = refl
kernel_sum frame n (entry ∷ entries) none =
    let start : n + 0 ≡ n = omega arith in
    let here : kernel_covered frame n entry ≡ 0 = rw (← start) (none 0) in
    let rest =
    kernel_sum frame (n + 1) entries (λ i. (let next : n + suc i ≡ n + 1 + i = omega arith in
    rw (← next) (none (suc i)))) in
    omega (
      arith,
      here,
      rest,
      sum_by-cons (λ (e : ℕ × Option ℕ). kernel_covered frame e.0 e.1) (n, entry)
          (enumerate_from (n + 1) entries),
    )

-- a frame of a block in which no kernel's block starts
pub none_kernel : (l : LayoutParts) (s : Memory) (op frame : ℕ) → IsWellPlaced l s
    → ((first : ℕ) → IsGoingFor l s op first → kernel_order s first ≡ None) → IsGoingFor l s op frame
    → kernel_places s frame ≡ 0
none_kernel l s op frame p movable h =
    kernel_sum frame 0 s.kernel (λ i. rw (← start i) (each i (kernel_order s i) refl))
  where
    start : (i : ℕ) → i ≡ 0 + i
    start i = omega arith

    each : (first : ℕ) (entry : Option ℕ) → kernel_order s first ≡ entry
        → kernel_covered frame first entry ≡ 0
    each first None e = refl
    each first (Some order) e = elim (cases_lt (kernel_covered frame first (Some order)) 1) [
      | inl none ↦ omega arith
      | inr some ↦
          let within : IsFrameOf frame order first = covered_in frame order first some in
          let same : block_of l frame ≡ block_of l first =
          block_of-pageblock l frame ∙ ap (λ (n : ℕ). block_of_pageblock l n)
          (kernel_inside l s first order frame p e within) ∙ sym (block_of-pageblock l first) in
          absurd (cc (e, movable first (moved first same)))
    ]
      where
        moved : (first : ℕ) → block_of l frame ≡ block_of l first → IsGoingFor l s op first
        moved first same = record {
          claimed = rw (← same) h.claimed;
          going = rw (← same) h.going;
        }

-- so each frame of its going blocks is in a free block
pub frame_free : (l : LayoutParts) (s : Memory) (op frame : ℕ) → IsWellPlaced l s
    → ((cpu : ℕ) → cpu < l.cpus → IsDrained s.free cpu)
    → ((first : ℕ) → IsGoingFor l s op first → kernel_order s first ≡ None)
    → page_at s.pages frame ≡ None → IsGoingFor l s op frame → IsInFreeBlock s.free.areas frame
frame_free l s op frame p drained movable unmapped h =
    free_block _ frame (omega (
      arith,
      p.once frame,
      none_cached l s frame p drained,
      none_mapped s frame unmapped,
      none_kernel l s op frame p movable h,
      ap one_if (going_plugged _ h.going),
    ))

-- ---- the state that the operation's own steps lead to

-- what a Commit needs
record IsReady (l : LayoutParts) (s : Memory) (op : ℕ) : Type 0 where
  pub placed : IsWellPlaced l s
  pub drained : (cpu : ℕ) → cpu < l.cpus → IsDrained s.free cpu
  pub movable : (first : ℕ) → IsGoingFor l s op first → kernel_order s first ≡ None
  pub live : is_live s.blocks op ≡ true

-- the frames of going blocks are the same while the rows are
going_same : (l : LayoutParts) (s t : Memory) (op frame : ℕ) → t.blocks ≡ s.blocks → IsGoingFor l t op frame
    → IsGoingFor l s op frame
going_same l s t op frame e h = record {
  claimed = rw (← e) h.claimed;
  going = rw (← e) h.going;
}

-- from its Begin in a state in which no row carries its number
ready : (l : LayoutParts) (s : Memory) (op cpu : ℕ) (plan : List Item) (work : List Record) → IsLayout l
    → IsWellPlaced l s → AreHeldBy (λ n. n ≢ op) s.blocks
    → is_refused (step l s op cpu (Begin plan)).reply ≡ false
    → holds_only_own_work op (map tag_of work) ≡ true
    → AllSucceed l (step l s op cpu (Begin plan)).memory work
    → ((c : ℕ) → c < l.cpus → list_any (λ (r : Record). drains_for op c r.event) work ≡ true)
    → IsReady l (run l (step l s op cpu (Begin plan)).memory work) op
ready l s op cpu plan work layout p claims good own succeeds drained =
    let performed = step_performed l s op cpu _ good in
    let begun : Memory = (step l s op cpu (Begin plan)).memory in
    let placed : IsWellPlaced l begun = step-placed l s op cpu _ layout p in
    let done = own_run l op begun work own succeeds in
    let end : Memory = run l begun work in
    let still : (first : ℕ) → IsGoingFor l begun op first → kernel_order begun first ≡ None =
    rw performed.memory (λ first h. begun_movable l s op plan first layout claims performed.free
    (rw (← performed.memory) placed) h) in
    record {
      placed = run-placed l begun work layout placed;
      drained = λ c low. done.drained c (drained c low);
      movable =
          λ first h. rw done.work.kernel (still first (going_same l begun end op first done.work.blocks h));
      live = rw done.work.blocks (done.live 0 (drained 0 (omega (arith, layout.some_cpus))));
    }

-- then its Commit is done
ready_done : (l : LayoutParts) (s : Memory) (serial cpu op : ℕ) → IsLayout l → cpu < l.cpus → IsReady l s op
    → ((frame : ℕ) → IsGoingFor l s op frame → page_at s.pages frame ≡ None)
    → (step l s serial cpu (Commit op)).reply ≡ Done
ready_done l s serial cpu op layout low r moved =
    by_reply _ _ (λ frame e. found_in_use l s op frame r.placed e)
    r.live (commit_reply l s serial cpu op layout r.placed low)
  where
    by_reply : (o : Option ℕ) (live : Bool) → ((frame : ℕ) → o ≡ Some frame → IsFrameInUse l s op frame)
        → live ≡ true → IsCommitReply o live (step l s serial cpu (Commit op)).reply
        → (step l s serial cpu (Commit op)).reply ≡ Done
    by_reply None true found is e = e
    by_reply None false found is e = cc
    by_reply (Some frame) live found is e =
        let h = found frame refl in
        absurd
        (h.not_free (frame_free l s op frame r.placed r.drained r.movable (moved frame h.going) h.going))

-- ---- in a history

-- the place after the first of two lists
get_middle : (xs ys : List Record) (y : Record) → slice_get (xs ++ y ∷ ys) (length xs) ≡ Some y
get_middle [] ys y = refl
get_middle (x ∷ xs) ys y = get_middle xs ys y

-- the steps before a place of a net have other serials
earlier_other : (before last : ℕ) (earlier work : List Record) (begin : Record)
    → Numbered before last (earlier ++ begin ∷ work) → (i : ℕ) (r : Record) → slice_get earlier i ≡ Some r
    → r.serial ≢ begin.serial
earlier_other before last earlier work begin h i r e =
    let within : i < length earlier = slice_get_within earlier i r e in
    let below : r.serial < begin.serial =
    h.rising i (length earlier) r begin within (get_left earlier _ i within ∙ e)
    (get_middle earlier work begin) in
    λ same. absurd (omega arith)

-- an operation that begins in a history has a number above those of all earlier records
pub undisturbed_new : (l : LayoutParts) (base : Memory) (before op : ℕ) (h : List Record) (s : Memory)
    → IsLegal l base before h → IsUndisturbed l s op (net_of h) → before < op
undisturbed_new l base before op h s legal u =
    let opens = and_parts (is_opening (mark_of u.begin.event)) (u.begin.serial == op) u.opens in
    let numbered = rw u.steps at (numbered_net l base before h legal) in
    rw (← eqb-true u.begin.serial op opens.1) (numbered.over (length u.earlier) u.begin
    (get_middle u.earlier u.work u.begin))

-- the state that an undisturbed operation leads to
undisturbed_ready : (l : LayoutParts) (base : Memory) (before op : ℕ) (h : List Record) → IsLayout l
    → IsWellPlaced l base → AreHeldBy (λ n. n ≢ op) base.blocks → IsLegal l base before h
    → IsUndisturbed l (value_of l base h) op (net_of h)
    → IsReady l (value_of l base h) op
unfolding value_of run
undisturbed_ready l base before op h layout p claims legal u =
    let opens = and_parts (is_opening (mark_of u.begin.event)) (u.begin.serial == op) u.opens in
    let event = opening_is_begin u.begin.event opens.0 in
    let serial : u.begin.serial ≡ op = eqb-true u.begin.serial op opens.1 in
    let numbered = rw u.steps at (numbered_net l base before h legal) in
    let start : Memory = run l base u.earlier in
    let succeeds : AllSucceed l start (u.begin ∷ u.work) =
    succeed_behind l base u.earlier (u.begin ∷ u.work) (rw (← u.steps) (net_good l base before h legal)) in
    let new : AreHeldBy (λ n. n ≢ op) start.blocks =
    run-claims l (λ n. n ≢ op) base u.earlier (λ i r e. rw (← serial) (earlier_other before
    (before + length h) u.earlier u.work u.begin numbered i r e)) claims in
    let whole : run l base (net_of h) ≡ run l start (u.begin ∷ u.work) =
    rw (u.steps, run-append l base u.earlier (u.begin ∷ u.work)) in
    rw whole (at_begin start u.begin u.work event.0 event.1 serial (run-placed l base u.earlier layout p) new
    succeeds u.own u.drained)
  where
    at_begin : (start : Memory) (begin : Record) (work : List Record) (plan : List Item)
        → begin.event ≡ Begin plan → begin.serial ≡ op → IsWellPlaced l start
        → AreHeldBy (λ n. n ≢ op) start.blocks
        → AllSucceed l start (begin ∷ work) → holds_only_own_work op (map tag_of work) ≡ true
        → ((c : ℕ) → c < l.cpus → list_any (λ (r : Record). drains_for op c r.event) work ≡ true)
        → IsReady l (run l (step l start begin.serial begin.cpu begin.event).memory work) op
    at_begin start begin work plan event serial placed new succeeds own drained =
        rw (event, serial)
        (ready l start op begin.cpu plan work layout placed new (rw (← serial, ← event) succeeds.0) own
        (rw (← serial, ← event) succeeds.1) drained)

-- the reply to a recorded Commit is that of the step
pub commit_step : (l : LayoutParts) (base : Memory) (before op : ℕ) (h : List Record) (r : Record)
    → IsLegal l base before (h ++ r ∷ []) → r.event ≡ Commit op
    → r.reply ≡ (step l (value_of l base h) (before + length h + 1) r.cpu (Commit op)).reply
unfolding reply_of
commit_step l base before op h r legal event = rw ((last_follows l base before h r legal).reply, event)

-- an operation that nothing disturbed commits
pub undisturbed_done : (l : LayoutParts) (base : Memory) (before op : ℕ) (h : List Record) (r : Record)
    → IsLayout l → IsWellPlaced l base → AreHeldBy (λ n. n ≢ op) base.blocks
    → IsLegal l base before (h ++ r ∷ [])
    → r.event ≡ Commit op → r.cpu < l.cpus → IsUndisturbed l (value_of l base h) op (net_of h)
    → r.reply ≡ Done
undisturbed_done l base before op h r layout p claims legal event low u =
    commit_step l base before op h r legal event ∙ ready_done l _ _ r.cpu op layout low
    (undisturbed_ready l base before op h layout p claims (front_legal l base before h r legal) u) u.moved
