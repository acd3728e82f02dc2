-- The answer to a Commit, and the lowest frame that it names.
use Rattle.std.proofs.Common.{◌≡◌, ℕ, zero, suc, ◌+◌, ◌*◌, ◌<◌, ◌≤◌, List, [], ◌∷◌, ◌++◌, Bool, true, false, not, cond, Option, Some, None, refl, ◌∙◌, ap, arith, ◌↔◌, inl, inr}
use Rattle.std.specs.Prelude.{filter, find, flat_map, is_none, nat_le, unwrap_or}
use Rattle.std.specs.Bool.{then_some}
use Rattle.std.specs.List.{list_all, range_with_len}
use Rattle.std.proofs.lemmas.Bool.{both_ways, lt-leb}
use Rattle.std.proofs.lemmas.Nat.{mul-le}
use Rattle.hp_units.specs.LayoutParts.{LayoutParts, IsLayout}
use Rattle.hp_units.specs.Arithmetic.{block_of, block_size, frames_of_block}
use Rattle.hp_units.specs.Choices.{first_some}
use Rattle.hp_units.specs.Memory.{Memory, row_of}
use Rattle.hp_units.specs.FreeAreas.{is_on}
use Rattle.hp_units.specs.Refusals.{frame_in_use, is_all_free, is_in_free_block, refusal_of}
use Rattle.hp_units.specs.Rows.{going_blocks, is_claimed_by, is_going, is_live}
use Rattle.hp_units.specs.Step.{answer, step}
use Rattle.hp_units.specs.Placement.{IsWellPlaced}
use Rattle.hp_laws.specs.Consequences.{IsFrameInUse, IsLowestInUse}
use Rattle.hp_laws.proofs.Names.{Commit, Done, NoCpu, NoOp, NotFree, Refused, Reply}
use Rattle.hp_units.proofs.ListEdits.{on_cases, on_tail}
use Rattle.hp_laws.proofs.Pageblocks.{on_range}
use Rattle.hp_laws.proofs.ConsequencesBlocks.{on_head}
use Rattle.hp_laws.proofs.ConsequencesCommits.{all_free-none, claimed_live, found_in_use, going_frame, none_in_use, tested_block}

-- ---- the answer to a Commit

-- by the frame that is found, and whether the operation is live
abbrev pub IsCommitReply : Option ℕ → Bool → Reply → Type 0
IsCommitReply (Some frame) live reply = reply ≡ Refused (NotFree frame)
IsCommitReply None true reply = reply ≡ Done
IsCommitReply None false reply = reply ≡ Refused NoOp

-- the reply of a Commit by a processor of the layout
pub commit_reply : (l : LayoutParts) (s : Memory) (serial cpu op : ℕ) → IsLayout l → IsWellPlaced l s
    → cpu < l.cpus
    → IsCommitReply (frame_in_use l s op) (is_live s.blocks op) (step l s serial cpu (Commit op)).reply
unfolding step refusal_of
commit_reply l s serial cpu op layout p low =
    by_tests (nat_le l.cpus cpu) (is_live s.blocks op)
    (list_all (is_all_free l s) (going_blocks l s.blocks op)) (frame_in_use l s op) (lt-leb l.cpus cpu low)
    (all_free-none l s op layout p)
    (λ frame e. (let h = found_in_use l s op frame p e in
    claimed_live s.blocks.rows op (block_of l frame) h.going.claimed))
  where
    by_tests : (bad live all : Bool) (o : Option ℕ) → bad ≡ false → all ≡ is_none o
        → ((frame : ℕ) → o ≡ Some frame → live ≡ true)
        → IsCommitReply o live
        (answer l s serial cpu (Commit op) (first_some (then_some bad NoCpu ∷ then_some (not live) NoOp
        ∷ then_some (not all) (NotFree (unwrap_or o 0)) ∷ []))).reply
    by_tests true live all o e f g = cc
    by_tests false true true None e f g = refl
    by_tests false false all None e f g = refl
    by_tests false true false (Some frame) e f g = refl
    by_tests false false all (Some frame) e f g = absurd (both_ways false refl (g frame refl))
    by_tests _ _ _ _ e f g = cc

-- ---- the lowest frame

-- the numbers of a list rise, from one on
abbrev IsRising : ℕ → List ℕ → Type 0
IsRising low [] = Unit {0}
IsRising low (x ∷ xs) = (low ≤ x) × IsRising (x + 1) xs

-- from a lower number on too
rising_low : (low more : ℕ) (xs : List ℕ) → low ≤ more → IsRising more xs → IsRising low xs
rising_low low more [] le h = tt
rising_low low more (x ∷ xs) le h = (omega (arith, h.0), h.1)

-- no number on the list is lower
rising_on : (low x : ℕ) (xs : List ℕ) → IsRising low xs → is_on x xs ≡ true → low ≤ x
rising_on low x [] h on = cc
rising_on low x (y ∷ ys) h on = elim (on_cases x y ys on) [
  | inl same ↦ omega (arith, h.0)
  | inr there ↦ omega (arith, h.0, rising_on (y + 1) x ys h.1 there)
]

-- a range rises
rising_range : (from count : ℕ) → IsRising from (range_with_len from count)
rising_range from zero = tt
rising_range from (suc count) = (omega arith, rising_range (from + 1) count)

-- what is left of a rising list rises
rising_filter : (p : ℕ → Bool) (low : ℕ) (xs : List ℕ) → IsRising low xs → IsRising low (filter p xs)
rising_filter p low [] h = tt
rising_filter p low (x ∷ xs) h = by_test (p x) h.0 (rising_filter p (x + 1) xs h.1)
  where
    by_test : (b : Bool) → low ≤ x → IsRising (x + 1) (filter p xs)
        → IsRising low (cond b (x ∷ filter p xs) (filter p xs))
    by_test true le rest = (le, rest)
    by_test false le rest = rising_low low _ _ (omega arith) rest

-- and so do two lists one above the other
rising_append : (low middle : ℕ) (xs ys : List ℕ) → IsRising low xs
    → ((x : ℕ) → is_on x xs ≡ true → x < middle) → low ≤ middle → IsRising middle ys → IsRising low (xs ++ ys)
rising_append low middle [] ys h below le k = rising_low low middle ys le k
rising_append low middle (x ∷ xs) ys h below le k = (
  h.0,
  rising_append (x + 1) middle xs ys h.1 (λ y on. below y (on_tail y x xs on))
      (omega (arith, below x (on_head x xs))) k,
)

-- the frames of rising blocks rise
rising_blocks : (l : LayoutParts) (low : ℕ) (blocks : List ℕ) → IsRising low blocks
    → IsRising (low * block_size l) (flat_map (frames_of_block l) blocks)
rising_blocks l low [] h = tt
rising_blocks l low (b ∷ bs) h =
    let size : ℕ = block_size l in
    let le : low * size ≤ b * size = mul-le low size b size h.0 (omega arith) in
    let next : (b + 1) * size ≡ b * size + size = grind arith in
    rising_append _ _ _ _ (rising_low _ _ _ le (rising_range _ size))
    (λ x on. omega (arith, next, (on_range x _ size on).high)) (omega (arith, next))
    (rising_blocks l (b + 1) bs h.1)

-- what is found on a rising list is the lowest that passes
find_lowest : (p : ℕ → Bool) (low x y : ℕ) (xs : List ℕ) → IsRising low xs → find p xs ≡ Some x
    → is_on y xs ≡ true → p y ≡ true → x ≤ y
find_lowest p low x y [] h e on passes = cc
find_lowest p low x y (z ∷ zs) h e on passes =
    by_test (p z) refl e (λ f there. find_lowest p (z + 1) x y zs h.1 f there passes)
  where
    by_test : (b : Bool) → p z ≡ b → cond b (Some z) (find p zs) ≡ Some x
        → (find p zs ≡ Some x → is_on y zs ≡ true → x ≤ y) → x ≤ y
    by_test true is f later =
        let same : z ≡ x = cc in
        elim (on_cases y z zs on) [
          | inl here ↦ omega arith
          | inr there ↦ omega (arith, rising_on _ y zs h.1 there)
        ]
    by_test false is f later = elim (on_cases y z zs on) [
      | inl here ↦ absurd (both_ways (p z) is (rw here passes))
      | inr there ↦ later f there
    ]

-- a test that does not pass fails
still_true : (b : Bool) → (b ≡ true → ⊥) → not b ≡ true
still_true true h = absurd (h refl)
still_true false h = refl

-- the frame that is found is the lowest in use
pub found_lowest : (l : LayoutParts) (s : Memory) (op frame : ℕ) → IsLayout l → IsWellPlaced l s
    → frame_in_use l s op ≡ Some frame → IsLowestInUse l s op frame
found_lowest l s op frame layout p e = record {
  here = found_in_use l s op frame p e;
  lowest =
      λ other h. find_lowest (λ (f : ℕ). not (is_in_free_block l s.free.areas f)) _ frame other _
      (rising_blocks l 0 _ (rising_filter (λ (b : ℕ). is_going (row_of s.blocks b)) 0 _
      (rising_filter (λ (b : ℕ). is_claimed_by op (row_of s.blocks b)) 0 _ (rising_range 0 _)))) e
      (going_frame l s op other layout p h.going) (still_true _
      (λ t. h.not_free (tested_block l _ other t)));
}

-- where a frame is in use, one is found
pub in_use_found : (l : LayoutParts) (s : Memory) (op frame : ℕ) → IsLayout l → IsWellPlaced l s
    → IsFrameInUse l s op frame → (found : ℕ) × (frame_in_use l s op ≡ Some found)
in_use_found l s op frame layout p h = by_found _ refl
  where
    by_found : (o : Option ℕ) → frame_in_use l s op ≡ o → (found : ℕ) × (frame_in_use l s op ≡ Some found)
    by_found None e = absurd (h.not_free (none_in_use l s op frame layout p e h.going))
    by_found (Some found) e = (found, e)

-- and the lowest is the one that is found
pub lowest_found : (l : LayoutParts) (s : Memory) (op frame : ℕ) → IsLayout l → IsWellPlaced l s
    → IsLowestInUse l s op frame → frame_in_use l s op ≡ Some frame
lowest_found l s op frame layout p h =
    let found = in_use_found l s op frame layout p h.here in
    let least = found_lowest l s op _ layout p found.1 in
    let low : found.0 ≤ frame = least.lowest frame h.here in
    let high : frame ≤ found.0 = h.lowest found.0 least.here in
    let same : found.0 ≡ frame = omega arith in
    found.1 ∙ ap (λ (n : ℕ). Some n) same

-- ---- which Commit is refused, and which is done

-- a refusal names the frame that is found
reply_found : (o : Option ℕ) (live : Bool) (reply : Reply) (frame : ℕ) → IsCommitReply o live reply
    → reply ≡ Refused (NotFree frame) → o ≡ Some frame
reply_found (Some found) live reply frame is e = cc
reply_found None true reply frame is e = cc
reply_found None false reply frame is e = cc

-- and the frame that is found is named
found_reply : (o : Option ℕ) (live : Bool) (reply : Reply) (frame : ℕ) → IsCommitReply o live reply
    → o ≡ Some frame → reply ≡ Refused (NotFree frame)
found_reply (Some found) live reply frame is e = cc
found_reply None live reply frame is e = cc

-- it is refused exactly where a frame is in use, and names the lowest
pub commit_refused : (l : LayoutParts) (s : Memory) (serial cpu op frame : ℕ) → IsLayout l → IsWellPlaced l s
    → cpu < l.cpus
    → ((step l s serial cpu (Commit op)).reply ≡ Refused (NotFree frame)) ↔ IsLowestInUse l s op frame
commit_refused l s serial cpu op frame layout p low =
    let reply : Reply = (step l s serial cpu (Commit op)).reply in
    let is : IsCommitReply (frame_in_use l s op) (is_live s.blocks op) reply =
    commit_reply l s serial cpu op layout p low in (
      λ e. found_lowest l s op frame layout p
          (reply_found _ _ reply frame is e),
      λ h. found_reply _ _ reply frame is
          (lowest_found l s op frame layout p h),
    )

-- it is refused exactly where there is such a frame
pub commit_some : (l : LayoutParts) (s : Memory) (serial cpu op : ℕ) → IsLayout l → IsWellPlaced l s
    → cpu < l.cpus
    → ((frame : ℕ) × ((step l s serial cpu (Commit op)).reply ≡ Refused (NotFree frame)))
    ↔ ((frame : ℕ) × IsFrameInUse l s op frame)
commit_some l s serial cpu op layout p low = (
  λ e. (e.0, ((commit_refused l s serial cpu op e.0 layout p low).0 e.1).here),
  λ h. (let found = in_use_found l s op h.0 layout p h.1 in (
    found.0,
    (commit_refused l s serial cpu op _ layout p low).1
        (found_lowest l s op _ layout p found.1),
  )),
)

-- where it is done the operation is live and none is found
reply_done : (o : Option ℕ) (live : Bool) (reply : Reply) → IsCommitReply o live reply → reply ≡ Done
    → (live ≡ true) × (o ≡ None)
reply_done (Some found) live reply is e = cc
reply_done None true reply is e = (refl, refl)
reply_done None false reply is e = cc

-- and where these hold it is done
done_reply : (o : Option ℕ) (live : Bool) (reply : Reply) → IsCommitReply o live reply → live ≡ true
    → ((frame : ℕ) → o ≡ Some frame → ⊥) → reply ≡ Done
done_reply (Some found) live reply is e none = absurd (none found refl)
done_reply None true reply is e none = is
done_reply None false reply is e none = cc

-- it is done exactly where the operation is live and no frame is in use
pub commit_done : (l : LayoutParts) (s : Memory) (serial cpu op : ℕ) → IsLayout l → IsWellPlaced l s
    → cpu < l.cpus
    → ((step l s serial cpu (Commit op)).reply ≡ Done)
    ↔ ((is_live s.blocks op ≡ true) × ((frame : ℕ) → IsFrameInUse l s op frame → ⊥))
commit_done l s serial cpu op layout p low =
    let reply : Reply = (step l s serial cpu (Commit op)).reply in
    let is : IsCommitReply (frame_in_use l s op) (is_live s.blocks op) reply =
    commit_reply l s serial cpu op layout p low in (
      λ e. (let done = reply_done _ _ reply is e in (
        done.0,
        λ frame h. (let found = in_use_found l s op frame layout p h in cc (done.1, found.1)),
      )),
      λ h. done_reply _ _ reply is h.0
          (λ frame e. h.1 frame (found_in_use l s op frame p e)),
    )
