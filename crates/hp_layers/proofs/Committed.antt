-- Operations that commit.
use Rattle.std.proofs.Common.{◌≡◌, ℕ, zero, suc, ◌+◌, ◌*◌, ◌<◌, ◌≤◌, Bool, true, false, ◌&&◌, List, [], ◌∷◌, ◌++◌, length, take, get_or, cond, Option, Some, None, refl, sym, ◌∙◌, ap, subst, arith}
use Rattle.std.specs.Prelude.{filter, fold, unwrap_or}
use Rattle.std.specs.List.{flat_map, list_all, range_with_len}
use Rattle.std.specs.Option.{option_map, option_map_or}
use Rattle.std.proofs.lemmas.Option.{same_Some}
use Rattle.std.proofs.lemmas.Bool.{or_left}
use Rattle.hp_units.specs.declared.events.Event.TheVariants.{Commit}
use Rattle.hp_units.specs.declared.replies.Refusal.TheVariants.{NotFree}
use Rattle.hp_units.specs.declared.replies.Reply.TheVariants.{Done, Refused}
use Rattle.hp_units.specs.declared.rows.Claim.{Claim}
use Rattle.hp_units.specs.declared.rows.Row.{Row}
use Rattle.hp_units.specs.declared.rows.Wish.{Wish}
use Rattle.hp_units.specs.declared.rows.Wish.TheVariants.{Off as OffWish}
use Rattle.hp_units.specs.LayoutParts.{LayoutParts, IsLayout}
use Rattle.hp_units.specs.Arithmetic.{all_blocks, frames_of_block}
use Rattle.hp_units.specs.Memory.{Blocks, Memory, row_of}
use Rattle.hp_units.specs.Placement.{is_unplugged, wishes_off}
use Rattle.hp_units.specs.Refusals.{frame_in_use, is_all_free}
use Rattle.hp_units.specs.Rows.{blocks_of, commit_block, commit_blocks, going_blocks, grant, is_claimed_by, is_going, is_live, is_off, is_offline_state, zone_of_block}
use Rattle.hp_tape.specs.declared.deltas.Delta.{Delta}
use Rattle.hp_tape.specs.Bounds.{committed_block_bound}
use Rattle.hp_tape.specs.Deltas.{Fits, undo}
use Rattle.hp_tape.specs.Tapes.{TapeValue}
use Rattle.hp_tape.proofs.Leads.{notes-more}
use Rattle.hp_laws.specs.Commits.{IsAllFree, IsGrantable}
use Rattle.hp_laws.proofs.Commits.{CommitsFrom, claim_going, claim_offline, commit_block-next, grantable, grantable_later}
use Rattle.hp_plain.specs.Asked.{asked}
use Rattle.hp_layers.specs.declared.layers.Layers.{Layers}
use Rattle.hp_layers.specs.Commits.{IsHeldBy, is_ready, leaving_frames}
use Rattle.hp_layers.specs.Layers.{ArePlaced, IsAnswered, IsOfMemory, state_of, view_of}
use Rattle.hp_layers.specs.Operations.{IsReworked}
use Rattle.hp_layers.proofs.Claims.{reworked-none}
use Rattle.hp_layers.proofs.OnlineBlocks.{reworked-led}
use Rattle.hp_layers.proofs.Placed.{tidy-placed}
use Rattle.hp_layers.proofs.Releases.{fold-further, reworked-answered}
use Rattle.hp_layers.proofs.States.{are-placed}

-- ---- a block gets its wish

-- a claim wishes Off exactly if its wish is Off
wished : (claim : Option Claim) (wish : Wish) → option_map (λ c. c.wish) claim ≡ Some wish
    → wishes_off claim ≡ is_off wish
wished None wish e = absurd (let f : None ≡ Some wish = e in cc)
wished (Some claim) wish e = ap is_off (same_Some claim.wish wish e)

-- a block that is to go offline is all free
pub may-go : (m : Layers) (block : ℕ) (wish : Wish) → ArePlaced m → IsGrantable m.layout (state_of m) block
    → option_map (λ c. c.wish) (row_of m.blocks.blocks block).claim ≡ Some wish → wish ≡ OffWish
    → IsAllFree m.layout m.frames.buddy.areas (zone_of_block m.blocks.blocks block) block
may-go m block wish p ready e w =
    let row : Row = row_of m.blocks.blocks block in
    ready (claim_going row.state row.zone row.claim (wished row.claim wish e ∙ ap is_off w)
    (p.placed.in_order.rows block))

-- a block that is to go online is offline or absent
stays-on : (wish : Wish) → (wish ≡ OffWish → ⊥) → is_off wish ≡ false
stays-on OffWish ne = absurd (ne refl)
stays-on _ ne = refl

pub may-come : (m : Layers) (block : ℕ) (wish : Wish) → ArePlaced m
    → option_map (λ c. c.wish) (row_of m.blocks.blocks block).claim ≡ Some wish → (wish ≡ OffWish → ⊥)
    → is_unplugged (row_of m.blocks.blocks block) ≡ true
may-come m block wish p e ne = by_claim (row_of m.blocks.blocks block).claim refl e
  where
    by_claim : (o : Option Claim) → (row_of m.blocks.blocks block).claim ≡ o
        → option_map (λ c. c.wish) o ≡ Some wish → is_unplugged (row_of m.blocks.blocks block) ≡ true
    by_claim None is f = absurd (let g : None ≡ Some wish = f in cc)
    by_claim (Some claim) is f =
        let row : Row = row_of m.blocks.blocks block in
        or_left (is_offline_state row.state) _ (claim_offline row.state row.zone row.claim claim is
        (wished row.claim wish e ∙ stays-on wish ne) (p.placed.in_order.rows block))

-- a commit gives a block the wish of its claim, and leaves a block without one as it is
pub granted : (m new : Layers) (block : ℕ) (wish : Wish) (most : ℕ) (was now : TapeValue)
    → option_map (λ c. c.wish) (row_of m.blocks.blocks block).claim ≡ Some wish
    → IsReworked m (grant m.layout (state_of m) block wish) most new was now
    → IsReworked m (commit_block m.layout (state_of m) block) most new was now
granted m new block wish most was now e r = by_claim (row_of m.blocks.blocks block).claim e
  where
    by_claim : (o : Option Claim) → option_map (λ c. c.wish) o ≡ Some wish
        → IsReworked m (option_map_or (λ c. grant m.layout (state_of m) block c.wish) o (state_of m)) most new
        was now
    by_claim None f = absurd (let g : None ≡ Some wish = f in cc)
    by_claim (Some claim) f = rw (same_Some claim.wish wish f) r

pub ungranted : (m : Layers) (block : ℕ) (most : ℕ) (tape : TapeValue) → ArePlaced m
    → option_map (λ c. c.wish) (row_of m.blocks.blocks block).claim ≡ None
    → IsReworked m (commit_block m.layout (state_of m) block) most m tape tape
ungranted m block most tape p e = by_claim (row_of m.blocks.blocks block).claim e
  where
    by_claim : (o : Option Claim) → option_map (λ c. c.wish) o ≡ None
        → IsReworked m (option_map_or (λ c. grant m.layout (state_of m) block c.wish) o (state_of m)) most m
        tape tape
    by_claim None f = reworked-none m most tape p.one (tidy-placed m p)
    by_claim (Some claim) f = absurd (let g : Some claim.wish ≡ None = f in cc)

-- a change may note fewer deltas than its bound
pub reworked_more : (m : Layers) (s : Memory) (most more : ℕ) (new : Layers) (was now : TapeValue)
    → most ≤ more → IsReworked m s most new was now → IsReworked m s more new was now
reworked_more m s most more new was now le r = record {
  one = r.one;
  layout = r.layout;
  pages = r.pages;
  kernel = r.kernel;
  tidy = r.tidy;
  state = r.state;
  notes = notes-more IsOfMemory Fits undo m.layout most more was now (view_of new) (view_of m) le r.notes;
}

-- ---- the blocks of an operation, one after another

-- a state in the middle of a commit, as far as the blocks that are left need it
pub record IsCommitting (l : LayoutParts) (s : Memory) (blocks : List ℕ) (number : ℕ)
    (t : Memory) : Type 0 where
  pub from : ℕ
  pub commits : CommitsFrom l s from t
  pub left : (k : ℕ) → number ≤ k → k < length blocks → from ≤ get_or blocks k 0

pub committing-none : (m : Layers) (blocks : List ℕ) → ArePlaced m
    → IsCommitting m.layout (state_of m) blocks 0 (state_of m)
committing-none m blocks p =
    record {
      from = 0;
      commits =
          record { placed = p.placed; later = λ block above. refl; stays = λ class pageblock above on. on };
      left = λ k low short. omega arith;
    }

-- the state as the next block finds it
pub commits-at : (l : LayoutParts) (s : Memory) (blocks : List ℕ) (number block : ℕ) (t : Memory)
    → number < length blocks → get_or blocks number 0 ≡ block → IsCommitting l s blocks number t
    → CommitsFrom l s block t
commits-at l s blocks number block t low here h =
    let le = h.left number (omega arith) low in
    record {
      placed = h.commits.placed;
      later = λ b above. h.commits.later b (omega (arith, le, here));
      stays = λ class pageblock above on. h.commits.stays class pageblock (omega (arith, le, here)) on;
    }

pub committing-next : (l : LayoutParts) (s : Memory) (blocks : List ℕ) (number block : ℕ) → IsLayout l
    → number < length blocks → get_or blocks number 0 ≡ block → block < l.blocks → IsGrantable l s block
    → ((k j : ℕ) → k < j → j < length blocks → get_or blocks k 0 < get_or blocks j 0)
    → IsCommitting l s blocks number (fold (commit_block l) s (take number blocks))
    → IsCommitting l s blocks (number + 1) (fold (commit_block l) s (take (number + 1) blocks))
committing-next l s blocks number block layout low here inside ready rise h =
    let t = fold (commit_block l) s (take number blocks) in
    record {
      from = block + 1;
      commits =
          rw (fold-further (commit_block l) s blocks number block low here) (commit_block-next l s t block
          layout inside ready (commits-at l s blocks number block t low here h));
      left = λ k above short. (let more = rise number k (omega arith) short in omega (arith, more, here));
    }

-- in the middle of a commit the layers are placed, and the next block may get its wish
pub middle-placed : (m n : Layers) (t : Memory) (blocks : List ℕ) (number most : ℕ) (was mid : TapeValue)
    → ArePlaced m → IsReworked m t most n was mid → IsCommitting m.layout (state_of m) blocks number t
    → ArePlaced n
middle-placed m n t blocks number most was mid p r h =
    (are-placed m n t (reworked-led m n t most was mid p r) h.commits.placed).0

pub middle-ready : (m n : Layers) (t : Memory) (blocks : List ℕ) (number block most : ℕ) (was mid : TapeValue)
    → IsReworked m t most n was mid → number < length blocks → get_or blocks number 0 ≡ block
    → IsCommitting m.layout (state_of m) blocks number t → IsGrantable m.layout (state_of m) block
    → IsGrantable n.layout (state_of n) block
middle-ready m n t blocks number block most was mid r low here h ready =
    rw r.layout (subst (λ (u : Memory). IsGrantable m.layout u block) (sym r.state) (grantable_later m.layout
    (state_of m) t block ready (commits-at m.layout (state_of m) blocks number block t low here h)))

-- ---- the tests, block by block

pub ready-all : (l : LayoutParts) (s : Memory) (xs : List ℕ)
    → list_all (is_ready l s) xs
    ≡ list_all (is_all_free l s) (filter (λ block. is_going (row_of s.blocks block)) xs)
ready-all l s [] = refl
ready-all l s (x ∷ xs) =
    go (is_going (row_of s.blocks x)) (list_all (is_ready l s) xs)
    (filter (λ block. is_going (row_of s.blocks block)) xs) (ready-all l s xs)
  where
    go : (b rest : Bool) (ys : List ℕ) → rest ≡ list_all (is_all_free l s) ys
        → (cond b (is_all_free l s x) true && rest) ≡ list_all (is_all_free l s) (cond b (x ∷ ys) ys)
    go true rest ys e = ap (λ (r : Bool). is_all_free l s x && r) e
    go false rest ys e = e

pub leaving-all : (l : LayoutParts) (s : Memory) (xs : List ℕ)
    → flat_map (leaving_frames l s) xs
    ≡ flat_map (frames_of_block l) (filter (λ block. is_going (row_of s.blocks block)) xs)
leaving-all l s [] = refl
leaving-all l s (x ∷ xs) =
    go (is_going (row_of s.blocks x)) (flat_map (leaving_frames l s) xs)
    (filter (λ block. is_going (row_of s.blocks block)) xs) (leaving-all l s xs)
  where
    go : (b : Bool) (rest ys : List ℕ) → rest ≡ flat_map (frames_of_block l) ys
        → cond b (frames_of_block l x) [] ++ rest ≡ flat_map (frames_of_block l) (cond b (x ∷ ys) ys)
    go true rest ys e = ap (λ (r : List ℕ). frames_of_block l x ++ r) e
    go false rest ys e = e

-- ---- the list of an operation's blocks

-- of the numbers from `from` on, those that pass a test are not below `from`
filter-above : (p : ℕ → Bool) (from count k : ℕ) → k < length (filter p (range_with_len from count))
    → from ≤ get_or (filter p (range_with_len from count)) k 0
filter-above p from zero k short = absurd (omega arith)
filter-above p from (suc count) k short =
    kept (p from) from (filter p (range_with_len (from + 1) count)) (filter-above p (from + 1) count) k short
  where
    kept : (b : Bool) (x : ℕ) (xs : List ℕ) → ((k : ℕ) → k < length xs → x + 1 ≤ get_or xs k 0) → (k : ℕ)
        → k < length (cond b (x ∷ xs) xs) → x ≤ get_or (cond b (x ∷ xs) xs) k 0
    kept true x xs rest zero short = omega arith
    kept true x xs rest (suc k) short = let above = rest k (omega arith) in omega (arith, above)
    kept false x xs rest k short = let above = rest k short in omega (arith, above)

-- and each of them is less than those after it
filter-rises : (p : ℕ → Bool) (from count k j : ℕ) → k < j → j < length (filter p (range_with_len from count))
    → get_or (filter p (range_with_len from count)) k 0 < get_or (filter p (range_with_len from count)) j 0
filter-rises p from zero k j less short = absurd (omega arith)
filter-rises p from (suc count) k j less short =
    kept (p from) from (filter p (range_with_len (from + 1) count)) (filter-above p (from + 1) count)
    (filter-rises p (from + 1) count) k j less short
  where
    kept : (b : Bool) (x : ℕ) (xs : List ℕ) → ((k : ℕ) → k < length xs → x + 1 ≤ get_or xs k 0)
        → ((k j : ℕ) → k < j → j < length xs → get_or xs k 0 < get_or xs j 0)
        → (k j : ℕ) → k < j → j < length (cond b (x ∷ xs) xs)
        → get_or (cond b (x ∷ xs) xs) k 0 < get_or (cond b (x ∷ xs) xs) j 0
    kept true x xs above rest zero zero less short = absurd (omega arith)
    kept true x xs above rest zero (suc j) less short =
        let more = above j (omega arith) in omega (arith, more)
    kept true x xs above rest (suc k) zero less short = absurd (omega arith)
    kept true x xs above rest (suc k) (suc j) less short = rest k j (omega arith) (omega arith)
    kept false x xs above rest k j less short = rest k j less short

filter-holds : (p : ℕ → Bool) (xs : List ℕ) (k : ℕ) → k < length (filter p xs)
    → p (get_or (filter p xs) k 0) ≡ true
filter-holds p [] k short = absurd (omega arith)
filter-holds p (x ∷ xs) k short = kept (p x) refl (filter-holds p xs) k short
  where
    kept : (b : Bool) → p x ≡ b → ((k : ℕ) → k < length (filter p xs) → p (get_or (filter p xs) k 0) ≡ true)
        → (k : ℕ) → k < length (cond b (x ∷ filter p xs) (filter p xs))
        → p (get_or (cond b (x ∷ filter p xs) (filter p xs)) k 0) ≡ true
    kept true e rest zero short = e
    kept true e rest (suc k) short = rest k (omega arith)
    kept false e rest k short = rest k short

pub blocks-rise : (l : LayoutParts) (bs : Blocks) (op : ℕ) (blocks : List ℕ) → blocks ≡ blocks_of l bs op
    → (k j : ℕ) → k < j → j < length blocks → get_or blocks k 0 < get_or blocks j 0
blocks-rise l bs op blocks is = rw is (filter-rises (λ block. is_claimed_by op (row_of bs block)) 0 l.blocks)

pub blocks-grantable : (l : LayoutParts) (s : Memory) (op : ℕ) (blocks : List ℕ)
    → blocks ≡ blocks_of l s.blocks op → ((k : ℕ) → k < length blocks → get_or blocks k 0 < l.blocks)
    → list_all (is_ready l s) blocks ≡ true → (k : ℕ) → k < length blocks
    → IsGrantable l s (get_or blocks k 0)
blocks-grantable l s op blocks is within all k short =
    grantable l s op (sym (ready-all l s (blocks_of l s.blocks op))
    ∙ (ap (list_all (is_ready l s)) (sym is) ∙ all)) (get_or blocks k 0) (within k short)
    (subst
    (λ (xs : List ℕ). (k : ℕ) → k < length xs → is_claimed_by op (row_of s.blocks (get_or xs k 0)) ≡ true)
    (sym is) (filter-holds (λ block. is_claimed_by op (row_of s.blocks block)) (all_blocks l)) k short)

-- ---- the answer

pub commit-refused : (m : Layers) (op : ℕ) (blocks : List ℕ) (frame : ℕ) → is_live m.blocks.blocks op ≡ true
    → blocks ≡ blocks_of m.layout m.blocks.blocks op
    → IsHeldBy m.layout (state_of m) blocks frame
    → asked m.layout (state_of m) 0 (Commit op)
    ≡ record { memory = state_of m; reply = Refused (NotFree frame) }
commit-refused m op blocks frame live is held =
    let l = m.layout in
    let s = state_of m in
    let all = blocks_of l s.blocks op in
    let here : frame ≡ unwrap_or (frame_in_use l s op) 0 = rw (held.1, is, leaving-all l s all) in
    (rw (live, (sym (ready-all l s all) ∙ (ap (list_all (is_ready l s)) (sym is) ∙ held.0))) refl)
    ∙ ap (λ (n : ℕ). record { memory = s; reply = Refused (NotFree n) }) (sym here)

committed : (l : LayoutParts) (s : Memory) (op : ℕ) → is_live s.blocks op ≡ true
    → list_all (is_all_free l s) (going_blocks l s.blocks op) ≡ true
    → asked l s 0 (Commit op)
    ≡ record { memory = fold (commit_block l) s (blocks_of l s.blocks op); reply = Done }
unfolding commit_blocks
committed l s op live all = rw (live, all) refl

pub commit-done : {before : List Delta} (m new : Layers) (op : ℕ) (blocks : List ℕ) (was now : TapeValue)
    → ArePlaced m → was.deltas ≡ before → is_live m.blocks.blocks op ≡ true
    → blocks ≡ blocks_of m.layout m.blocks.blocks op → list_all (is_ready m.layout (state_of m)) blocks ≡ true
    → IsReworked m (fold (commit_block m.layout) (state_of m) blocks)
    (length blocks * committed_block_bound m.layout) new was now
    → IsAnswered m (Commit op) (asked m.layout (state_of m) 0 (Commit op)) new before now.deltas Done
commit-done {before} m new op blocks was now p same live is ready r =
    let l = m.layout in
    let s = state_of m in
    let all = blocks_of l m.blocks.blocks op in
    let free = sym (ready-all l s all) ∙ (ap (list_all (is_ready l s)) (sym is) ∙ ready) in
    rw (committed l s op live free) (reworked-answered m new (Commit op) (fold (commit_block l) s all) Done
    (length all * committed_block_bound l) was now p same (omega arith) (rw (← is) r))
