-- Which law an event of a memory block breaks first, by the tables.
use Rattle.std.proofs.Common.{◌≡◌, ℕ, ◌+◌, ◌*◌, ◌^◌, ◌<◌, ◌≤◌, Bool, true, false, not, cond, ◌&&◌, ◌==◌, Option, Some, None, refl, sym, ◌∙◌, arith, inl, inr}
use Rattle.std.proofs.lemmas.Bool.{and_parts, eqb-true, ne_eqb}
use Rattle.hp_judge.specs.Names.{LogEvent, Alloc, Free, OnlineBegins, OnlineEnds, OfflineBegins, OfflineEnds, Move, MachineSize, Law, Once, InUse, Present, Empty, Movable, GoingOnline, GoingOffline, Online, Offline, FrameSince, Phase, PhaseUnknown, PhaseGoingOnline, PhaseOnline, PhaseGoingOffline, PhaseOffline}
use Rattle.hp_judge.specs.Events.{block_of, allocates, allocates_unmovable, frees, is_of, is_online_begin, is_online_end, is_offline_begin, is_offline_end, leaves_offline}
use Rattle.hp_judge.specs.Laws.{offlines, IsPlace}
use Rattle.hp_judge.specs.Tables.{Tables, in_use_since, going_online_since, going_offline_since, online_since, offline_since, frame_at, block_at, IsLowest}
use Rattle.hp_judge.specs.Verdicts.{rank, ComesBefore, violation_in, NoViolation, IsFirstViolation, FindsViolation, violation_unless, transition_violation}
use Rattle.hp_judge.proofs.Lawful.{no_violation}
use Rattle.hp_judge.proofs.Pieces.{NoneInUse, within_from, within_parts, in_frames, block_frames}

-- ---- an event of a block names no frames

pub own_is : (b c : ℕ) (e : LogEvent) → is_of b e ≡ true → is_of c e ≡ (b == c)
own_is b c (OnlineBegins block zone) h = rw (eqb-true block b h)
own_is b c (OnlineEnds block ok) h = rw (eqb-true block b h)
own_is b c (OfflineBegins block) h = rw (eqb-true block b h)
own_is b c (OfflineEnds block ok) h = rw (eqb-true block b h)
own_is b c _ h = cc

not_of : (b c : ℕ) (e : LogEvent) → is_of b e ≡ true → c < b → is_of c e ≡ false
not_of b c e own less = own_is b c e own ∙ ne_eqb b c (λ same. omega arith)

record IsNoPiece (m : MachineSize) (f : ℕ) (e : LogEvent) : Type 0 where
  allocates_is : allocates m f e ≡ false
  frees_is : frees m f e ≡ false
  unmovable_is : allocates_unmovable m f e ≡ false

no_piece : (m : MachineSize) (b f : ℕ) (e : LogEvent) → is_of b e ≡ true → IsNoPiece m f e
no_piece m b f (Alloc frame order movable) h = absurd (cc)
no_piece m b f (Free frame order) h = absurd (cc)
no_piece m b f (Move from to) h = absurd (cc)
no_piece m b f _ h = record { allocates_is = refl; frees_is = refl; unmovable_is = refl }

-- the frame is one of a block that is offline after the event
record IsLeaving (t : Tables) (block f : ℕ) : Type 0 where
  low : block * 2 ^ t.size.block_order ≤ f
  high : f < block * 2 ^ t.size.block_order + 2 ^ t.size.block_order

leaving : (t : Tables) (block f : ℕ) (e : LogEvent) → is_of block e ≡ true
    → offlines t.size f e ≡ true → IsLeaving t block f
leaving t block f e own h =
    let both = and_parts (is_of (block_of t.size f) e) (leaves_offline e) h in
    let here : (block == block_of t.size f) ≡ true = sym (own_is block _ e own) ∙ both.0 in
    let parts = within_parts _ _ f (sym (block_frames t.size block f) ∙ here) in
    record { low = parts.0; high = parts.1 }

-- the laws of frames, if no frame is left behind
frames_quiet : (t : Tables) (block : ℕ) (e : LogEvent) → is_of block e ≡ true
    → NoneInUse t (block * 2 ^ t.size.block_order) (2 ^ t.size.block_order)
    → (law : Law) (f : ℕ) → rank law < 6 → violation_in t e law f ≡ None
frames_quiet t block e own none Once f low = rw (no_piece t.size block f e own).allocates_is refl
frames_quiet t block e own none InUse f low = rw (no_piece t.size block f e own).frees_is refl
frames_quiet t block e own none Present f low = rw (no_piece t.size block f e own).allocates_is refl
frames_quiet t block e own none Empty f low =
    no_violation _ _ (λ h. let l = leaving t block f e own h in none f l.low l.high)
frames_quiet t block e own none Movable f low = rw (no_piece t.size block f e own).unmovable_is refl
frames_quiet t block e own none _ f low = absurd (omega arith)

-- the law of a phase, which is asked for at the event's own block alone
at_own : (e : LogEvent) (block b : ℕ) (q : Bool) (since : ℕ → Option ℕ) → is_of block e ≡ true
    → (q ≡ true → since block ≡ None) → cond (is_of b e && q) (since b) None ≡ None
at_own e block b q since own h = no_violation _ _ (λ both.
    let parts = and_parts (is_of b e) q both in
    let same : block ≡ b = eqb-true block b (sym (own_is block b e own) ∙ parts.0) in
    rw (← same) (h parts.1))

-- the laws of phases, by the block's phase
phase_none : (t : Tables) (block : ℕ) (e : LogEvent) → is_of block e ≡ true
    → NoneInUse t (block * 2 ^ t.size.block_order) (2 ^ t.size.block_order)
    → (not (is_online_end e) ≡ true → going_online_since (block_at t.blocks block).phase ≡ None)
    → (not (is_offline_end e) ≡ true → going_offline_since (block_at t.blocks block).phase ≡ None)
    → (not (is_offline_begin e) ≡ true → online_since (block_at t.blocks block).phase ≡ None)
    → (not (is_online_begin e) ≡ true → offline_since (block_at t.blocks block).phase ≡ None)
    → NoViolation t.size (violation_in t e)
phase_none t block e own none c g n o GoingOnline b inside =
    at_own e block b _ (λ k. going_online_since (block_at t.blocks k).phase) own c
phase_none t block e own none c g n o GoingOffline b inside =
    at_own e block b _ (λ k. going_offline_since (block_at t.blocks k).phase) own g
phase_none t block e own none c g n o Online b inside =
    at_own e block b _ (λ k. online_since (block_at t.blocks k).phase) own n
phase_none t block e own none c g n o Offline b inside =
    at_own e block b _ (λ k. offline_since (block_at t.blocks k).phase) own o
phase_none t block e own none c g n o law f inside = frames_quiet t block e own none law f (omega arith)

-- the law of a phase holds at every block but the event's own
apart_from : (t : Tables) (block b : ℕ) (e : LogEvent) (law : Law) → is_of block e ≡ true → b < block
    → rank law ≡ 6 → violation_in t e law b ≡ None
apart_from t block b e GoingOnline own less r = rw (not_of block b e own less) refl
apart_from t block b e GoingOffline own less r = rw (not_of block b e own less) refl
apart_from t block b e Online own less r = rw (not_of block b e own less) refl
apart_from t block b e Offline own less r = rw (not_of block b e own less) refl
apart_from t block b e _ own less r = absurd (omega arith)

phase_first : (t : Tables) (block since : ℕ) (e : LogEvent) (law : Law) → is_of block e ≡ true
    → NoneInUse t (block * 2 ^ t.size.block_order) (2 ^ t.size.block_order)
    → IsPlace t.size law block → rank law ≡ 6 → violation_in t e law block ≡ Some since
    → IsFirstViolation t.size (violation_in t e) (record { law = law; place = block; since = since })
phase_first t block since e law own none inside r shown = record {
  is_place = inside;
  shows = shown;
  is_first = first;
}
  where
    first : (other : Law) (b : ℕ) → IsPlace t.size other b → ComesBefore other b law block
        → violation_in t e other b ≡ None
    first other b i (inl less) = frames_quiet t block e own none other b (omega (arith, r))
    first other b i (inr both) = apart_from t block b e other own both.1 (rw (both.0, r))

-- the law of one phase, which is broken unless a test holds
one_phase : (t : Tables) (block since : ℕ) (e : LogEvent) (law : Law) (holds : Bool) → is_of block e ≡ true
    → NoneInUse t (block * 2 ^ t.size.block_order) (2 ^ t.size.block_order)
    → IsPlace t.size law block → rank law ≡ 6 → (holds ≡ false → violation_in t e law block ≡ Some since)
    → (holds ≡ true → NoViolation t.size (violation_in t e))
    → FindsViolation t.size (violation_in t e) (violation_unless holds law block since)
one_phase t block since e law true own none inside r shown quiet = quiet refl
one_phase t block since e law false own none inside r shown quiet =
    phase_first t block since e law own none inside r (shown refl)

-- only the law of the block's own phase can be broken
pub phase_found : (t : Tables) (block : ℕ) (e : LogEvent) → block < t.size.blocks → is_of block e ≡ true
    → NoneInUse t (block * 2 ^ t.size.block_order) (2 ^ t.size.block_order) → (phase : Phase)
    → (block_at t.blocks block).phase ≡ phase
    → FindsViolation t.size (violation_in t e) (transition_violation phase block e)
phase_found t block e inside own none PhaseUnknown is =
    phase_none t block e own none (λ _. rw is) (λ _. rw is) (λ _. rw is) (λ _. rw is)
phase_found t block e inside own none (PhaseGoingOnline since) is =
    one_phase t block since e _ _ own none inside refl (λ h. rw (own, h, is) refl)
    (λ h. phase_none t block e own none (λ k. cc (rw h at k)) (λ _. rw is) (λ _. rw is) (λ _. rw is))
phase_found t block e inside own none (PhaseGoingOffline since) is =
    one_phase t block since e _ _ own none inside refl (λ h. rw (own, h, is) refl)
    (λ h. phase_none t block e own none (λ _. rw is) (λ k. cc (rw h at k)) (λ _. rw is) (λ _. rw is))
phase_found t block e inside own none (PhaseOnline since) is =
    one_phase t block since e Online _ own none inside refl (λ h. rw (own, h, is) refl)
    (λ h. phase_none t block e own none (λ _. rw is) (λ _. rw is) (λ k. cc (rw h at k)) (λ _. rw is))
phase_found t block e inside own none (PhaseOffline since) is =
    one_phase t block since e Offline _ own none inside refl (λ h. rw (own, h, is) refl)
    (λ h. phase_none t block e own none (λ _. rw is) (λ _. rw is) (λ _. rw is) (λ k. cc (rw h at k)))

-- ---- a block goes offline

-- a frame that is left behind
pub left_first : (t : Tables) (block : ℕ) (e : LogEvent) (found : FrameSince) → block < t.size.blocks
    → is_of block e ≡ true → leaves_offline e ≡ true
    → IsLowest (λ f. in_use_since (frame_at t.frames f)) (block * 2 ^ t.size.block_order)
    (2 ^ t.size.block_order) found
    → IsFirstViolation t.size (violation_in t e)
    (record { law = Empty; place = found.frame; since = found.since })
left_first t block e found inside own going low = record {
  is_place = in_frames t.size found.frame (rw (← eqb-true block (block_of t.size found.frame) here) inside);
  shows = rw (own_is block (block_of t.size found.frame) e own ∙ here, going) low.since_is;
  is_first = first;
}
  where
    here : (block == block_of t.size found.frame) ≡ true
    here = block_frames t.size block _ ∙ within_from _ _ _ low.low low.high

    first : (law : Law) (f : ℕ) → IsPlace t.size law f → ComesBefore law f Empty found.frame
        → violation_in t e law f ≡ None
    first Once f i b = rw (no_piece t.size block f e own).allocates_is refl
    first InUse f i b = rw (no_piece t.size block f e own).frees_is refl
    first Present f i b = rw (no_piece t.size block f e own).allocates_is refl
    first Empty f i (inl less) = absurd (omega arith)
    first Empty f i (inr both) =
        no_violation _ _ (λ h. let l = leaving t block f e own h in low.none_below f l.low both.1)
    first Movable f i b = rw (no_piece t.size block f e own).unmovable_is refl
    first _ f i (inl less) = absurd (omega arith)
    first _ f i (inr both) = absurd (cc both.0)
