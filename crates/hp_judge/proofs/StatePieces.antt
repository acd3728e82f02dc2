-- The pieces of a well placed state: where they lie, and that no two have a frame in common.
use Rattle.std.proofs.Common.{◌≡◌, ℕ, ◌+◌, ◌*◌, ◌%◌, ◌^◌, ◌<◌, ◌≤◌, true, false, ◌||◌, length, Option, Some, None, IfSome, is_some, refl, sym, ◌∙◌, subst, arith, ◌⊎◌, inl, inr, get_or-set_other, rules}
use Rattle.std.proofs.lemmas.Bool.{both_ways, cases_eq, cases_lt, and_from, eq-eqb, le-leb, lt-ltb}
use Rattle.std.proofs.lemmas.Nat.{pow_below, pow_pos}
use Rattle.std.proofs.lemmas.Option.{same_Some}
use Rattle.std.proofs.Math.Nat.{mul-le-mul_right}
use Rattle.hp_units.specs.Arithmetic.{block_of, frame_count}
use Rattle.hp_units.specs.LayoutParts.{IsLayout, LayoutParts}
use Rattle.hp_units.specs.Memory.{Memory, kernel_order, row_of, with_kernel_order}
use Rattle.hp_units.specs.Pages.{frame_at, page_at}
use Rattle.hp_units.specs.Placement.{IsKernelAt, IsWellPlaced, kernel_places, mapped_places}
use Rattle.hp_units.specs.Rows.{is_going_state, is_online_state}
use Rattle.hp_laws.specs.Consequences.{IsFrameOf, IsPluggedIn}
use Rattle.hp_units.proofs.KernelBlockFrames.{kernel-places}
use Rattle.hp_units.proofs.Tables.{mapped_some, table_of}
use Rattle.hp_laws.proofs.ConsequencesBlocks.{in_covered}
use Rattle.hp_laws.proofs.ConsequencesPlaces.{kernel_inside, kernel_zone, page_plugged, plugged, zone_plugged}
use Rattle.hp_laws.proofs.Migrations.{page_found}
use Rattle.hp_laws.proofs.States.{block_of-pageblock, in_layout}
use Rattle.hp_laws.proofs.Tables.{live_row}
use Rattle.hp_judge.specs.Events.{block_of as log_block_of, is_piece, lies_within}
use Rattle.hp_judge.proofs.Pieces.{within_parts}
use Rattle.hp_judge.specs.Logs.{IsSizeOf}
use Rattle.hp_judge.specs.LawfulNames.{Claim, MachineSize, NormalZone, State, OnlineState, GoingState, Zone}
use Rattle.hp_judge.specs.Phases.{phase_by, phase_of}
use Rattle.hp_judge.specs.Pieces.{Piece, is_frame_of, kernel_piece, page_piece, piece_at, piece_by}
use Rattle.hp_judge.proofs.PieceEvents.{AreApart, IsAtHome}
use Rattle.hp_judge.proofs.Turns.{is_normal, is_offline}

-- ---- a piece is a kernel's block or a page

record IsKernelPiece (s : Memory) (n : ℕ) (piece : Piece) : Type 0 where
  pub order_is : kernel_order s n ≡ Some piece.order

record IsPagePiece (s : Memory) (n : ℕ) (piece : Piece) : Type 0 where
  pub owner : ℕ
  pub page : ℕ
  pub here : frame_at s.pages owner page ≡ Some n
  pub order_is : piece.order ≡ 0
  pub movable_is : piece.movable ≡ true

piece_cases : (s : Memory) (n : ℕ) (piece : Piece) → piece_at s n ≡ Some piece
    → IsKernelPiece s n piece ⊎ IsPagePiece s n piece
piece_cases s n piece e = by_kernel _ refl e
  where
    by_page : (o : Option (ℕ × ℕ)) → page_at s.pages n ≡ o → piece_by None (is_some o) ≡ Some piece
        → IsPagePiece s n piece
    by_page None at e = absurd (cc)
    by_page (Some page) at e =
        let same : page_piece ≡ piece = same_Some page_piece piece e in
        record {
          owner = page.0;
          page = page.1;
          here = page_found s n page at;
          order_is = rw (← same);
          movable_is = rw (← same);
        }

    by_kernel : (o : Option ℕ) → kernel_order s n ≡ o
        → piece_by o (is_some (page_at s.pages n)) ≡ Some piece
        → IsKernelPiece s n piece ⊎ IsPagePiece s n piece
    by_kernel (Some order) at e =
        inl (record { order_is = rw (at, ← same_Some (kernel_piece order) piece e) })
    by_kernel None at e = inr (by_page _ refl e)

-- the frames of a piece are those of its order
frame_within : (f n order : ℕ) → lies_within n (2 ^ order) f ≡ true → IsFrameOf f order n
frame_within f n order is =
    let parts = within_parts n _ f is in
    record { low = parts.0; high = parts.1 }

-- the only frame of a page
page_frame : (s : Memory) (f n : ℕ) (piece : Piece) → piece.order ≡ 0
    → lies_within n (2 ^ piece.order) f ≡ true → f ≡ n
page_frame s f n piece single is =
    let within = frame_within f n _ is in
    let one : 2 ^ piece.order ≡ 1 = rw single in
    let high : f < n + 2 ^ piece.order = within.high in
    let low : n ≤ f = within.low in
    omega arith

-- ---- where a piece lies

pub record LiesWell (l : LayoutParts) (s : Memory) (n : ℕ) (piece : Piece) : Type 0 where
  pub low : n < frame_count l
  pub order : piece.order ≤ l.order
  pub aligned : n % 2 ^ piece.order ≡ 0
  pub inside : (f : ℕ) → lies_within n (2 ^ piece.order) f ≡ true → block_of l f ≡ block_of l n
  pub plugged_in : (f : ℕ) → lies_within n (2 ^ piece.order) f ≡ true → IsPluggedIn l s f
  pub normal : (f : ℕ) → piece.movable ≡ false → lies_within n (2 ^ piece.order) f ≡ true
      → (row_of s.blocks (block_of l f)).zone ≡ Some NormalZone

pub piece_lies : (l : LayoutParts) (s : Memory) (n : ℕ) (piece : Piece) → IsLayout l → IsWellPlaced l s
    → piece_at s n ≡ Some piece → LiesWell l s n piece
piece_lies l s n piece layout p e = elim (piece_cases s n piece e) [ inl k ↦ of_kernel k | inr h ↦ of_page h ]
  where
    of_kernel : IsKernelPiece s n piece → LiesWell l s n piece
    of_kernel k =
        let at : IsKernelAt l s.blocks.rows n piece.order =
        subst (λ (o : Option ℕ). IfSome o (IsKernelAt l s.blocks.rows n)) k.order_is (p.in_order.kernel n) in
        record {
          low = in_layout l s n _ layout p.in_order.shape.rows at.normal;
          order = at.in_order;
          aligned = at.aligned;
          inside =
              λ f is. rw (
                block_of-pageblock l f,
                kernel_inside l s n _ f p k.order_is
                    (frame_within f n _ is),
                ← block_of-pageblock l n,
              );
          plugged_in =
              λ f is. zone_plugged l s f _ p
              (kernel_zone l s n _ f p k.order_is (frame_within f n _ is));
          normal =
              λ f unmovable is. kernel_zone l s n _ f p k.order_is
              (frame_within f n _ is);
        }

    of_page : IsPagePiece s n piece → LiesWell l s n piece
    of_page h =
        let none = page_plugged l s h.owner h.page n p h.here in
        let live = live_row l s n p.in_order none in
        record {
          low = in_layout l s n _ layout p.in_order.shape.rows live.zone_is;
          order = omega (arith, h.order_is);
          aligned = rw h.order_is (single n);
          inside = λ f is. rw (page_frame s f n piece h.order_is is);
          plugged_in = λ f is. rw (page_frame s f n piece h.order_is is) (plugged l s n p none);
          normal = λ f unmovable is. absurd (both_ways piece.movable unmovable h.movable_is);
        }
      where
        single : (n : ℕ) → n % 1 ≡ 0
        single n = omega arith

-- ---- no two pieces have a frame in common

-- the piece that a frame is of
pub of_some : (f n : ℕ) (o : Option Piece) → is_frame_of f n o ≡ true
    → (piece : Piece) × (o ≡ Some piece) × (lies_within n (2 ^ piece.order) f ≡ true)
of_some f n None is = absurd (cc)
of_some f n (Some piece) is = (piece, refl, is)

-- a kernel's block is a place of its frames beside those of the others
kernel_place : (l : LayoutParts) (s : Memory) (n order f : ℕ) → n < length s.kernel
    → kernel_order s n ≡ Some order → IsFrameOf f order n
    → kernel_places s f ≡ kernel_places (with_kernel_order s n None) f + 1
kernel_place l s n order f low e within =
    omega (arith, rw e at (kernel-places s n f None low), in_covered f order n within)

-- a page is a place of its frame
page_place : (l : LayoutParts) (s : Memory) (n : ℕ) (piece : Piece) → IsWellPlaced l s
    → IsPagePiece s n piece → 1 ≤ mapped_places s.pages n
page_place l s n piece p h = mapped_some _ l.pages _ h.owner h.page n (table_of l s p.in_order) h.here

-- each frame of a piece is in such a place
pub piece_places : (l : LayoutParts) (s : Memory) (n : ℕ) (piece : Piece) (f : ℕ) → IsWellPlaced l s
    → n < frame_count l → piece_at s n ≡ Some piece → lies_within n (2 ^ piece.order) f ≡ true
    → 1 ≤ mapped_places s.pages f + kernel_places s f
piece_places l s n piece f p low e is = elim (piece_cases s n piece e) [
  | inl k ↦
      omega (
        arith,
        kernel_place l s n _ f (omega (arith, p.in_order.shape.kernel)) k.order_is
            (frame_within f n _ is),
      )
  | inr h ↦
      let there : 1 ≤ mapped_places s.pages f =
      rw (page_frame s f n piece h.order_is is) (page_place l s n piece p h) in
      omega arith
]

pub pieces_apart : (l : LayoutParts) (s : Memory) → IsLayout l → IsWellPlaced l s
    → AreApart (frame_count l) (piece_at s)
pieces_apart l s layout p f a b low lower at there =
    let one = of_some f a _ at in
    let two = of_some f b _ there in
    elim (piece_cases s a one.0 one.1) [
      | inl k ↦ elim (piece_cases s b two.0 two.1) [
        | inl j ↦ both_kernel one.0 two.0 k j one.2 two.2
        | inr h ↦ absurd (kernel_page a b one.0 two.0 low k h one.2 two.2)
      ]
      | inr h ↦ elim (piece_cases s b two.0 two.1) [
        | inl k ↦ absurd (kernel_page b a two.0 one.0 lower k h two.2 one.2)
        | inr j ↦ sym (page_frame s f a one.0 h.order_is one.2) ∙ page_frame s f b two.0 j.order_is two.2
      ]
    ]
  where
    both_kernel : (x y : Piece) → IsKernelPiece s a x → IsKernelPiece s b y
        → lies_within a (2 ^ x.order) f ≡ true → lies_within b (2 ^ y.order) f ≡ true → a ≡ b
    both_kernel x y k j is also = elim (cases_eq a b) [
      | inl same ↦ same
      | inr ne ↦
          let other : kernel_order (with_kernel_order s a None) b ≡ Some y.order =
          get_or-set_other s.kernel a b None None (λ e. ne (sym e)) ∙ j.order_is in
          let size : length (with_kernel_order s a None).kernel ≡ frame_count l = search rules in
          absurd (omega (
            arith,
            kernel_place l s a x.order f (omega (arith, p.in_order.shape.kernel)) k.order_is
                (frame_within f a x.order is),
            kernel_place l (with_kernel_order s a None) b y.order f (omega arith) other
                (frame_within f b y.order also),
            p.once f,
          ))
    ]

    kernel_page : (c d : ℕ) (x y : Piece) → c < frame_count l → IsKernelPiece s c x → IsPagePiece s d y
        → lies_within c (2 ^ x.order) f ≡ true → lies_within d (2 ^ y.order) f ≡ true → ⊥
    kernel_page c d x y below k h is also =
        let same : f ≡ d = page_frame s f d y h.order_is also in
        let mapped : 1 ≤ mapped_places s.pages f = rw same (page_place l s d y p h) in
        absurd (omega (
          arith,
          kernel_place l s c x.order f (omega (arith, p.in_order.shape.kernel)) k.order_is
              (frame_within f c x.order is),
          p.once f,
        ))

-- ---- as the log has it

-- the memory block of a frame
pub same_block : (l : LayoutParts) (m : MachineSize) (f : ℕ) → IsSizeOf l m → log_block_of m f ≡ block_of l f
same_block l m f size = rw size.frames

-- a piece lies in one block of the machine
pub piece_formed : (l : LayoutParts) (m : MachineSize) (s : Memory) (n : ℕ) (piece : Piece) → IsLayout l
    → IsSizeOf l m → IsWellPlaced l s → piece_at s n ≡ Some piece → is_piece m n piece.order ≡ true
piece_formed l m s n piece layout size p e =
    let h = piece_lies l s n piece layout p e in
    let count : m.blocks * 2 ^ m.block_order ≡ frame_count l = rw (size.blocks, size.frames) in
    and_from _ _ (le-leb piece.order m.block_order (omega (arith, h.order, order_fits l m layout size)))
    (and_from _ _ (eq-eqb (n % 2 ^ piece.order) 0 h.aligned)
    (lt-ltb n (m.blocks * 2 ^ m.block_order) (omega (arith, h.low))))
  where
    order_fits : (l : LayoutParts) (m : MachineSize) → IsLayout l → IsSizeOf l m → l.order ≤ m.block_order
    order_fits l m layout size = elim (cases_lt m.block_order l.order) [
      | inl above ↦
          let some : 0 < 2 ^ layout.pageblocks.0 = pow_pos layout.pageblocks.0 in
          let more : 1 ≤ l.pageblocks = omega (arith, layout.pageblocks.2) in
          absurd (omega (
            arith,
            pow_below m.block_order l.order above,
            size.frames,
            mul-le-mul_right (2 ^ l.order) more,
          ))
      | inr high ↦ high
    ]

-- a block that is plugged in is not offline
phase_in : (state : State) (zone : Option Zone) (claim : Option Claim) (z : Zone) → zone ≡ Some z
    → (is_online_state state || is_going_state state) ≡ true → is_offline (phase_by state zone claim) ≡ false
phase_in OnlineState _ claim z e is = refl
phase_in GoingState _ claim z e is = refl
phase_in _ _ claim z e is = cc

-- and is in the zone of its row
normal_in : (state : State) (zone : Option Zone) (claim : Option Claim) → zone ≡ Some NormalZone
    → (is_online_state state || is_going_state state) ≡ true → is_normal (phase_by state zone claim) ≡ true
normal_in OnlineState _ claim e is = rw e
normal_in GoingState _ claim e is = rw e
normal_in _ _ claim e is = absurd cc

pub piece_home : (l : LayoutParts) (m : MachineSize) (s : Memory) (n : ℕ) (piece : Piece) → IsLayout l
    → IsSizeOf l m → IsWellPlaced l s → piece_at s n ≡ Some piece
    → IsAtHome m (λ b. phase_of (row_of s.blocks b)) n piece
piece_home l m s n piece layout size p e =
    let h = piece_lies l s n piece layout p e in
    record {
      present =
          λ f is. (let row = row_of s.blocks (block_of l f) in
          let plug = h.plugged_in f is in
          rw (same_block l m f size) (phase_in row.state row.zone row.claim plug.zone.0 plug.zone.1
          plug.state));
      normal =
          λ f unmovable is. (let row = row_of s.blocks (block_of l f) in
          rw (same_block l m f size) (normal_in row.state row.zone row.claim (h.normal f unmovable is)
          (h.plugged_in f is).state));
    }
