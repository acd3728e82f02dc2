-- The state of a frame view, and the frame view of a state.
use Rattle.std.proofs.Common.{◌≡◌, ℕ, ◌<◌, List, [], length, get_or, map, Option, Some, None, Result, Ok, Err, IfOk, OnOk, OnErr, refl, sym, ◌∙◌, ap, subst, arith}
use Rattle.std.specs.Option.{option_map}
use Rattle.std.proofs.lemmas.List.{ext_get_or, get_or-map, length-map}
use Rattle.hp_units.specs.LayoutParts.{LayoutParts, IsLayout}
use Rattle.hp_units.specs.Memory.{Memory, Pages}
use Rattle.hp_units.specs.Pages.{frame_at, words_at}
use Rattle.hp_units.specs.Placement.{IsPage, IsWellPlaced}
use Rattle.hp_units.specs.Step.{Answered, step}
use Rattle.hp_units.specs.declared.replies.Reply.{Reply}
use Rattle.hp_tape.specs.declared.deltas.Delta.{Delta}
use Rattle.hp_tape.specs.Bounds.{delta_bound}
use Rattle.hp_units.specs.declared.events.Event.{Event}
use Rattle.hp_tape.specs.Deltas.{frame_view_of, page_frames_of}
use Rattle.hp_laws.proofs.EventSteps.{step-placed}
use Rattle.hp_laws.proofs.Fitting.{placed-fits}
use Rattle.hp_pages.specs.Pages.{pages_of, words_in, words_of}
use Rattle.hp_pages.proofs.Views.{AreOnce, once_placed, view-words_at}
use Rattle.hp_layers.specs.declared.layers.Layers.{Layers}
use Rattle.hp_layers.specs.Layers.{AreLedTo, AreNoted, ArePlaced, IsAnswered, memory_of, state_of, view_of}
use Rattle.hp_pages.proofs.Tables.{row_length}

-- ---- words by frame, and by page

words_back : (l : LayoutParts) (ps : Pages) (owner page : ℕ) (entry : Option ℕ) → AreOnce l ps
    → IsPage l entry (words_at ps owner page) → frame_at ps owner page ≡ entry
    → words_of l (page_frames_of l ps) owner page ≡ words_at ps owner page
words_back l ps owner page None once is at =
    ap (option_map (words_in l (page_frames_of l ps))) at ∙ sym (none l (words_at ps owner page) is)
  where
    none : (l : LayoutParts) (words : Option (List ℕ)) → IsPage l None words → words ≡ None
    none l None is = refl
    none l (Some words) is = absurd is
words_back l ps owner page (Some frame) once is at = view-words_at l ps owner page frame once at

contents_back : (l : LayoutParts) (s : Memory) → IsLayout l → IsWellPlaced l s
    → (pages_of l (page_frames_of l s.pages)).contents ≡ s.pages.contents
contents_back l s layout p =
    let fits = (placed-fits l s layout p).pages in
    let once = once_placed l s p fits in
    let ps = s.pages in
    let words = option_map (words_in l (page_frames_of l ps)) in
    let row = λ (entries : List (Option ℕ)). map words entries in
    let tall : length (map row ps.table) ≡ length ps.contents =
    length-map ps.table row ∙ (fits.owners ∙ sym fits.content_owners) in
    ext_get_or [] (map row ps.table) ps.contents tall (λ owner below.
    let in_table : owner < length ps.table = omega (arith, below, length-map ps.table row) in
    let in_contents : owner < length ps.contents = omega (arith, below, tall) in
    let here : get_or (map row ps.table) owner [] ≡ row (get_or ps.table owner []) =
    get_or-map row ps.table owner [] [] in_table in
    here ∙ ext_get_or None (row (get_or ps.table owner [])) (get_or ps.contents owner [])
    (length-map (get_or ps.table owner []) words ∙ (row_length l.pages ps.table owner fits.pages in_table
    ∙ sym (row_length l.pages ps.contents owner fits.content_pages in_contents)))
    (λ page inside.
    get_or-map words (get_or ps.table owner []) page None None
    (omega (arith, inside, length-map (get_or ps.table owner []) words))
    ∙ words_back l ps owner page (frame_at ps owner page) once (p.in_order.words owner page) refl))

-- ---- the layers after a step

-- layers that keep the frame view of a well placed state
pub are-placed : (m new : Layers) (s : Memory) → AreLedTo m s new → IsWellPlaced m.layout s
    → (ArePlaced new) × (state_of new ≡ s)
are-placed m new s led p =
    let layout = subst IsLayout led.layout led.one.layout in
    let is : state_of new ≡ s =
    ap (memory_of new.layout) led.view ∙ (ap (λ (l : LayoutParts). memory_of l (frame_view_of m.layout s))
    led.layout ∙ (rw (contents_back m.layout s layout p))) in (
      record {
        one = led.one;
        placed =
            subst (λ (l : LayoutParts). IsWellPlaced l (state_of new)) (sym led.layout)
            (subst (λ (t : Memory). IsWellPlaced m.layout t) (sym is) p);
        view = rw (led.view, ← is, ← led.layout);
      },
      is,
    )

-- what a step of the layers leaves and notes, by its answer
pub record IsKept (m new : Layers) (event : Event) (answered : Answered)
    (before now : List Delta) : Type 0 where
  pub placed : ArePlaced new
  pub state : state_of new ≡ answered.memory
  pub layout : new.layout ≡ m.layout
  pub noted : AreNoted m.layout (delta_bound m.layout (state_of m) event) before now
      (frame_view_of m.layout (state_of new)) (frame_view_of m.layout (state_of m))

kept : (m new : Layers) (event : Event) (serial cpu : ℕ) (before now : List Delta) (reply : Reply)
    → ArePlaced m → IsAnswered m event (step m.layout (state_of m) serial cpu event) new before now reply
    → IsKept m new event (step m.layout (state_of m) serial cpu event) before now
kept m new event serial cpu before now reply p a =
    let l = m.layout in
    let after = (step l (state_of m) serial cpu event).memory in
    let placed =
    are-placed m new after a.led (step-placed l (state_of m) serial cpu event p.one.layout p.placed) in
    let seen : view_of new ≡ frame_view_of l (state_of new) = rw (a.led.view, ← placed.1) in
    record {
      placed = placed.0;
      state = placed.1;
      layout = a.led.layout;
      noted = rw (← seen, ← p.view) a.noted;
    }

pub kept_ok : (m new : Layers) (event : Event) (serial cpu : ℕ) (before now : List Delta) {E : Type 0}
    (result : Result Reply E)
    → ArePlaced m
    → IfOk result (IsAnswered m event (step m.layout (state_of m) serial cpu event) new before now)
    → OnOk result (IsKept m new event (step m.layout (state_of m) serial cpu event) before now)
kept_ok m new event serial cpu before now (Ok reply) p a = kept m new event serial cpu before now reply p a
kept_ok m new event serial cpu before now (Err e) p a = tt

pub kept_placed : (m new : Layers) (event : Event) (serial cpu : ℕ) (before now : List Delta) {E : Type 0}
    (result : Result Reply E)
    → ArePlaced m
    → IfOk result (IsAnswered m event (step m.layout (state_of m) serial cpu event) new before now)
    → OnErr result (new ≡ m) → ArePlaced new
kept_placed m new event serial cpu before now (Ok reply) p a same =
    (kept m new event serial cpu before now reply p a).placed
kept_placed m new event serial cpu before now (Err e) p a same = subst ArePlaced (sym same) p
