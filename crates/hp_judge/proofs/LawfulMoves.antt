-- A page that comes back at one frame and is handed out at another moves, in one event.
use Rattle.std.proofs.Common.{◌≡◌, ◌≢◌, ℕ, zero, ◌%◌, Bool, true, false, not, ◌&&◌, ◌||◌, ◌==◌, nat_le, nat_lt, List, [], ◌∷◌, refl, sym, ◌∙◌, ap, ap₂, arith, inl, inr}
use Rattle.std.proofs.lemmas.Bool.{and_parts, and_from, eq-eqb, eqb-true, eqb-false, ne_eqb, not-true, cases_Bool}
use Rattle.hp_units.specs.Memory.{Memory}
use Rattle.hp_units.specs.Pages.{page_at}
use Rattle.hp_judge.specs.Events.{block_of, frame_count, allocates, frees, is_move, is_piece, lies_within}
use Rattle.hp_judge.proofs.Pieces.{same_tests, within_from, within_parts}
use Rattle.hp_judge.specs.Logs.{same_page, with_move}
use Rattle.hp_judge.specs.LawfulNames.{LogEvent, Alloc, Free, Move, MachineSize}
use Rattle.hp_judge.specs.Phases.{BlockPhase}
use Rattle.hp_judge.specs.Reading.{Shown}
use Rattle.hp_judge.proofs.Turns.{is_offline}
use Rattle.hp_judge.proofs.Allowed.{Leads}
use Rattle.hp_judge.proofs.Sequences.{EventsLead}

-- a piece of order 0 has one frame
one_frame : (f n : ℕ) → lies_within n 1 f ≡ (f == n)
one_frame f n =
    same_tests _ _ (λ is. (let parts = within_parts n 1 f is in eq-eqb f n (omega (arith, parts.0, parts.1))))
    (λ is. (let same = eqb-true f n is in
    within_from n 1 f (omega (arith, same)) (omega (arith, same))))

-- a test that comes after one that passes
after_true : (a b c : Bool) → a ≡ true → b ≡ c → (a && b) ≡ c
after_true true b c is e = e
after_true false b c is e = absurd (cc)

-- the frame's use after both events is that after the move
used_both : (a g o : Bool) (u mid q : Bool) → mid ≡ (false || (not g && u)) → q ≡ (a || (not o && mid))
    → o ≡ false → q ≡ (a || (not g && u))
used_both a g true u mid q e f is = absurd (cc)
used_both a g false u mid q e f is = rw (f, e)

-- a frame that is not in use once another came back was not in use before
unused_before : (g u mid : Bool) → mid ≡ (false || (not g && u)) → mid ≡ false → g ≡ false → u ≡ false
unused_before true u mid e f is = absurd (cc)
unused_before false u mid e f is = sym e ∙ f

module _ (m : MachineSize) (from to : ℕ) (p mid q : Shown)
    (h : Leads m p.used p.phase (Free from 0) mid.used mid.phase)
    (k : Leads m mid.used mid.phase (Alloc to 0 true) q.used q.phase) (ne : from ≢ to) where
  -- the tests of the move are those of the two events
  gives_is : (f : ℕ) → frees m f (Free from 0) ≡ (f == from)
  gives_is f =
      after_true (is_piece m from 0) (lies_within from 1 f) (f == from) h.well_formed (one_frame f from)

  takes_is : (f : ℕ) → allocates m f (Alloc to 0 true) ≡ (f == to)
  takes_is f = after_true (is_piece m to 0) (lies_within to 1 f) (f == to) k.well_formed (one_frame f to)

  moves : is_move m from to ≡ true
  moves =
      let low = and_parts (from % 1 == 0) (nat_lt from (frame_count m))
      (and_parts (nat_le 0 m.block_order) ((from % 1 == 0) && nat_lt from (frame_count m)) h.well_formed).1 in
      let high = and_parts (to % 1 == 0) (nat_lt to (frame_count m))
      (and_parts (nat_le 0 m.block_order) ((to % 1 == 0) && nat_lt to (frame_count m)) k.well_formed).1 in
      and_from (nat_lt from (frame_count m)) (nat_lt to (frame_count m) && not (from == to)) low.1
      (and_from (nat_lt to (frame_count m)) (not (from == to)) high.1
      (ap (λ (t : Bool). not t) (ne_eqb from to ne)))

  move_gives : (f : ℕ) → frees m f (Move from to) ≡ frees m f (Free from 0)
  move_gives f = after_true (is_move m from to) (f == from) (f == from) moves refl ∙ sym (gives_is f)

  move_takes : (f : ℕ) → allocates m f (Move from to) ≡ allocates m f (Alloc to 0 true)
  move_takes f = after_true (is_move m from to) (f == to) (f == to) moves refl ∙ sym (takes_is f)

  -- the frame that the page moves to is not the one that it leaves
  not_given : (f : ℕ) → allocates m f (Move from to) ≡ true → frees m f (Free from 0) ≡ false
  not_given f is =
      let there : f ≡ to = eqb-true f to (sym (takes_is f) ∙ sym (move_takes f) ∙ is) in
      gives_is f ∙ ne_eqb f from (λ same. ne (sym same ∙ there))

  no_event : {A : Type 0} → false ≡ true → A
  no_event e = absurd (cc)

  pub moves_lead : Leads m p.used p.phase (Move from to) q.used q.phase
  moves_lead = record {
    well_formed = moves;
    free =
        λ f is. unused_before (frees m f (Free from 0)) (p.used f) (mid.used f) (h.used_is f)
        (k.free f (sym (move_takes f) ∙ is)) (not_given f is);
    present =
        λ f is. ap (λ (x : BlockPhase). is_offline x) (sym (h.same (block_of m f) refl))
        ∙ k.present f (sym (move_takes f) ∙ is);
    normal = λ f e. no_event e;
    in_use = λ f is. h.in_use f (sym (move_gives f) ∙ is);
    empty = λ f e. no_event e;
    used_is =
        λ f. used_both (allocates m f (Alloc to 0 true)) (frees m f (Free from 0)) false (p.used f)
        (mid.used f) (q.used f) (h.used_is f) (k.used_is f) refl
        ∙ ap₂ (λ (a g : Bool). a || (not g && p.used f)) (sym (move_takes f)) (sym (move_gives f));
    turn = λ b e. no_event e;
    same = λ b e. k.same b refl ∙ h.same b refl;
  }

pub move_leads : (m : MachineSize) (before after : Memory) (p q : Shown) (log : List LogEvent)
    → EventsLead m p log q → EventsLead m p (with_move before after log) q
move_leads m before after p q (Free from zero ∷ (Alloc to zero true ∷ [])) h =
    elim (cases_Bool (same_page (page_at before.pages from) (page_at after.pages to) && not (from == to))) [
      | inl is ↦
          let parts = and_parts (same_page (page_at before.pages from) (page_at after.pages to)) _ is in
          let ne : from ≢ to = eqb-false from to (not-true (from == to) parts.1) in
          rw is (h.2.0, moves_lead m from to p h.0 h.2.0 h.1 h.2.1 ne, h.2.2)
      | inr is ↦ rw is h
    ]
move_leads m before after p q log h = h
