-- Processors' lists that are given back.
use Rattle.std.proofs.Common.{List, ◌≡◌, ℕ, ◌<◌, ◌≤◌, true, refl, ap, arith}
use Rattle.std.proofs.lemmas.Bool.{lt-leb}
use Rattle.hp_units.specs.Memory.{FreeFrames}
use Rattle.hp_units.specs.ProcessorLists.{drain_lists}
use Rattle.hp_units.specs.Rows.{is_live}
use Rattle.hp_units.specs.Step.{done, with_free}
use Rattle.hp_units.specs.declared.events.Event.{Event}
use Rattle.hp_units.specs.declared.events.Event.TheVariants.{Drain, DrainFor}
use Rattle.hp_units.specs.declared.replies.Reply.TheVariants.{Done}
use Rattle.hp_tape.specs.declared.deltas.Delta.{Delta}
use Rattle.hp_tape.specs.Bounds.{delta_bound, drain_bound}
use Rattle.hp_tape.specs.Deltas.{FrameView}
use Rattle.hp_tape.specs.Tapes.{TapeValue}
use Rattle.hp_plain.specs.Asked.{asked}
use Rattle.hp_layers.specs.declared.frames.Frames.{Frames}
use Rattle.hp_layers.specs.declared.layers.Layers.{Layers}
use Rattle.hp_layers.specs.Frames.{IsGiven, free_of}
use Rattle.hp_layers.specs.Layers.{ArePlaced, IsAnswered, state_of, view_of}
use Rattle.hp_layers.proofs.Answers.{frames-one, noted}
use Rattle.hp_layers.proofs.Lifts.{notes-free}

-- an event that changes the free frames alone
frames-answered : {before : List Delta} (m : Layers) (f : Frames) (event : Event) (given : FreeFrames)
    (most : ℕ) (was now : TapeValue)
    → ArePlaced m → was.deltas ≡ before → most ≤ delta_bound m.layout (state_of m) event
    → IsGiven given most m.frames f was now
    → IsAnswered m event (done (with_free (state_of m) given)) (record m { frames = f }) before now.deltas
    Done
frames-answered m f event given most was now p none le g =
    let l = m.layout in
    let v = view_of m in
    record {
      led = record {
        one = frames-one m f p.one g.layout g.tidy.layout;
        layout = refl;
        view = rw g.given (ap (λ (w : FrameView). record v { free = given; pages = w.pages }) p.view);
      };
      reply = refl;
      noted = noted l most _ was now _ v none le
          (notes-free v l most was now (free_of f) (free_of m.frames) (rw (← p.one.cpus) g.notes));
    }

-- the same by the layers' own layout
at_layout : (m : Layers) (f : Frames) (cpu : ℕ) (was now : TapeValue) → ArePlaced m
    → IsGiven (drain_lists m.frames.cpus.layout (free_of m.frames) cpu)
    (drain_bound m.frames.cpus.layout (free_of m.frames) cpu) m.frames f was now
    → IsGiven (drain_lists m.layout (free_of m.frames) cpu) (drain_bound m.layout (free_of m.frames) cpu)
    m.frames f was now
at_layout m f cpu was now p g = rw (← p.one.cpus) g

pub drain-done : {before : List Delta} (m : Layers) (f : Frames) (cpu : ℕ) (was now : TapeValue) → ArePlaced m
    → was.deltas ≡ before → cpu < m.layout.cpus
    → IsGiven (drain_lists m.frames.cpus.layout (free_of m.frames) cpu)
    (drain_bound m.frames.cpus.layout (free_of m.frames) cpu) m.frames f was now
    → IsAnswered m (Drain cpu) (asked m.layout (state_of m) 0 (Drain cpu)) (record m { frames = f }) before
    now.deltas Done
drain-done {before} m f cpu was now p none low g =
    let s = state_of m in
    let answers : asked m.layout s 0 (Drain cpu) ≡ done (with_free s (drain_lists m.layout s.free cpu)) =
    rw (lt-leb m.layout.cpus cpu low) refl in
    rw answers (frames-answered m f (Drain cpu) (drain_lists m.layout (free_of m.frames) cpu) (drain_bound
    m.layout (free_of m.frames) cpu) was now p none (omega arith) (at_layout m f cpu was now p g))

pub drain_for-done : {before : List Delta} (m : Layers) (f : Frames) (op cpu : ℕ) (was now : TapeValue)
    → ArePlaced m → was.deltas ≡ before → cpu < m.layout.cpus → is_live m.blocks.blocks op ≡ true
    → IsGiven (drain_lists m.frames.cpus.layout (free_of m.frames) cpu)
    (drain_bound m.frames.cpus.layout (free_of m.frames) cpu) m.frames f was now
    → IsAnswered m (DrainFor op cpu) (asked m.layout (state_of m) 0 (DrainFor op cpu))
    (record m { frames = f }) before now.deltas Done
drain_for-done {before} m f op cpu was now p none low live g =
    let s = state_of m in
    let answers : asked m.layout s 0 (DrainFor op cpu)
    ≡ done (with_free s (drain_lists m.layout s.free cpu)) =
    rw (lt-leb m.layout.cpus cpu low, live) refl in
    rw answers
    (frames-answered m f (DrainFor op cpu) (drain_lists m.layout (free_of m.frames) cpu) (drain_bound m.layout
    (free_of m.frames) cpu) was now p none (omega arith) (at_layout m f cpu was now p g))
