-- How an event's answer follows from what the layers' calls did.
use Rattle.std.proofs.Common.{◌≡◌, ℕ, zero, suc, ◌+◌, ◌<◌, ◌≤◌, List, [], ◌++◌, length, Option, Some, None, refl, sym, ◌∙◌, ap, subst, arith}
use Rattle.std.specs.Prelude.{Bool, true, false, cond, nat_le}
use Rattle.std.proofs.lemmas.List.{append-nil}
use Rattle.std.proofs.lemmas.Option.{same_Some}
use Rattle.std.proofs.Math.Nat.{div-lt_iff_lt-mul}
use Rattle.hp_units.specs.LayoutParts.{IsLayout}
use Rattle.hp_units.specs.Arithmetic.{block_of, frame_count, pageblock_of}
use Rattle.hp_units.specs.Memory.{cached_list, kind_of, pool_of}
use Rattle.hp_units.specs.Rows.{zone_of}
use Rattle.hp_units.specs.Step.{give_back, with_free}
use Rattle.hp_units.specs.declared.rows.Zone.{Zone}
use Rattle.hp_units.proofs.Placed.{size_some}
use Rattle.hp_tape.specs.Bounds.{batch_bound, give_bound}
use Rattle.hp_layers.specs.Frames.{give_back_bound, given_back}
use Rattle.hp_layers.proofs.Taken.{steal-few}
use Rattle.hp_units.specs.LayoutParts.{LayoutParts}
use Rattle.hp_units.specs.Memory.{FreeFrames, Memory}
use Rattle.hp_units.specs.ProcessorLists.{Handed}
use Rattle.hp_units.specs.Step.{Answered}
use Rattle.hp_units.specs.declared.events.Event.{Event}
use Rattle.hp_units.specs.declared.replies.Refusal.{Refusal}
use Rattle.hp_units.specs.declared.replies.Reply.{Reply}
use Rattle.hp_units.specs.declared.replies.Reply.TheVariants.{Refused}
use Rattle.hp_tape.specs.declared.deltas.Delta.{Delta}
use Rattle.hp_tape.specs.Bounds.{delta_bound}
use Rattle.hp_tape.specs.Deltas.{Fits, FrameView, undo}
use Rattle.hp_tape.specs.Tapes.{TapeValue}
use Rattle.hp_tape.proofs.Leads.{lead_back-none, notes-append}
use Rattle.hp_layers.specs.declared.frames.Frames.{Frames}
use Rattle.hp_layers.specs.declared.layers.Layers.{Layers}
use Rattle.hp_layers.specs.Frames.{HandsOut}
use Rattle.hp_layers.specs.Layers.{AreLedTo, AreNoted, AreOfOneLayout, ArePlaced, IsAnswered, IsOfMemory, NotesView, state_of, view_of}

-- ---- deltas

-- what was noted on a tape after the deltas that were there
pub noted : {before : List Delta} (l : LayoutParts) (most bound : ℕ) (was now : TapeValue)
    (later earlier : FrameView)
    → was.deltas ≡ before → most ≤ bound → NotesView l most was now later earlier
    → AreNoted l bound before now.deltas later earlier
noted {before} l most bound was now later earlier same le n = record {
  deltas = n.deltas;
  after = ap (λ (t : TapeValue). t.deltas) n.tape ∙ ap (λ (ds : List Delta). ds ++ n.deltas) same;
  few = omega (arith, le, n.few);
  numbers = n.numbers;
  lead = n.lead;
}

-- nothing was noted
pub none-noted : (l : LayoutParts) (bound : ℕ) (before now : List Delta) (v : FrameView) → now ≡ before
    → AreNoted l bound before now v v
none-noted l bound before now v same =
    record {
      deltas = [];
      after = same ∙ sym (append-nil before);
      few = omega arith;
      numbers = tt;
      lead = lead_back-none Fits undo v;
    }

-- two calls, one after another
pub notes-then : (l : LayoutParts) (most more : ℕ) (was mid now : TapeValue) (last between first : FrameView)
    → NotesView l most was mid between first → NotesView l more mid now last between
    → NotesView l (most + more) was now last first
notes-then l most more was mid now last between first a b =
    notes-append IsOfMemory Fits undo l most more was mid now last between first a b

-- ---- refusals

-- the layers stay as they are
pub stays : (m : Layers) → ArePlaced m → AreLedTo m (state_of m) m
stays m p = record { one = p.one; layout = refl; view = p.view }

-- nothing changes
pub unchanged : (m : Layers) (event : Event) (answered : Answered) (before now : List Delta) (reply : Reply)
    → ArePlaced m → answered ≡ record { memory = state_of m; reply = reply } → now ≡ before
    → IsAnswered m event answered m before now reply
unchanged m event answered before now reply p is same =
    subst (λ (a : Answered). IsAnswered m event a m before now reply) (sym is) (record {
      led = stays m p;
      reply = refl;
      noted = none-noted m.layout (delta_bound m.layout (state_of m) event) before now (view_of m) same;
    })

-- a refusal
pub refused : (m : Layers) (event : Event) (answered : Answered) (before now : List Delta) (reason : Refusal)
    → ArePlaced m → answered ≡ record { memory = state_of m; reply = Refused reason } → now ≡ before
    → IsAnswered m event answered m before now (Refused reason)
refused m event answered before now reason p is same =
    unchanged m event answered before now (Refused reason) p is same

-- a refusal where no frame was found
pub refused_none : (m : Layers) (f : Frames) (event : Event) (answered : Answered) (before : List Delta)
    (was now : TapeValue) (reason : Refusal)
    → ArePlaced m → (f ≡ m.frames) × (now ≡ was) → was.deltas ≡ before
    → answered ≡ record { memory = state_of m; reply = Refused reason }
    → IsAnswered m event answered (record m { frames = f }) before now.deltas (Refused reason)
refused_none m f event answered before was now reason p none same is =
    rw none.0
    (refused m event answered before now.deltas reason p is (ap (λ (t : TapeValue). t.deltas) none.1 ∙ same))

-- ---- blocks that are handed out

-- what a rule handed out
pub hands-some : (wanted : Option Handed) (old new : FreeFrames) (frame : ℕ)
    → HandsOut wanted old new (Some frame) → wanted ≡ Some (record { free = new; frame = frame })
hands-some None old new frame h = absurd (let e = h.0 in cc)
hands-some (Some handed) old new frame h = rw (← same_Some frame handed.frame h.0, ← h.1)

pub hands-none : (wanted : Option Handed) (old new : FreeFrames) → HandsOut wanted old new None
    → wanted ≡ None
hands-none None old new h = refl
hands-none (Some handed) old new h = absurd (let e = h.0 in cc)

-- the layers with other free frames are of one layout
pub frames-one : (m : Layers) (f : Frames) → AreOfOneLayout m → f.cpus.layout ≡ m.frames.cpus.layout
    → f.buddy.layout ≡ f.cpus.layout → AreOfOneLayout (record m { frames = f })
frames-one m f one same buddy = record {
  layout = one.layout;
  buddy = buddy ∙ same ∙ one.cpus;
  cpus = same ∙ one.cpus;
  pages = one.pages;
  kernel = one.kernel;
  blocks = one.blocks;
}

-- ---- numbers of the layout

-- a frame's memory block
pub block-in : (l : LayoutParts) (frame : ℕ) → IsLayout l → frame < frame_count l
    → block_of l frame < l.blocks
block-in l frame layout low = (div-lt_iff_lt-mul (size_some l layout)).1 low

-- ---- blocks that come back

pub give_back-is : (l : LayoutParts) (s : Memory) (cpu frame order : ℕ)
    → give_back l s cpu frame order ≡ with_free s (given_back l s.free cpu (zone_of l s frame) frame order)
give_back-is l s cpu frame zero = refl
give_back-is l s cpu frame (suc below) = refl

pub give_back-few : (l : LayoutParts) (fs : FreeFrames) (cpu : ℕ) (zone : Zone) (frame order : ℕ) → IsLayout l
    → give_back_bound l fs cpu zone frame order ≤ batch_bound l
give_back-few l fs cpu zone frame zero layout =
    let kind = kind_of fs.areas (pageblock_of l frame) in
    few kind.isolated (nat_le (length (cached_list fs cpu (pool_of zone kind.mobility)) + 1) l.high)
  where
    give_few : give_bound l ≤ batch_bound l
    give_few = let more = steal-few l layout in omega (arith, more)

    few : (isolated short : Bool)
        → cond isolated (give_bound l) (cond short 1 (batch_bound l)) ≤ batch_bound l
    few true short = give_few
    few false true = omega arith
    few false false = omega arith
give_back-few l fs cpu zone frame (suc below) layout = let more = steal-few l layout in omega (arith, more)
