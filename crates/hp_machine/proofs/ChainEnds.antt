-- How an audit goes on by the next volume of a list, and where it finds one at fault.
use Rattle.std.proofs.Common.{◌≡◌, ℕ, ◌+◌, ◌≤◌, List, [], ◌∷◌, length, take, Some, slice_get, refl, sym, ◌∙◌}
use Rattle.std.specs.Prelude.{fold}
use Rattle.std.proofs.lemmas.List.{take_all}
use Rattle.hp_units.specs.Boot.{boot_memory}
use Rattle.hp_units.specs.Memory.{Memory}
use Rattle.hp_units.specs.LayoutParts.{IsLayout, LayoutParts}
use Rattle.hp_units.specs.Placement.{IsWellPlaced}
use Rattle.hp_units.specs.History.{IsLegal, value_of}
use Rattle.hp_units.specs.declared.replies.Record.{Record}
use Rattle.hp_laws.proofs.Boots.{boot-placed}
use Rattle.hp_laws.proofs.EventSteps.{value-placed}
use Rattle.hp_laws.proofs.Replays.{take_one}
use Rattle.hp_plain.specs.Image.{Pictured}
use Rattle.hp_history.specs.Course.{CourseValue, last_serial, started}
use Rattle.hp_history.specs.Kept.{pictured}
use Rattle.hp_history.specs.Volumes.{IsChain, records_in, state_after}
use Rattle.hp_history.specs.declared.volumes.Volume.{Volume}
use Rattle.hp_history.proofs.Chains.{chain_more, count_more, state_more}
use Rattle.hp_machine.specs.Chains.{FollowsEnd, IsChainFault, IsFaultAfter, RefutesChain, chain_fault, sealed_after}
use Rattle.hp_machine.specs.Replaying.{IsCourseOf, IsFault, Refutes}
use Rattle.hp_machine.specs.declared.replaying.ReplayFault.{ReplayFault}
use Rattle.hp_machine.specs.declared.replaying.ReplayFault.TheVariants.{WrongReply, WrongSerial, OutOfMemory as ReplayOutOfMemory}
use Rattle.hp_machine.specs.declared.chains.ChainFault.{ChainFault}
use Rattle.hp_machine.specs.declared.chains.ChainFault.TheVariants.{WrongCount, WrongBase, Replay, OutOfMemory}
use Rattle.hp_machine.proofs.Replays.{refutes}

-- the course has no records, and begins where volumes lead to
pub record EndsVolumes (l : LayoutParts) (volumes : List Volume) (end : CourseValue) : Type 0 where
  pub start : end ≡ started end.layout end.base end.before
  pub layout : end.layout ≡ l
  pub count : end.before ≡ records_in volumes
  pub state : end.base ≡ state_after l volumes
  pub chain : IsChain l volumes

-- no volumes
pub ends_none : (l : LayoutParts) (volumes : List Volume) (end : CourseValue)
    → end ≡ started l (boot_memory l) 0 → EndsVolumes l (take 0 volumes) end
ends_none l volumes end is =
    rw is (record { start = refl; layout = refl; count = refl; state = refl; chain = λ at v e. absurd cc })

-- the journal of no records over an Image of the state at boot
pub begun_at_boot : (l : LayoutParts) (image : Pictured) (end : CourseValue) → image.layout ≡ l
    → image.memory ≡ boot_memory l → end ≡ started image.layout image.memory 0
    → end ≡ started l (boot_memory l) 0
begun_at_boot l image end layout memory is = rw (is, layout, memory)

-- the Image is its base
pub begins_with : (image : Pictured) (end : CourseValue) → end ≡ started image.layout image.memory 0
    → image ≡ pictured end.layout end.base
begins_with image end is = rw is

-- what it shows
pub end_shown : (l : LayoutParts) (volumes : List Volume) (end : CourseValue) → EndsVolumes l volumes end
    → pictured end.layout end.base ≡ pictured l (state_after l volumes)
end_shown l volumes end ok = rw (ok.layout, ok.state)

-- one volume more
pub ends_more : (l : LayoutParts) (volumes : List Volume) (at : ℕ) (v : Volume) (end next : CourseValue)
    → slice_get volumes at ≡ Some v → EndsVolumes l (take at volumes) end → FollowsEnd end v
    → IsLegal end.layout end.base end.before v.records → next ≡ sealed_after end v
    → EndsVolumes l (take (at + 1) volumes) next
ends_more l volumes at v end next here ok follows legal is =
    rw (take_one volumes at v here, is) (record {
      start = refl;
      layout = ok.layout;
      count = rw ok.count (sym (count_more (take at volumes) v));
      state = rw (ok.layout, ok.state) (sym (state_more l (take at volumes) v));
      chain =
          chain_more l (take at volumes) v ok.chain
          (record {
            count = follows.count ∙ ok.count;
            base = follows.base ∙ end_shown l (take at volumes) end ok;
            legal = rw (ok.layout, ok.state, ok.count) at legal;
          });
    })

-- the course after all volumes
pub ends_all : (l : LayoutParts) (volumes : List Volume) (at : ℕ) (end : CourseValue) → length volumes ≤ at
    → EndsVolumes l (take at volumes) end → EndsVolumes l volumes end
ends_all l volumes at end le ok = rw (take_all at volumes le) at ok

-- the state that volumes lead to is well placed
placed_after : (l : LayoutParts) (volumes : List Volume) (s : Memory) → IsLayout l → IsWellPlaced l s
    → IsWellPlaced l (fold (λ t v. value_of l t v.records) s volumes)
placed_after l [] s limits placed = placed
placed_after l (v ∷ volumes) s limits placed =
    placed_after l volumes (value_of l s v.records) limits (value-placed l s v.records limits placed)

pub end_placed : (l : LayoutParts) (volumes : List Volume) (image : Pictured) → IsLayout l
    → image ≡ pictured l (state_after l volumes) → IsWellPlaced image.layout image.memory
end_placed l volumes image limits is =
    rw is (placed_after l volumes (boot_memory l) limits (boot-placed l limits))

-- ---- faults

pub fault_after : (l : LayoutParts) (volumes : List Volume) (at : ℕ) (v : Volume) (end : CourseValue)
    (fault : ChainFault)
    → slice_get volumes at ≡ Some v → EndsVolumes l (take at volumes) end → IsFaultAfter end at v fault
    → IsChainFault l volumes fault
fault_after l volumes at v end (WrongCount place) here ok wrong =
    rw wrong.0
    (v, record { first = record { here = here; chain = ok.chain }; count = λ e. wrong.1 (e ∙ sym ok.count) })
fault_after l volumes at v end (WrongBase place) here ok wrong =
    rw wrong.0 (
      v,
      record {
        first = record { here = here; chain = ok.chain };
        count = wrong.1 ∙ ok.count;
        base = λ e. wrong.2 (e ∙ sym (end_shown l (take at volumes) end ok));
      },
    )
fault_after l volumes at v end (Replay place fault) here ok wrong =
    rw wrong.0 (
      v,
      record {
        first = record { here = here; chain = ok.chain };
        count = wrong.1.count ∙ ok.count;
        base = wrong.1.base ∙ end_shown l (take at volumes) end ok;
        records = rw (ok.layout, ok.state, ok.count) at wrong.2;
        known = wrong.3;
      },
    )
fault_after l volumes at v end OutOfMemory here ok wrong = tt

-- the course of a volume's records, once it is sealed
pub sealed_so : (end next : CourseValue) (v : Volume) (asked : List Record) → asked ≡ v.records
    → IsCourseOf end.layout end.base end.before asked next
    → started next.layout next.state (last_serial next) ≡ sealed_after end v
sealed_so end next v asked same course =
    rw (course.layout, course.state, course.before, course.history, same)

-- the fault of a volume's records
pub records_fault : (end : CourseValue) (at : ℕ) (v : Volume) (asked : List Record) (fault : ReplayFault)
    → FollowsEnd end v → asked ≡ v.records → IsFault end.layout end.base end.before asked fault
    → IsFaultAfter end at v (chain_fault at fault)
records_fault end at v asked (WrongReply serial) follows same wrong =
    (refl, follows, rw same at wrong, λ e. absurd cc)
records_fault end at v asked (WrongSerial place) follows same wrong =
    (refl, follows, rw same at wrong, λ e. absurd cc)
records_fault end at v asked ReplayOutOfMemory follows same wrong = tt

-- out of memory may come in place of any answer
pub memory_fault : (end : CourseValue) (at : ℕ) (v : Volume) (fault : ChainFault) → fault ≡ OutOfMemory
    → IsFaultAfter end at v fault
memory_fault end at v fault is = rw is tt

-- volumes with one at fault do not follow one another
records_refute : (l : LayoutParts) (s : Memory) (before : ℕ) (h : List Record) (fault : ReplayFault)
    → (fault ≡ ReplayOutOfMemory → ⊥) → Refutes l s before h fault → IsLegal l s before h → ⊥
records_refute l s before h (WrongReply serial) known wrong legal = wrong legal
records_refute l s before h (WrongSerial at) known wrong legal = wrong legal
records_refute l s before h ReplayOutOfMemory known wrong legal = known refl

pub chain_refuted : (l : LayoutParts) (volumes : List Volume) (fault : ChainFault)
    → IsChainFault l volumes fault → RefutesChain l volumes fault
chain_refuted l volumes (WrongCount at) wrong =
    λ chain. wrong.1.count (chain at wrong.0 wrong.1.first.here).count
chain_refuted l volumes (WrongBase at) wrong =
    λ chain. wrong.1.base (chain at wrong.0 wrong.1.first.here).base
chain_refuted l volumes (Replay at fault) wrong = λ chain.
    records_refute l (state_after l (take at volumes)) (records_in (take at volumes)) wrong.0.records fault
    wrong.1.known
    (refutes l (state_after l (take at volumes)) (records_in (take at volumes)) wrong.0.records fault
    wrong.1.records) (chain at wrong.0 wrong.1.first.here).legal
chain_refuted l volumes OutOfMemory wrong = tt
