-- The parts of a text, one more line after another.
use Rattle.std.proofs.Common.{◌≡◌, ℕ, ◌+◌, ◌≤◌, List, [], ◌∷◌, ◌++◌, length, take, drop, refl, ap, sym, ◌∙◌, append_assoc, append-nil, arith, inl, inr}
use Rattle.std.proofs.lemmas.List.{flat_map_more, length-append, length-take-le, take-append-drop, take_all, take_at}
use Rattle.std.proofs.lemmas.List.Elements.{All-nil, All-push}
use Rattle.hp_schedules.specs.declared.tally.Ending.{Ending}
use Rattle.hp_schedules.specs.Schedules.{Setting}
use Rattle.hp_schedules.specs.Parts.{EndsInPart}
use Rattle.hp_text.specs.State.{newline}
use Rattle.hp_parts.specs.Cuts.{IsLineAt}
use Rattle.hp_parts.specs.Gathering.{GatheringValue, PartEndsValue}
use Rattle.hp_parts.specs.Heads.{HeadValue, IsNumber, SearchValue, head_line, part_in}
use Rattle.hp_parts.specs.Reading.{IsLine}
use Rattle.hp_parts.specs.declared.reading.PartLine.TheVariants.{End}
use Rattle.hp_parts.specs.Gathered.{IsGathered, IsGathering, IsOwn, lines_of}
use Rattle.std.specs.Global.{Vec}
use Rattle.hp_search.specs.Faults.{IsUntold}
use Rattle.hp_search.specs.declared.lab_fault.LabFault.{LabFault}
use Rattle.hp_search.specs.declared.lab_fault.LabFault.TheVariants as lab
use Rattle.hp_parts.specs.Faults.{IsCauseAlong, IsCauseIn, IsLineFault, IsUnplayed, IsUnpushed, IsUntoldSum}
use Rattle.hp_search.specs.declared.part_fault.PartFault.TheVariants as part
use Rattle.hp_parts.specs.declared.line_fault.LineFault.{LineFault}
use Rattle.hp_parts.specs.declared.line_fault.LineFault.TheVariants.{Changed, Lab}
use Rattle.hp_parts.specs.Taking.{HasRead, IsPushed, IsTaken}
use Rattle.hp_parts.specs.Texts.{begun_lines, part_lines}
use Rattle.hp_parts.proofs.PartsWritten.{begun_lines_push}

-- the text up to the end of a line
pub line_passed : (input : List ℕ) (place : ℕ) (text : List ℕ) → place ≤ length input
    → IsLineAt input place text
    → take (place + (length text + 1)) input ≡ take place input ++ (text ++ newline)
line_passed input place text within here =
    let front : List ℕ = take place input ++ (text ++ newline) in
    let rest : List ℕ = drop (place + length text + 1) input in
    let whole : front ++ rest ≡ input =
    rw (append_assoc (take place input), append_assoc text, ← here.0, take-append-drop) in
    let long : length front ≡ place + (length text + 1) =
    rw (length-append (take place input), length-append text, length-take-le place input within)
    (omega arith) in
    ap (take (place + (length text + 1))) (sym whole)
    ∙ take_at front rest (place + (length text + 1)) long

-- a line at the beginning is within the text
pub line_within : (input text : List ℕ) → IsLineAt input 0 text → length text + 1 ≤ length input
line_within input text here = omega (arith, simp length-append at (ap length here.0))

own_bare : (g : Setting) (s : SearchValue) (number : ℕ) → IsNumber s number
    → IsOwn g s (record { number = number; ends = [] })
own_bare g s number is = record {
  some = is.0;
  within = is.1;
  ends = All-nil (λ (e : Ending). EndsInPart g (part_in s number) e.first.items e.outcome);
}

-- the first head is read
pub head_read : (names : List (List ℕ)) (g : Setting) (h : HeadValue) (input : List ℕ) (start : ℕ)
    → IsLineAt input 0 (head_line h.search h.number h.ends) → IsNumber h.search h.number
    → start ≡ length (head_line h.search h.number h.ends) + 1 → HasRead names g h input start
head_read names g h input start here some is = (
  rw is (line_within input (head_line h.search h.number h.ends) here),
  record {
    is =
        ap (λ (n : ℕ). take n input) (is ∙ (omega arith))
        ∙ (line_passed input 0 (head_line h.search h.number h.ends) (omega arith) here
        ∙ sym (append-nil (head_line h.search h.number h.ends ++ newline)));
    done = All-nil (IsOwn g h.search);
    last = own_bare g h.search h.number some;
  },
)

module _ (names : List (List ℕ)) (g : Setting) (s : SearchValue) where
  -- the last part is whole
  last_whole : (v : GatheringValue) → v.named ≡ length v.last.ends
      → lines_of names g s v.done ++ begun_lines names g s v.last.number v.named v.last.ends
      ≡ lines_of names g s (v.done ++ v.last ∷ [])
  last_whole v whole =
      rw whole (flat_map_more (λ (q : PartEndsValue). part_lines names g s q.number q.ends) [] v.done v.last)

  -- a head was taken
  pub head_taken : (v w : GatheringValue) (number named : ℕ) (text : List ℕ) → text ≡ head_line s number named
      → IsNumber s number → v.named ≡ length v.last.ends
      → w
      ≡ record { done = v.done ++ v.last ∷ []; last = record { number = number; ends = [] }; named = named }
      → IsTaken names g s v text w
  head_taken v w number named text is some whole begun = λ front h.
      rw begun (record {
        is =
            rw (h.is, last_whole v whole, is)
            (ap (λ (l : List ℕ). lines_of names g s (v.done ++ v.last ∷ []) ++ l)
            (sym (append-nil (head_line s number named ++ newline))));
        done = All-push (IsOwn g s) v.done v.last h.done h.last;
        last = own_bare g s number some;
      })

  -- an end was taken
  pub end_taken : (v w : GatheringValue) (e : Ending) (text : List ℕ) → IsPushed names g v text e w
      → EndsInPart g (part_in s v.last.number) e.first.items e.outcome → IsTaken names g s v text w
  end_taken v w e text pushed own = λ front h.
      rw pushed.is (record {
        is =
            rw (h.is, pushed.line, begun_lines_push names g s v.last.number v.named v.last.ends e)
            (append_assoc (lines_of names g s v.done) _ _);
        done = h.done;
        last = record {
          some = h.last.some;
          within = h.last.within;
          ends =
              All-push (λ (x : Ending). EndsInPart g (part_in s v.last.number) x.first.items x.outcome)
              v.last.ends e h.last.ends own;
        };
      })

  -- all of it is read
  pub all_read : (input : List ℕ) (place : ℕ) (v : GatheringValue) (parts : List PartEndsValue)
      → length input ≤ place → IsGathering names g s (take place input) v → v.named ≡ length v.last.ends
      → parts ≡ v.done ++ v.last ∷ [] → IsGathered names g s input parts
  all_read input place v parts past h whole are =
      rw are (record {
        is = sym (take_all place input past) ∙ (h.is ∙ last_whole v whole);
        own = All-push (IsOwn g s) v.done v.last h.done h.last;
      })

  -- why an end was not added
  pub not_pushed : (v : GatheringValue) (text : List ℕ) (e : Ending) (fault : LineFault)
      → IsLine text (End e.count e.first) → EndsInPart g (part_in s v.last.number) e.first.items e.outcome
      → IsUnpushed names g v text e fault → IsLineFault names g s v text fault
  not_pushed v text e Changed line own h = record { end = e; line = line; own = own; other = h }
  not_pushed v text e (Lab fault) line own h = rw h tt
  not_pushed v text e fault line own h = absurd h

  -- why the schedule that a line names was not played
  pub not_played : (v : GatheringValue) (text : List ℕ) (count : ℕ) (schedule : Vec ℕ) (fault : LineFault)
      → IsLine text (End count schedule) → IsUnplayed g schedule.items fault
      → IsLineFault names g s v text fault
  not_played v text count schedule fault line h = rw h.1 (by_fault h.0 h.2)
    where
      by_fault : (why : LabFault) → IsUntold (IsCauseAlong schedule.items) g why
          → IsUntold (IsCauseIn text) g why
      by_fault (lab.HistoryFull needed) h = ((count, schedule, line, h.0), h.1)
      by_fault lab.OutOfMemory h = tt
      by_fault why h = absurd h

  -- the last part of a text has another number of ends than its head names
  pub last_cut : (input : List ℕ) (place number : ℕ) (v : GatheringValue) → length input ≤ place
      → IsGathering names g s (take place input) v → number ≡ v.last.number
      → (v.named ≡ length v.last.ends → ⊥) → IsUntoldSum input names g s (part.OtherCount number)
  last_cut input place number v past h is other =
      inr (inr (inr (inl (number, v, refl, rw (take_all place input past) at h, (is, other)))))
