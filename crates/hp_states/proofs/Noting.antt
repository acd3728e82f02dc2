-- The turns of a place: what is known after each, and when a schedule ends there.
use Rattle.std.proofs.Common.{◌≡◌, ℕ, ◌+◌, Bool, true, false, List, [], ◌∷◌, ◌++◌, length, Some, None, refl, arith, inl, inr}
use Rattle.std.proofs.lemmas.Bool.{cases_lt}
use Rattle.hp_units.specs.declared.replies.Record.{Record}
use Rattle.hp_schedules.specs.Parts.{IsOfPart, PartValue}
use Rattle.hp_schedules.specs.Schedules.{Setting, next_call, outcome_after, plays, schedule_of}
use Rattle.hp_schedules.specs.declared.tally.Ending.{Ending}
use Rattle.hp_states.specs.Places.{standing}
use Rattle.hp_states.specs.Seen.{Grow}
use Rattle.hp_states.specs.Walks.{IsEndHere, IsNotedAtEnd, IsOverBelow, IsPartWalkedBefore, IsPartWalkedThrough}
use Rattle.hp_states.proofs.Grown.{grow_none, grow_noted}
use Rattle.hp_states.proofs.Rooms.{done_up, ordered_noted}
use Rattle.hp_states.proofs.Walks.{over_all, walk_apart, walk_here, walk_notes, walk_up}

-- what is known of the processors below the next one, where this one asks for nothing
pub over_next : (g : Setting) (news : List Record) (cpu : ℕ) (is_over : Bool) → next_call g cpu news ≡ None
    → IsOverBelow g news cpu is_over → IsOverBelow g news (cpu + 1) is_over
over_next g news cpu true over before =
    λ k less. elim (cases_lt k cpu) [
      | inl under ↦ before k under
      | inr past ↦ (let same : k ≡ cpu = omega arith in rw same over)
    ]
over_next g news cpu false over before = before

-- ---- after the last of them

-- whether a schedule of a part ends there
pub end_here : (g : Setting) (part : PartValue) (news : List Record) (n : ℕ) (is_over is_of : Bool)
    → n ≡ length g.scripts → is_over ≡ true → IsOverBelow g news n is_over
    → (is_of ≡ true → IsOfPart n part (schedule_of news))
    → (IsOfPart n part (schedule_of news) → is_of ≡ true) → IsEndHere g part news is_of
end_here g part news n is_over true all none over of from = (
  rw (none, all) at over,
  rw all at (of refl),
)
end_here g part news n is_over false all none over of from =
    inr (rw (none, all) at over, λ apart. let told : false ≡ true = from (rw all apart) in cc)

pub no_end_here : (g : Setting) (part : PartValue) (news : List Record) (n : ℕ) (is_over : Bool)
    → n ≡ length g.scripts → is_over ≡ false → IsOverBelow g news n is_over → IsEndHere g part news false
no_end_here g part news n is_over all some over = grind (arith)

-- all that go on from there were walked, once it is noted
pub walked_on : (g : Setting) (part : PartValue) (news : List Record) (n : ℕ) (is_end : Bool)
    (ends new : List Ending)
    → n ≡ length g.scripts → plays g (schedule_of news) ≡ Some news → IsEndHere g part news is_end
    → IsPartWalkedBefore g part (schedule_of news ++ n ∷ []) ends
    → IsNotedAtEnd is_end n (standing g news) ends new
    → IsPartWalkedThrough g part (schedule_of news) new
unfolding outcome_after
walked_on g part news n true ends new all played end done adds =
    let before = rw all at done in
    let noted = rw all at adds in
    let over = over_all g news end.0 in
    done_up g part _ news ends new played before
    (walk_notes g part _ news ends new played over end.1 before.counted noted)
    (ordered_noted g part _ ends new _ before.ordered
    (walk_here g part _ news ends played over before.counted) noted)
walked_on g part news n false ends new all played end done same =
    let before = rw all at done in
    rw same (elim end [
      | inl asks ↦ done_up g part _ news ends ends played before
          (walk_up g part _ news asks.0 asks.1 ends played asks.2 before.counted) before.ordered
      | inr apart ↦ done_up g part _ news ends ends played before
          (walk_apart g part _ news ends played (over_all g news apart.0) apart.1 before.counted)
          before.ordered
    ])

pub noted_grows : (n : ℕ) (news : List Record) (g : Setting) (is_end : Bool) (ends new : List Ending)
    → IsNotedAtEnd is_end n (standing g news) ends new → Grow ends new
noted_grows n news g true ends new adds = grow_noted ends new _ _ adds
noted_grows n news g false ends new same = rw same (grow_none ends)
