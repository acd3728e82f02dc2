-- Where processors stand: a call and its way back, and what it gave its line.
use Rattle.std.proofs.Common.{◌≡◌, ℕ, ◌+◌, List, [], ◌∷◌, ◌++◌, true, take, Some, slice_get, ap, subst, ◌∙◌, inl, inr}
use Rattle.std.proofs.lemmas.List.{length_push, map-append}
use Rattle.hp_laws.proofs.Lists.{get_push_cases}
use Rattle.hp_laws.proofs.Replays.{take_one}
use Rattle.hp_units.specs.declared.replies.Record.{Record}
use Rattle.hp_explore.specs.Paths.{IsForth, PathValue}
use Rattle.hp_schedules.proofs.Plays.{caller}
use Rattle.hp_schedules.specs.Schedules.{Setting, record_of_call, schedule_of}
use Rattle.hp_explain.specs.Explaining.{MayRun}
use Rattle.hp_explain.specs.Standings.{AreStandingsBelow, IsLatestAnswer, IsNext, IsNextAnswer, IsStanding}
use Rattle.hp_explain.specs.declared.observed.ObservedLine.{ObservedLine}
use Rattle.hp_explain.specs.declared.standing.Next.{Next}
use Rattle.hp_explain.specs.declared.standing.Next.TheVariants.{Answered, GoesOn}
use Rattle.hp_explain.specs.declared.standing.Standing.{Standing}

-- what a call gave its line
pub answered_forth : (p q : PathValue) (cpu : ℕ) (next : Next) → IsForth p cpu true q
    → ((before : List Record) (r : Record) → q.news ≡ before ++ r ∷ []
    → IsLatestAnswer q.setting r.cpu before q.news next) → IsNextAnswer p.setting p.news cpu next
answered_forth p q cpu next forth latest =
    let r = record_of_call p.setting p.news cpu forth.0 in (
      forth.0,
      forth.1,
      subst (λ (c : ℕ). IsLatestAnswer p.setting c p.news (p.news ++ r ∷ []) next)
          (caller p.setting p.news cpu forth.0)
          (subst (λ (x : PathValue). IsLatestAnswer x.setting r.cpu p.news x.news next) forth.3
          (latest p.news r (ap (λ (x : PathValue). x.news) forth.3))),
    )

pub next_answered : (g : Setting) (seen : List (List ObservedLine)) (news : List Record) (cpu : ℕ)
    (next : Next) → MayRun g seen news cpu → IsNextAnswer g news cpu next → IsNext g seen news cpu next
next_answered g seen news cpu (Answered answer) runs is = (runs, is)
next_answered g seen news cpu GoesOn runs is = (runs, is)
next_answered g seen news cpu next runs is = absurd is.2

-- ---- one more

-- one processor more
pub stand_more : (g : Setting) (seen : List (List ObservedLine)) (news : List Record) (cpus : ℕ)
    (all : List Standing) (s : Standing)
    → AreStandingsBelow g seen news cpus all → IsStanding g seen news cpus s
    → AreStandingsBelow g seen news (cpus + 1) (all ++ s ∷ [])
stand_more g seen news cpus all s before own = (
  length_push all s ∙ ap (λ (n : ℕ). n + 1) before.0,
  λ cpu x here. elim (get_push_cases all s x cpu here) [
    | inl old ↦ before.1 cpu x old
    | inr new ↦ rw (← new.1, new.0, before.0) own
  ],
)

-- one call more
pub played_further : (p q : PathValue) (cpu at : ℕ) (schedule : List ℕ)
    → IsForth p cpu true q → slice_get schedule at ≡ Some cpu → schedule_of p.news ≡ take at schedule
    → schedule_of q.news ≡ take (at + 1) schedule
played_further p q cpu at schedule forth here front =
    rw (forth.3, map-append, caller p.setting p.news cpu forth.0, front, ← take_one schedule at cpu here)
