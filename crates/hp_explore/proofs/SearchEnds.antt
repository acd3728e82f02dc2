-- Which places of a search are ends as wanted.
use Rattle.std.proofs.Common.{◌≡◌, ℕ, Bool, List, [], length, Some, None, refl, sym, subst}
use Rattle.std.specs.Prelude.{◌↔◌, IsTrue}
use Rattle.std.proofs.lemmas.List.{append-nil}
use Rattle.hp_units.specs.declared.replies.Record.{Record}
use Rattle.hp_explore.specs.Paths.{IsOver, PathValue, state_at}
use Rattle.hp_schedules.specs.Outcomes.{OutcomeValue, outcome}
use Rattle.hp_schedules.specs.Schedules.{Setting, next_call, outcome_after, plays, schedule_of}
use Rattle.hp_schedules.proofs.Plays.{only_this}
use Rattle.hp_explore.specs.Reaching.{Reaches}
use Rattle.hp_questions.specs.Wanted.{Meets}
use Rattle.hp_questions.specs.declared.wanted.Wanted.{Wanted}

-- ---- the end of a place

-- where all are over it is one just where its outcome has the lines
end_meets : (g : Setting) (wanted : List Wanted) (news : List Record)
    → plays g (schedule_of news) ≡ Some news → ((cpu : ℕ) → next_call g cpu news ≡ None)
    → Reaches g wanted (schedule_of news) → Meets g.layout.cpus g.scripts wanted (outcome_after g news)
end_meets g wanted news played over reaches =
    subst (Meets g.layout.cpus g.scripts wanted)
    (only_this g (schedule_of news) news (schedule_of news) reaches.0 played over
    ([], sym (append-nil (schedule_of news))) reaches.1).1 reaches.2

-- so a test of the outcome tells whether it is one
pub end_told : (p : PathValue) (wanted : List Wanted) (processors : ℕ) (x : OutcomeValue) (told : Bool)
    → plays p.setting (schedule_of p.news) ≡ Some p.news → IsOver p → processors ≡ length p.setting.scripts
    → x ≡ outcome processors p.news p.setting.layout (state_at p)
    → (IsTrue told ↔ Meets p.setting.layout.cpus p.setting.scripts wanted x)
    → IsTrue told ↔ Reaches p.setting wanted (schedule_of p.news)
unfolding outcome_after
end_told p wanted processors x told played over all is met =
    let here : x ≡ outcome_after p.setting p.news = rw (is, all) in
    let meets = Meets p.setting.layout.cpus p.setting.scripts wanted in (
      λ yes. (
        outcome_after p.setting p.news,
        record { news = p.news; played = played; over = over; ends = refl },
        subst meets here (met.0 yes),
      ),
      λ reaches. met.1 (subst meets (sym here) (end_meets p.setting wanted p.news played over reaches)),
    )
