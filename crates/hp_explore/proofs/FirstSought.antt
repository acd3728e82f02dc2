-- What a search with the seed 0 finds: it tries the processors in their order.
use Rattle.std.proofs.Common.{◌≡◌, ℕ, ◌<◌, ◌≤◌, List, [], ◌∷◌, ◌++◌, length, Some, None, refl, ap, sym, subst, ◌∙◌, arith, inl, inr}
use Rattle.std.proofs.lemmas.List.{append-nil, append_assoc, same_from_push}
use Rattle.hp_units.specs.declared.replies.Record.{Record}
use Rattle.hp_states.proofs.Rooms.{push_extends}
use Rattle.hp_schedules.specs.Orders.{Extends, IsBefore}
use Rattle.hp_schedules.specs.Schedules.{Setting, plays, schedule_of}
use Rattle.hp_schedules.proofs.Regions.{before_longer, extends_cons}
use Rattle.hp_explore.specs.Aims.{AimValue, IsDone, IsFirstSought, IsLawful, IsTurnCause, NoneBefore}
use Rattle.hp_explore.specs.Faults.{IsCauseHere}
use Rattle.hp_explore.specs.Paths.{PathValue}
use Rattle.hp_explore.specs.Searches.{AreTriedTo, IsCallDone, IsTriedTo, IsTrying, number_at}
use Rattle.hp_explore.specs.declared.exploring.ExploreFault.{ExploreFault}
use Rattle.hp_explore.specs.declared.exploring.ExploreFault.TheVariants.{HistoryFull, OutOfMemory}
use Rattle.hp_explore.specs.declared.visited.Visited.{Visited}
use Rattle.hp_explore.proofs.Continued.{call_within}
use Rattle.hp_explore.proofs.Rotations.{number_within, own_number}

-- where a schedule comes before another, it has the lower number at the first difference
lower : (s t : List ℕ) → IsBefore s t → (start : List ℕ) × (c : ℕ) × (d : ℕ) × (c < d)
    × Extends s (start ++ c ∷ []) × Extends t (start ++ d ∷ [])
lower s [] before = absurd before
lower [] (d ∷ t) before = absurd before
lower (c ∷ s) (d ∷ t) before = elim before [
  | inl less ↦ ([], c, d, less, (s, refl), (t, refl))
  | inr same ↦
      let on = lower s t same.1 in (
        d ∷ on.0,
        on.1,
        on.2,
        on.3,
        extends_cons d c s (on.0 ++ on.1 ∷ []) same.0 on.4,
        extends_cons d d t (on.0 ++ on.2 ∷ []) refl on.5,
      )
]

-- what can be played and comes before the next call of the place continues from a call that is done with
done_before : (g : Setting) (aim : AimValue) (place : List ℕ) (next : ℕ) (s : List ℕ) (end : List Record)
    → IsTriedTo g aim 0 place next → AreTriedTo g aim 0 place → plays g s ≡ Some end
    → IsBefore s (place ++ next ∷ []) → (call : List ℕ) × Extends s call × IsCallDone g aim call
done_before g aim place next s end tried earlier led before =
    let at = lower s (place ++ next ∷ []) before in
    let within : at.1 < length g.scripts =
    call_within g at.0 at.4.0 at.1 end
    (ap (plays g) (sym (at.4.1 ∙ append_assoc at.0 (at.1 ∷ []) at.4.0)) ∙ led) in
    let some : 0 < length g.scripts = omega (arith, within) in
    let own = own_number (length g.scripts) (length at.0) at.1 some in (
      at.0 ++ at.1 ∷ [],
      at.4,
      elim (push_extends place (at.0 ++ at.2 ∷ []) at.5.0 next at.5.1) [
        | inl same ↦
            let one = same_from_push place at.0 next at.2 same in
            (subst (λ (p : List ℕ). IsTriedTo g aim 0 p next) one.0 tried).1 at.1 within
            (omega (arith, own, at.3, one.1))
        | inr shorter ↦ (earlier at.0 at.2 shorter).1 at.1 within
            (omega (arith, own, at.3, own_number (length g.scripts) (length at.0) at.2 some))
      ],
    )

-- so no sought schedule does
none_before : (g : Setting) (aim : AimValue) (place : List ℕ) (next : ℕ) → IsLawful g aim
    → IsTriedTo g aim 0 place next → AreTriedTo g aim 0 place → NoneBefore aim (place ++ next ∷ [])
none_before g aim place next lawful tried earlier s sought before =
    let end = lawful.played s sought in
    let call = done_before g aim place next s end.0 tried earlier end.1 before in
    call.2.0 s sought call.1

-- ---- the results

-- the place at which all calls were tried
pub first_found : (aim : AimValue) (p : PathValue) (next : ℕ) (v : Visited) (s : List ℕ)
    → IsLawful p.setting aim → length p.setting.scripts ≤ next → IsTrying aim 0 p next v
    → s ≡ schedule_of p.news → aim.found s → IsFirstSought p.setting aim (Some s)
first_found aim p next v s lawful all here is found =
    subst (λ (t : List ℕ). IsFirstSought p.setting aim (Some t)) (sym is) (
      subst aim.found is found,
      λ t sought before. none_before p.setting aim (schedule_of p.news) next lawful here.tried
          here.placed.earlier
          t sought (before_longer t (schedule_of p.news) (next ∷ []) before),
      λ t sought on. only t sought on.0 on.1,
      here.placed.along,
    )
  where
    only : (t : List ℕ) → aim.sought t → (rest : List ℕ) → t ≡ schedule_of p.news ++ rest
        → t ≡ schedule_of p.news
    only t sought [] same = same ∙ append-nil (schedule_of p.news)
    only t sought (c ∷ rest) same =
        let end = lawful.played t sought in
        let within =
        call_within p.setting (schedule_of p.news) rest c end.0 (ap (plays p.setting) (sym same) ∙ end.1) in
        absurd ((here.tried.1 c within (omega (
          arith,
          all,
          number_within (length p.setting.scripts) 0 (length (schedule_of p.news)) c within,
        ))).0 t sought (rest, same ∙ sym (append_assoc (schedule_of p.news) (c ∷ []) rest)))

-- all schedules are done with
pub none_found : (g : Setting) (aim : AimValue) → IsDone g aim [] → IsFirstSought g aim None
none_found g aim done =
    (λ s sought. done.0 s sought (s, refl), λ all fills. done.1 all fills.0 fills.1 (fills.0, refl))

-- the history has no room for the next call
pub turn_cause : (aim : AimValue) (p : PathValue) (next cpu : ℕ) (v : Visited) (fault : ExploreFault)
    → IsLawful p.setting aim → plays p.setting (schedule_of p.news) ≡ Some p.news
    → (cpu < length p.setting.scripts)
    × (number_at (length p.setting.scripts) 0 (length (schedule_of p.news)) cpu ≡ next)
    → IsTrying aim 0 p next v → aim.tries (schedule_of p.news) cpu → IsCauseHere p.setting p.news cpu fault
    → IsTurnCause p.setting aim fault
turn_cause aim p next cpu v HistoryFull lawful played at here tried full = record {
  place = schedule_of p.news;
  call = record { news = p.news; cpu = cpu; event = full.0; played = played; asked = full.1; full = full.2 };
  admitted = here.tried.0;
  tried = tried;
  none =
      none_before p.setting aim (schedule_of p.news) cpu lawful
      (subst (IsTriedTo p.setting aim 0 (schedule_of p.news))
      (sym at.1 ∙ own_number (length p.setting.scripts) (length (schedule_of p.news)) cpu
      (omega (arith, at.0))) here.tried)
      here.placed.earlier;
}
turn_cause aim p next cpu v OutOfMemory lawful played at here tried full = tt
