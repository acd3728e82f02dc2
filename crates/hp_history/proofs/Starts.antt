-- Where the deltas of a step begin, as a journal changes.
use Rattle.std.proofs.Common.{◌≡◌, ℕ, ◌<◌, ◌≤◌, List, [], ◌∷◌, ◌++◌, length, take, Option, ap, sym, ◌∙◌, arith, inl, inr}
use Rattle.std.specs.Option.{option_map_or}
use Rattle.std.proofs.lemmas.List.{length-take-le}
use Rattle.std.proofs.lemmas.Option.{slice_get_past}
use Rattle.std.proofs.lemmas.Bool.{cases_lt}
use Rattle.hp_laws.proofs.Lists.{get_end, get_left, get_some, get_take}
use Rattle.hp_history.specs.declared.entries.Entry.{Entry}
use Rattle.hp_history.specs.Entries.{start_of}

-- past the last step: at the end
pub start-past : (es : List Entry) (end j : ℕ) → length es ≤ j → start_of es end j ≡ end
start-past es end j past = rw (slice_get_past es j past)

-- one step more, which begins at the end
pub start-push : {end : ℕ} (es : List Entry) (e : Entry) (more j : ℕ) → e.start ≡ end → j ≤ length es
    → start_of (es ++ e ∷ []) more j ≡ start_of es end j
start-push {end = end} es e more j is le =
    elim (cases_lt j (length es)) [
      | inl less ↦ rw (let here = get_some es j less in ap
          (λ (o : Option Entry). option_map_or (λ (x : Entry). x.start) o more) (get_left es (e ∷ []) j less
          ∙ here.1) ∙ sym (ap (λ (o : Option Entry). option_map_or (λ (x : Entry). x.start) o end) here.1))
      | inr past ↦ (let same : j ≡ length es = omega arith in
          ap (λ (i : ℕ). start_of (es ++ e ∷ []) more i) same
          ∙ (ap (λ (o : Option Entry). option_map_or (λ (x : Entry). x.start) o more) (get_end es e)
          ∙ (is ∙ sym (start-past es end j past))))
    ]

-- the first steps, on a tape that ends where the next one began
pub start-take : (es : List Entry) (end j k : ℕ) → j ≤ k → k ≤ length es
    → start_of (take k es) (start_of es end k) j ≡ start_of es end j
start-take es end j k le within =
    let long : length (take k es) ≡ k = length-take-le k es within in
    elim (cases_lt j k) [
      | inl less ↦ rw (let below : j < length (take k es) = omega (arith, less, long) in let here = get_some
          (take k es) j below in ap (λ (o : Option Entry). option_map_or (λ (x : Entry). x.start) o
          (start_of es end k)) here.1 ∙ sym (ap (λ (o : Option Entry). option_map_or (λ (x : Entry). x.start)
          o end) (get_take k es here.0 j here.1).1))
      | inr past ↦ (let same : j ≡ k = omega arith in
          let beyond : length (take k es) ≤ j = omega (arith, past, long) in
          start-past (take k es) (start_of es end k) j beyond ∙ ap (λ (i : ℕ). start_of es end i) (sym same))
    ]
