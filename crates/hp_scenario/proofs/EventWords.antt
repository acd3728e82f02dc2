-- What a verb and the words after it ask for, by how many words there are.
use Rattle.std.proofs.Common.{◌≡◌, ℕ, ◌<◌, ◌≤◌, List, [], ◌∷◌, length, get_or, map, Bor, option_map, refl, arith}
use Rattle.hp_scenario.specs.Lines.{event, event_of, event_of_number, request_of_two, request_of_three, request_of_four}

abbrev Word : Type 0
Word = Bor (List ℕ)

abbrev texts : List Word → List (List ℕ)
texts words = map (λ (w : Word). w.now) words

pub of_one : (verb : List ℕ) (words : List Word) (d : Word) → 1 ≤ length words → length words < 2
    → event_of verb (texts words) ≡ option_map event (event_of_number verb (get_or words 0 d).now)
unfolding event_of
of_one verb [] d least below = absurd (omega (arith, least))
of_one verb (a ∷ []) d least below = refl
of_one verb (a ∷ b ∷ words) d least below = absurd (omega (arith, below))

pub of_two : (verb : List ℕ) (words : List Word) (d : Word) → 2 ≤ length words → length words < 3
    → event_of verb (texts words) ≡ request_of_two verb (get_or words 0 d).now (get_or words 1 d).now
unfolding event_of
of_two verb (a ∷ b ∷ []) d least below = refl
of_two verb (a ∷ b ∷ e ∷ words) d least below = absurd (omega (arith, below))
of_two verb _ d least below = absurd (omega (arith, least))

pub of_three : (verb : List ℕ) (words : List Word) (d : Word) → 3 ≤ length words → length words < 4
    → event_of verb (texts words)
    ≡ request_of_three verb (get_or words 0 d).now (get_or words 1 d).now (get_or words 2 d).now
unfolding event_of
of_three verb (a ∷ b ∷ e ∷ []) d least below = refl
of_three verb (a ∷ b ∷ e ∷ f ∷ words) d least below = absurd (omega (arith, below))
of_three verb _ d least below = absurd (omega (arith, least))

pub of_four : (verb : List ℕ) (words : List Word) (d : Word) → 4 ≤ length words → length words < 5
    → event_of verb (texts words)
    ≡ request_of_four verb (get_or words 0 d).now (get_or words 1 d).now (get_or words 2 d).now
    (get_or words 3 d).now
unfolding event_of
of_four verb (a ∷ b ∷ e ∷ f ∷ []) d least below = refl
of_four verb (a ∷ b ∷ e ∷ f ∷ g ∷ words) d least below = absurd (omega (arith, below))
of_four verb _ d least below = absurd (omega (arith, least))
