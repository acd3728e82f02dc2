-- The lines of a summary, one more at a time.
use Rattle.std.proofs.Common.{◌≡◌, ℕ, ◌+◌, List, [], ◌∷◌, ◌++◌, length, take, Some, slice_get, refl, ap, sym, ◌∙◌, arith, append_assoc, inl, inr}
use Rattle.std.proofs.lemmas.List.{append-nil, flat_map_more, length-take-le, length_push}
use Rattle.std.proofs.lemmas.Option.{slice_get_within}
use Rattle.hp_laws.proofs.Lists.{get_end, get_push_cases}
use Rattle.hp_laws.proofs.Replays.{take_one}
use Rattle.hp_schedules.proofs.Counting.{get_longer}
use Rattle.hp_schedules.specs.declared.tally.Ending.{Ending}
use Rattle.hp_search.specs.Summaries.{Continues, WritesLine, WritesLines, line_start}

-- ---- a text that goes on

pub goes_on : (a b c more : List ℕ) → Continues a b → c ≡ b ++ more → Continues a c
goes_on a b c more h is =
    (h.0 ++ more, rw (is, h.1, append_assoc a))

pub and_on : (a b c : List ℕ) → Continues a b → Continues b c → Continues a c
and_on a b c h k = goes_on a b c k.0 h k.1

pub begun : (a b : List ℕ) → b ≡ a → Continues a b
begun a b is = ([], is ∙ sym (append-nil a))

-- ---- lines

pub one_more : (ends : List Ending) (old now new : List ℕ) (at : ℕ) (e : Ending) → slice_get ends at ≡ Some e
    → WritesLines (take at ends) old now → WritesLine (at + 1) e now new
    → WritesLines (take (at + 1) ends) old new
one_more ends old now new at e here so_far last =
    rw (take_one ends at e here) (
      lines ++ line ∷ [],
      record {
        many = omega (arith, length_push lines line, length_push (take at ends) e, so_far.1.many);
        each = each;
      },
      last.1 ∙ (append_assoc now (line_start (at + 1) e) last.0
          ∙ (ap (λ (t : List ℕ). t ++ line) so_far.2 ∙ flat_map_more (λ (l : List ℕ). l) old lines line)),
    )
  where
    lines : List (List ℕ)
    lines = so_far.0

    line : List ℕ
    line = line_start (at + 1) e ++ last.0

    as_many : length (take at ends) ≡ at
    as_many = length-take-le at ends (omega (arith, slice_get_within ends at e here))

    each : (k : ℕ) (l : List ℕ) → slice_get (lines ++ line ∷ []) k ≡ Some l
        → (d : Ending) × (slice_get (take at ends ++ e ∷ []) k ≡ Some d) × Continues (line_start (k + 1) d) l
    each k l h =
        elim (get_push_cases lines line l k h) [
          | inl before ↦
              (let is = so_far.1.each k l before in
              (is.0, get_longer (take at ends) (e ∷ []) k is.0 is.1, is.2))
          | inr it ↦ (
            e,
            rw (it.0, so_far.1.many) (get_end (take at ends) e),
            rw (← it.1, it.0, so_far.1.many, as_many) (last.0, refl),
          )
        ]
