-- Answers to lines: those before a place, those after it, and later ones.
use Rattle.std.proofs.Common.{◌≡◌, ℕ, ◌-◌, false, List, [], ◌∷◌, ◌++◌, length, take, Some, slice_get, refl, ap, ◌∙◌, arith, inl, inr}
use Rattle.std.specs.Option.{option_map_or}
use Rattle.std.proofs.lemmas.Bool.{ne_eqb}
use Rattle.std.proofs.lemmas.List.{append-nil, append_assoc, length-append, map-append, take-append-le, take_all}
use Rattle.std.proofs.lemmas.List.Elements.{filter-append}
use Rattle.std.proofs.lemmas.Option.{same_Some, none-some}
use Rattle.hp_units.specs.Receipts.{receipts_of}
use Rattle.hp_units.specs.declared.replies.Receipt.{Receipt}
use Rattle.hp_units.specs.declared.replies.Record.{Record}
use Rattle.hp_schedules.specs.LineAnswers.{Grow, answer_of, answers_at, answers_in, without}
use Rattle.hp_schedules.specs.Schedules.{Setting}
use Rattle.hp_schedules.specs.Scripts.{after_line, after_lines, nothing_known}
use Rattle.hp_schedules.specs.declared.scripts.Step.{Step}
use Rattle.hp_schedules.specs.declared.scripts.Step.TheVariants.{Carry}
use Rattle.hp_schedules.proofs.AfterLines.{after_more, after_parts, first_then}
use Rattle.hp_laws.proofs.Options.{cases_option}
use Rattle.hp_schedules.proofs.Steps.{receipts_push}

-- ---- the first line

-- the receipts that it took
pub without_is : (own rest : List Receipt) → without (own ++ rest) rest ≡ own
without_is own rest =
    ap (λ (n : ℕ). take n (own ++ rest)) whole
    ∙ (take-append-le (length own) own rest (omega arith) ∙ take_all (length own) own (omega arith))
  where
    whole : length (own ++ rest) - length rest ≡ length own
    whole = omega (arith, length-append own rest)

-- more receipts do not change its answer
pub first_more : (cpus : ℕ) (line : Step) (lines : List Step) (receipts more rest : List Receipt)
    → after_line cpus nothing_known line [] receipts ≡ Some rest
    → answers_in cpus (line ∷ lines) (receipts ++ more)
    ≡ answer_of line (without receipts rest) ∷ answers_in cpus lines (rest ++ more)
first_more cpus line lines receipts more rest is =
    grind (arith, after_parts, after_more, append_assoc, without_is)

-- ---- lines up to a place

-- no line is finished before its first receipt
pub none_begun : (cpus : ℕ) (lines : List Step) → answers_in cpus lines [] ≡ []
none_begun cpus [] = refl
none_begun cpus (Carry plan turns ∷ lines) = refl
none_begun cpus (line ∷ lines) = refl

pub answers_past : (cpus : ℕ) (lines others : List Step) (receipts rest : List Receipt)
    → after_lines cpus nothing_known lines receipts ≡ Some rest
    → answers_in cpus (lines ++ others) receipts
    ≡ answers_in cpus lines receipts ++ answers_in cpus others rest
answers_past cpus [] others receipts rest is = ap (answers_in cpus others) (same_Some receipts rest is)
answers_past cpus (line ∷ lines) others receipts rest is =
    grind (arith, cases_option, none-some, answers_past cpus lines)

-- each has an answer, which stays
pub answers_many : (cpus : ℕ) (lines : List Step) (receipts rest : List Receipt)
    → after_lines cpus nothing_known lines receipts ≡ Some rest
    → length (answers_in cpus lines receipts) ≡ length lines
answers_many cpus [] receipts rest is = refl
answers_many cpus (line ∷ lines) receipts rest is =
    grind (arith, cases_option, none-some, answers_many cpus lines)

pub answers_kept : (cpus : ℕ) (lines : List Step) (receipts more rest : List Receipt)
    → after_lines cpus nothing_known lines receipts ≡ Some rest
    → answers_in cpus lines (receipts ++ more) ≡ answers_in cpus lines receipts
answers_kept cpus [] receipts more rest is = refl
answers_kept cpus (line ∷ lines) receipts more rest is =
    let parts = first_then cpus nothing_known line lines receipts rest is in
    rw (first_more cpus line lines receipts more parts.left parts.first)
    (rw (answers_kept cpus lines parts.left more rest parts.others, parts.first))

-- ---- later answers

pub answers_grow : (cpus : ℕ) (lines : List Step) (receipts more : List Receipt)
    → Grow (answers_in cpus lines receipts) (answers_in cpus lines (receipts ++ more))
answers_grow cpus [] receipts more = ([], refl)
answers_grow cpus (line ∷ lines) receipts more =
    elim (cases_option (after_line cpus nothing_known line [] receipts)) [
      | inl none ↦ (answers_in cpus (line ∷ lines) (receipts ++ more), rw none)
      | inr rest ↦ (let later = answers_grow cpus lines rest.0 more in
          (later.0, rw (first_more cpus line lines receipts more rest.0 rest.1, later.1, rest.1)))
    ]

pub receipts_later : (cpu : ℕ) (news more : List Record)
    → receipts_of cpu (news ++ more) ≡ receipts_of cpu news ++ receipts_of cpu more
receipts_later cpu news more = simp (filter-append, map-append)

pub grow_at : (g : Setting) (cpu : ℕ) (news more : List Record)
    → Grow (answers_at g cpu news) (answers_at g cpu (news ++ more))
unfolding answers_at
grow_at g cpu news more =
    elim (cases_option (slice_get g.scripts cpu)) [
      | inl none ↦ rw none ([], refl)
      | inr lines ↦ rw (lines.1, receipts_later cpu news more)
          (answers_grow g.layout.cpus lines.0 (receipts_of cpu news) (receipts_of cpu more))
    ]

-- a record of another processor leaves a processor's answers
pub others_stay : (g : Setting) (cpu : ℕ) (news : List Record) (r : Record) → (r.cpu ≡ cpu → ⊥)
    → answers_at g cpu (news ++ r ∷ []) ≡ answers_at g cpu news
unfolding answers_at
others_stay g cpu news r other =
    ap (λ (rs : List Receipt).
    option_map_or (λ lines. answers_in g.layout.cpus lines rs) (slice_get g.scripts cpu) []) same
  where
    same : receipts_of cpu (news ++ r ∷ []) ≡ receipts_of cpu news
    same = receipts_push cpu news r false (ne_eqb r.cpu cpu other) ∙ append-nil (receipts_of cpu news)
