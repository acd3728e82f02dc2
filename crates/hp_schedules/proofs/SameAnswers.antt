-- Receipts that are the same but for the numbers of operations give lines the same answers.
use Rattle.std.proofs.Common.{◌≡◌, ℕ, zero, suc, List, [], ◌∷◌, ◌++◌, length, map, take, eqb, Option, Some, None, slice_get, refl, ap, ◌∙◌, inl, inr, arith}
use Rattle.std.specs.Prelude.{fold, option_map}
use Rattle.std.specs.Option.{option_map_or}
use Rattle.std.proofs.lemmas.Bool.{cases_Bool}
use Rattle.std.proofs.lemmas.List.{append_assoc}
use Rattle.std.proofs.lemmas.List.Sums.{fold-append}
use Rattle.hp_ops.proofs.Receipts.{end_push}
use Rattle.hp_units.specs.Driver.{cause_after, cause_of, end_after, end_of}
use Rattle.hp_units.specs.Receipts.{receipt_of, receipts_of}
use Rattle.hp_units.specs.declared.events.Event.TheVariants.{DrainFor, Migrate, Commit, Cancel}
use Rattle.hp_units.specs.declared.replies.OpEnd.{OpEnd}
use Rattle.hp_units.specs.declared.replies.Receipt.{Receipt}
use Rattle.hp_units.specs.declared.replies.Record.{Record}
use Rattle.hp_units.specs.declared.replies.Refusal.{Refusal}
use Rattle.hp_units.specs.declared.replies.Reply.{Reply}
use Rattle.hp_laws.specs.Renumbered.{renumbered_reply}
use Rattle.hp_laws.proofs.Alike.{unseen_same}
use Rattle.hp_schedules.specs.Continuing.{AreSameReceipts, IsSameReceipt, anonymous_record}
use Rattle.hp_schedules.specs.LineAnswers.{answer_of, answers_in, without}
use Rattle.hp_schedules.specs.Scripts.{after_line, nothing_known}
use Rattle.hp_schedules.specs.declared.line_answers.LineAnswer.TheVariants.{Reply as Replied, Plan as Carried}
use Rattle.hp_schedules.specs.declared.scripts.Step.{Step}
use Rattle.hp_schedules.specs.declared.scripts.Step.TheVariants.{Ask, Own, Carry}
use Rattle.hp_schedules.proofs.Begun.{IsPush, push_cases}
use Rattle.hp_schedules.proofs.OneCalls.{finished_once}
use Rattle.hp_schedules.proofs.RenumberedLines.{AreSameRests, begin_alike, rest_alike}

-- ---- lists of receipts

pub same_long : (p q : ℕ → ℕ) (xs ys : List Receipt) → AreSameReceipts p q xs ys → length xs ≡ length ys
same_long p q [] [] same = refl
same_long p q (r ∷ xs) (s ∷ ys) same = omega (arith, same_long p q xs ys same.1)
same_long p q xs ys same = absurd same

pub take_same : (p q : ℕ → ℕ) (n : ℕ) (xs ys : List Receipt) → AreSameReceipts p q xs ys
    → AreSameReceipts p q (take n xs) (take n ys)
take_same p q zero xs ys same = tt
take_same p q (suc n) [] [] same = tt
take_same p q (suc n) (r ∷ xs) (s ∷ ys) same = (same.0, take_same p q n xs ys same.1)
take_same p q (suc n) xs ys same = absurd same

-- ---- the end of a plan

-- the operation that an event works on shows neither in its cause nor in its end
migrate_cause : (cause : Option Refusal) (reply : Reply) (op other : ℕ)
    → cause_after cause (Migrate op) reply ≡ cause_after cause (Migrate other) reply
migrate_cause cause reply op other = grind arith

commit_cause : (cause : Option Refusal) (reply : Reply) (op other : ℕ)
    → cause_after cause (Commit op) reply ≡ cause_after cause (Commit other) reply
commit_cause cause reply op other = grind arith

cause_same : (p q : ℕ → ℕ) (cause : Option Refusal) (r s : Receipt) → IsSameReceipt p q r s
    → cause_after cause r.event r.reply ≡ cause_after cause s.event s.reply
cause_same p q cause r s same =
    unseen_same (λ e. cause_after cause e r.reply) (λ op other drained. refl) (migrate_cause cause r.reply)
    (commit_cause cause r.reply) (λ op other. refl) p q r.event s.event same.event
    ∙ ap (cause_after cause s.event) same.reply

drain_end : (cause : Option Refusal) (reply : Reply) (op other drained : ℕ)
    → end_after cause (DrainFor op drained) reply ≡ end_after cause (DrainFor other drained) reply
drain_end cause reply op other drained = grind arith

migrate_end : (cause : Option Refusal) (reply : Reply) (op other : ℕ)
    → end_after cause (Migrate op) reply ≡ end_after cause (Migrate other) reply
migrate_end cause reply op other = grind arith

commit_end : (cause : Option Refusal) (reply : Reply) (op other : ℕ)
    → end_after cause (Commit op) reply ≡ end_after cause (Commit other) reply
commit_end cause reply op other = grind arith

cancel_end : (cause : Option Refusal) (reply : Reply) (op other : ℕ)
    → end_after cause (Cancel op) reply ≡ end_after cause (Cancel other) reply
cancel_end cause reply op other = grind arith

last_end : (p q : ℕ → ℕ) (cause : Option Refusal) (r s : Receipt) → IsSameReceipt p q r s
    → end_after cause r.event r.reply ≡ end_after cause s.event s.reply
last_end p q cause r s same =
    unseen_same (λ e. end_after cause e r.reply) (drain_end cause r.reply) (migrate_end cause r.reply)
    (commit_end cause r.reply) (cancel_end cause r.reply) p q r.event s.event same.event
    ∙ ap (end_after cause s.event) same.reply

-- the last refusal after the same receipts
causes_same : (p q : ℕ → ℕ) (a b : Option Refusal) (xs ys : List Receipt) → a ≡ b → AreSameReceipts p q xs ys
    → fold (λ (cause : Option Refusal) (r : Receipt). cause_after cause r.event r.reply) a xs
    ≡ fold (λ (cause : Option Refusal) (r : Receipt). cause_after cause r.event r.reply) b ys
causes_same p q a b [] [] is same = is
causes_same p q a b (r ∷ xs) (s ∷ ys) is same =
    causes_same p q (cause_after a r.event r.reply) (cause_after b s.event s.reply) xs ys
    (cause_same p q a r s same.0 ∙ ap (λ (cause : Option Refusal). cause_after cause s.event s.reply) is)
    same.1
causes_same p q a b xs ys is same = absurd same

-- receipts that are the same as others and one more
record SamePush (p q : ℕ → ℕ) (front : List Receipt) (last : Receipt) (given : List Receipt) : Type 0 where
  pub others : List Receipt
  pub other : Receipt
  pub given_is : given ≡ others ++ other ∷ []
  pub fronts : AreSameReceipts p q front others
  pub lasts : IsSameReceipt p q last other

same_push : (p q : ℕ → ℕ) (front : List Receipt) (last : Receipt) (given : List Receipt)
    → AreSameReceipts p q (front ++ last ∷ []) given → SamePush p q front last given
same_push p q [] last [] same = absurd same
same_push p q [] last (s ∷ []) same =
    record { others = []; other = s; given_is = refl; fronts = tt; lasts = same.0 }
same_push p q [] last (s ∷ t ∷ given) same = absurd same.1
same_push p q (r ∷ front) last [] same = absurd same
same_push p q (r ∷ front) last (s ∷ given) same =
    let rest = same_push p q front last given same.1 in
    record {
      others = s ∷ rest.others;
      other = rest.other;
      given_is = ap (λ (rs : List Receipt). s ∷ rs) rest.given_is;
      fronts = (same.0, rest.fronts);
      lasts = rest.lasts;
    }

-- the end does not depend on more of the earlier receipts than their last refusal
pub end_alike : (p q : ℕ → ℕ) (xs ys own given : List Receipt) → IsPush own → AreSameReceipts p q own given
    → cause_of xs ≡ cause_of ys → end_of (xs ++ own) ≡ end_of (ys ++ given)
end_alike p q xs ys own given push same causes =
    rw (at xs _ _ _ push.list_is, at ys _ _ _ both.given_is, fronts)
    (rw (last_end p q (cause_after before push.last.event push.last.reply) _ _ both.lasts)
    (rw (cause_same p q before _ _ both.lasts)))
  where
    both : SamePush p q push.front push.last given
    both = same_push p q _ _ _ (rw push.list_is at same)

    before : Option Refusal
    before = cause_of (ys ++ both.others)

    fronts : cause_of (xs ++ push.front) ≡ cause_of (ys ++ both.others)
    fronts = simp fold-append (causes_same p q _ _ _ _ causes both.fronts)

    at : (zs rs front : List Receipt) (last : Receipt) → rs ≡ front ++ last ∷ []
        → end_of (zs ++ rs)
        ≡ end_after (cause_after (cause_of (zs ++ front)) last.event last.reply) last.event last.reply
    at zs rs front last is = rw (is, ← append_assoc zs front (last ∷ [])) (end_push (zs ++ front) last)

pub end_same : (p q : ℕ → ℕ) (own given : List Receipt) → AreSameReceipts p q own given
    → end_of own ≡ end_of given
end_same p q [] [] same = refl
end_same p q (r ∷ own) (s ∷ given) same =
    elim (push_cases (r ∷ own))
    [ inl none ↦ absurd cc | inr push ↦ end_alike p q [] [] (r ∷ own) (s ∷ given) push same refl ]
end_same p q own given same = absurd same

-- ---- answers

first_same : (p q : ℕ → ℕ) (own given : List Receipt) → AreSameReceipts p q own given
    → option_map (λ (r : Receipt). Replied r.reply) (slice_get own 0)
    ≡ option_map (λ (r : Receipt). Replied r.reply) (slice_get given 0)
first_same p q [] [] same = refl
first_same p q (r ∷ own) (s ∷ given) same = ap (λ (reply : Reply). Some (Replied reply)) same.0.reply
first_same p q own given same = absurd same

answer_same : (p q : ℕ → ℕ) (line : Step) (own given : List Receipt) → AreSameReceipts p q own given
    → answer_of line own ≡ answer_of line given
answer_same p q (Carry plan turns) own given same =
    ap (λ (end : Option OpEnd). option_map Carried end) (end_same p q own given same)
answer_same p q (Ask event) own given same = first_same p q own given same
answer_same p q (Own work) own given same = first_same p q own given same

-- what a line leaves of the receipts
line_leaves : (p q : ℕ → ℕ) (cpus : ℕ) (line : Step) (xs ys : List Receipt) → AreSameReceipts p q xs ys
    → AreSameRests p q (after_line cpus nothing_known line [] xs) (after_line cpus nothing_known line [] ys)
line_leaves p q cpus (Carry plan turns) xs ys same = grind (arith, rest_alike, begin_alike)
line_leaves p q cpus line [] [] same = tt
line_leaves p q cpus line (r ∷ xs) (s ∷ ys) same =
    rw (finished_once cpus nothing_known line r xs refl)
    (rw (finished_once cpus nothing_known line s ys refl) same.1)
line_leaves p q cpus line xs ys same = absurd same

-- the receipts before those that are left
pub without_same : (p q : ℕ → ℕ) (xs ys rest left : List Receipt) → AreSameReceipts p q xs ys
    → AreSameReceipts p q rest left → AreSameReceipts p q (without xs rest) (without ys left)
without_same p q xs ys rest left same are = grind (arith, same_long, take_same)

pub answers_same : (p q : ℕ → ℕ) (cpus : ℕ) (lines : List Step) (xs ys : List Receipt)
    → AreSameReceipts p q xs ys → answers_in cpus lines xs ≡ answers_in cpus lines ys
answers_same p q cpus [] xs ys same = refl
answers_same p q cpus (line ∷ lines) xs ys same =
    by_rests _ _ (line_leaves p q cpus line _ _ same) (λ rest left are. answers_same p q cpus lines _ _ are)
  where
    by_rests : (o u : Option (List Receipt)) → AreSameRests p q o u
        → ((rest left : List Receipt) → AreSameReceipts p q rest left
        → answers_in cpus lines rest ≡ answers_in cpus lines left)
        → option_map_or (λ rest. answer_of line (without xs rest) ∷ answers_in cpus lines rest) o []
        ≡ option_map_or (λ rest. answer_of line (without ys rest) ∷ answers_in cpus lines rest) u []
    by_rests None None are later = refl
    by_rests (Some rest) (Some left) are later =
        rw (answer_same p q line _ _ (without_same p q _ _ _ _ same are)) (rw (later rest left are))
    by_rests o u are later = absurd are

-- ---- records

-- each operation has the same number
abbrev pub nameless : ℕ → ℕ
nameless op = 0

-- records that are the same without the operations that they work on have such receipts
pub receipts_same : (cpu : ℕ) (more others : List Record)
    → map anonymous_record more ≡ map anonymous_record others
    → AreSameReceipts nameless nameless (receipts_of cpu more) (receipts_of cpu others)
receipts_same cpu [] [] same = tt
receipts_same cpu (r ∷ more) (s ∷ others) same =
    rw (← ap (λ (x : Record). eqb x.cpu cpu) first) (elim (cases_Bool (eqb r.cpu cpu)) [
      | inl e ↦ rw e (one, receipts_same cpu more others rest)
      | inr e ↦ rw e (receipts_same cpu more others rest)
    ])
  where
    first : anonymous_record r ≡ anonymous_record s
    first = cc

    rest : map anonymous_record more ≡ map anonymous_record others
    rest = cc

    reply : r.reply ≡ s.reply
    reply = ap (λ (x : Record). x.reply) first

    one : IsSameReceipt nameless nameless (receipt_of r) (receipt_of s)
    one = record {
      number = refl;
      event = ap (λ (x : Record). x.event) first;
      reply = reply;
      told = ap (renumbered_reply nameless) reply;
    }
receipts_same cpu more others same = absurd cc
