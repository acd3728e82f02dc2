-- Replies that are compared with what records tell, one by one.
use Rattle.std.proofs.Common.{◌≡◌, ℕ, zero, suc, ◌+◌, ◌<◌, ◌≤◌, Bool, true, false, cond, List, [], ◌∷◌, ◌++◌, length, take, get_or, eqb, Some, slice_get, ap, sym, ◌∙◌, arith, inl, inr}
use Rattle.std.proofs.lemmas.Bool.{cases_Bool}
use Rattle.std.proofs.lemmas.List.{append-nil, length-take-le, map-append}
use Rattle.std.proofs.lemmas.List.Elements.{filter-append}
use Rattle.std.proofs.lemmas.Option.{same_Some}
use Rattle.hp_laws.proofs.Replays.{take_one}
use Rattle.hp_units.specs.declared.replies.Record.{Record}
use Rattle.hp_units.specs.declared.replies.Reply.{Reply}
use Rattle.std.proofs.lemmas.List.FromFn.{get_or-map-range_with_len}
use Rattle.hp_schedules.specs.Outcomes.{replies_below, replies_to, told}
use Rattle.hp_schedules.proofs.Places.{replies_more}

-- what a processor is told by one record more
told_push : (cpu : ℕ) (h : List Record) (r : Record) (own : Bool) → eqb r.cpu cpu ≡ own
    → replies_to cpu (h ++ r ∷ []) ≡ replies_to cpu h ++ cond own (told r.reply ∷ []) []
told_push cpu h r own is =
    simp (filter-append, map-append) (rw is (elim (cases_Bool own) [ inl e ↦ rw e | inr e ↦ rw e ]))

-- the record at a place tells the reply after those that its processor was told before
told_at : (cpu : ℕ) (news : List Record) (k : ℕ) (r : Record) → slice_get news k ≡ Some r
    → eqb r.cpu cpu ≡ true
    → slice_get (replies_to cpu news) (length (replies_to cpu (take k news))) ≡ Some (told r.reply)
told_at cpu [] k r here own = absurd cc
told_at cpu (x ∷ news) zero r here own = grind (arith, same_Some)
told_at cpu (x ∷ news) (suc k) r here own =
    grind (arith, cases_Bool, told_at cpu news k r here own, told_at cpu news k r here own)

-- ---- as they are compared

-- a record of another processor tells it nothing
pub replies_past : (cpu : ℕ) (replies : List Reply) (news : List Record) (k : ℕ) (r : Record)
    → slice_get news k ≡ Some r → eqb r.cpu cpu ≡ false → replies ≡ replies_to cpu (take k news)
    → replies ≡ replies_to cpu (take (k + 1) news)
replies_past cpu replies news k r here other so_far =
    rw (take_one news k r here, told_push cpu (take k news) r false other, append-nil) so_far

-- one of its own tells it one reply
pub replies_own : (cpu : ℕ) (replies : List Reply) (news : List Record) (k : ℕ) (r : Record)
    → slice_get news k ≡ Some r → eqb r.cpu cpu ≡ true → replies ≡ replies_to cpu (take k news)
    → replies ++ told r.reply ∷ [] ≡ replies_to cpu (take (k + 1) news)
replies_own cpu replies news k r here own so_far =
    rw (take_one news k r here, told_push cpu (take k news) r true own, so_far)

-- another processor's record tells nothing
pub told_past : (cpu : ℕ) (replies : List Reply) (news : List Record) (n k : ℕ) (r : Record)
    → slice_get news k ≡ Some r → eqb r.cpu cpu ≡ false → take n replies ≡ replies_to cpu (take k news)
    → take n replies ≡ replies_to cpu (take (k + 1) news)
told_past cpu replies news n k r here other so_far = replies_past _ _ _ k r here other so_far

-- its own tells the next one
pub told_more : (cpu : ℕ) (replies : List Reply) (news : List Record) (n k : ℕ) (r : Record)
    → slice_get news k ≡ Some r → eqb r.cpu cpu ≡ true → slice_get replies n ≡ Some (told r.reply)
    → take n replies ≡ replies_to cpu (take k news)
    → take (n + 1) replies ≡ replies_to cpu (take (k + 1) news)
told_more cpu replies news n k r here own is so_far =
    take_one replies n (told r.reply) is ∙ replies_own cpu (take n replies) news k r here own so_far

-- where it tells another, the replies are others
pub told_here : (cpu : ℕ) (replies : List Reply) (news : List Record) (n k : ℕ) (r : Record)
    → slice_get news k ≡ Some r → eqb r.cpu cpu ≡ true → n ≤ length replies
    → take n replies ≡ replies_to cpu (take k news) → replies ≡ replies_to cpu news
    → slice_get replies n ≡ Some (told r.reply)
told_here cpu replies news n k r here own within so_far is =
    let many = sym (length-take-le n replies within) ∙ ap length so_far in
    rw (many, is) (told_at cpu news k r here own)

-- ---- all processors

-- the list at a place is that of its processor
pub answered_at : (answers : List (List Reply)) (news : List Record) (processors cpu : ℕ)
    (replies : List Reply)
    → cpu < processors → replies ≡ get_or answers cpu replies → answers ≡ replies_below processors news
    → replies ≡ replies_to cpu news
answered_at answers news processors cpu replies within here is = grind (arith, get_or-map-range_with_len)

-- one list more
pub answered_more : (answers : List (List Reply)) (news : List Record) (cpu : ℕ) (replies : List Reply)
    → slice_get answers cpu ≡ Some replies → replies ≡ replies_to cpu news
    → take cpu answers ≡ replies_below cpu news → take (cpu + 1) answers ≡ replies_below (cpu + 1) news
answered_more answers news cpu replies here is so_far =
    take_one answers cpu replies here ∙ replies_more (take cpu answers) replies news cpu so_far is
