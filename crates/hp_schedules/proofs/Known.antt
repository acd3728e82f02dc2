-- The digests of the ends have places.
use Rattle.std.proofs.Common.{◌≡◌, ℕ, ◌+◌, true, false, List, [], ◌∷◌, ◌++◌, set, Some, None, slice_get, refl, ap, sym, ◌∙◌, is_some, arith}
use Rattle.std.specs.Prelude.{fold, nat_eq}
use Rattle.std.proofs.lemmas.List.Sums.{fold-append}
use Rattle.indexmap.specs.IndexMap.{ContainsKey, IndexMap, get}
use Rattle.hp_units.specs.declared.replies.Record.{Record}
use Rattle.hp_laws.proofs.Lists.{get_push_cases}
use Rattle.hp_schedules.specs.declared.tally.Ending.{Ending}
use Rattle.hp_schedules.specs.Digests.{digest_of, mixed, mixed_replies, mixed_reply, replies_digest}
use Rattle.hp_schedules.specs.Notes.{AreKnown, HasNoEnd}
use Rattle.hp_schedules.specs.Outcomes.{OutcomeValue, replies_below, replies_to}
use Rattle.hp_schedules.proofs.Counts.{get_set_cases}
use Rattle.hp_schedules.proofs.Places.{replies_more}

-- the digest of one processor more
pub digest_more : (news : List Record) (cpu digest part next : ℕ)
    → digest ≡ replies_digest (replies_below cpu news) → part ≡ fold mixed_reply 0 (replies_to cpu news)
    → next ≡ mixed digest part → next ≡ replies_digest (replies_below (cpu + 1) news)
digest_more news cpu digest part next so_far is more =
    rw (more, so_far, is, ← replies_more (replies_below cpu news) (replies_to cpu news) news cpu refl refl)
    (sym (fold-append mixed_replies 0 (replies_below cpu news) (replies_to cpu news ∷ [])))

-- where a digest has no place, no end has it
pub unknown : {S : Type 0} (ends : List Ending) (x : OutcomeValue) (latest : IndexMap ℕ ℕ S) (digest : ℕ)
    → AreKnown ends latest → digest ≡ digest_of x → None ≡ get nat_eq latest digest → HasNoEnd ends x
unknown ends x latest digest known is none k e here same =
    let there : is_some (get nat_eq latest digest) ≡ true = rw (is, ← same) (known k e here) in
    let f : false ≡ true = ap is_some none ∙ there in
    absurd cc

-- an end that counts more has its digest
pub known_set : {S : Type 0} (ends : List Ending) (place : ℕ) (e more : Ending) (latest : IndexMap ℕ ℕ S)
    → slice_get ends place ≡ Some e → more.outcome ≡ e.outcome → AreKnown ends latest
    → AreKnown (set ends place more) latest
known_set ends place e more latest here same known k f h = grind (arith, get_set_cases, known)

-- and one that is added
pub known_first : {S : Type 0} (ends new : List Ending) (entry : Ending) (x : OutcomeValue) (digest : ℕ)
    (old latest : IndexMap ℕ ℕ S)
    → entry.outcome ≡ x → digest ≡ digest_of x → new ≡ ends ++ entry ∷ []
    → ((d : ℕ) → ContainsKey nat_eq old d → ContainsKey nat_eq latest d) → ContainsKey nat_eq latest digest
    → AreKnown ends old → AreKnown new latest
known_first ends new entry x digest old latest outcome_is digest_is is kept here known k e h =
    grind (arith, get_push_cases, kept, known)
