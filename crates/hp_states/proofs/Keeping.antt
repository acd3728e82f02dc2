-- What the walk keeps of a place, and what it adds where it is found again.
use Rattle.std.proofs.Common.{◌≡◌, ℕ, true, List, [], ◌∷◌, ◌++◌, length, IfSome, Option, None, Some, slice_get, ap, sym, ◌∙◌, arith, inr}
use Rattle.std.proofs.lemmas.List.{length_push}
use Rattle.std.proofs.lemmas.Option.{slice_get_within}
use Rattle.hp_laws.proofs.Lists.{get_push_cases}
use Rattle.hp_units.specs.declared.replies.Record.{Record}
use Rattle.hp_memory.specs.Steps.{StepsValue}
use Rattle.hp_schedules.specs.Alike.{AreMergeable}
use Rattle.hp_schedules.specs.Ends.{AreCounted}
use Rattle.hp_schedules.specs.Parts.{AllOfPart, PartValue}
use Rattle.hp_schedules.specs.Schedules.{Setting, schedule_of}
use Rattle.hp_states.specs.Frames.{counts_of}
use Rattle.hp_states.specs.Seen.{AreSamePlaces, Grow, IsMemo, IsOnWay, IsRow, IsRowAmong, MemoValue}
use Rattle.hp_schedules.specs.Shares.{AddsShares, AreAtEnds, AreSince}
use Rattle.hp_states.specs.Standing.{AreSameNumbers, IsKeyCode, IsStanding, KeepMeanings, StandingValue}
use Rattle.hp_states.specs.Walks.{BeforeInPart, IsAt, IsPartWalkedBefore, IsPartWalkedThrough}
use Rattle.hp_schedules.specs.declared.trail.Share.{Share}
use Rattle.hp_schedules.specs.declared.tally.Ending.{Ending}
use Rattle.hp_states.proofs.Counts.{count_past, count_read}
use Rattle.hp_states.proofs.Grown.{grow_added, seen_grows}
use Rattle.hp_states.proofs.Keys.{code_kept, codes_alike}
use Rattle.hp_states.proofs.Merges.{merged, walked_seen}
use Rattle.hp_states.proofs.Rooms.{ordered_added, room_alike}
use Rattle.hp_schedules.proofs.Shares.{adds_told, at_ends_more, counts_in, counts_long, counts_tell}
use Rattle.hp_states.proofs.Stood.{keep_none, keep_same_numbers}

-- ---- a place that was walked

-- the ends `old` are those of a part's schedules before where the walk stands, and `new` up to the last
-- one that goes on from there
pub row_kept : (g : Setting) (part : PartValue) (p : StepsValue) (s : StandingValue) (old new : List Ending)
    (key : List ℕ) (shares : List Share)
    → AllOfPart (length g.scripts) part (schedule_of p.records) → IsAt g p
    → AreSince (counts_of old) new shares → Grow old new
    → AreCounted (BeforeInPart g part (schedule_of p.records)) old
    → IsPartWalkedThrough g part (schedule_of p.records) new → IsKeyCode g s p.records key
    → IsRow g new s key shares
row_kept g part p s old new key shares within here since grow before through key_is = record {
  seen = record { news = p.records; counts = counts_in shares (length new) };
  told = counts_tell shares (length new) since.at_ends;
  at_ends = since.at_ends;
  key_is = key_is;
  seen_is =
      walked_seen g part _ old new within here.played (omega (arith, counts_long shares (length new)))
      (λ i e f h k. omega (arith, since.each i f k, counts_tell _ _ since.at_ends i, count_read old i e h))
      (λ i f k past. omega (arith, since.each i f k, counts_tell _ _ since.at_ends i, count_past old i past))
      grow before through.counted;
  room = λ t h on. through.onward t h (inr (within t on)) on;
}

-- ---- one more is kept

pub memo_more : (g : Setting) (ends : List Ending) (memo later : MemoValue) (shares : List Share)
    → later ≡ record memo { keys = memo.keys ++ memo.key ∷ []; rows = memo.rows ++ shares ∷ [] }
    → IsMemo g ends memo → IsRow g ends memo.standing memo.key shares → IsMemo g ends later
memo_more g ends memo later shares is kept one =
    grind (arith, get_push_cases, length_push, slice_get_within)

-- ---- as more is known

row_extended : {g : Setting} {ends : List Ending} {old new : StandingValue} {key : List ℕ}
    {shares : List Share}
    → KeepMeanings old new → IsRow g ends old key shares → IsRow g ends new key shares
row_extended keep is = grind (arith, code_kept)

-- the numbers mean what they did where more have a meaning
pub memo_extended : (g : Setting) (ends : List Ending) (old new : MemoValue)
    → AreSamePlaces old new → KeepMeanings old.standing new.standing
    → IsMemo g ends old → IsMemo g ends new
memo_extended g ends old new same keep kept = record {
  all =
      λ i key shares here h. row_extended keep
      (kept.all i key shares (rw (← same.1) here) (rw (← same.2) h));
  many = rw (same.1, same.2) kept.many;
  mergeable = λ set. kept.mergeable (sym same.0 ∙ set);
}

-- the same where only the code of the key that was written last may be another
pub memo_written : (g : Setting) (ends : List Ending) (old new : MemoValue)
    → AreSamePlaces old new × (new.standing ≡ old.standing) → IsMemo g ends old → IsMemo g ends new
memo_written g ends old new same kept = grind (arith, memo_extended, keep_none)

-- the same where nothing but the place is another
pub memo_same : (g : Setting) (ends : List Ending) (old new : MemoValue)
    → AreSamePlaces old new × AreSameNumbers old.standing new.standing
    → IsMemo g ends old → IsMemo g ends new
memo_same g ends old new same kept = search (arith, memo_extended, keep_same_numbers)

-- while the ends grow
row_grown : {g : Setting} {old new : List Ending} {s : StandingValue} {key : List ℕ} {shares : List Share}
    → Grow old new → IsRow g old s key shares → IsRow g new s key shares
row_grown grow is = search (arith, at_ends_more, seen_grows, grow.longer)

pub memo_added : (g : Setting) (old new : List Ending) (memo : MemoValue) → Grow old new → IsMemo g old memo
    → IsMemo g new memo
memo_added g old new memo grow kept = record {
  all = λ i key shares here h. row_grown grow (kept.all i key shares here h);
  many = kept.many;
  mergeable = kept.mergeable;
}

-- nothing is kept yet
pub memo_begun : (g : Setting) (ends : List Ending) (memo : MemoValue) → memo.keys ≡ [] → memo.rows ≡ []
    → (memo.is_on ≡ true → AreMergeable g.scripts) → IsMemo g ends memo
memo_begun g ends memo bare none mergeable = grind (arith)

-- where the walk stands, as long as that stays
pub way_same : (g : Setting) (news : List Record) (old new : MemoValue)
    → (new.is_on ≡ old.is_on) × (new.standing ≡ old.standing) → IsOnWay g news old → IsOnWay g news new
way_same g news old new same way set = grind (arith)

-- it stands there, as its parts show it
pub memo_stands : (g : Setting) (news : List Record) (parts memo : MemoValue) → parts ≡ memo
    → IsOnWay g news memo → parts.is_on ≡ true → IsStanding g news parts.standing
memo_stands g news parts memo is way set = grind (arith)

-- ---- one that is found again

-- a place with the code of the key that was written last is kept, with these shares
pub record IsFound (g : Setting) (p : StepsValue) (memo : MemoValue) (ends : List Ending)
    (shares : List Share) : Type 0 where
  pub here : IsAt g p
  pub kept : IsMemo g ends memo
  pub on : memo.is_on ≡ true
  pub key_is : IsKeyCode g memo.standing p.records memo.key
  pub among : IsRowAmong memo.keys memo.rows memo.key shares

-- as it was looked for
pub row_among : {R : Type 0} (now : R → List Share) (told : Option R) (keys : List (List ℕ))
    (rows : List (List Share)) (key shown : List ℕ) (place : ℕ)
    → shown ≡ key → slice_get keys place ≡ Some shown
    → IfSome told (λ r. slice_get rows place ≡ Some (now r))
    → IfSome told (λ r. IsRowAmong keys rows key (now r))
row_among now None keys rows key shown place key_is is at = tt
row_among now (Some r) keys rows key shown place key_is is at = (place, at, is ∙ ap Some key_is)

module _ {g : Setting} {p : StepsValue} {memo : MemoValue} {ends : List Ending} {shares : List Share}
    (found : IsFound g p memo ends shares) where
  -- the row of the one that was walked
  found_row : IsRow g ends memo.standing memo.key shares
  found_row = found.kept.all found.among.0 memo.key shares found.among.2 found.among.1

  -- its counts are added to the ends, and the history has room for what goes on from here
  pub found_walked : (part : PartValue) (new : List Ending)
      → AllOfPart (length g.scripts) part (schedule_of p.records)
      → IsPartWalkedBefore g part (schedule_of p.records) ends → AddsShares ends shares new
      → IsPartWalkedThrough g part (schedule_of p.records) new × Grow ends new
  found_walked part new within before adds =
      let row = found_row in
      let counts = adds_told ends new shares row.seen.counts row.told adds in
      let mergeable = found.kept.mergeable found.on in
      let alike = codes_alike g _ _ _ _ row.seen_is.played found.here.played row.key_is found.key_is in (
        record {
          counted =
              merged g part _ p.records row.seen ends new within mergeable found.here.played alike row.seen_is
              before.counted counts;
          ordered = ordered_added ends new row.seen.counts before.ordered counts;
          room = before.room;
          onward =
              λ s h comes on.
              room_alike g _ _ _ _ mergeable row.seen_is.played found.here.played alike row.room s h on;
        },
        grow_added ends new row.seen.counts counts,
      )

  pub found_at_ends : AreAtEnds (length ends) shares
  found_at_ends = found_row.at_ends
