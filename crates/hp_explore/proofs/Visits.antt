-- The places that a search has visited, as it goes on and back, and what it finds of a place among them.
use Rattle.std.proofs.Common.{◌≡◌, ℕ, true, List, [], ◌∷◌, ◌++◌, length, Some, slice_get, refl, ap, sym, subst, ◌∙◌, arith, inl, inr, Option, None}
use Rattle.std.specs.Prelude.{◌⊎◌, map}
use Rattle.std.proofs.lemmas.Option.{same_Some}
use Rattle.std.proofs.lemmas.List.{append-nil, length-append, length-map, length_push}
use Rattle.hp_laws.proofs.Lists.{get_push_cases}
use Rattle.hp_units.specs.History.{net_of}
use Rattle.hp_units.specs.declared.replies.Record.{Record}
use Rattle.hp_schedules.specs.Alike.{AreMergeable}
use Rattle.hp_schedules.specs.Continuing.{ContinueAlike}
use Rattle.hp_schedules.specs.Openings.{AreOpen, NumberedOpening, Opening, renumbered_opening}
use Rattle.hp_schedules.specs.Orders.{Extends}
use Rattle.hp_schedules.specs.Schedules.{Setting, plays, schedule_of}
use Rattle.hp_states.specs.Interned.{KeepNumbers}
use Rattle.hp_states.specs.Numbered.{AreNamed, IsNumbered}
use Rattle.hp_states.specs.Stops.{KeepStops, StopsValue}
use Rattle.hp_explore.specs.LatestOps.{numbering}
use Rattle.hp_states.proofs.Rooms.{push_extends}
use Rattle.hp_states.proofs.Numbered.{number_kept}
use Rattle.hp_explore.specs.Aims.{AimValue, IsDone, IsLawful, IsNarrower}
use Rattle.hp_explore.specs.Visited.{AreVisited, IsKept, IsKnown, IsPlaceKey, IsVisited, no_stops, IsWritten}
use Rattle.hp_explore.specs.declared.visited.Visited.{Visited}
use Rattle.hp_explore.proofs.PlaceKeys.{done_alike, keys_alike}
use Rattle.hp_explore.proofs.Continued.{extends_longer}
use Rattle.hp_questions.specs.declared.wanted.Wanted.{Wanted}
use Rattle.hp_explore.specs.Withins.{aim_within}

-- ---- the visited places

-- a place that is known is done
pub known_done : (g : Setting) (aim : AimValue) (before : List ℕ) (cpu : ℕ) (news : List Record)
    (v : Visited)
    → IsLawful g aim → plays g (schedule_of news) ≡ Some news → schedule_of news ≡ before ++ cpu ∷ []
    → aim.admits (schedule_of news) → AreVisited g aim before v → IsKnown g aim news v
    → IsDone g aim (schedule_of news)
known_done g aim before cpu news v lawful played longer admitted visited known = by_kind there.done
  where
    there : IsVisited g aim before v.stops known.key
    there = visited.each known.at known.key known.here

    alike : ContinueAlike g there.news news
    alike =
        keys_alike g aim v.stops there.news news known.key lawful (visited.mergeable known.on) there.played
        played there.key_is known.key_is

    by_kind : IsDone g aim (schedule_of there.news) ⊎ Extends before (schedule_of there.news)
        → IsDone g aim (schedule_of news)
    by_kind (inl done) =
        done_alike g aim v.stops there.news news known.key lawful (visited.mergeable known.on) there.played
        played there.admitted admitted there.key_is known.key_is done
    by_kind (inr on) =
        absurd (omega (
          arith,
          alike.same.calls,
          length-map there.news (λ (r : Record). r.cpu),
          length-map news (λ (r : Record). r.cpu),
          ap (λ (s : List ℕ). length s) longer,
          length_push before cpu,
          ap (λ (s : List ℕ). length s) on.1,
          length-append (schedule_of there.news) on.0,
        ))

-- ---- what stays

-- a place's key is its key still, for other stops and another aim
key_still : (g : Setting) (a b : AimValue) (old new : StopsValue) (news : List Record) (key : List ℕ)
    → (is : IsPlaceKey g a old news key)
    → IsNumbered (numbering g news) g new.codes new.lists news (Some is.are.openings)
    → b.marks news is.are.marks → IsPlaceKey g b new news key
key_still g a b old new news key is numbered marked = record {
  numbers = is.numbers;
  are = record {
    openings = is.are.openings;
    steering = is.are.steering;
    marks = is.are.marks;
    numbers_are = is.are.numbers_are;
    numbered = numbered;
    steered = is.are.steered;
    marked = marked;
  };
  key_is = is.key_is;
  shaped = is.shaped;
}

-- as more numbers come
pub key_kept : (g : Setting) (aim : AimValue) (old new : StopsValue) (news : List Record) (key : List ℕ)
    → KeepStops old new → IsPlaceKey g aim old news key → IsPlaceKey g aim new news key
key_kept g aim old new news key keep is =
    key_still g aim aim old new news key is
    (number_kept (numbering g news) g old.codes new.codes old.lists new.lists news (Some is.are.openings)
    keep.codes keep.lists is.are.numbered)
    is.are.marked

-- the keys belong to visited places still, for other stops, another aim and another schedule
visited_still : (g : Setting) (a b : AimValue) (s t : List ℕ) (old new : Visited)
    → (new.is_on ≡ true → old.is_on ≡ true) → new.keys ≡ old.keys
    → ((place : List ℕ) → a.admits place → b.admits place)
    → ((news : List Record) (key : List ℕ) → IsPlaceKey g a old.stops news key
    → IsPlaceKey g b new.stops news key)
    → ((place : List ℕ) → IsDone g a place ⊎ Extends s place → IsDone g b place ⊎ Extends t place)
    → AreVisited g a s old → AreVisited g b t new
visited_still g a b s t old new on keys admits key_is done visited = record {
  mergeable = λ set. visited.mergeable (on set);
  each = λ i key here.
      let was = visited.each i key (rw keys at here) in
      record {
        news = was.news;
        played = was.played;
        admitted = admits (schedule_of was.news) was.admitted;
        key_is = key_is was.news key was.key_is;
        done = done (schedule_of was.news) was.done;
      };
}

pub stops_kept : (g : Setting) (aim : AimValue) (schedule : List ℕ)
    (old new : Visited)
    → new.is_on ≡ old.is_on → new.keys ≡ old.keys → KeepStops old.stops new.stops
    → AreVisited g aim schedule old → AreVisited g aim schedule new
stops_kept g aim schedule old new on keys keep =
    visited_still g aim aim schedule schedule old new (λ set. sym on ∙ set) keys (λ place is. is)
    (λ news key. key_kept g aim old.stops new.stops news key keep) (λ place done. done)

-- ---- keys that mean the same in each search

-- of a place at which no operation can be undone by a Cancel
pub anywhere : (g : Setting) (aim : AimValue) (stops : StopsValue) (news : List Record)
    (key : List ℕ) → KeepNumbers ([] ∷ []) stops.lists → (is : IsPlaceKey g aim stops news key)
    → slice_get is.numbers 0 ≡ Some 0 → IsPlaceKey g aim no_stops news key
anywhere g aim stops news key base is zero =
    key_still g aim aim stops no_stops news key is
    (rw none (by_list are.0 empty are.1 are.3 are.4))
    is.are.marked
  where
    are : IsNumbered (numbering g news) g stops.codes stops.lists news (Some is.are.openings)
    are = is.are.numbered

    none : is.are.openings ≡ 0
    none =
        same_Some is.are.openings 0
        (sym (ap (λ (ns : List ℕ). slice_get ns 0) is.are.numbers_are) ∙ zero)

    empty : are.0 ≡ []
    empty =
        same_Some are.0 []
        (sym are.2 ∙ (ap (λ (n : ℕ). slice_get stops.lists n) none ∙ base 0 [] refl))

    by_list : (ns : List NumberedOpening) → ns ≡ [] → (os : List Opening)
        → AreNamed g.layout stops.codes ns (map (renumbered_opening (numbering g news)) os)
        → AreOpen g.layout g.base (net_of (g.start ++ news)) os
        → IsNumbered (numbering g news) g no_stops.codes no_stops.lists news (Some 0)
    by_list [] is [] named opened = ([], [], refl, tt, opened)
    by_list [] is (o ∷ os) named opened = absurd named
    by_list (n ∷ ns) is os named opened = absurd cc

-- ---- a longer schedule

-- the schedule gets longer
pub visited_longer : (g : Setting) (aim : AimValue) (before : List ℕ) (cpu : ℕ)
    (v : Visited)
    → AreVisited g aim before v → AreVisited g aim (before ++ cpu ∷ []) v
visited_longer g aim before cpu v =
    visited_still g aim aim before (before ++ cpu ∷ []) v v (λ set. set) refl (λ place is. is)
    (λ news key is. is)
    (λ place done. elim done [
      | inl done_here ↦ inl done_here
      | inr on ↦ inr (extends_longer before place cpu on)
    ])

-- a place more is kept, which the schedule leads to
pub visited_more : (g : Setting) (aim : AimValue) (schedule : List ℕ)
    (news : List Record) (old new : Visited)
    → plays g (schedule_of news) ≡ Some news → schedule ≡ schedule_of news
    → aim.admits (schedule_of news) → new.is_on ≡ old.is_on → KeepStops old.stops new.stops
    → IsKept g aim news old new
    → AreVisited g aim schedule old → AreVisited g aim schedule new
visited_more g aim schedule news old new played is admitted on keep (inl same) visited =
    stops_kept g aim schedule old new on same keep visited
visited_more g aim schedule news old new played is admitted on keep (inr more) visited = record {
  mergeable = λ set. visited.mergeable (sym on ∙ set);
  each = λ i key here.
      elim (get_push_cases old.keys more.0 key i (rw more.1 at here)) [
        | inl before ↦ kept.each i key before
        | inr last ↦ record {
          news = news;
          played = played;
          admitted = admitted;
          key_is = subst (IsPlaceKey g aim new.stops news) last.1 more.2;
          done = inr ([], is ∙ sym (append-nil (schedule_of news)));
        }
      ];
}
  where
    kept : AreVisited g aim schedule (record new { keys = old.keys })
    kept = stops_kept g aim schedule old (record new { keys = old.keys }) on refl keep visited

-- the schedule is taken back by a call, from a place that is done
pub visited_shorter : (g : Setting) (aim : AimValue) (before : List ℕ) (cpu : ℕ)
    (v : Visited)
    → IsDone g aim (before ++ cpu ∷ []) → AreVisited g aim (before ++ cpu ∷ []) v
    → AreVisited g aim before v
visited_shorter g aim before cpu v done_here =
    visited_still g aim aim (before ++ cpu ∷ []) before v v (λ set. set) refl (λ place is. is)
    (λ news key is. is)
    (λ place done. elim done [
      | inl done ↦ inl done
      | inr on ↦ elim (push_extends before place on.0 cpu on.1) [
        | inl same ↦ inl (subst (IsDone g aim) same done_here)
        | inr shorter ↦ inr shorter
      ]
    ])

-- none is visited at the start
pub visited_none : (g : Setting) (aim : AimValue) (v : Visited)
    → (v.is_on ≡ true → AreMergeable g.scripts) → v.keys ≡ [] → AreVisited g aim [] v
visited_none g aim v mergeable none = record {
  mergeable = mergeable;
  each = λ i key here. absurd (let none_here = rw none at here in cc);
}

-- the aim gets narrower
pub visited_narrower : (g : Setting) (old new : AimValue) (schedule : List ℕ) (v : Visited)
    → IsNarrower old new → AreVisited g old schedule v → AreVisited g new schedule v
visited_narrower g old new schedule v narrower =
    visited_still g old new schedule schedule v v (λ set. set) refl narrower.admits
    (λ news key is.
    key_still g old new v.stops v.stops news key is is.are.numbered
    (narrower.marks news is.are.marks is.are.marked))
    (λ place done. elim done [
      | inl was ↦ inl (λ s sought. was.0 s (narrower.sought s sought), λ whole. was.1 (narrower.whole whole))
      | inr on ↦ inr on
    ])

-- ---- what is found of a place

-- a fact of an aim for wanted lines without a budget, in the words of a question
pub asked : (P : Setting → AimValue → Type 0) (g h : Setting) (wanted lines : List Wanted)
    (budget : Option ℕ)
    → g ≡ h → wanted ≡ lines → budget ≡ None → P g (aim_within g wanted budget)
    → P h (aim_within h lines None)
asked P g h wanted lines budget same are none is =
    subst (λ (b : Option ℕ). P h (aim_within h lines b)) none
    (subst (λ (ws : List Wanted). P h (aim_within h ws budget)) are
    (subst (λ (x : Setting). P x (aim_within x wanted budget)) same is))

-- a key without operations that a Cancel can take back means the same in each search
pub common : (g : Setting) (aim : AimValue) (stops : StopsValue) (news : List Record)
    (numbers key : List ℕ) → KeepNumbers ([] ∷ []) stops.lists → slice_get numbers 0 ≡ Some 0
    → IsWritten g aim stops news numbers key → IsPlaceKey g aim no_stops news key
common g aim stops news numbers key base zero is =
    anywhere g aim stops news key base is.0 (ap (λ (ns : List ℕ). slice_get ns 0) is.1 ∙ zero)
