-- Entries in which equal rounds are joined, and one more round.
use Rattle.std.proofs.Common.{◌≡◌, ℕ, suc, true, false, true≢false, List, [], ◌∷◌, ◌++◌, map, Option, None, Some, inl, inr, refl, sym, ap, ◌∙◌, append_assoc, append-nil}
use Rattle.std.specs.List.{flat_map}
use Rattle.std.specs.Option.{option_to_list}
use Rattle.std.proofs.lemmas.List.{flat_map_more}
use Rattle.hp_map.specs.BlockPictures.{BlockValue}
use Rattle.hp_map.specs.Rows.{RowValue}
use Rattle.hp_map.specs.Rounds.{AreJoined, HasRead, IsApart, IsEntry, IsJoinOf, IsOneMore, JoinsTo, RoundsValue, all_rows, goes_on, is_round, is_whole, next_round, next_row, once}

abbrev longer : RoundsValue → RoundsValue
longer r = record r { more = suc r.more }

-- ---- entries, and one more

joined_more : (done : List RoundsValue) (last next : RoundsValue) → AreJoined (done ++ last ∷ [])
    → IsEntry next → IsApart last next → AreJoined ((done ++ last ∷ []) ++ next ∷ [])
joined_more [] last next joined entry apart = (joined.0, apart, (entry, tt, tt))
joined_more (d ∷ []) last next joined entry apart =
    (joined.0, joined.1, joined_more [] last next joined.2 entry apart)
joined_more (d ∷ e ∷ done) last next joined entry apart =
    (joined.0, joined.1, joined_more (e ∷ done) last next joined.2 entry apart)

joined_longer : (done : List RoundsValue) (last : RoundsValue) → AreJoined (done ++ last ∷ [])
    → is_round last.rows ≡ true → AreJoined (done ++ longer last ∷ [])
joined_longer [] last joined round = (
  record { whole = joined.0.whole; round = λ other. absurd (true≢false (sym round ∙ other)) },
  tt,
  tt,
)
joined_longer (d ∷ []) last joined round = (
  joined.0,
  record { ended = joined.1.ended; other = joined.1.other },
  joined_longer [] last joined.2 round,
)
joined_longer (d ∷ e ∷ done) last joined round =
    (joined.0, joined.1, joined_longer (e ∷ done) last joined.2 round)

rows_more : (done : List RoundsValue) (last : RoundsValue)
    → flat_map all_rows (done ++ last ∷ []) ≡ flat_map all_rows done ++ all_rows last
rows_more done last = sym (flat_map_more all_rows [] done last)

rows_longer : (done : List RoundsValue) (last : RoundsValue)
    → flat_map all_rows (done ++ longer last ∷ [])
    ≡ flat_map all_rows (done ++ last ∷ []) ++ next_round (suc last.more) last.rows
rows_longer done last =
    rw (rows_more done (longer last), rows_more done last) (simp append_assoc)

-- a round like another begins as it does
same_round : (n : ℕ) (memory : List BlockValue) (rows : List RowValue) (next : RowValue)
    → goes_on (map (next_row n memory) rows) next ≡ goes_on rows next
same_round n memory [] next = refl
same_round n memory (row ∷ rows) next = refl

-- ---- rows that are joined to the last entry, or make a new one

pub record IsReady (done : List RoundsValue) (now : RoundsValue) (piece rows : List RowValue) : Type 0 where
  pub joined : AreJoined (done ++ now ∷ [])
  pub all : flat_map all_rows (done ++ now ∷ []) ≡ rows
  pub goes : (next : RowValue) → goes_on piece next ≡ false → goes_on now.rows next ≡ false

ready_first : (row : RowValue) (left : List RowValue) → is_whole (row ∷ left) ≡ true
    → IsReady [] (once (row ∷ left)) (row ∷ left) (row ∷ left)
ready_first row left whole = record {
  joined = (record { whole = whole; round = λ other. refl }, tt, tt);
  all = append-nil ((row ∷ left) ++ []) ∙ append-nil (row ∷ left);
  goes = λ next none. none;
}

ready_longer : (done : List RoundsValue) (last : RoundsValue) (piece : List RowValue)
    → AreJoined (done ++ last ∷ []) → IsOneMore last piece
    → IsReady done (longer last) piece (flat_map all_rows (done ++ last ∷ []) ++ piece)
ready_longer done last piece joined more = record {
  joined = joined_longer done last joined more.0;
  all = rw more.1 (rows_longer done last);
  goes =
      λ next none.
      sym (ap (λ (rows : List RowValue). goes_on rows next) more.1 ∙ same_round _ _ last.rows next) ∙ none;
}

ready_other : (done : List RoundsValue) (last : RoundsValue) (row : RowValue) (left : List RowValue)
    → is_whole (row ∷ left) ≡ true → goes_on last.rows row ≡ false → AreJoined (done ++ last ∷ [])
    → (IsOneMore last (row ∷ left) → ⊥)
    → IsReady (done ++ last ∷ []) (once (row ∷ left)) (row ∷ left)
    (flat_map all_rows (done ++ last ∷ []) ++ row ∷ left)
ready_other done last row left whole ended joined other = record {
  joined =
      joined_more done last (once (row ∷ left)) joined
      (record { whole = whole; round = λ none. refl }) (record { ended = ended; other = other });
  all = rw (rows_more (done ++ last ∷ []) (once (row ∷ left)), append-nil left);
  goes = λ next none. none;
}

pub ready : (done : List RoundsValue) (last : Option RoundsValue) (row : RowValue) (left rows : List RowValue)
    (gone : Option RoundsValue) (now : RoundsValue) → HasRead done last (row ∷ left) rows
    → JoinsTo last (row ∷ left) gone now
    → IsReady (done ++ option_to_list gone) now (row ∷ left) rows
ready done None row left rows gone now read joins =
    rw (joins.0, read.1, joins.1, read.2) (ready_first row left read.0)
ready done (Some last) row left rows gone now read (inl joins) =
    rw (joins.1, append-nil done, joins.2, read.3) (ready_longer done last (row ∷ left) read.2 joins.0)
ready done (Some last) row left rows gone now read (inr joins) =
    rw (joins.1, joins.2, read.3) (ready_other done last row left read.0 read.1 read.2 joins.0)

-- ---- a row more

-- that does not go on with what was read last
pub next_read : (done : List RoundsValue) (last : Option RoundsValue) (rest rows : List RowValue)
    (gone : Option RoundsValue) (now : RoundsValue) (next : RowValue) → (rest ≡ [] → ⊥)
    → goes_on rest next ≡ false → JoinsTo last rest gone now → HasRead done last rest rows
    → HasRead (done ++ option_to_list gone) (Some now) (next ∷ []) (rows ++ next ∷ [])
next_read done last [] rows gone now next some other joins read = absurd (some refl)
next_read done last (row ∷ left) rows gone now next some other joins read =
    let r = ready done last row left rows gone now read joins in
    (refl, r.goes next other, r.joined, ap (λ (rs : List RowValue). rs ++ next ∷ []) (sym r.all))

-- ---- no row more

pub none_read : (done : List RoundsValue) (last : Option RoundsValue) (rest rows : List RowValue)
    → rest ≡ [] → HasRead done last rest rows → IsJoinOf rows (done ++ [])
none_read done last [] rows none read =
    rw read.0 (record { all = sym read.2; joined = tt })
none_read done last (row ∷ left) rows none read = absurd cc

pub all_read : (done : List RoundsValue) (last : Option RoundsValue) (rest rows : List RowValue)
    (gone : Option RoundsValue) (now : RoundsValue) → (rest ≡ [] → ⊥) → JoinsTo last rest gone now
    → HasRead done last rest rows → IsJoinOf rows (done ++ (option_to_list gone ++ now ∷ []))
all_read done last [] rows gone now some joins read = absurd (some refl)
all_read done last (row ∷ left) rows gone now some joins read =
    let r = ready done last row left rows gone now read joins in
    rw (← append_assoc done (option_to_list gone) (now ∷ [])) (record { all = r.all; joined = r.joined })
