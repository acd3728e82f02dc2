-- The numbers of the processor's cursor, and those of the frames that its further lines name.
use Rattle.std.proofs.Common.{◌≡◌, ◌++◌, ◌∙◌, ℕ, List, ap, refl}
use Rattle.std.proofs.lemmas.List.{append_assoc}
use Rattle.std.proofs.lemmas.Option.{slice_get_read}
use Rattle.std.proofs.lemmas.Result.{IfOk-weaker}
use Rattle.hp_units.specs.Receipts.{receipts_of}
use Rattle.hp_laws.specs.Numberings.{number_of}
use Rattle.hp_schedules.specs.Cursors.{frames_ahead, steering_of}
use Rattle.hp_schedules.proofs.Placed.{steered_at}
use Rattle.hp_schedules.proofs.positions.Positions.push_steering.Goals as goal

pub returns : goal.returns
returns c =
    let f : ℕ → ℕ = number_of c.args.fixed c.args.latest.now in
    let five : c.extend_from_slice.new.self.items
    ≡ c.args.numbers.now.items ++ steering_of f c.index-cursor.result.now =
    c.in_ok-extend_from_slice.ensures.items ∙ ap (λ (xs : List ℕ). c.args.numbers.now.items ++ xs)
    c.in-Some.ensures in
    IfOk-weaker c.push_frames.result _ _
    (λ fit adds all. (
      steering_of f c.index-cursor.result.now
          ++ frames_ahead c.index-cursor.result.now c.freeing_lines.result.now
          (receipts_of c.args.cpu c.args.news.now),
      rw (five, append_assoc) at (adds all),
      λ g scripts at. steered_at f g c.args.news.now c.args.cpu c.index-scripts-place.result _ _ _
          (rw scripts (slice_get_read _ _ _ _ refl c.requires.scripts c.index-scripts-place.is))
          c.freeing_lines.ensures
          (slice_get_read _ _ _ _ refl c.requires.cursors c.index-cursor.ensures) at,
    ))
    c.push_frames.ensures
