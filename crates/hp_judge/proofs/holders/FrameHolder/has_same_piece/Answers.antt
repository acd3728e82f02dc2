use Rattle.std.proofs.Common.{sym, ap, ◌∙◌}
use Rattle.hp_judge.specs.Pieces.{same_piece}
use Rattle.hp_judge.specs.StepNames.{FrameHolder}
use Rattle.hp_judge.specs.Snapshots.{piece_in}
use Rattle.hp_judge.proofs.holders.FrameHolder.has_same_piece.Goals as goal

pub returns-in-Owner : goal.returns-in-Owner
returns-in-Owner c =
    c.is_owner.ensures c.in-Owner.owner c.in-Owner.page
    ∙ ap (λ (h : FrameHolder). same_piece (piece_in h) (piece_in c.args.other)) (sym c.in-Owner.is)
