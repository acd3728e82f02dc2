-- The number and the count, and what follows them.
use Rattle.std.proofs.Common.{codes, string_bytes}
use Rattle.std.specs.Fmt.{decimal}
use Rattle.hp_search.proofs.SummaryLines.{and_on, begun, goes_on}
use Rattle.hp_search.proofs.Written.{five, said}
use Rattle.hp_search.proofs.summaries.write_line.Goals as goal

pub returns : goal.returns
returns c =
    let start =
    begun _ _ (said (string_bytes c.args.out.now) _ _ _
    (five (codes "end ") (decimal c.args.number) (codes ": ") (decimal c.args.end.now.count) (codes ", "))
    c.in_ok-write.ensures.bytes) in
    let before =
    and_on _ _ _ (and_on _ _ _ (and_on _ _ _ start c.in_ok-write_share.ensures)
    c.in_ok-write_refusals.ensures)
    c.in_ok-write_blocks.ensures in
    goes_on _ _ _ _ before c.in_ok-push.ensures.bytes
