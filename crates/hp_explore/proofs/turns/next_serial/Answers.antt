-- There is room for one record more.
use Rattle.std.proofs.Common.{◌+◌, ◌++◌, List, ap, arith, length}
use Rattle.std.proofs.lemmas.Bool.{lt-leb, or_from}
use Rattle.std.proofs.lemmas.List.{length-append}
use Rattle.hp_units.specs.LayoutParts.{LayoutParts}
use Rattle.hp_units.specs.declared.replies.Record.{Record}
use Rattle.hp_explore.proofs.turns.next_serial.Goals as goal

pub returns-clause-ok : goal.returns-clause-ok
returns-clause-ok c =
    let many = length-append c.args.start.now.history c.args.news.now in (
      omega (arith, c.last_serial-last.ensures, many),
      omega (
        arith,
        many,
        c.if-calls-room.false,
        c.saturating_sub-room.ensures,
        c.history-2.ensures.is,
        ap (λ (l : LayoutParts). l.history) c.layout.ensures,
        ap (λ (h : List Record). length h) c.history.ensures.records,
      ),
    )

pub returns-clause-room : goal.returns-clause-room
returns-clause-room c =
    let many = length-append c.args.start.now.history c.args.news.now in
    or_from _ _
    (lt-leb c.args.start.now.layout.history (length (c.args.start.now.history ++ c.args.news.now))
    (omega (
      arith,
      many,
      c.if-calls-room.false,
      c.saturating_sub-room.ensures,
      c.history-2.ensures.is,
      ap (λ (l : LayoutParts). l.history) c.layout.ensures,
      ap (λ (h : List Record). length h) c.history.ensures.records,
    )))
    (lt-leb 18446744073709551615
    (c.args.start.now.before + length (c.args.start.now.history ++ c.args.news.now))
    (omega (arith, many, c.last_serial-last.ensures, c.if-calls-last.false)))
