use Rattle.std.proofs.Common.{ℕ, arith, ◌≡◌, cond, rules}
use Rattle.std.proofs.lemmas.List.{length_push}
use Rattle.hp_plain.specs.Placing.{unplugged}
use Rattle.hp_plain.proofs.PlacedRows.{all_unplugged, marks_more}
use Rattle.hp_plain.proofs.marks.Marks.of_unplugged.Goals as goal

pub loop-number-preserved : goal.loop-number-preserved
loop-number-preserved c =
    let l = c.args.layout.now in
    let rows = c.args.rows.now in
    let items = c.loop-number.frames.items in
    let number : ℕ = c.loop-number.number in
    let byte : c.from.result ≡ cond c.is_unplugged.result 1 0 = search rules in
    let is : c.from.result ≡ unplugged l rows number =
    rw (byte, c.is_unplugged.ensures, c.block_of-block.ensures) in
    record {
      long = rw (c.in_ok-push.ensures.items, length_push items c.from.result, c.loop-number.invariant.long);
      each =
          marks_more l rows items c.push.new.self.items number c.from.result c.loop-number.invariant.long
          c.loop-number.invariant.each c.in_ok-push.ensures.items is;
    }

pub returns : goal.returns
returns c =
    all_unplugged c.args.layout.now c.args.rows.now c.loop-number.frames.items c.loop-number.number
    c.frames-number-end.ensures.layout c.requires (omega arith) c.loop-number.invariant.long
    c.loop-number.invariant.each
