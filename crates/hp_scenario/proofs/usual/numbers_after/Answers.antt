use Rattle.std.proofs.Common.{refl}
use Rattle.hp_scenario.proofs.usual.numbers_after.Goals as goal

pub returns : goal.returns
returns c = (
  c.in_ok-order.ensures.0,
  c.in_ok-order.ensures.1,
  (
    c.pair_after.new.reader,
    c.in_ok-order.ensures.2,
    (
      c.in_ok-blocks.ensures.0,
      c.in_ok-blocks.ensures.1,
      (
        c.pair_after-2.new.reader,
        c.in_ok-blocks.ensures.2,
        (
          c.in_ok-batch.ensures.0,
          c.in_ok-batch.ensures.1,
          (
            c.pair_after-3.new.reader,
            c.in_ok-batch.ensures.2,
            (
              c.in_ok-owners.ensures.0,
              c.in_ok-owners.ensures.1,
              (
                c.pair_after-4.new.reader,
                c.in_ok-owners.ensures.2,
                (
                  c.in_ok-words.ensures.0,
                  c.in_ok-words.ensures.1,
                  (c.pair_after-5.new.reader, c.in_ok-words.ensures.2, refl),
                ),
              ),
            ),
          ),
        ),
      ),
    ),
  ),
)
