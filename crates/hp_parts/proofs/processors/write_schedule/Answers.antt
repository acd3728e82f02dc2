use Rattle.std.proofs.Common.{codes, string_bytes, true}
use Rattle.std.specs.Fmt.{decimal}
use Rattle.hp_text.specs.Separated.{separated}
use Rattle.hp_parts.proofs.Written.{three_written}
use Rattle.hp_parts.proofs.processors.write_schedule.Goals as goal

pub returns : goal.returns
returns c =
    three_written c.push_str-2.result (string_bytes c.args.out.now) (codes ", \"processors\": [")
    (separated (codes ", ") decimal true c.args.schedule.now) (codes "]}")
    _ _ _ c.in_ok-push_str.ensures.bytes c.in_ok-write_processors.ensures c.push_str-2.ensures.bytes
