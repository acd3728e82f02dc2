use Rattle.std.proofs.lemmas.List.{length-map}
use Rattle.hp_parts.proofs.summing.summed.Goals as goal

pub returns-in-Ok-clause-ok : goal.returns-in-Ok-clause-ok
returns-in-Ok-clause-ok c = record {
  are = λ g calls some parts. c.in-Ok.ensures.ends g calls (rw length-map at some) parts;
  ordered = λ g calls some parts. c.in-Ok.ensures.ordered g calls (rw length-map at some) parts;
  apart = c.in-Ok.ensures.apart;
  adds = c.in-Ok.ensures.adds;
  total = c.in-Ok.ensures.total;
}
