use Rattle.std.proofs.Common.{refl, sym, subst}
use Rattle.std.specs.Prelude.{IsSome}
use Rattle.hp_units.specs.declared.events.Event.TheVariants.{Write}
use Rattle.hp_layers.proofs.PageEvents.{settled, write-done}
use Rattle.hp_layers.proofs.Refusals.{word-refused, word-there, word-there_in_pages}
use Rattle.hp_layers.proofs.layers.Layers.write.Goals as goal

pub returns-in-Some-clause-ok : goal.returns-in-Some-clause-ok
returns-in-Some-clause-ok c =
    word-refused c.args.self.now (Write c.args.owner c.args.page c.args.index c.args.value) c.args.owner
    c.args.page c.args.index c.args.tape.now.deltas c.in-Some.refusal c.word_refusal.result
    c.requires.placed refl c.in-Some.is c.word_refusal.ensures

pub prepare-requires : goal.prepare-requires
prepare-requires c =
    let word =
    word-there_in_pages c.args.self.now c.args.owner c.args.page c.args.index c.word_refusal.result
    c.requires.placed.one c.in_default.is c.word_refusal.ensures in
    record {
      owner = word.owner_low;
      page = word.page_low;
      index = word.index_low;
      mapped = subst IsSome (sym word.mapped) refl;
    }

pub write-requires : goal.write-requires
write-requires c =
    let word =
    word-there_in_pages c.args.self.now c.args.owner c.args.page c.args.index c.word_refusal.result
    c.requires.placed.one c.in_default.is c.word_refusal.ensures in
    record {
      owner = word.owner_low;
      page = word.page_low;
      index = word.index_low;
      mapped = subst IsSome (sym word.mapped) refl;
      prepared = c.in_ok-prepared.ensures;
      settled = settled c.args.self.now c.requires.placed;
      room = c.in_ok-reserve.ensures.room;
    }

pub returns-clause-ok : goal.returns-clause-ok
returns-clause-ok c =
    write-done c.args.self.now c.write.new.self c.args.owner c.args.page c.args.index c.args.value
    c.reserve.new.self c.write.new.tape c.requires.placed
    (word-there c.args.self.now c.args.owner c.args.page c.args.index c.word_refusal.result c.in_default.is
    c.word_refusal.ensures)
    c.reserve.ensures.deltas c.write.ensures.layout c.write.ensures.written c.write.ensures.notes
