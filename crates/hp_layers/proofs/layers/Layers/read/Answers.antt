use Rattle.std.proofs.Common.{refl, sym, subst}
use Rattle.std.specs.Prelude.{IsSome}
use Rattle.hp_units.specs.declared.events.Event.TheVariants.{Read}
use Rattle.hp_layers.proofs.PageEvents.{read-done}
use Rattle.hp_layers.proofs.Refusals.{word-refused, word-there, word-there_in_pages}
use Rattle.hp_layers.proofs.layers.Layers.read.Goals as goal

pub returns-in-Some : goal.returns-in-Some
returns-in-Some c = λ deltas.
    word-refused c.args.self.now (Read c.args.owner c.args.page c.args.index) c.args.owner c.args.page
    c.args.index deltas c.in-Some.refusal c.word_refusal.result c.requires.placed refl c.in-Some.is
    c.word_refusal.ensures

pub read-requires : goal.read-requires
read-requires c =
    let word =
    word-there_in_pages c.args.self.now c.args.owner c.args.page c.args.index c.word_refusal.result
    c.requires.placed.one c.in-None.is c.word_refusal.ensures in
    record {
      owner = word.owner_low;
      page = word.page_low;
      index = word.index_low;
      mapped = subst IsSome (sym word.mapped) refl;
    }

pub returns-in-None : goal.returns-in-None
returns-in-None c = λ deltas.
    read-done c.args.self.now c.args.owner c.args.page c.args.index c.read.result deltas c.requires.placed
    (word-there c.args.self.now c.args.owner c.args.page c.args.index c.word_refusal.result c.in-None.is
    c.word_refusal.ensures) c.read.ensures
