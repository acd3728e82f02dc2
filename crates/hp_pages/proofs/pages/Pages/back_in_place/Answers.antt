-- The numbers of the layer's parts stay, whichever of them changes.
use Rattle.std.proofs.Common.{◌≡◌, refl}
use Rattle.hp_pages.proofs.PageParts.{layer-buffer, layer-entry, same-size}
use Rattle.hp_pages.proofs.pages.Pages.back_in_place.Goals as goal

pub invariant_of-self : goal.invariant_of-self
invariant_of-self c =
    layer-entry c.self.inside.layout c.self.inside.table c.set.new.self c.self.inside.buffers
    c.self.inside.zeros _ _ _ c.self.invariant c.set.ensures.set

pub invariant_of-self-in-Word : goal.invariant_of-self-in-Word
invariant_of-self-in-Word c =
    let same : c.args.self.now.layout ≡ c.self.inside.layout = rw (← c.self.view_is) in
    let numbers = rw (same, c.in-Word.is) at c.requires.numbers in
    layer-buffer c.self.inside.layout c.self.inside.table c.self.inside.buffers c.set_word.new.self
    c.self.inside.zeros _ _ c.self.invariant numbers.0 (same-size _ _ _ _ (c.self.invariant.words _))
    c.set_word.ensures

pub invariant_of-self-in-LargeWord : goal.invariant_of-self-in-LargeWord
invariant_of-self-in-LargeWord c =
    let same : c.args.self.now.layout ≡ c.self.inside.layout = rw (← c.self.view_is) in
    let numbers = rw (same, c.in-LargeWord.is) at c.requires.numbers in
    layer-buffer c.self.inside.layout c.self.inside.table c.self.inside.buffers
    c.set_word-in-LargeWord.new.self c.self.inside.zeros _ _ c.self.invariant numbers.0
    (same-size _ _ _ _ (c.self.invariant.words _))
    c.set_word-in-LargeWord.ensures

pub invariant_of-self-in-Swap : goal.invariant_of-self-in-Swap
invariant_of-self-in-Swap c =
    let same : c.args.self.now.layout ≡ c.self.inside.layout = rw (← c.self.view_is) in
    let numbers = rw (same, c.in-Swap.is) at c.requires.numbers in
    layer-buffer c.self.inside.layout c.self.inside.table _ c.swap.new.self
    c.self.inside.zeros _ _
    (layer-buffer c.self.inside.layout c.self.inside.table c.self.inside.buffers _
    c.self.inside.zeros _ _ c.self.invariant numbers.0 (c.self.invariant.words _) refl)
    numbers.1 (c.self.invariant.words _) c.swap.ensures

pub invariant_of-self-in-Filled : goal.invariant_of-self-in-Filled
invariant_of-self-in-Filled c =
    let same : c.args.self.now.layout ≡ c.self.inside.layout = rw (← c.self.view_is) in
    let numbers = rw (same, c.in-Filled.is) at c.requires.numbers in
    layer-buffer c.self.inside.layout c.self.inside.table c.self.inside.buffers c.clear.new.self
    c.self.inside.zeros _ _ c.self.invariant numbers.0 tt c.clear.ensures
