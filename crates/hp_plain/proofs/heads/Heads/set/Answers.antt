use Rattle.std.proofs.Common.{ℕ, arith, ◌≡◌, ◌∙◌, ◌<◌, length, length-set, true, sym}
use Rattle.std.proofs.lemmas.List.{get_or_read}
use Rattle.hp_units.specs.FreeAreas.{is_on}
use Rattle.hp_plain.proofs.Counting.{entry_on}
use Rattle.hp_plain.proofs.PlacedHeads.{heads_more}
use Rattle.hp_plain.proofs.heads.Heads.set.Goals as goal

pub index_mut-requires : goal.index_mut-requires
index_mut-requires c =
    let frames = c.args.frames.now in
    let x : ℕ = c.frame-item.result in
    let on : is_on x frames ≡ true =
    rw c.frame-item.is (entry_on frames c.loop-frame.frame-index x c.loop-frame-test.true) in
    omega (arith, c.requires x on, c.frame.view_is)

pub loop-frame-preserved : goal.loop-frame-preserved
loop-frame-preserved c =
    let frames = c.args.frames.now in
    let x : ℕ = c.frame-item.result in
    let low : c.loop-frame.frame-index < length frames = omega arith in
    let on : is_on x frames ≡ true = rw c.frame-item.is (entry_on frames c.loop-frame.frame-index x low) in
    let there : c.frame.inside.0 < length c.loop-frame.self-inside.frames.items =
    omega (arith, c.requires x on, c.frame.view_is) in
    record {
      long = length-set c.loop-frame.self-inside.frames.items c.frame.inside.0 c.args.number
          ∙ c.loop-frame.invariant.long;
      each = heads_more c.loop-frame.self-inside.frames.items c.args.self.now frames c.args.number
          c.loop-frame.frame-index c.frame.inside.0 low
          (sym (get_or_read frames c.loop-frame.frame-index x low c.frame-item.is 0) ∙ sym c.frame.view_is)
          there c.loop-frame.invariant.each;
    }
