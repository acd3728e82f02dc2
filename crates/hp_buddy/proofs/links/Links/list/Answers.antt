use Rattle.std.proofs.Common.{◌<◌, [], ◌∷◌, length, ap, arith}
use Rattle.std.proofs.lemmas.List.{length-append}
use Rattle.hp_buddy.specs.LinkedLists.{list_at}
use Rattle.hp_buddy.specs.Rings.{Member}
use Rattle.hp_buddy.proofs.Members.{Contains-from_Member}
use Rattle.hp_buddy.proofs.Views.{frames_are, linked, seen}
use Rattle.hp_buddy.proofs.Walks.{walked-all, walked-fewer, walked-more, walked-none, walked-on}
use Rattle.hp_buddy.proofs.links.Links.list.Goals as goal

pub loop-ahead-init : goal.loop-ahead-init
loop-ahead-init c =
    walked-none (list_at c.args.self.now c.args.list) c.in_ok-frames.frames.items c.front-ahead.result
    c.in_ok-frames.ensures.items c.front-ahead.ensures

pub next-ahead-requires : goal.next-ahead-requires
next-ahead-requires c =
    let s = seen c.self.invariant c.self.view_is in
    let xs = list_at c.args.self.now c.args.list in
    rw (← frames_are s) ((linked s).below c.args.list c.in-Some.frame (walked-on xs c.loop-ahead.frames.items
    c.in-Some.frame c.loop-ahead.ahead c.in-Some.is c.loop-ahead.invariant))

pub loop-ahead-preserved : goal.loop-ahead-preserved
loop-ahead-preserved c =
    let s = seen c.self.invariant c.self.view_is in
    let xs = list_at c.args.self.now c.args.list in
    let on : Member c.in-Some.frame xs =
    walked-on xs c.loop-ahead.frames.items c.in-Some.frame c.loop-ahead.ahead c.in-Some.is
    c.loop-ahead.invariant in
    walked-more xs c.loop-ahead.frames.items c.push.new.self.items c.in-Some.frame c.loop-ahead.ahead
    c.next-ahead.result ((linked s).distinct c.args.list) c.in-Some.is c.loop-ahead.invariant
    c.in_ok-push.ensures.items
    (c.next-ahead.ensures.on c.args.list (Contains-from_Member c.in-Some.frame xs on))

pub loop-ahead-smaller : goal.loop-ahead-smaller
loop-ahead-smaller c =
    let xs = list_at c.args.self.now c.args.list in
    let fewer : length c.loop-ahead.frames.items < length xs =
    walked-fewer xs c.loop-ahead.frames.items c.in-Some.frame c.loop-ahead.ahead c.in-Some.is
    c.loop-ahead.invariant in
    omega (
      arith,
      fewer,
      ap length c.in_ok-push.ensures.items,
      length-append c.loop-ahead.frames.items (c.in-Some.frame ∷ []),
    )

pub returns : goal.returns
returns c =
    walked-all (list_at c.args.self.now c.args.list) c.loop-ahead.frames.items c.loop-ahead.ahead
    c.in_default.is c.loop-ahead.invariant
