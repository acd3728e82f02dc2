use Rattle.std.proofs.Common.{◌≡◌, ℕ, ◌+◌, ◌*◌, ◌<◌, [], ◌∷◌, ◌++◌, length, sym, ap, subst, arith}
use Rattle.std.proofs.lemmas.Result.{on_ok_weaker}
use Rattle.hp_units.specs.Memory.{FreeFrames, cached_list, pool_index, with_cached_list}
use Rattle.hp_plain.proofs.Values.{list_added}
use Rattle.hp_plain.proofs.frames.FreeFrames.add_cached.Goals as goal

pub returns-clause-value : goal.returns-clause-value
returns-clause-value c =
    let a = c.args in
    let old = c.self.inside in
    let number : ℕ = 3 * c.cpu.inside.0 + c.index.result in
    let same : number ≡ 3 * a.cpu + pool_index a.pool = rw (c.cpu.view_is, c.index.ensures.is) in
    let there : 3 * a.cpu + pool_index a.pool < length old.cached.items =
    subst (λ (f : FreeFrames). 3 * a.cpu + pool_index a.pool < length f.cached) (sym c.self.view_is)
    (omega (arith, c.requires.cpu, c.requires.layout.lists, c.index.ensures.is, c.index.ensures.below)) in
    on_ok_weaker c.push_back.result
    (λ (e : c.push_back.new.self ≡ c.index_mut.result.now ++ a.frame ∷ []).
    rw (list_added old.cached.items number _ a.frame c.index_mut.result.now c.push_back.new.self same there
    c.index_mut.ensures.value e) (ap (λ (f : FreeFrames). with_cached_list f a.cpu a.pool
    (cached_list f a.cpu a.pool ++ a.frame ∷ [])) c.self.view_is)) c.push_back.ensures.value
