use Rattle.std.specs.Prelude.{◌==◌, vec_len}
use Rattle.std.proofs.Common.{◌≡◌, ℕ, ◌<◌, ◌≤◌, ◌∷◌, ◌++◌, [], true, false, length, refl, ap, sym, ◌∙◌, arith}
use Rattle.std.proofs.lemmas.List.{length-append, nil_from_length}
use Rattle.std.proofs.lemmas.Bool.{eqb-true}
use Rattle.hp_shared.proofs.SealRuns.{fewer_seal_less}
use Rattle.hp_shared.proofs.WorkerLists.{worker_at, workers_few, workers_more, workers_none}
use Rattle.hp_shared.proofs.threads.+workers.Goals as goal

pub run_beside-returns-clause-worker : goal.run_beside-returns-clause-worker
run_beside-returns-clause-worker g t c =
    let scripts = c.args.scripts.now.items in
    let others = c.args.others.items in
    let place : c.len.result ≡ length others = omega (arith, c.len.ensures, c.args.others.ok.0) in
    let inside : length others < length scripts =
    omega (arith, c.requires.scripts, c.args.others.ok.0, c.args.scripts.now.ok.0) in
    worker_at g.L.Job.layout _ scripts (length others) c.len.result c.index-script.result.now _ _ _ _ place
    inside c.index-script.ensures c.scoped.ensures.1.0

pub run_beside-returns-then-is_empty-clause-worker : goal.run_beside-returns-then-is_empty-clause-worker
run_beside-returns-then-is_empty-clause-worker g t c =
    let scripts = c.args.scripts.now.items in
    let others = c.args.others.items in
    let place : c.len.result ≡ length others = omega (arith, c.len.ensures, c.args.others.ok.0) in
    let inside : length others < length scripts =
    omega (arith, c.requires.scripts, c.args.others.ok.0, c.args.scripts.now.ok.0) in
    worker_at g.L.Job.layout _ scripts (length others) c.len.result c.index-script.result.now _ _ _ _ place
    inside c.index-script.ensures c.run_script.ensures.worker

pub run_beside-returns-then-is_empty-clause-started : goal.run_beside-returns-then-is_empty-clause-started
run_beside-returns-then-is_empty-clause-started g t c none = c.run_script.ensures.started

pub run_beside-returns-clause-started : goal.run_beside-returns-clause-started
run_beside-returns-clause-started g t c none =
    let zero : vec_len c.args.others ≡ 0 = omega (arith, none, c.args.others.ok.0) in
    let bad : false ≡ true =
    sym c.if-is_empty.false ∙ (c.is_empty.ensures ∙ ap (λ (n : ℕ). n == 0) zero) in absurd cc

pub run_rest-run_beside-worked-requires-clause-volumes :
    goal.run_rest-run_beside-worked-requires-clause-volumes
run_rest-run_beside-worked-requires-clause-volumes g t c κs within =
    let others = c.pop.new.self.items in
    let less : length others ≤ length c.args.seats.items =
    omega
    (arith, ap (λ xs. length xs) c.in-Some.ensures.items, length-append others (c.in-Some.seat ∷ [])) in
    omega (
      arith,
      fewer_seal_less c.args.scripts.now.items (length others) (length c.args.seats.items) less,
      c.requires.volumes,
    )

pub run_rest-gather-requires-clause-volumes : goal.run_rest-gather-requires-clause-volumes
run_rest-gather-requires-clause-volumes g t c =
    let seats = c.args.seats.items in
    let scripts = c.args.scripts.now.items in
    let at = c.run_beside-worked.ensures.worker in
    let worked = c.run_beside-worked.result.0 in
    let done = c.run_beside-worked.result.1 in
    let volumes = done.volumes.items ++ worked.volumes.items in
    let all =
    workers_more g.L.Job.layout seats c.pop.new.self.items c.in-Some.seat scripts at.lines
    (done.seats.items ++ worked.seat ∷ []) done.seats.items worked.seat volumes done.volumes.items
    worked.volumes.items (done.ends.items ++ worked.ends ∷ []) done.ends.items worked.ends done.fault
    worked.fault _ c.in-Some.ensures.items at.script refl refl refl refl c.run_beside-worked.ensures.workers
    at.worker c.run_beside-worked.ensures.started in
    omega (
      arith,
      workers_few g.L.Job.layout seats scripts _ volumes _ _ all
          (omega (arith, c.requires.scripts, c.args.seats.ok.0, c.args.scripts.now.ok.0)),
      length-append done.volumes.items worked.volumes.items,
      done.volumes.ok.0,
      worked.volumes.ok.0,
      c.requires.volumes,
      c.run_beside-worked.ensures.room,
    )

pub run_rest-returns-clause-workers : goal.run_rest-returns-clause-workers
run_rest-returns-clause-workers g t c =
    let at = c.run_beside-worked.ensures.worker in
    let worked = c.run_beside-worked.result.0 in
    let done = c.run_beside-worked.result.1 in
    let end = c.gather.result in
    workers_more g.L.Job.layout c.args.seats.items c.pop.new.self.items c.in-Some.seat
    c.args.scripts.now.items at.lines end.seats.items done.seats.items worked.seat
    end.volumes.items done.volumes.items worked.volumes.items end.ends.items done.ends.items worked.ends
    done.fault worked.fault end.fault
    c.in-Some.ensures.items at.script c.gather.ensures.seats c.gather.ensures.volumes c.gather.ensures.ends
    c.gather.ensures.fault c.run_beside-worked.ensures.workers at.worker c.run_beside-worked.ensures.started

pub run_rest-returns-in_default-clause-workers : goal.run_rest-returns-in_default-clause-workers
run_rest-returns-in_default-clause-workers g t c =
    workers_none g.L.Job.layout c.args.seats.items c.args.scripts.now.items c.args.room.seats.items
    c.args.room.volumes.items c.args.room.ends.items c.args.room.fault
    (nil_from_length c.args.seats.items (omega (arith, c.in_default.ensures.cases.0, c.args.seats.ok.0)))
    c.requires.bare.0 c.requires.bare.1 c.requires.bare.2 c.requires.bare.3

pub run_beside-returns-then-is_empty-clause-workers : goal.run_beside-returns-then-is_empty-clause-workers
run_beside-returns-then-is_empty-clause-workers g t c =
    let none : vec_len c.args.others ≡ 0 =
    eqb-true (vec_len c.args.others) 0 (sym c.is_empty.ensures ∙ c.if-is_empty.true) in
    workers_none g.L.Job.layout c.args.others.items c.args.scripts.now.items c.args.room.seats.items
    c.args.room.volumes.items c.args.room.ends.items c.args.room.fault
    (nil_from_length c.args.others.items (omega (arith, none, c.args.others.ok.0))) c.requires.bare.0
    c.requires.bare.1 c.requires.bare.2 c.requires.bare.3
