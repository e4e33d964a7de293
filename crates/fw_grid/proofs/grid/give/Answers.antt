-- The node of a correct seat took an input.
use Rattle.std.proofs.Common.{◌≡◌, ◌∙◌, ◌*◌, ap, IsTrue}
use Rattle.fw_base.specs.declared.params.Params.{Params}
use Rattle.fw_base.specs.declared.seat.Seat.TheVariants.{Agree, Exec, Filter, Client}
use Rattle.fw_base.specs.Sizes.{agreements, executors, width}
use Rattle.fw_step.specs.Fitting.{is_correct}
use Rattle.fw_node.specs.Histories.{taken}
use Rattle.fw_fair.specs.Correct.{filter_at, count_below, correct_at, place_of}
use Rattle.fw_grid.proofs.Seating.{on_ok, IsSent, sent_by, histories_same, standing_same, place_inside}
use Rattle.fw_grid.proofs.grid.give.Goals as goal

pub give-requires-clause-place : goal.give-requires-clause-place
give-requires-clause-place g c =
    let p = c.args.directory.now.params in
    let faulty = c.args.faulty.now in
    let correct = rw c.in-Agree.is at c.requires.seat in
    let place : c.place_of-place.result ≡ place_of p faulty (Agree c.in-Agree.field-0) = rw c.in-Agree.is at (c.place_of-place.ensures ∙ ap (λ (q : Params). place_of q faulty c.args.seat) c.params.ensures.same) in
    place_inside g.A.Node.params g.A.Node.own p faulty (Agree c.in-Agree.field-0) c.place_of-place.result c.args.grid.now.agree correct place c.requires.seated.agree

pub returns-in-Agree-clause-seated : goal.returns-in-Agree-clause-seated
returns-in-Agree-clause-seated g c =
    let p = c.args.directory.now.params in
    let faulty = c.args.faulty.now in
    record { agree = c.give.ensures.seated (correct_at faulty Agree (agreements p)) (count_below faulty Agree (agreements p)) c.requires.seated.agree; exec = c.requires.seated.exec; filters = c.requires.seated.filters; clients = c.requires.seated.clients }

pub returns-in-Agree-clause-stand : goal.returns-in-Agree-clause-stand
returns-in-Agree-clause-stand g c =
    let p = c.args.directory.now.params in
    let faulty = c.args.faulty.now in
    let correct = rw c.in-Agree.is at c.requires.seat in
    let place : c.place_of-place.result ≡ place_of p faulty (Agree c.in-Agree.field-0) = rw c.in-Agree.is at (c.place_of-place.ensures ∙ ap (λ (q : Params). place_of q faulty c.args.seat) c.params.ensures.same) in
    let many = (c.give.ensures.seated (correct_at faulty Agree (agreements p)) (count_below faulty Agree (agreements p)) c.requires.seated.agree).many in
    on_ok c.give.result _ _ (λ stand hs all. rw c.in-Agree.is (record { agree = standing_same g.A.Node.stands_for g.A.Node.is_stopped c.args.directory.now _ _ c.give.new.self (λ j inside. histories_same p faulty (Agree c.in-Agree.field-0) hs c.place_of-place.result (taken c.args.input) correct place j (rw many at inside)) (stand (λ k. hs (correct_at faulty Agree (agreements p) k)) all.agree); exec = all.exec; filters = all.filters; clients = all.clients })) c.give.ensures.stand

pub returns-in-Agree-clause-sent : goal.returns-in-Agree-clause-sent
returns-in-Agree-clause-sent g c =
    let p = c.args.directory.now.params in
    let faulty = c.args.faulty.now in
    let correct = rw c.in-Agree.is at c.requires.seat in
    let place : c.place_of-place.result ≡ place_of p faulty (Agree c.in-Agree.field-0) = rw c.in-Agree.is at (c.place_of-place.ensures ∙ ap (λ (q : Params). place_of q faulty c.args.seat) c.params.ensures.same) in
    on_ok c.give.result _ _ (λ (sent : IsSent g.A.Node.stands_for g.A.Node.is_stopped g.A.Node.rule c.args.directory.now c.args.grid.now.agree c.place_of-place.result (taken c.args.input) c.args.out.now c.give.new.out) hs all.
    rw c.in-Agree.is (sent_by g.A.Node.rule c.args.grid.now.agree c.args.directory.now faulty hs (taken c.args.input) (Agree c.in-Agree.field-0) c.place_of-place.result c.args.out.now c.give.new.out correct place (sent (λ k. hs (correct_at faulty Agree (agreements p) k)) all.agree))) c.give.ensures.sent

pub give-requires-in-Exec-clause-place : goal.give-requires-in-Exec-clause-place
give-requires-in-Exec-clause-place g c =
    let p = c.args.directory.now.params in
    let faulty = c.args.faulty.now in
    let correct = rw c.in-Exec.is at c.requires.seat in
    let place : c.place_of-place.result ≡ place_of p faulty (Exec c.in-Exec.field-0) = rw c.in-Exec.is at (c.place_of-place.ensures ∙ ap (λ (q : Params). place_of q faulty c.args.seat) c.params.ensures.same) in
    place_inside g.E.Node.params g.E.Node.own p faulty (Exec c.in-Exec.field-0) c.place_of-place.result c.args.grid.now.exec correct place c.requires.seated.exec

pub returns-in-Exec-clause-seated : goal.returns-in-Exec-clause-seated
returns-in-Exec-clause-seated g c =
    let p = c.args.directory.now.params in
    let faulty = c.args.faulty.now in
    record { agree = c.requires.seated.agree; exec = c.give-in-Exec.ensures.seated (correct_at faulty Exec (executors p)) (count_below faulty Exec (executors p)) c.requires.seated.exec; filters = c.requires.seated.filters; clients = c.requires.seated.clients }

pub returns-in-Exec-clause-stand : goal.returns-in-Exec-clause-stand
returns-in-Exec-clause-stand g c =
    let p = c.args.directory.now.params in
    let faulty = c.args.faulty.now in
    let correct = rw c.in-Exec.is at c.requires.seat in
    let place : c.place_of-place.result ≡ place_of p faulty (Exec c.in-Exec.field-0) = rw c.in-Exec.is at (c.place_of-place.ensures ∙ ap (λ (q : Params). place_of q faulty c.args.seat) c.params.ensures.same) in
    let many = (c.give-in-Exec.ensures.seated (correct_at faulty Exec (executors p)) (count_below faulty Exec (executors p)) c.requires.seated.exec).many in
    on_ok c.give-in-Exec.result _ _ (λ stand hs all. rw c.in-Exec.is (record { agree = all.agree; exec = standing_same g.E.Node.stands_for g.E.Node.is_stopped c.args.directory.now _ _ c.give-in-Exec.new.self (λ j inside. histories_same p faulty (Exec c.in-Exec.field-0) hs c.place_of-place.result (taken c.args.input) correct place j (rw many at inside)) (stand (λ k. hs (correct_at faulty Exec (executors p) k)) all.exec); filters = all.filters; clients = all.clients })) c.give-in-Exec.ensures.stand

pub returns-in-Exec-clause-sent : goal.returns-in-Exec-clause-sent
returns-in-Exec-clause-sent g c =
    let p = c.args.directory.now.params in
    let faulty = c.args.faulty.now in
    let correct = rw c.in-Exec.is at c.requires.seat in
    let place : c.place_of-place.result ≡ place_of p faulty (Exec c.in-Exec.field-0) = rw c.in-Exec.is at (c.place_of-place.ensures ∙ ap (λ (q : Params). place_of q faulty c.args.seat) c.params.ensures.same) in
    on_ok c.give-in-Exec.result _ _ (λ (sent : IsSent g.E.Node.stands_for g.E.Node.is_stopped g.E.Node.rule c.args.directory.now c.args.grid.now.exec c.place_of-place.result (taken c.args.input) c.args.out.now c.give-in-Exec.new.out) hs all.
    rw c.in-Exec.is (sent_by g.E.Node.rule c.args.grid.now.exec c.args.directory.now faulty hs (taken c.args.input) (Exec c.in-Exec.field-0) c.place_of-place.result c.args.out.now c.give-in-Exec.new.out correct place (sent (λ k. hs (correct_at faulty Exec (executors p) k)) all.exec))) c.give-in-Exec.ensures.sent

pub give-requires-in-Filter-clause-place : goal.give-requires-in-Filter-clause-place
give-requires-in-Filter-clause-place g c =
    let p = c.args.directory.now.params in
    let faulty = c.args.faulty.now in
    let correct = rw c.in-Filter.is at c.requires.seat in
    let place : c.place_of-place.result ≡ place_of p faulty (Filter c.in-Filter.field-0 c.in-Filter.field-1) = rw c.in-Filter.is at (c.place_of-place.ensures ∙ ap (λ (q : Params). place_of q faulty c.args.seat) c.params.ensures.same) in
    place_inside g.F.Node.params g.F.Node.own p faulty (Filter c.in-Filter.field-0 c.in-Filter.field-1) c.place_of-place.result c.args.grid.now.filters correct place c.requires.seated.filters

pub returns-in-Filter-clause-seated : goal.returns-in-Filter-clause-seated
returns-in-Filter-clause-seated g c =
    let p = c.args.directory.now.params in
    let faulty = c.args.faulty.now in
    record { agree = c.requires.seated.agree; exec = c.requires.seated.exec; filters = c.give-in-Filter.ensures.seated (correct_at faulty (filter_at p) (width p * width p)) (count_below faulty (filter_at p) (width p * width p)) c.requires.seated.filters; clients = c.requires.seated.clients }

pub returns-in-Filter-clause-stand : goal.returns-in-Filter-clause-stand
returns-in-Filter-clause-stand g c =
    let p = c.args.directory.now.params in
    let faulty = c.args.faulty.now in
    let correct = rw c.in-Filter.is at c.requires.seat in
    let place : c.place_of-place.result ≡ place_of p faulty (Filter c.in-Filter.field-0 c.in-Filter.field-1) = rw c.in-Filter.is at (c.place_of-place.ensures ∙ ap (λ (q : Params). place_of q faulty c.args.seat) c.params.ensures.same) in
    let many = (c.give-in-Filter.ensures.seated (correct_at faulty (filter_at p) (width p * width p)) (count_below faulty (filter_at p) (width p * width p)) c.requires.seated.filters).many in
    on_ok c.give-in-Filter.result _ _ (λ stand hs all. rw c.in-Filter.is (record { agree = all.agree; exec = all.exec; filters = standing_same g.F.Node.stands_for g.F.Node.is_stopped c.args.directory.now _ _ c.give-in-Filter.new.self (λ j inside. histories_same p faulty (Filter c.in-Filter.field-0 c.in-Filter.field-1) hs c.place_of-place.result (taken c.args.input) correct place j (rw many at inside)) (stand (λ k. hs (correct_at faulty (filter_at p) (width p * width p) k)) all.filters); clients = all.clients })) c.give-in-Filter.ensures.stand

pub returns-in-Filter-clause-sent : goal.returns-in-Filter-clause-sent
returns-in-Filter-clause-sent g c =
    let p = c.args.directory.now.params in
    let faulty = c.args.faulty.now in
    let correct = rw c.in-Filter.is at c.requires.seat in
    let place : c.place_of-place.result ≡ place_of p faulty (Filter c.in-Filter.field-0 c.in-Filter.field-1) = rw c.in-Filter.is at (c.place_of-place.ensures ∙ ap (λ (q : Params). place_of q faulty c.args.seat) c.params.ensures.same) in
    on_ok c.give-in-Filter.result _ _ (λ (sent : IsSent g.F.Node.stands_for g.F.Node.is_stopped g.F.Node.rule c.args.directory.now c.args.grid.now.filters c.place_of-place.result (taken c.args.input) c.args.out.now c.give-in-Filter.new.out) hs all.
    rw c.in-Filter.is (sent_by g.F.Node.rule c.args.grid.now.filters c.args.directory.now faulty hs (taken c.args.input) (Filter c.in-Filter.field-0 c.in-Filter.field-1) c.place_of-place.result c.args.out.now c.give-in-Filter.new.out correct place (sent (λ k. hs (correct_at faulty (filter_at p) (width p * width p) k)) all.filters))) c.give-in-Filter.ensures.sent

pub give-requires-in-Client-clause-place : goal.give-requires-in-Client-clause-place
give-requires-in-Client-clause-place g c =
    let p = c.args.directory.now.params in
    let faulty = c.args.faulty.now in
    let correct = rw c.in-Client.is at c.requires.seat in
    let place : c.place_of-place.result ≡ place_of p faulty (Client c.in-Client.field-0) = rw c.in-Client.is at (c.place_of-place.ensures ∙ ap (λ (q : Params). place_of q faulty c.args.seat) c.params.ensures.same) in
    place_inside g.C.Node.params g.C.Node.own p faulty (Client c.in-Client.field-0) c.place_of-place.result c.args.grid.now.clients correct place c.requires.seated.clients

pub returns-in-Client-clause-seated : goal.returns-in-Client-clause-seated
returns-in-Client-clause-seated g c =
    let p = c.args.directory.now.params in
    let faulty = c.args.faulty.now in
    record { agree = c.requires.seated.agree; exec = c.requires.seated.exec; filters = c.requires.seated.filters; clients = c.give-in-Client.ensures.seated (correct_at faulty Client p.clients) (count_below faulty Client p.clients) c.requires.seated.clients }

pub returns-in-Client-clause-stand : goal.returns-in-Client-clause-stand
returns-in-Client-clause-stand g c =
    let p = c.args.directory.now.params in
    let faulty = c.args.faulty.now in
    let correct = rw c.in-Client.is at c.requires.seat in
    let place : c.place_of-place.result ≡ place_of p faulty (Client c.in-Client.field-0) = rw c.in-Client.is at (c.place_of-place.ensures ∙ ap (λ (q : Params). place_of q faulty c.args.seat) c.params.ensures.same) in
    let many = (c.give-in-Client.ensures.seated (correct_at faulty Client p.clients) (count_below faulty Client p.clients) c.requires.seated.clients).many in
    on_ok c.give-in-Client.result _ _ (λ stand hs all. rw c.in-Client.is (record { agree = all.agree; exec = all.exec; filters = all.filters; clients = standing_same g.C.Node.stands_for g.C.Node.is_stopped c.args.directory.now _ _ c.give-in-Client.new.self (λ j inside. histories_same p faulty (Client c.in-Client.field-0) hs c.place_of-place.result (taken c.args.input) correct place j (rw many at inside)) (stand (λ k. hs (correct_at faulty Client p.clients k)) all.clients) })) c.give-in-Client.ensures.stand

pub returns-in-Client-clause-sent : goal.returns-in-Client-clause-sent
returns-in-Client-clause-sent g c =
    let p = c.args.directory.now.params in
    let faulty = c.args.faulty.now in
    let correct = rw c.in-Client.is at c.requires.seat in
    let place : c.place_of-place.result ≡ place_of p faulty (Client c.in-Client.field-0) = rw c.in-Client.is at (c.place_of-place.ensures ∙ ap (λ (q : Params). place_of q faulty c.args.seat) c.params.ensures.same) in
    on_ok c.give-in-Client.result _ _ (λ (sent : IsSent g.C.Node.stands_for g.C.Node.is_stopped g.C.Node.rule c.args.directory.now c.args.grid.now.clients c.place_of-place.result (taken c.args.input) c.args.out.now c.give-in-Client.new.out) hs all.
    rw c.in-Client.is (sent_by g.C.Node.rule c.args.grid.now.clients c.args.directory.now faulty hs (taken c.args.input) (Client c.in-Client.field-0) c.place_of-place.result c.args.out.now c.give-in-Client.new.out correct place (sent (λ k. hs (correct_at faulty Client p.clients k)) all.clients))) c.give-in-Client.ensures.sent
