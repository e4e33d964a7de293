-- There is a new node for each correct seat.
use Rattle.std.proofs.Common.{◌≡◌, ◌*◌, Some, IsTrue}
use Rattle.fw_base.specs.declared.seat.Seat.{Seat}
use Rattle.fw_base.specs.declared.seat.Seat.TheVariants.{Agree, Exec, Filter, Client}
use Rattle.fw_base.specs.Sizes.{agreements, executors, width}
use Rattle.fw_step.specs.Fitting.{is_correct}
use Rattle.fw_deal.specs.Deals.{hand_of}
use Rattle.fw_fair.specs.Correct.{filter_at, correct_below}
use Rattle.fw_grid.specs.Nodes.{node_hand}
use Rattle.fw_agree.specs.Standing as agreeing
use Rattle.fw_exec.specs.Standing as executing
use Rattle.fw_filter.specs.Standing as filtering
use Rattle.fw_client.specs.Standing as asking
use Rattle.fw_cores.proofs.Together.{seated, standing, had_of, all_sent}
use Rattle.fw_cores.proofs.dealing.cores.Goals as goal

pub returns-clause-seated : goal.returns-clause-seated
returns-clause-seated c =
    let deal = c.args.deal.now in
    let p = deal.origin.params in
    let faulty = c.args.faulty.now in
    record {
      agree = seated (λ n. n.params) (λ n. Agree n.own) (λ n. n.hand) agreeing.rule_of agreeing.StandsFor (λ n. n.stopped) deal Agree (correct_below faulty Agree (agreements p)) c.in_ok-agree.agree c.in_ok-agree.ensures;
      exec = seated (λ n. n.params) (λ n. Exec n.exec) (λ n. n.hand) executing.rule_of executing.StandsFor (λ n. n.stopped) deal Exec (correct_below faulty Exec (executors p)) c.in_ok-exec.exec c.in_ok-exec.ensures;
      filters = seated (λ n. n.params) (λ n. Filter n.row n.column) (λ n. n.hand) filtering.rule_of filtering.StandsFor (λ n. n.stopped) deal (filter_at p) (correct_below faulty (filter_at p) (width p * width p)) c.in_ok-filters.filters c.in_ok-filters.ensures;
      clients = seated (λ n. n.params) (λ n. Client n.client) (λ n. n.hand) asking.rule_of asking.StandsFor (λ n. n.stopped) deal Client (correct_below faulty Client p.clients) c.in_ok-clients.clients c.in_ok-clients.ensures;
    }

pub returns-clause-fresh : goal.returns-clause-fresh
returns-clause-fresh c = λ d same.
    let deal = c.args.deal.now in
    let p = deal.origin.params in
    let faulty = c.args.faulty.now in
    record {
      agree = standing (λ n. n.params) (λ n. Agree n.own) (λ n. n.hand) agreeing.rule_of agreeing.StandsFor (λ n. n.stopped) deal Agree (correct_below faulty Agree (agreements p)) c.in_ok-agree.agree d c.in_ok-agree.ensures;
      exec = standing (λ n. n.params) (λ n. Exec n.exec) (λ n. n.hand) executing.rule_of executing.StandsFor (λ n. n.stopped) deal Exec (correct_below faulty Exec (executors p)) c.in_ok-exec.exec d c.in_ok-exec.ensures;
      filters = standing (λ n. n.params) (λ n. Filter n.row n.column) (λ n. n.hand) filtering.rule_of filtering.StandsFor (λ n. n.stopped) deal (filter_at p) (correct_below faulty (filter_at p) (width p * width p)) c.in_ok-filters.filters d c.in_ok-filters.ensures;
      clients = standing (λ n. n.params) (λ n. Client n.client) (λ n. n.hand) asking.rule_of asking.StandsFor (λ n. n.stopped) deal Client (correct_below faulty Client p.clients) c.in_ok-clients.clients d c.in_ok-clients.ensures;
    }

pub returns-clause-rules : goal.returns-clause-rules
returns-clause-rules c = λ d seat h same.
    all_sent (λ n. n.params) (λ n. Agree n.own) (λ n. n.hand) agreeing.rule_of agreeing.StandsFor (λ n. n.stopped) (λ n. n.params) (λ n. Exec n.exec) (λ n. n.hand) executing.rule_of executing.StandsFor (λ n. n.stopped)
    (λ n. n.params) (λ n. Filter n.row n.column) (λ n. n.hand) filtering.rule_of filtering.StandsFor (λ n. n.stopped) (λ n. n.params) (λ n. Client n.client) (λ n. n.hand) asking.rule_of asking.StandsFor (λ n. n.stopped)
    c.args.deal.now c.args.faulty.now (record { agree = c.in_ok-agree.agree; exec = c.in_ok-exec.exec; filters = c.in_ok-filters.filters; clients = c.in_ok-clients.clients })
    c.in_ok-agree.ensures c.in_ok-exec.ensures c.in_ok-filters.ensures c.in_ok-clients.ensures d seat h same

pub returns-clause-hands : goal.returns-clause-hands
returns-clause-hands c = λ seat correct. of seat correct
  where
    of : (seat : Seat) → IsTrue (is_correct c.args.deal.now.origin.params c.args.faulty.now seat)
        → node_hand (λ n. n.hand) (λ n. n.hand) (λ n. n.hand) (λ n. n.hand) (record { agree = c.in_ok-agree.agree; exec = c.in_ok-exec.exec; filters = c.in_ok-filters.filters; clients = c.in_ok-clients.clients }) c.args.deal.now.origin.params c.args.faulty.now seat ≡ Some (hand_of c.args.deal.now seat)
    of (Agree i) correct = had_of (λ n. n.params) (λ n. Agree n.own) (λ n. n.hand) agreeing.rule_of agreeing.StandsFor (λ n. n.stopped) c.args.deal.now c.args.deal.now.origin.params c.args.faulty.now (Agree i) c.in_ok-agree.agree correct c.in_ok-agree.ensures
    of (Exec j) correct = had_of (λ n. n.params) (λ n. Exec n.exec) (λ n. n.hand) executing.rule_of executing.StandsFor (λ n. n.stopped) c.args.deal.now c.args.deal.now.origin.params c.args.faulty.now (Exec j) c.in_ok-exec.exec correct c.in_ok-exec.ensures
    of (Filter row column) correct = had_of (λ n. n.params) (λ n. Filter n.row n.column) (λ n. n.hand) filtering.rule_of filtering.StandsFor (λ n. n.stopped) c.args.deal.now c.args.deal.now.origin.params c.args.faulty.now (Filter row column) c.in_ok-filters.filters correct c.in_ok-filters.ensures
    of (Client k) correct = had_of (λ n. n.params) (λ n. Client n.client) (λ n. n.hand) asking.rule_of asking.StandsFor (λ n. n.stopped) c.args.deal.now c.args.deal.now.origin.params c.args.faulty.now (Client k) c.in_ok-clients.clients correct c.in_ok-clients.ensures
