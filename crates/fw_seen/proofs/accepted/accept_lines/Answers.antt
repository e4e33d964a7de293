-- One client more, and none.
use Rattle.std.proofs.Common.{◌≡◌, ◌<◌, ◌≤◌, ◌++◌, ◌∙◌, [], Some, length, drop, get_or, slice_get, refl, sym, ap, arith, append-nil}
use Rattle.std.proofs.lemmas.List.{drop_all}
use Rattle.std.proofs.lemmas.Option.{slice_get_read}
use Rattle.fw_seen.specs.Summary.{accept_lines}
use Rattle.fw_seen.proofs.Clients.{accepted_is}
use Rattle.fw_seen.proofs.Counting.{accept_more}
use Rattle.fw_seen.proofs.accepted.accept_lines.Goals as goal

pub loop-client-preserved : goal.loop-client-preserved
loop-client-preserved c = λ d t numbers clients.
    let k = c.loop-client.client-index in
    let node = c.client-item.result in
    let found : slice_get c.args.clients.now k ≡ Some node = slice_get_read c.args.clients.now (length c.args.clients.now) k node refl c.loop-client-test.true c.client-item.is in
    let many = clients.many in
    let inside : k < length numbers = (let t = c.loop-client-test.true in omega arith) in
    let is = clients.each k node found in
    accept_more d t c.loop-client.lines c.push_accepted.new.lines (accept_lines d t numbers) c.accepted.result.now numbers k c.number_of.result inside (c.number_of.ensures ∙ is.number)
    (accepted_is d t c.number_of.result node c.accepted.result.now (rw (c.number_of.ensures ∙ is.number) is) c.accepted.ensures) (c.loop-client.invariant d t numbers clients) c.in_ok-push_accepted.ensures

pub returns : goal.returns
returns c = λ d t numbers clients.
    let many = clients.many in
    let past : length numbers ≤ c.loop-client.client-index = omega arith in
    sym (append-nil c.loop-client.lines) ∙ ap (λ ns. c.loop-client.lines ++ accept_lines d t ns) (sym (drop_all c.loop-client.client-index numbers past)) ∙ c.loop-client.invariant d t numbers clients
