-- The node of a place took an input.
use Rattle.std.proofs.Common.{◌≡◌, Some, slice_get, refl}
use Rattle.std.proofs.lemmas.Option.{slice_get_read}
use Rattle.fw_node.specs.Histories.{taken}
use Rattle.fw_grid.proofs.Seating.{standing_set, seated_set, sends_set, hand_set}
use Rattle.fw_grid.proofs.nodes.give_at.Goals as goal

pub returns-in-Ok-clause-stand : goal.returns-in-Ok-clause-stand
returns-in-Ok-clause-stand g c = λ hs all.
    let nodes = c.args.nodes.now.items in
    let old = c.index_mut-node.result.now in
    let there : slice_get nodes c.args.k ≡ Some old = slice_get_read nodes _ c.args.k old refl c.requires.place c.index_mut-node.ensures.value in
    standing_set g.N.Node.stands_for g.N.Node.is_stopped c.args.directory.now hs nodes c.args.k old c.take.new.self (taken c.args.input) there c.in-Ok.ensures.running (c.in-Ok.ensures.history (hs c.args.k)) all

pub returns-in-Ok-clause-sent : goal.returns-in-Ok-clause-sent
returns-in-Ok-clause-sent g c = λ hs all.
    let nodes = c.args.nodes.now.items in
    let old = c.index_mut-node.result.now in
    let there : slice_get nodes c.args.k ≡ Some old = slice_get_read nodes _ c.args.k old refl c.requires.place c.index_mut-node.ensures.value in
    rw there (c.in-Ok.ensures.sent (hs c.args.k) (all c.args.k old there).1)

pub returns-in-Err-clause-seated : goal.returns-in-Err-clause-seated
returns-in-Err-clause-seated g c = λ seat_at count seated.
    let nodes = c.args.nodes.now.items in
    let old = c.index_mut-node.result.now in
    let there : slice_get nodes c.args.k ≡ Some old = slice_get_read nodes _ c.args.k old refl c.requires.place c.index_mut-node.ensures.value in
    seated_set g.N.Node.params g.N.Node.own c.args.directory.now.params seat_at count nodes c.args.k old c.take.new.self there c.take.ensures.params c.take.ensures.own seated

pub returns-in-Err-clause-rules : goal.returns-in-Err-clause-rules
returns-in-Err-clause-rules g c =
    let nodes = c.args.nodes.now.items in
    let old = c.index_mut-node.result.now in
    let there : slice_get nodes c.args.k ≡ Some old = slice_get_read nodes _ c.args.k old refl c.requires.place c.index_mut-node.ensures.value in
    sends_set g.N.Node.rule nodes c.args.k old c.take.new.self there c.take.ensures.rule

pub returns-in-Err-clause-hands : goal.returns-in-Err-clause-hands
returns-in-Err-clause-hands g c =
    let nodes = c.args.nodes.now.items in
    let old = c.index_mut-node.result.now in
    let there : slice_get nodes c.args.k ≡ Some old = slice_get_read nodes _ c.args.k old refl c.requires.place c.index_mut-node.ensures.value in
    hand_set g.N.Node.hand nodes c.args.k old c.take.new.self there c.take.ensures.hand
