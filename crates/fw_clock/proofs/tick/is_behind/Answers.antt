-- It waits for its view, or for a request.
use Rattle.std.proofs.Common.{List, refl, ap, map, not, ◌∙◌}
use Rattle.std.specs.Prelude.{is_some}
use Rattle.std.specs.List.{list_any}
use Rattle.fw_rules.specs.Agree as rules
use Rattle.fw_owned.specs.Pieces.{request_of}
use Rattle.fw_owned.specs.declared.owned.OwnedRequest.{OwnedRequest}
use Rattle.fw_kept.specs.Kept.{self_of, node_of}
use Rattle.fw_clock.proofs.tick.is_behind.Goals as goal

pub returns-then-not-keeps : goal.returns-then-not-keeps
returns-then-not-keeps c = λ hand own. rw c.if-not-keeps.true refl

pub returns : goal.returns
returns c = λ hand own.
    let me = self_of c.args.directory.now hand own in
    let x = node_of c.args.keeps.now in
    rw c.if-not-keeps.false (c.is_any_open.ensures hand own
    ∙ ap (λ (rs : List OwnedRequest). list_any (λ r. not (is_some (rules.reply_to me x r.client r.stamp))) (map request_of rs)) c.items.ensures)
