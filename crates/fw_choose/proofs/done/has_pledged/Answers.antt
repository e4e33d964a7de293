-- A vote to commit is found where the rule finds one.
use Rattle.std.proofs.Common.{ap, ◌∙◌, refl, nat_eq, ◌&&◌}
use Rattle.std.specs.List.{list_any}
use Rattle.fw_rules.specs.Agree as agree
use Rattle.fw_kept.specs.Kept.{pledge_of}
use Rattle.fw_owned.proofs.Found.{newest, any_found}
use Rattle.fw_choose.proofs.done.has_pledged.Goals as goal

pub returns : goal.returns
returns c =
    c.is_any_pledge.ensures
    ∙ ap (list_any (λ p. nat_eq p.view c.args.view && nat_eq p.number c.args.number)) (newest _ _ c.oldest_first.ensures)
    ∙ any_found pledge_of (agree.pledge_if c.args.view c.args.number) (λ p. nat_eq p.view c.args.view && nat_eq p.number c.args.number) (λ p. p.digest) (λ p. refl) c.args.pledges.now
