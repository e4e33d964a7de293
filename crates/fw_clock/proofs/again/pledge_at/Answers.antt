-- The newest commit vote that is found is the rule's.
use Rattle.std.proofs.Common.{refl, nat_eq, ◌&&◌}
use Rattle.fw_rules.specs.Agree as rules
use Rattle.fw_kept.specs.Kept.{pledge_of}
use Rattle.fw_owned.proofs.Found.{newest_found}
use Rattle.fw_clock.proofs.again.pledge_at.Goals as goal

pub returns-in-Some : goal.returns-in-Some
returns-in-Some c =
    newest_found pledge_of (rules.pledge_if c.args.view c.args.number) (λ x. nat_eq x.view c.args.view && nat_eq x.number c.args.number) (λ x. x.digest) _ _ _ (λ x. refl)
    c.oldest_first.ensures c.in-Some.ensures

pub returns-in-None : goal.returns-in-None
returns-in-None c =
    newest_found pledge_of (rules.pledge_if c.args.view c.args.number) (λ x. nat_eq x.view c.args.view && nat_eq x.number c.args.number) (λ x. x.digest) _ _ _ (λ x. refl)
    c.oldest_first.ensures c.in-None.ensures
