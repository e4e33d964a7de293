use Rattle.std.proofs.Common.{sym}
use Rattle.fw_means.proofs.Signing.{signed_all, values_whole}
use Rattle.fw_means.proofs.means.signed.Goals as goal

pub sign-requires-clause-secrets : goal.sign-requires-clause-secrets
sign-requires-clause-secrets c =
    values_whole c.args.hand.now.held c.args.slot c.in_ok-secrets.secrets.now c.requires.whole (sym c.in_ok-secrets.ensures)

pub returns-clause-found : goal.returns-clause-found
returns-clause-found c =
    signed_all c.args.hand.now c.args.slot c.in_ok-secrets.secrets.now c.args.digest.now c.sign.new.out
    (sym c.in_ok-secrets.ensures) c.sign.ensures.len c.sign.ensures.signed
