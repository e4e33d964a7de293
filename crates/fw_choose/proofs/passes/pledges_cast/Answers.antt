-- The quorum that was found, if there is one.
use Rattle.std.proofs.Common.{Some, None, map, ap, sym, ◌∙◌}
use Rattle.std.specs.Option.{option_map}
use Rattle.fw_rules.specs.Agree as agree
use Rattle.fw_kept.specs.Kept.{self_of, node_of}
use Rattle.fw_owned.specs.Pieces.{entry_of, signer_of}
use Rattle.fw_choose.proofs.Choosing.{pledges_on}
use Rattle.fw_choose.proofs.passes.pledges_cast.Goals as goal

pub returns-in_ok-entry-in-Some-clause-act : goal.returns-in_ok-entry-in-Some-clause-act
returns-in_ok-entry-in-Some-clause-act c = λ hand own.
    let signers = map signer_of c.in-Some.signers in
    ap (λ e. Some (agree.Pledge_to c.args.number (entry_of e) signers)) c.in_ok-entry-in-Some.ensures
    ∙ pledges_on (self_of c.args.directory.now hand own) (node_of c.args.keeps.now) c.args.number (entry_of c.args.entry.now) c.digest_of-digest.result (Some signers)
    c.digest_of-digest.ensures (ap (option_map (map signer_of)) (sym c.in-Some.is) ∙ c.in_ok-signers.ensures hand own)

pub returns-in-None-clause-act : goal.returns-in-None-clause-act
returns-in-None-clause-act c = λ hand own.
    pledges_on (self_of c.args.directory.now hand own) (node_of c.args.keeps.now) c.args.number (entry_of c.args.entry.now) c.digest_of-digest.result None
    c.digest_of-digest.ensures (ap (option_map (map signer_of)) (sym c.in-None.is) ∙ c.in_ok-signers.ensures hand own)
