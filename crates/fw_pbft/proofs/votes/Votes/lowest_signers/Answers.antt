-- A signer more, or none.
use Rattle.std.proofs.Common.{◌≡◌, [], ◌∷◌, ◌++◌, map, Some, None, ap, sym, ◌∙◌}
use Rattle.std.specs.Option.{option_map}
use Rattle.fw_pbft.specs.Tallies.{signer_of, seen_signer}
use Rattle.fw_pbft.proofs.Lowest.{more_found, none_found, room}
use Rattle.fw_pbft.proofs.votes.Votes.lowest_signers.Goals.{in-Some+in_ok-push, in_default}
use Rattle.fw_pbft.proofs.votes.Votes.lowest_signers.Goals as goal

pub loop-agree-preserved : goal.loop-agree-preserved
loop-agree-preserved c =
    let f = signer_of c.args.self.now c.args.phase c.args.view c.args.number c.args.digest.now in
    elim c.match-signer_of.branch [
      | in-Some+in_ok-push w ↦
          let is : Some (seen_signer w.in-Some.signer) ≡ f c.loop-agree.agree = ap (option_map seen_signer) (sym w.in-Some.is) ∙ c.signer_of.ensures in
          let now : c.match-signer_of.signers ≡ c.loop-agree.signers ++ w.in-Some.signer ∷ [] = w.signers-is ∙ w.in_ok-push.ensures.ok in
          record {
            few = rw now (room c.loop-agree.signers w.in-Some.signer c.len.result c.quorum-quorum.result c.len.ensures c.if-len-quorum.false c.loop-agree.invariant.few);
            all = rw now (more_found seen_signer f c.loop-agree.signers _ c.loop-agree.agree c.agreements-agree-end.result w.in-Some.signer c.loop-agree-test.true is c.loop-agree.invariant.all);
          }
      | in_default w ↦
          let is : None ≡ f c.loop-agree.agree = ap (option_map seen_signer) (sym w.in_default.is) ∙ c.signer_of.ensures in
          record {
            few = rw w.signers-is c.loop-agree.invariant.few;
            all = rw w.signers-is (none_found seen_signer f c.loop-agree.signers _ c.loop-agree.agree c.agreements-agree-end.result c.loop-agree-test.true is c.loop-agree.invariant.all);
          }
    ]
