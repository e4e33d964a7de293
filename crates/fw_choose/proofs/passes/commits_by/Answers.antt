-- A quorum, and an entry that was seen.
use Rattle.std.proofs.Common.{◌≡◌, Some, None, map, ap, sym, ◌∙◌}
use Rattle.std.specs.Option.{option_map}
use Rattle.fw_text.specs.Texts.{hash}
use Rattle.fw_rules.specs.Agree as agree
use Rattle.fw_kept.specs.Kept.{self_of, node_of}
use Rattle.fw_owned.specs.Pieces.{entry_of, signer_of, vote_of}
use Rattle.fw_choose.proofs.Choosing.{commits_on, commit_few, commit_both}
use Rattle.fw_choose.proofs.passes.commits_by.Goals as goal

pub returns-in_default-clause-act : goal.returns-in_default-clause-act
returns-in_default-clause-act c = λ hand own.
    let me = self_of c.args.directory.now hand own in
    let x = node_of c.args.keeps.now in
    commits_on me x c.args.view c.args.number (vote_of c.args.vote.now) None c.if-vote-ne1.false c.if-vote-view.false c.if-vote-number.false
    (commit_few c.args.view c.args.number _ _
    (ap (option_map (map signer_of)) (sym c.in_default.is) ∙ c.in_ok-signers.ensures hand own))

pub returns-clause-act : goal.returns-clause-act
returns-clause-act c = λ hand own.
    let me = self_of c.args.directory.now hand own in
    let x = node_of c.args.keeps.now in
    let signers = map signer_of c.in-Some.signers in
    let copied : Some (entry_of c.in_ok-entry.entry) ≡ Some (entry_of c.in-Some-seen_of.entry.now) = ap (λ e. Some (entry_of e)) c.in_ok-entry.ensures in
    let seen : Some (entry_of c.in_ok-entry.entry) ≡ agree.seen_of hash x.seen c.args.vote.now.digest = copied ∙ c.in-Some-seen_of.ensures ∙ ap (λ s. agree.seen_of hash (map entry_of s) c.args.vote.now.digest) c.items.ensures in
    commits_on me x c.args.view c.args.number (vote_of c.args.vote.now) _ c.if-vote-ne1.false c.if-vote-view.false c.if-vote-number.false
    (commit_both c.args.view c.args.number _ _ (entry_of c.in_ok-entry.entry) signers seen
    (ap (option_map (map signer_of)) (sym c.in-Some.is) ∙ c.in_ok-signers.ensures hand own))
