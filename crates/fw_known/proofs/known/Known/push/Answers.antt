-- The vote that was added is counted.
use Rattle.std.proofs.Common.{◌≡◌, ℕ, List, [], ◌∷◌, ◌++◌, get_or, length, ap, sym, subst, ◌∙◌, IsTrue}
use Rattle.fw_base.specs.declared.params.Params.{Params}
use Rattle.fw_base.specs.Sizes.{accepted}
use Rattle.fw_pbft.specs.Tallies.{signature_of}
use Rattle.fw_owned.specs.declared.owned.OwnedVote.{OwnedVote}
use Rattle.fw_known.specs.Counted.{AreCounted, signature_with}
use Rattle.fw_known.proofs.Counting.{more_counted, last_of, if_ok}
use Rattle.fw_known.proofs.known.Known.push.Goals as goal

pub invariant_of-self-else-is_err : goal.invariant_of-self-else-is_err
invariant_of-self-else-is_err c =
    let old = c.self.inside.tally in
    let new = c.count-counted.new.tally in
    let votes = c.self.inside.votes.items in
    let found = c.index.result.now in
    let one : (p v n i : ℕ) (d : List ℕ) → signature_of new p v n d i ≡ signature_with old found p v n d i = if_ok c.count-counted.result _ (sym c.is_err.ensures.value ∙ c.if-is_err.false) c.count-counted.ensures.counted in
    let len : length c.as_slice-len.result.now ≡ length votes = ap length c.as_slice-len.ensures.value in
    let same : found ≡ c.args.vote = c.index.ensures ∙ ap (λ (l : List OwnedVote). get_or l (length c.as_slice-len.result.now) found) c.in_ok-push.ensures.items ∙ ap (λ k. get_or (votes ++ c.args.vote ∷ []) k found) len ∙ last_of votes c.args.vote found in
    let counted : AreCounted new (votes ++ c.args.vote ∷ []) = more_counted old new votes c.args.vote c.self.invariant.1 (λ p v n i d. one p v n i d ∙ ap (λ w. signature_with old w p v n d i) same) in
    (subst (λ (p : Params). IsTrue (accepted p)) (sym c.count-counted.ensures.params) c.self.invariant.0, subst (λ (l : List OwnedVote). AreCounted new l) (sym c.in_ok-push.ensures.items) counted)
