-- The signature of the vote that was found.
use Rattle.std.proofs.Common.{◌≡◌, List, ℕ, Some, None, ap, sym, ◌∙◌}
use Rattle.std.specs.Option.{option_map}
use Rattle.fw_frame.specs.View.{Signer}
use Rattle.fw_pbft.specs.Tallies.{signer_of}
use Rattle.fw_pbft.specs.declared.votes.KeptVote.{KeptVote}
use Rattle.fw_pbft.proofs.Signatures.{tally, found}
use Rattle.fw_pbft.proofs.votes.signer_of.Goals as goal

abbrev signed : ℕ → List ℕ → Signer
signed i sig = record { agree = i; sig = sig }

pub returns-in-Some : goal.returns-in-Some
returns-in-Some c =
    let a = c.args in
    rw (sym c.votes.view_is)
    (ap (λ sig. Some (signed a.agree sig)) c.items-in-Some.ensures
    ∙ ap (λ v. option_map (signed a.agree) (option_map (λ (k : KeptVote). k.sig) v)) c.in-Some.ensures
    ∙ ap (option_map (signed a.agree)) (found c.votes.inside.params a.phase a.view a.number a.digest.now a.agree c.items.result.now)
    ∙ ap (λ l. signer_of (tally c.votes.inside.params l) a.phase a.view a.number a.digest.now a.agree) c.items.ensures)

pub returns-in-None : goal.returns-in-None
returns-in-None c =
    let a = c.args in
    rw (sym c.votes.view_is)
    (ap (λ v. option_map (signed a.agree) (option_map (λ (k : KeptVote). k.sig) v)) c.in-None.ensures
    ∙ ap (option_map (signed a.agree)) (found c.votes.inside.params a.phase a.view a.number a.digest.now a.agree c.items.result.now)
    ∙ ap (λ l. signer_of (tally c.votes.inside.params l) a.phase a.view a.number a.digest.now a.agree) c.items.ensures)
