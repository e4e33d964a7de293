-- A vote that wasn't known is one more, and one that was changes nothing.
use Rattle.std.proofs.Common.{◌≡◌, List, true, false, not, ap, sym, ◌∙◌}
use Rattle.fw_pbft.specs.declared.votes.KeptVote.{KeptVote}
use Rattle.fw_pbft.specs.Tallies.{has_voted, ballots_at, ballots_with}
use Rattle.fw_pbft.proofs.Signatures.{tally, ballot, voted, added, same}
use Rattle.fw_pbft.proofs.votes.Votes.add.Goals as goal

pub returns-then-is_some-clause-first : goal.returns-then-is_some-clause-first
returns-then-is_some-clause-first c =
    let a = c.args in
    let p = c.self.inside.params in
    let known : has_voted (tally p c.items.result.now) a.phase a.view a.number a.digest.now a.signer ≡ true = sym (voted p a.phase a.view a.number a.digest.now a.signer c.items.result.now c.vote_of.result c.vote_of.ensures) ∙ sym c.is_some.ensures ∙ c.if-is_some.true in
    rw (sym c.self.view_is) (ap not (sym (rw c.items.ensures at known)))

pub returns-then-is_some-clause-kept : goal.returns-then-is_some-clause-kept
returns-then-is_some-clause-kept c =
    λ p v n i.
    let known : has_voted (tally c.self.inside.params c.items.result.now) c.args.phase c.args.view c.args.number c.args.digest.now c.args.signer ≡ true = sym (voted c.self.inside.params c.args.phase c.args.view c.args.number c.args.digest.now c.args.signer c.items.result.now c.vote_of.result c.vote_of.ensures) ∙ sym c.is_some.ensures ∙ c.if-is_some.true in
    rw (sym c.self.view_is) (same (tally c.self.inside.params c.self.inside.votes) (ballot c.args.phase c.args.view c.args.number c.args.signer c.args.digest.now c.args.sig.now) p v n i (rw c.items.ensures at known))

pub returns-in_err-copy_of-clause-again : goal.returns-in_err-copy_of-clause-again
returns-in_err-copy_of-clause-again c =
    λ was.
    let known : has_voted (tally c.self.inside.params c.items.result.now) c.args.phase c.args.view c.args.number c.args.digest.now c.args.signer ≡ false = sym (voted c.self.inside.params c.args.phase c.args.view c.args.number c.args.digest.now c.args.signer c.items.result.now c.vote_of.result c.vote_of.ensures) ∙ sym c.is_some.ensures ∙ c.if-is_some.false in
    let fresh : has_voted c.args.self.now c.args.phase c.args.view c.args.number c.args.digest.now c.args.signer ≡ false = rw (sym c.self.view_is) (rw c.items.ensures at known) in
    absurd (let no : ⊥ = cc in no)

pub returns-in_err-push-clause-again : goal.returns-in_err-push-clause-again
returns-in_err-push-clause-again c =
    λ was.
    let known : has_voted (tally c.self.inside.params c.items.result.now) c.args.phase c.args.view c.args.number c.args.digest.now c.args.signer ≡ false = sym (voted c.self.inside.params c.args.phase c.args.view c.args.number c.args.digest.now c.args.signer c.items.result.now c.vote_of.result c.vote_of.ensures) ∙ sym c.is_some.ensures ∙ c.if-is_some.false in
    let fresh : has_voted c.args.self.now c.args.phase c.args.view c.args.number c.args.digest.now c.args.signer ≡ false = rw (sym c.self.view_is) (rw c.items.ensures at known) in
    absurd (let no : ⊥ = cc in no)

pub returns-clause-first : goal.returns-clause-first
returns-clause-first c =
    let known : has_voted (tally c.self.inside.params c.items.result.now) c.args.phase c.args.view c.args.number c.args.digest.now c.args.signer ≡ false = sym (voted c.self.inside.params c.args.phase c.args.view c.args.number c.args.digest.now c.args.signer c.items.result.now c.vote_of.result c.vote_of.ensures) ∙ sym c.is_some.ensures ∙ c.if-is_some.false in
    rw (sym c.self.view_is) (ap not (sym (rw c.items.ensures at known)))

pub returns-clause-kept : goal.returns-clause-kept
returns-clause-kept c =
    λ p v n i.
    let known : has_voted (tally c.self.inside.params c.items.result.now) c.args.phase c.args.view c.args.number c.args.digest.now c.args.signer ≡ false = sym (voted c.self.inside.params c.args.phase c.args.view c.args.number c.args.digest.now c.args.signer c.items.result.now c.vote_of.result c.vote_of.ensures) ∙ sym c.is_some.ensures ∙ c.if-is_some.false in
    let a = c.args in
    let one : KeptVote = record { phase = a.phase; view = a.view; number = a.number; signer = a.signer; digest = a.digest.now; sig = c.in_ok-copy_of.field-0 } in
    rw (sym c.self.view_is)
    (ap (λ l. ballots_at (tally c.self.inside.params l) p v n i) c.in_ok-push.ensures.ok
    ∙ added c.self.inside.params c.self.inside.votes one p v n i (rw c.items.ensures at known)
    ∙ ap (λ sig. ballots_with (tally c.self.inside.params c.self.inside.votes) (ballot a.phase a.view a.number a.signer a.digest.now sig) p v n i) c.in_ok-copy_of.ensures)

pub returns-clause-again : goal.returns-clause-again
returns-clause-again c =
    λ was.
    let known : has_voted (tally c.self.inside.params c.items.result.now) c.args.phase c.args.view c.args.number c.args.digest.now c.args.signer ≡ false = sym (voted c.self.inside.params c.args.phase c.args.view c.args.number c.args.digest.now c.args.signer c.items.result.now c.vote_of.result c.vote_of.ensures) ∙ sym c.is_some.ensures ∙ c.if-is_some.false in
    let fresh : has_voted c.args.self.now c.args.phase c.args.view c.args.number c.args.digest.now c.args.signer ≡ false = rw (sym c.self.view_is) (rw c.items.ensures at known) in
    absurd (let no : ⊥ = cc in no)
