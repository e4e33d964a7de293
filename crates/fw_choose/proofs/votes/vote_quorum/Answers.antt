-- The quorum that was counted, copied.
use Rattle.std.proofs.Common.{List, Some, map, refl, ap, sym, ◌∙◌}
use Rattle.std.specs.Option.{option_map}
use Rattle.fw_frame.specs.View.{Signer}
use Rattle.fw_pbft.specs.Tallies.{seen_signer}
use Rattle.fw_kept.specs.Kept.{self_of, node_of}
use Rattle.fw_choose.proofs.Choosing.{signers_seen}
use Rattle.fw_choose.proofs.votes.vote_quorum.Goals as goal

pub returns-in_ok-owned_signers-in-Some : goal.returns-in_ok-owned_signers-in-Some
returns-in_ok-owned_signers-in-Some c = λ hand own.
    ap (λ (l : List Signer). Some l) (c.in_ok-owned_signers-in-Some.ensures ∙ signers_seen c.items.result.now ∙ ap (map seen_signer) c.items.ensures)
    ∙ ap (option_map (map seen_signer)) (sym c.in-Some.is)
    ∙ c.in_ok-signers.ensures.found (self_of c.args.directory.now hand own) (node_of c.args.keeps.now) (sym c.requires.0) refl

pub returns-in-None : goal.returns-in-None
returns-in-None c = λ hand own.
    ap (option_map (map seen_signer)) (sym c.in-None.is)
    ∙ c.in_ok-signers.ensures.found (self_of c.args.directory.now hand own) (node_of c.args.keeps.now) (sym c.requires.0) refl
