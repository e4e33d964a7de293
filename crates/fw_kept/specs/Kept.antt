-- What an agreement node keeps, as its rule sees it.
use Rattle.std.specs.Prelude.{ℕ, ◌≡◌, ◌<◌, List, map}
use Rattle.fw_base.specs.declared.params.Params.{Params}
use Rattle.fw_directory.specs.Directories.{PlainDirectory}
use Rattle.fw_hand.specs.Hands.{PlainHand}
use Rattle.fw_rules.specs.Agree as agree
use Rattle.fw_rules.specs.Agree.{Node, Self}
use Rattle.fw_rules.specs.Deployed.{means_of}
use Rattle.fw_rules.specs.Views.{PATIENCE}
use Rattle.fw_owned.specs.Pieces.{request_of, entry_of, signer_of, propose_of, vote_of, proof_of, change_of, new_view_of, agreed_of, reply_of}
use Rattle.fw_adopted.specs.Plans.{adopted_of}
use Rattle.fw_kept.specs.declared.keeps.Cast.{Cast}
use Rattle.fw_kept.specs.declared.keeps.Pledge.{Pledge}
use Rattle.fw_kept.specs.declared.keeps.Keeps.{Keeps}
use Rattle.fw_kept.specs.declared.keeps.Act.{Act}
use Rattle.fw_kept.specs.declared.keeps.Act.TheVariants as act

-- an agreement node, by the hand that it has, under a directory
abbrev pub self_of : PlainDirectory → PlainHand → ℕ → Self (List ℕ)
self_of d hand own = record { own = own; means = means_of d hand }

abbrev pub cast_of : Cast → agree.Cast
cast_of c = record { view = c.view; number = c.number; entry = entry_of c.entry }

abbrev pub pledge_of : Pledge → agree.Pledge
pledge_of c = record { view = c.view; number = c.number; digest = c.digest }

-- all that it keeps
abbrev pub node_of : Keeps → Node
node_of k = record {
  heard = record {
    requests = map request_of k.requests;
    proposals = map propose_of k.proposals;
    changes = map change_of k.changes.changes;
    new_views = map new_view_of k.new_views;
    held = map reply_of k.settled.held;
  };
  own = record {
    view = k.view;
    active = k.active;
    casts = map cast_of k.casts;
    pledges = map pledge_of k.pledges;
    proofs = map proof_of k.proofs;
    moves = map change_of k.moves;
    adopted = map adopted_of k.adopted;
  };
  idle = k.idle;
  votes = map vote_of k.votes.votes;
  seen = map entry_of k.seen;
  committed = map agreed_of k.settled.committed;
  up = k.settled.up;
}

-- an act, as the rule has it
abbrev pub act_of : Act → agree.Act
act_of (act.Offer number entry) = agree.Offer number (entry_of entry)
act_of (act.Prepare number entry) = agree.Prepare number (entry_of entry)
act_of (act.Pledge number entry signers) = agree.Pledge_to number (entry_of entry) (map signer_of signers)
act_of (act.Commit agreed) = agree.Commit (agreed_of agreed)
act_of (act.Up agreed) = agree.Up (agreed_of agreed)

-- it counts votes, view changes and replies by the sizes of a deployment, is in one of its views, and doesn't wait too long
abbrev pub IsFor : Params → Keeps → Type 0
IsFor p k = (k.votes.params ≡ p) × (k.settled.params ≡ p) × (k.changes.params ≡ p) × (k.view < p.views) × (k.idle < PATIENCE)
