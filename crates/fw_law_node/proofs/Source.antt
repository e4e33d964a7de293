-- Where the signatures come from: what holds of each that a node has made and of each that it has heard holds of all that it keeps
-- and sends.
use Rattle.std.proofs.Common.{ℕ, zero, ◌+◌, ◌≡◌, ◌⊎◌, inl, inr, Bool, true, false, nat_eq, nat_le, List, [], ◌∷◌, arith, refl, sym, ◌∙◌, ap, subst, Option, Some, None, is_some}
use Rattle.std.specs.Prelude.{flat_map, option_and_then, nat_lt, bytes_eq}
use Rattle.std.specs.List.{list_any}
use Rattle.std.proofs.lemmas.Bool.{cases_Bool, and_parts, ltb-true}
use Rattle.std.proofs.lemmas.Option.{same_Some}
use Rattle.std.proofs.lemmas.Slice.Eq.{bytes_eq-Decides}
use Rattle.fw_base.specs.declared.seat.Seat.{Seat}
use Rattle.fw_base.specs.declared.seat.Seat.TheVariants as seats
use Rattle.fw_base.specs.Sizes.{quorum}
use Rattle.fw_trace.specs.declared.Input.{Input}
use Rattle.fw_trace.specs.declared.Input.TheVariants.{Heard, Tick, Submitted}
use Rattle.fw_trace.specs.Role.{sends}
use Rattle.fw_trace.specs.Lists.{In}
use Rattle.fw_frame.specs.Parts.{Part, Piece, part_of, pieces, Unsigned, Signed}
use Rattle.fw_frame.specs.View.{Request, Entry, Given, Change, NewView, Propose, Agreed, Reply, Frame, Asks, Proposes, Votes, Changes, Begins, Agrees, Replies, plain_of}
use Rattle.fw_rules.specs.Choices.{admitted, first_some}
use Rattle.fw_rules.specs.Signing.{entry_digest}
use Rattle.fw_rules.specs.Agree.{Self, Own, Node, Step, Cast, Act, Offer, Prepare, Pledge_to, Commit, Up, performs, acted, own_vote, own_proposal, chosen, cast_at, cast_if, pledge_at, is_primary, nodes, seen_if, new_node, hears, hears_request, hears_reply, hears_proposal, same_request, reply_of, reply_to}
use Rattle.fw_rules.specs.Views.{Turn, Adopt, Start, Make, turns, turned, adopt, own_change, own_new_view, agree_next, agree_role, hears_all, passes_after, change_of, change_if, ticks, waits, waits_by, starts_change, idle_now, PATIENCE, resends, resends_at, resends_cast, resends_pledge, resends_change, agreed_again}
use Rattle.fw_law_node.specs.Once.{node_after, own_after}
use Rattle.fw_law_node.specs.Sources.{IsOwn, WasHeard, IsSourced}
use Rattle.fw_law_node.proofs.Found.{lead_of, cast_in, pledge_in}
use Rattle.fw_law_words.proofs.Tests.{when-some}
use Rattle.fw_law_words.proofs.Firsts.{first_some-in}
use Rattle.fw_law_node.proofs.Acts.{MayTurn, MayAct, Keeps, passes_keep}
use Rattle.fw_law_node.proofs.Own.{next_keeps}
use Rattle.fw_law_node.proofs.Each.{Each, Each-append, Each-at, Each-from, Each-map, Each-take, Each-filter_map}
use Rattle.fw_law_node.proofs.Having.{EachPiece, FrameHas, EntryHas, ChangeHas, SignersHave, SentHas, NodeHas, CoversOwn, Grows, covers_less, choice_has, last_changes_have, entries_have, changes_of_new_view, quorum_has, change_of_has, agreed_has, reply_to_has, own_vote_has, own_pledge_has, own_proposal_has, own_change_has, own_new_view_has, others_have, row0_has}

-- ---- what was done only grows

grows_self : (o : Own) → Grows o o
grows_self o = record { casts = λ c i. i; pledges = λ c i. i; moves = λ c i. i; adopted = λ a i. i }

grows_on : (o p q : Own) → Grows o p → Grows p q → Grows o q
grows_on o p q g h = record {
  casts = λ c i. h.casts c (g.casts c i);
  pledges = λ c i. h.pledges c (g.pledges c i);
  moves = λ c i. h.moves c (g.moves c i);
  adopted = λ a i. h.adopted a (g.adopted a i);
}

pub turn_grows : {M : Type 0} (me : Self M) (x : Node) (turn : Turn) → Grows x.own (turns me x turn).0.own
turn_grows me x (Adopt v changes) = record { casts = λ c i. i; pledges = λ c i. i; moves = λ c i. i; adopted = λ a i. inr i }
turn_grows me x (Start v) = record { casts = λ c i. i; pledges = λ c i. i; moves = λ c i. inr i; adopted = λ a i. i }
turn_grows me x (Make changes) = record { casts = λ c i. i; pledges = λ c i. i; moves = λ c i. i; adopted = λ a i. inr i }

pub act_grows : {M : Type 0} (me : Self M) (x : Node) (act : Act) → Grows x.own (performs me x act).0.own
act_grows me x (Offer n e) = record { casts = λ c i. inr i; pledges = λ c i. i; moves = λ c i. i; adopted = λ a i. i }
act_grows me x (Prepare n e) = record { casts = λ c i. inr i; pledges = λ c i. i; moves = λ c i. i; adopted = λ a i. i }
act_grows me x (Pledge_to n e s) = record { casts = λ c i. i; pledges = λ c i. inr i; moves = λ c i. i; adopted = λ a i. i }
act_grows me x (Commit a) = record { casts = λ c i. i; pledges = λ c i. i; moves = λ c i. i; adopted = λ a i. i }
act_grows me x (Up a) = record { casts = λ c i. i; pledges = λ c i. i; moves = λ c i. i; adopted = λ a i. i }

-- one input more
pub next_grows : {M O : Type 0} (me : Self M) (x : Node) (input : Input M O) → Grows x.own (agree_next me x input).0.own
next_grows me x input =
    next_keeps me (Grows x.own)
    (record {
      turn = λ y turn m g. grows_on x.own y.own (turns me y turn).0.own g (turn_grows me y turn);
      act = λ y act m g. grows_on x.own y.own (performs me y act).0.own g (act_grows me y act);
    }) x input (grows_self x.own)

-- ---- acts

-- where Q holds of all that it has made by then, Q holds of all that it keeps, and of all that was sent
abbrev Sourced : {M : Type 0} → Self M → (Part → Type 0) → Step M → Type 0
Sourced me Q s = CoversOwn me Q s.0.own → NodeHas me Q s.0 × Each (SentHas me Q) s.1

adopt_has : {M : Type 0} (me : Self M) (Q : Part → Type 0) (x : Node) (v : ℕ) (changes : List Change) → NodeHas me Q x → Each (ChangeHas me.means.hash Q) changes → NodeHas me Q (adopt x v changes)
adopt_has me Q x v changes p h = record {
  heard = p.heard;
  own = record { casts = p.own.casts; proofs = p.own.proofs; moves = p.own.moves; adopted = (h, p.own.adopted) };
  votes = p.votes;
  seen = p.seen;
  committed = p.committed;
}

turns_source : {M : Type 0} (me : Self M) (Q : Part → Type 0) (s : Step M) (turn : Turn) → MayTurn me s.0 turn → Sourced me Q s → Sourced me Q (turned me s (Some turn))
turns_source me Q s (Adopt v changes) m j cover =
    let old = j (covers_less me Q s.0.own (turns me s.0 (Adopt v changes)).0.own (turn_grows me s.0 (Adopt v changes)) cover) in
    let h = subst (Each (ChangeHas me.means.hash Q)) m.its_changes (changes_of_new_view me Q m.new_view (Each-at (λ (n : NewView). FrameHas me Q (Begins n)) s.0.heard.new_views m.new_view old.0.heard.new_views m.remembered)) in
    (adopt_has me Q s.0 v changes old.0 h, Each-append (SentHas me Q) s.1 [] old.1 tt)
turns_source me Q s (Start v) m j cover =
    let old = j (covers_less me Q s.0.own (turns me s.0 (Start v)).0.own (turn_grows me s.0 (Start v)) cover) in
    let p = old.0 in
    let h = own_change_has me Q (turns me s.0 (Start v)).0.own s.0 v cover (inl refl) p in (
      record {
        heard = p.heard;
        own = record { casts = p.own.casts; proofs = p.own.proofs; moves = (h, p.own.moves); adopted = p.own.adopted };
        votes = p.votes;
        seen = p.seen;
        committed = p.committed;
      },
      Each-append (SentHas me Q) s.1 _ old.1 (others_have me Q (Changes (own_change me s.0 v)) h),
    )
turns_source me Q s (Make changes) m j cover =
    let old = j (covers_less me Q s.0.own (turns me s.0 (Make changes)).0.own (turn_grows me s.0 (Make changes)) cover) in
    let w = when-some _ _ changes m.made in
    let h = subst (Each (ChangeHas me.means.hash Q)) (same_Some _ changes w.1)
    (Each-take _ (quorum me.means.params) _ (Each-filter_map _ (change_of me s.0 s.0.own.view) (nodes me.means.params) (λ i c k e. change_of_has me Q s.0 i c old.0 e))) in (
      adopt_has me Q s.0 s.0.own.view changes old.0 h,
      Each-append (SentHas me Q) s.1 _ old.1
          (others_have me Q (Begins (own_new_view me s.0.own.view changes)) (own_new_view_has me Q (turns me s.0 (Make changes)).0.own s.0.own.view changes cover (inl refl) (lead_of me s.0 m.mine) h)),
    )

acts_source : {M : Type 0} (me : Self M) (Q : Part → Type 0) (s : Step M) (act : Act) → MayAct me s.0 act → Sourced me Q s → Sourced me Q (acted me s (Some act))
acts_source me Q s (Offer n entry) m j cover =
    let after : Own = (performs me s.0 (Offer n entry)).0.own in
    let old = j (covers_less me Q s.0.own after (act_grows me s.0 (Offer n entry)) cover) in
    let p = old.0 in
    let h : EntryHas Q entry = elim m.source [
      | inl k ↦ subst (EntryHas Q) (sym k.2) (choice_has me.means.hash Q (chosen s.0) n (last_changes_have me.means.hash Q s.0.own.adopted p.own.adopted))
      | inr k ↦ subst (EntryHas Q) (sym k.1) (Each-at _ s.0.heard.requests k.0 p.heard.requests k.2)
    ] in (
      record {
        heard = p.heard;
        own = record { casts = (h, p.own.casts); proofs = p.own.proofs; moves = p.own.moves; adopted = p.own.adopted };
        votes = Each-append _ s.0.votes _ p.votes ((own_vote_has me Q after s.0.own.view n entry cover (inl refl) me.own refl, tt), tt);
        seen = Each-append (EntryHas Q) s.0.seen _ p.seen (h, tt);
        committed = p.committed;
      },
      Each-append (SentHas me Q) s.1 _ old.1
          (others_have me Q (Proposes (own_proposal me s.0.own.view n entry)) (own_proposal_has me Q after s.0.own.view n entry cover (inl refl) (lead_of me s.0 m.mine) h)),
    )
acts_source me Q s (Prepare n entry) m j cover =
    let after : Own = (performs me s.0 (Prepare n entry)).0.own in
    let old = j (covers_less me Q s.0.own after (act_grows me s.0 (Prepare n entry)) cover) in
    let p = old.0 in
    let h = subst (EntryHas Q) m.its_entry (Each-at (λ (z : Propose). FrameHas me Q (Proposes z)) s.0.heard.proposals m.proposal p.heard.proposals m.remembered).0 in
    let vote = own_vote_has me Q after s.0.own.view n entry cover (inl refl) me.own refl in (
      record {
        heard = p.heard;
        own = record { casts = (h, p.own.casts); proofs = p.own.proofs; moves = p.own.moves; adopted = p.own.adopted };
        votes = Each-append _ s.0.votes _ p.votes ((vote, tt), tt);
        seen = p.seen;
        committed = p.committed;
      },
      Each-append (SentHas me Q) s.1 _ old.1 (others_have me Q (Votes (own_vote me 0 s.0.own.view n (entry_digest me.means.hash entry))) (vote, tt)),
    )
acts_source me Q s (Pledge_to n entry signers) m j cover =
    let after : Own = (performs me s.0 (Pledge_to n entry signers)).0.own in
    let old = j (covers_less me Q s.0.own after (act_grows me s.0 (Pledge_to n entry signers)) cover) in
    let p = old.0 in
    let c = first_some-in (cast_if s.0.own.view n) s.0.own.casts entry m.cast in
    let w = when-some _ _ entry c.2 in
    let h = subst (EntryHas Q) (same_Some _ _ w.1) (Each-at (λ (z : Cast). EntryHas Q z.entry) s.0.own.casts c.0 p.own.casts c.1) in
    let vote = own_pledge_has me Q after s.0.own.view n (entry_digest me.means.hash entry) cover (inl refl) in (
      record {
        heard = p.heard;
        own = record {
          casts = p.own.casts;
          moves = p.own.moves;
          adopted = p.own.adopted;
          proofs = ((h, quorum_has me Q s.0 0 s.0.own.view n _ signers p m.quorum), p.own.proofs);
        };
        votes = Each-append _ s.0.votes _ p.votes (vote, tt);
        seen = p.seen;
        committed = p.committed;
      },
      Each-append (SentHas me Q) s.1 _ old.1 (others_have me Q (Votes (own_vote me 1 s.0.own.view n (entry_digest me.means.hash entry))) vote),
    )
acts_source me Q s (Commit a) m j cover =
    let old = j (covers_less me Q s.0.own (performs me s.0 (Commit a)).0.own (act_grows me s.0 (Commit a)) cover) in
    let p = old.0 in
    let t = first_some-in (seen_if me.means.hash m.digest) s.0.seen a.entry m.found in
    let w = when-some (bytes_eq (entry_digest me.means.hash t.0) m.digest) (Some t.0) a.entry t.2 in
    let same : entry_digest me.means.hash a.entry ≡ m.digest =
    ap (entry_digest me.means.hash) (sym (same_Some t.0 a.entry w.1)) ∙ (bytes_eq-Decides (entry_digest me.means.hash t.0) m.digest).0 w.0 in
    let h = subst (EntryHas Q) (same_Some t.0 a.entry w.1) (Each-at (EntryHas Q) s.0.seen t.0 p.seen t.1) in (
      record {
        heard = p.heard;
        own = p.own;
        votes = p.votes;
        seen = p.seen;
        committed = ((h, subst (λ (z : List ℕ). SignersHave Q 1 a.view a.number z a.signers) (sym same) (quorum_has me Q s.0 1 a.view a.number m.digest a.signers p m.quorum)), p.committed);
      },
      Each-append (SentHas me Q) s.1 [] old.1 tt,
    )
acts_source me Q s (Up a) m j cover =
    let old = j (covers_less me Q s.0.own (performs me s.0 (Up a)).0.own (act_grows me s.0 (Up a)) cover) in
    let p = old.0 in (
      record { heard = p.heard; own = p.own; votes = p.votes; seen = p.seen; committed = p.committed },
      Each-append (SentHas me Q) s.1 _ old.1 (row0_has me Q (Agrees a) (agreed_has me Q s.0 (s.0.up + 1) a p m)),
    )

steps_source : {M : Type 0} (me : Self M) (Q : Part → Type 0) → Keeps me (Sourced me Q)
steps_source me Q = record { turn = turns_source me Q; act = acts_source me Q }

-- ---- what is heard

abbrev SourcedOr : {M : Type 0} → Self M → (Part → Type 0) → Option (Step M) → Type 0
SourcedOr me Q None = Unit {0}
SourcedOr me Q (Some s) = NodeHas me Q s.0 × Each (SentHas me Q) s.1

request_source : {M : Type 0} (me : Self M) (Q : Part → Type 0) (x : Node) (from : Seat) (r : Request) (o : Option Reply) → NodeHas me Q x → FrameHas me Q (Asks r) → ((reply : Reply) → o ≡ Some reply → FrameHas me Q (Replies reply)) → NodeHas me Q (hears_request me x from r o).0 × Each (SentHas me Q) (hears_request me x from r o).1
request_source me Q x from r None p h f = elim (cases_Bool (list_any (same_request r) x.heard.requests)) [
  | inl e ↦ rw e (p, tt)
  | inr e ↦
      rw e (
        record {
          heard = record {
            requests = Each-append _ x.heard.requests _ p.heard.requests h;
            proposals = p.heard.proposals;
            changes = p.heard.changes;
            new_views = p.heard.new_views;
            held = p.heard.held;
          };
          own = p.own;
          votes = p.votes;
          seen = Each-append (EntryHas Q) x.seen _ p.seen h;
          committed = p.committed;
        },
        tt,
      )
]
request_source me Q x from r (Some reply) p h f = (p, (record { frame = Replies reply; written = refl; has = f reply refl }, tt))

reply_source : {M : Type 0} (me : Self M) (Q : Part → Type 0) (x : Node) (r : Reply) → NodeHas me Q x → FrameHas me Q (Replies r) → NodeHas me Q (hears_reply me x r).0 × Each (SentHas me Q) (hears_reply me x r).1
reply_source me Q x r p h = elim (cases_Bool (is_some (reply_of x.heard.held r.number))) [
  | inl e ↦ rw e (p, tt)
  | inr e ↦
      rw e (
        record {
          heard = record {
            requests = p.heard.requests;
            proposals = p.heard.proposals;
            changes = p.heard.changes;
            new_views = p.heard.new_views;
            held = (h, p.heard.held);
          };
          own = p.own;
          votes = p.votes;
          seen = p.seen;
          committed = p.committed;
        },
        Each-map (SentHas me Q) (λ (g : Given). (seats.Client g.client, me.means.write (Replies r))) r.answers (Each-from _ r.answers (λ g i. record { frame = Replies r; written = refl; has = h })),
      )
]

proposal_source : {M : Type 0} (me : Self M) (Q : Part → Type 0) (x : Node) (m : Propose) → NodeHas me Q x → FrameHas me Q (Proposes m) → NodeHas me Q (hears_proposal me x m)
proposal_source me Q x m p h = record {
  heard = record {
    requests = p.heard.requests;
    proposals = Each-append _ x.heard.proposals _ p.heard.proposals (h, tt);
    changes = p.heard.changes;
    new_views = p.heard.new_views;
    held = p.heard.held;
  };
  own = p.own;
  votes = Each-append _ x.votes _ p.votes ((h.1.0, tt), tt);
  seen = Each-append (EntryHas Q) x.seen _ p.seen (h.0, tt);
  committed = p.committed;
}

ordered_source : {M : Type 0} (me : Self M) (Q : Part → Type 0) (x : Node) (from : Seat) (frame : Frame) → NodeHas me Q x → FrameHas me Q frame → SourcedOr me Q (hears me x from frame)
ordered_source me Q x (seats.Client c) (Asks r) p h =
    request_source me Q x (seats.Client c) r (reply_to me x r.client r.stamp) p h (λ reply e. reply_to_has me Q x r.client r.stamp reply p e)
ordered_source me Q x (seats.Agree j) (Proposes m) p h = (proposal_source me Q x m p h, tt)
ordered_source me Q x (seats.Agree j) (Votes v) p h = (
  record { heard = p.heard; own = p.own; votes = Each-append _ x.votes _ p.votes (h, tt); seen = p.seen; committed = p.committed },
  tt,
)
ordered_source me Q x (seats.Filter zero c) (Replies r) p h = reply_source me Q x r p h
ordered_source me Q x _ _ p h = tt

heard_source : {M : Type 0} (me : Self M) (Q : Part → Type 0) (x : Node) (from : Seat) (frame : Frame) → NodeHas me Q x → FrameHas me Q frame → SourcedOr me Q (hears_all me x from frame)
heard_source me Q x (seats.Agree j) (Changes c) p h = (
  record {
    heard = record {
      requests = p.heard.requests;
      proposals = p.heard.proposals;
      changes = Each-append (ChangeHas me.means.hash Q) x.heard.changes _ p.heard.changes (h, tt);
      new_views = p.heard.new_views;
      held = p.heard.held;
    };
    own = p.own;
    votes = p.votes;
    seen = Each-append (EntryHas Q) x.seen _ p.seen (entries_have me.means.hash Q (c ∷ []) (h, tt));
    committed = p.committed;
  },
  tt,
)
heard_source me Q x (seats.Agree j) (Begins n) p h = (
  record {
    heard = record {
      requests = p.heard.requests;
      proposals = p.heard.proposals;
      changes = p.heard.changes;
      new_views = Each-append _ x.heard.new_views _ p.heard.new_views (h, tt);
      held = p.heard.held;
    };
    own = p.own;
    votes = p.votes;
    seen = Each-append (EntryHas Q) x.seen _ p.seen (entries_have me.means.hash Q n.changes (changes_of_new_view me Q n h));
    committed = p.committed;
  },
  tt,
)
heard_source me Q x from frame p h = ordered_source me Q x from frame p h

-- ---- a tick

idle_has : {M : Type 0} (me : Self M) (Q : Part → Type 0) (x : Node) (n : ℕ) → NodeHas me Q x → NodeHas me Q (record x { idle = n })
idle_has me Q x n p = record { heard = p.heard; own = p.own; votes = p.votes; seen = p.seen; committed = p.committed }

again_source : {M : Type 0} (me : Self M) (Q : Part → Type 0) (x : Node) (o : Option Agreed) → ((a : Agreed) → o ≡ Some a → FrameHas me Q (Agrees a)) → Each (SentHas me Q) (agreed_again me x o)
again_source me Q x None f = tt
again_source me Q x (Some a) f = elim (cases_Bool (nat_le a.number x.up)) [
  | inl e ↦ rw e (row0_has me Q (Agrees a) (f a refl))
  | inr e ↦ rw e tt
]

cast_source : {M : Type 0} (me : Self M) (Q : Part → Type 0) (x : Node) (m : ℕ) (o : Option Entry) → CoversOwn me Q x.own → NodeHas me Q x → cast_at x x.own.view m ≡ o → Each (SentHas me Q) (resends_cast me x m o)
cast_source me Q x m None cover p e = tt
cast_source me Q x m (Some entry) cover p e =
    let cast = cast_in x m entry e in
    let h = Each-at (λ (z : Cast). EntryHas Q z.entry) x.own.casts (record { view = x.own.view; number = m; entry = entry }) p.own.casts cast in
    elim (cases_Bool (is_primary me x)) [
      | inl lead ↦ rw lead (others_have me Q (Proposes (own_proposal me x.own.view m entry)) (own_proposal_has me Q x.own x.own.view m entry cover cast (lead_of me x lead) h))
      | inr other ↦ rw other (others_have me Q (Votes (own_vote me 0 x.own.view m (entry_digest me.means.hash entry))) (own_vote_has me Q x.own x.own.view m entry cover cast me.own refl, tt))
    ]

pledge_source : {M : Type 0} (me : Self M) (Q : Part → Type 0) (x : Node) (m : ℕ) (o : Option (List ℕ)) → CoversOwn me Q x.own → pledge_at x x.own.view m ≡ o → Each (SentHas me Q) (resends_pledge me x m o)
pledge_source me Q x m None cover e = tt
pledge_source me Q x m (Some d) cover e =
    others_have me Q (Votes (own_vote me 1 x.own.view m d)) (own_pledge_has me Q x.own x.own.view m d cover (pledge_in x m d e))

resends_at_source : {M : Type 0} (me : Self M) (Q : Part → Type 0) (x : Node) (o : Option ℕ) → CoversOwn me Q x.own → NodeHas me Q x → Each (SentHas me Q) (resends_at me x o)
resends_at_source me Q x None cover p = tt
resends_at_source me Q x (Some m) cover p =
    Each-append (SentHas me Q) (resends_cast me x m (cast_at x x.own.view m)) _ (cast_source me Q x m _ cover p refl) (pledge_source me Q x m _ cover refl)

change_source : {M : Type 0} (me : Self M) (Q : Part → Type 0) (x : Node) (o : Option Change) → NodeHas me Q x → first_some (change_if x.own.view me.own) x.own.moves ≡ o → Each (SentHas me Q) (resends_change me o)
change_source me Q x None p e = tt
change_source me Q x (Some c) p e =
    let t = first_some-in (change_if x.own.view me.own) x.own.moves c e in
    let w = when-some _ _ c t.2 in
    others_have me Q (Changes c) (subst (ChangeHas me.means.hash Q) (same_Some _ _ w.1) (Each-at (ChangeHas me.means.hash Q) x.own.moves t.0 p.own.moves t.1))

resends_source : {M : Type 0} (me : Self M) (Q : Part → Type 0) (x : Node) → CoversOwn me Q x.own → NodeHas me Q x → Each (SentHas me Q) (resends me x)
resends_source me Q x cover p = elim (cases_Bool x.own.active) [
  | inl e ↦ rw e (resends_at_source me Q x _ cover p)
  | inr e ↦ rw e (change_source me Q x _ p refl)
]

waits_source : {M : Type 0} (me : Self M) (Q : Part → Type 0) (x : Node) (b : Bool) → starts_change me x ≡ b → NodeHas me Q x → CoversOwn me Q (waits_by me x b).0.own → NodeHas me Q (waits_by me x b).0 × Each (SentHas me Q) (waits_by me x b).1
waits_source me Q x true e p cover =
    turns_source me Q (record x { idle = 0 }, []) (Start (x.own.view + 1))
    (record { above = omega arith; below = ltb-true _ _ (and_parts (nat_eq (idle_now me x) PATIENCE) (nat_lt (x.own.view + 1) me.means.params.views) e).1 })
    (λ c. (idle_has me Q x 0 p, tt)) cover
waits_source me Q x false e p cover = (idle_has me Q x _ p, resends_source me Q x cover p)

ticks_source : {M : Type 0} (me : Self M) (Q : Part → Type 0) (x : Node) → NodeHas me Q x → Sourced me Q (ticks me x)
ticks_source me Q x p cover =
    let w = waits_source me Q x (starts_change me x) refl p cover in
    (w.0, Each-append (SentHas me Q) (waits me x).1 _ w.1 (again_source me Q (waits me x).0 _ (λ a e. agreed_has me Q (waits me x).0 _ a w.0 e)))

-- ---- histories

-- Q holds of each signature of what was admitted
abbrev pub AdmittedHas : {M O : Type 0} → Self M → (Part → Type 0) → List (Input M O) → Type 0
AdmittedHas me Q [] = Unit {0}
AdmittedHas me Q (Heard from m ∷ h) = ((frame : Frame) → admitted me.means (seats.Agree me.own) from m ≡ Some frame → FrameHas me Q frame) × AdmittedHas me Q h
AdmittedHas me Q (Tick ∷ h) = AdmittedHas me Q h
AdmittedHas me Q (Submitted op ∷ h) = AdmittedHas me Q h

passed : {M : Type 0} (me : Self M) (Q : Part → Type 0) (x : Node) (o : Option (Step M)) → NodeHas me Q x → SourcedOr me Q o → Sourced me Q (passes_after me x o)
passed me Q x None p s cover = (p, tt)
passed me Q x (Some s) p h cover = passes_keep me (Sourced me Q) (steps_source me Q) s (λ c. h) cover

heard_or : {M : Type 0} (me : Self M) (Q : Part → Type 0) (x : Node) (from : Seat) (o : Option Frame) → NodeHas me Q x → ((frame : Frame) → o ≡ Some frame → FrameHas me Q frame) → SourcedOr me Q (option_and_then (hears_all me x from) o)
heard_or me Q x from None p f = tt
heard_or me Q x from (Some frame) p f = heard_source me Q x from frame p (f frame refl)

next_source : {M O : Type 0} (me : Self M) (Q : Part → Type 0) (x : Node) (input : Input M O) (h : List (Input M O)) → AdmittedHas me Q (input ∷ h) → NodeHas me Q x → Sourced me Q (agree_next me x input)
next_source me Q x (Submitted op) h r p cover = (p, tt)
next_source me Q x Tick h r p cover = passes_keep me (Sourced me Q) (steps_source me Q) (ticks me x) (ticks_source me Q x p) cover
next_source me Q x (Heard from m) h r p cover =
    passed me Q x _ p (heard_or me Q x from (admitted me.means (seats.Agree me.own) from m) p r.0) cover

start_has : {M : Type 0} (me : Self M) (Q : Part → Type 0) → NodeHas me Q new_node
start_has me Q = record {
  heard = record { requests = tt; proposals = tt; changes = tt; new_views = tt; held = tt };
  own = record { casts = tt; proofs = tt; moves = tt; adopted = tt };
  votes = tt;
  seen = (tt, tt);
  committed = tt;
}

rest_admitted : {M O : Type 0} (me : Self M) (Q : Part → Type 0) (i : Input M O) (h : List (Input M O)) → AdmittedHas me Q (i ∷ h) → AdmittedHas me Q h
rest_admitted me Q (Heard from m) h r = r.1
rest_admitted me Q Tick h r = r
rest_admitted me Q (Submitted op) h r = r

-- what holds of each signature that it has heard or made holds of each that it keeps
pub kept_has : {M O : Type 0} (me : Self M) (Q : Part → Type 0) (h : List (Input M O)) → AdmittedHas me Q h → CoversOwn me Q (own_after me h) → NodeHas me Q (node_after me h)
kept_has me Q [] r cover = start_has me Q
kept_has me Q (i ∷ h) r cover =
    let x = node_after me h in
    let p = kept_has me Q h (rest_admitted me Q i h r) (covers_less me Q x.own (agree_next me x i).0.own (next_grows me x i) cover) in
    (next_source me Q x i h r p cover).0

-- and of each that it sends
pub sent_has : {M O : Type 0} (me : Self M) (Q : Part → Type 0) (h : List (Input M O)) → AdmittedHas me Q h → CoversOwn me Q (own_after me h) → Each (SentHas me Q) (sends (agree_role me) h)
sent_has me Q [] r cover = tt
sent_has me Q (i ∷ h) r cover =
    let x = node_after me h in
    let p = kept_has me Q h (rest_admitted me Q i h r) (covers_less me Q x.own (agree_next me x i).0.own (next_grows me x i) cover) in
    (next_source me Q x i h r p cover).1

-- ---- each was made, or was heard

EachPiece-parts : (Q : Part → Type 0) (ps : List Piece) → EachPiece Q ps → (part : Part) → In part (flat_map part_of ps) → Q part
EachPiece-parts Q [] h part i = absurd i
EachPiece-parts Q (Signed p ∷ ps) h part (inl e) = subst Q (sym e) h.0
EachPiece-parts Q (Signed p ∷ ps) h part (inr i) = EachPiece-parts Q ps h.1 part i
EachPiece-parts Q (Unsigned t ∷ ps) h part i = EachPiece-parts Q ps h.1 part i

parts-EachPiece : (Q : Part → Type 0) (ps : List Piece) → ((part : Part) → In part (flat_map part_of ps) → Q part) → EachPiece Q ps
parts-EachPiece Q [] f = tt
parts-EachPiece Q (Signed p ∷ ps) f = (f p (inl refl), parts-EachPiece Q ps (λ part i. f part (inr i)))
parts-EachPiece Q (Unsigned t ∷ ps) f = (tt, parts-EachPiece Q ps f)

-- what each admitted frame has, a larger history has
abbrev OwnOrHeard : {M O : Type 0} → Self M → List (Input M O) → Part → Type 0
OwnOrHeard me h part = IsOwn me (own_after me h) part ⊎ WasHeard me h part

admitted_heard : {M O : Type 0} (me : Self M) (Q : Part → Type 0) (h : List (Input M O)) → ((part : Part) → WasHeard me h part → Q part) → AdmittedHas me Q h
admitted_heard me Q [] f = tt
admitted_heard me Q (Heard from m ∷ h) f = (
  λ frame e. parts-EachPiece Q (pieces me.means.params me.means.hash (plain_of frame)) (λ part i. f part (inl (record { frame = frame; read = e; among = i }))),
  admitted_heard me Q h (λ part k. f part (inr k)),
)
admitted_heard me Q (Tick ∷ h) f = admitted_heard me Q h f
admitted_heard me Q (Submitted op ∷ h) f = admitted_heard me Q h f

pub sent_sourced : {M O : Type 0} (me : Self M) (h : List (Input M O)) (o : Seat × M) → In o (sends (agree_role me) h) → IsSourced me h o.1
sent_sourced me h o i =
    let Q = OwnOrHeard me h in
    let s = Each-at (SentHas me Q) (sends (agree_role me) h) o (sent_has me Q h (admitted_heard me Q h (λ part k. inr k)) (λ part k. inl k)) i in
    record { frame = s.frame; written = s.written; sourced = EachPiece-parts Q (pieces me.means.params me.means.hash (plain_of s.frame)) s.has }
