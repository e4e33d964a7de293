-- What holds of each entry that a node hears, and of null, holds of each entry that it keeps.
use Rattle.std.proofs.Common.{ℕ, zero, ◌≡◌, ◌+◌, inl, inr, Bool, true, false, cond, nat_eq, nat_le, List, [], ◌∷◌, ◌++◌, length, take, arith, refl, sym, subst, Option, Some, None, is_some, filter_map}
use Rattle.std.specs.Prelude.{option_and_then, flat_map, bytes_eq}
use Rattle.std.specs.List.{list_any}
use Rattle.std.proofs.lemmas.Bool.{cases_Bool, and_parts, ltb-true}
use Rattle.std.proofs.lemmas.Option.{same_Some}
use Rattle.fw_base.specs.declared.seat.Seat.{Seat}
use Rattle.fw_base.specs.declared.seat.Seat.TheVariants as seats
use Rattle.fw_base.specs.Sizes.{quorum}
use Rattle.fw_trace.specs.declared.Input.{Input}
use Rattle.fw_trace.specs.declared.Input.TheVariants.{Heard, Tick, Submitted}
use Rattle.fw_trace.specs.Lists.{In}
use Rattle.fw_trace.proofs.Words.{In-append}
use Rattle.fw_frame.specs.View.{Request, Entry, Proof, Change, NewView, Propose, Agreed, Reply, Frame, Asks, Proposes, Votes, Changes, Begins, Agrees, Shares, Replies, Wants}
use Rattle.fw_rules.specs.Choices.{admitted}
use Rattle.fw_rules.specs.Signing.{entry_digest}
use Rattle.fw_rules.specs.Agree.{Self, Memory, Node, Step, Cast, Adopted, Act, Offer, Prepare, Pledge_to, Commit, Up, performs, best, proofs_of, all_proofs, choice, entry_or_null, chosen, last_changes, seen_if, numbers, nodes, hears, hears_request, hears_reply, reply_of, reply_to, same_request}
use Rattle.fw_rules.specs.Views.{Turn, Adopt, Start, Make, turns, entries_of, change_of, changes_by, hears_all, passes_after, ticks, waits_by, starts_change, idle_now, PATIENCE}
use Rattle.fw_law_node.specs.Once.{node_after}
use Rattle.fw_law_node.specs.Remembered.{Remembers}
use Rattle.fw_law_words.proofs.Tests.{when-some}
use Rattle.fw_law_words.proofs.Firsts.{first_some-in}
use Rattle.fw_law_words.proofs.Lists.{In-take, In-map}
use Rattle.fw_law_node.proofs.Acts.{MayTurn, MayAct, Keeps, passes_keep}
use Rattle.fw_law_node.proofs.Best.{best_of-is, In-filter_map}
use Rattle.fw_law_node.proofs.Found.{cast_in}
use Rattle.fw_law_node.proofs.Quorums.{change_of-is}

-- One holds of the entries of a view change, and of those of a frame
abbrev pub ChangeEntriesHave : (Entry → Type 0) → Change → Type 0
ChangeEntriesHave One c = (q : Proof) → In q c.proofs → One q.entry

abbrev pub FrameEntriesHave : (Entry → Type 0) → Frame → Type 0
FrameEntriesHave One (Asks r) = One (r ∷ [])
FrameEntriesHave One (Proposes m) = One m.entry
FrameEntriesHave One (Changes c) = ChangeEntriesHave One c
FrameEntriesHave One (Begins n) = (c : Change) → In c n.changes → ChangeEntriesHave One c
FrameEntriesHave One (Agrees a) = One a.entry
FrameEntriesHave One (Votes v) = Unit {0}
FrameEntriesHave One (Shares s) = Unit {0}
FrameEntriesHave One (Replies r) = Unit {0}
FrameEntriesHave One (Wants n) = Unit {0}

-- and of all that a node keeps
pub record EntriesHave (One : Entry → Type 0) (x : Node) : Type 0 where
  pub heard : Remembers (FrameEntriesHave One) x.heard
  pub seen : (e : Entry) → In e x.seen → One e
  pub casts : (c : Cast) → In c x.own.casts → One c.entry
  pub proofs : (q : Proof) → In q x.own.proofs → One q.entry
  pub moves : (c : Change) → In c x.own.moves → ChangeEntriesHave One c
  pub adopted : (a : Adopted) → In a x.own.adopted → (c : Change) → In c a.changes → ChangeEntriesHave One c
  pub committed : (a : Agreed) → In a x.committed → One a.entry

-- ---- words

In-flat_map : {A B : Type 0} (f : A → List B) (xs : List A) (y : B) → In y (flat_map f xs) → (x : A) × In x xs × In y (f x)
In-flat_map f [] y i = absurd i
In-flat_map f (x ∷ xs) y i = elim (In-append y (f x) (flat_map f xs) i) [
  | inl h ↦ (x, inl refl, h)
  | inr h ↦ let rest = In-flat_map f xs y h in (rest.0, inr rest.1, rest.2)
]

-- more in the end
more : {A : Type 0} (P : A → Type 0) (xs new : List A) → ((x : A) → In x xs → P x) → ((x : A) → In x new → P x) → (x : A) → In x (xs ++ new) → P x
more P xs new all also x i = elim (In-append x xs new i) [ inl h ↦ all x h | inr h ↦ also x h ]

only : {A : Type 0} (P : A → Type 0) (y : A) → P y → (x : A) → In x (y ∷ []) → P x
only P y one x (inl e) = subst P (sym e) one
only P y one x (inr none) = absurd none

module _ (One : Entry → Type 0) where
  proofs_have : (changes : List Change) → ((c : Change) → In c changes → ChangeEntriesHave One c) → (q : Proof) → In q (all_proofs changes) → One q.entry
  proofs_have changes all q i = let t = In-flat_map (λ (c : Change). c.proofs) changes q i in all t.0 t.1 q t.2

  entries_have : (changes : List Change) → ((c : Change) → In c changes → ChangeEntriesHave One c) → (e : Entry) → In e (entries_of changes) → One e
  entries_have changes all e i =
      let t = In-map (λ (q : Proof). q.entry) (all_proofs changes) e i in
      subst One (sym t.2) (proofs_have changes all t.0 t.1)

  choice_has : One [] → (changes : List Change) (n : ℕ) → ((c : Change) → In c changes → ChangeEntriesHave One c) → One (choice changes n)
  choice_has null changes n all = by (best (proofs_of n (all_proofs changes))) refl
    where
      by : (o : Option Proof) → best (proofs_of n (all_proofs changes)) ≡ o → One (entry_or_null o)
      by None e = null
      by (Some q) e = proofs_have changes all q (best_of-is n (all_proofs changes) q e).0

  last_have : (adopted : List Adopted) → ((a : Adopted) → In a adopted → (c : Change) → In c a.changes → ChangeEntriesHave One c) → (c : Change) → In c (last_changes adopted) → ChangeEntriesHave One c
  last_have [] all c i = absurd i
  last_have (a ∷ adopted) all c i = all a (inl refl) c i

  -- ---- acts

  cast_has : (x : Node) (n : ℕ) (entry : Entry) → EntriesHave One x → One entry → (c : Cast) → In c (record { view = x.own.view; number = n; entry = entry } ∷ x.own.casts) → One c.entry
  cast_has x n entry k one c (inl e) = subst (λ (z : Cast). One z.entry) (sym e) one
  cast_has x n entry k one c (inr i) = k.casts c i

  turn_has : {M : Type 0} (me : Self M) (x : Node) (turn : Turn) → MayTurn me x turn → EntriesHave One x → EntriesHave One (turns me x turn).0
  turn_has me x (Adopt view changes) m k = record {
    heard = k.heard;
    seen = k.seen;
    casts = k.casts;
    proofs = k.proofs;
    moves = k.moves;
    adopted = λ a i. elim i [
      | inl e ↦ subst (λ (z : Adopted). (c : Change) → In c z.changes → ChangeEntriesHave One c) (sym e) (subst (λ (cs : List Change). (c : Change) → In c cs → ChangeEntriesHave One c) m.its_changes (k.heard.new_views m.new_view m.remembered))
      | inr j ↦ k.adopted a j
    ];
    committed = k.committed;
  }
  turn_has me x (Start view) m k = record {
    heard = k.heard;
    seen = k.seen;
    casts = k.casts;
    proofs = k.proofs;
    moves = λ c i. elim i [
      | inl e ↦
          subst (ChangeEntriesHave One) (sym e) (λ q j. (
          let t = In-filter_map (λ n. best (proofs_of n x.own.proofs)) (numbers me) q j in
          k.proofs q (best_of-is t.0 x.own.proofs q t.2).0))
      | inr j ↦ k.moves c j
    ];
    adopted = k.adopted;
    committed = k.committed;
  }
  turn_has me x (Make changes) m k = record {
    heard = k.heard;
    seen = k.seen;
    casts = k.casts;
    proofs = k.proofs;
    moves = k.moves;
    adopted = λ a i. elim i [
      | inl e ↦ subst (λ (z : Adopted). (c : Change) → In c z.changes → ChangeEntriesHave One c) (sym e) made
      | inr j ↦ k.adopted a j
    ];
    committed = k.committed;
  }
    where
      known : (i : ℕ) (c : Change) → In c (changes_by me x i) → ChangeEntriesHave One c
      known i c h = by (nat_eq i me.own) h
        where
          by : (b : Bool) → In c (cond b x.own.moves x.heard.changes) → ChangeEntriesHave One c
          by true j = k.moves c j
          by false j = k.heard.changes c j

      made : (c : Change) → In c changes → ChangeEntriesHave One c
      made c i =
          let found : List Change = filter_map (change_of me x x.own.view) (nodes me.means.params) in
          let w = when-some (nat_le (quorum me.means.params) (length found)) (Some (take (quorum me.means.params) found)) changes m.made in
          let same = same_Some (take (quorum me.means.params) found) changes w.1 in
          let t = In-filter_map (change_of me x x.own.view) (nodes me.means.params) c (In-take (quorum me.means.params) found c (subst (In c) (sym same) i)) in
          known t.0 c (change_of-is me x x.own.view t.0 c t.2).2

  offered : {M : Type 0} (me : Self M) → One [] → (x : Node) (n : ℕ) (entry : Entry) → MayAct me x (Offer n entry) → EntriesHave One x → One entry
  offered me null x n entry m k = elim m.source [
    | inl h ↦ subst One (sym h.2) (choice_has null (chosen x) n (last_have x.own.adopted k.adopted))
    | inr h ↦ subst One (sym h.1) (k.heard.requests h.0 h.2)
  ]

  act_has : {M : Type 0} (me : Self M) → One [] → (x : Node) (act : Act) → MayAct me x act → EntriesHave One x → EntriesHave One (performs me x act).0
  act_has me null x (Offer n entry) m k =
      let one = offered me null x n entry m k in
      record {
        heard = k.heard;
        seen = more One x.seen (entry ∷ []) k.seen (only One entry one);
        casts = cast_has x n entry k one;
        proofs = k.proofs;
        moves = k.moves;
        adopted = k.adopted;
        committed = k.committed;
      }
  act_has me null x (Prepare n entry) m k = record {
    heard = k.heard;
    seen = k.seen;
    casts = cast_has x n entry k (subst One m.its_entry (k.heard.proposals m.proposal m.remembered));
    proofs = k.proofs;
    moves = k.moves;
    adopted = k.adopted;
    committed = k.committed;
  }
  act_has me null x (Pledge_to n entry signers) m k = record {
    heard = k.heard;
    seen = k.seen;
    casts = k.casts;
    proofs = λ q i. elim i [
      | inl e ↦ subst (λ (z : Proof). One z.entry) (sym e) (k.casts (record { view = x.own.view; number = n; entry = entry }) (cast_in x n entry m.cast))
      | inr j ↦ k.proofs q j
    ];
    moves = k.moves;
    adopted = k.adopted;
    committed = k.committed;
  }
  act_has me null x (Commit a) m k = record {
    heard = k.heard;
    seen = k.seen;
    casts = k.casts;
    proofs = k.proofs;
    moves = k.moves;
    adopted = k.adopted;
    committed = λ b i. elim i [ inl e ↦ subst (λ (z : Agreed). One z.entry) (sym e) found | inr j ↦ k.committed b j ];
  }
    where
      found : One a.entry
      found =
          let t = first_some-in (seen_if me.means.hash m.digest) x.seen a.entry m.found in
          let w = when-some (bytes_eq (entry_digest me.means.hash t.0) m.digest) (Some t.0) a.entry t.2 in
          subst One (same_Some t.0 a.entry w.1) (k.seen t.0 t.1)
  act_has me null x (Up a) m k = record { heard = k.heard; seen = k.seen; casts = k.casts; proofs = k.proofs; moves = k.moves; adopted = k.adopted; committed = k.committed }

  steps_have : {M : Type 0} (me : Self M) → One [] → Keeps {M = M} me (λ s. EntriesHave One s.0)
  steps_have me null = record { turn = λ s turn m k. turn_has me s.0 turn m k; act = λ s act m k. act_has me null s.0 act m k }

  -- ---- what is heard

  abbrev OrHas : {M : Type 0} → Option (Step M) → Type 0
  OrHas None = Unit {0}
  OrHas (Some s) = EntriesHave One s.0

  -- what it did itself stays, where more is remembered and seen
  heard_more : (x : Node) (heard : Memory) (seen : List Entry) → Remembers (FrameEntriesHave One) heard → ((e : Entry) → In e seen → One e) → EntriesHave One x → EntriesHave One (record x { heard = heard; seen = seen })
  heard_more x heard seen remembers all k =
      record { heard = remembers; seen = all; casts = k.casts; proofs = k.proofs; moves = k.moves; adopted = k.adopted; committed = k.committed }

  request_has : {M : Type 0} (me : Self M) (x : Node) (from : Seat) (r : Request) (o : Option Reply) → EntriesHave One x → One (r ∷ []) → EntriesHave One (hears_request me x from r o).0
  request_has me x from r None k one = elim (cases_Bool (list_any (same_request r) x.heard.requests)) [
    | inl e ↦ rw e k
    | inr e ↦
        rw e (heard_more x (record x.heard { requests = x.heard.requests ++ r ∷ [] }) (x.seen ++ (r ∷ []) ∷ []) (record {
          requests = more (λ (q : Request). One (q ∷ [])) x.heard.requests (r ∷ []) k.heard.requests (only (λ (q : Request). One (q ∷ [])) r one);
          proposals = k.heard.proposals;
          changes = k.heard.changes;
          new_views = k.heard.new_views;
          held = k.heard.held;
        }) (more One x.seen ((r ∷ []) ∷ []) k.seen (only One (r ∷ []) one)) k)
  ]
  request_has me x from r (Some reply) k one = k

  reply_has : {M : Type 0} (me : Self M) (x : Node) (r : Reply) → EntriesHave One x → EntriesHave One (hears_reply me x r).0
  reply_has me x r k = elim (cases_Bool (is_some (reply_of x.heard.held r.number))) [
    | inl e ↦ rw e k
    | inr e ↦
        rw e (heard_more x (record x.heard { held = r ∷ x.heard.held }) x.seen (record {
          requests = k.heard.requests;
          proposals = k.heard.proposals;
          changes = k.heard.changes;
          new_views = k.heard.new_views;
          held = λ q i. tt;
        }) k.seen k)
  ]

  ordered_has : {M : Type 0} (me : Self M) (x : Node) (from : Seat) (frame : Frame) → EntriesHave One x → FrameEntriesHave One frame → OrHas (hears me x from frame)
  ordered_has me x (seats.Client c) (Asks r) k one = request_has me x (seats.Client c) r (reply_to me x r.client r.stamp) k one
  ordered_has me x (seats.Agree j) (Proposes m) k one = record {
    heard = record {
      requests = k.heard.requests;
      proposals = more (λ (z : Propose). One z.entry) x.heard.proposals (m ∷ []) k.heard.proposals (only (λ (z : Propose). One z.entry) m one);
      changes = k.heard.changes;
      new_views = k.heard.new_views;
      held = k.heard.held;
    };
    seen = more One x.seen (m.entry ∷ []) k.seen (only One m.entry one);
    casts = k.casts;
    proofs = k.proofs;
    moves = k.moves;
    adopted = k.adopted;
    committed = k.committed;
  }
  ordered_has me x (seats.Agree j) (Votes v) k one =
      record { heard = k.heard; seen = k.seen; casts = k.casts; proofs = k.proofs; moves = k.moves; adopted = k.adopted; committed = k.committed }
  ordered_has me x (seats.Filter zero c) (Replies r) k one = reply_has me x r k
  ordered_has me x _ _ k one = tt

  heard_has : {M : Type 0} (me : Self M) (x : Node) (from : Seat) (frame : Frame) → EntriesHave One x → FrameEntriesHave One frame → OrHas (hears_all me x from frame)
  heard_has me x (seats.Agree j) (Changes c) k one =
      heard_more x (record x.heard { changes = x.heard.changes ++ c ∷ [] }) (x.seen ++ entries_of (c ∷ [])) (record {
        requests = k.heard.requests;
        proposals = k.heard.proposals;
        changes = more (ChangeEntriesHave One) x.heard.changes (c ∷ []) k.heard.changes (only (ChangeEntriesHave One) c one);
        new_views = k.heard.new_views;
        held = k.heard.held;
      }) (more One x.seen (entries_of (c ∷ [])) k.seen (entries_have (c ∷ []) (only (ChangeEntriesHave One) c one))) k
  heard_has me x (seats.Agree j) (Begins n) k one =
      heard_more x (record x.heard { new_views = x.heard.new_views ++ n ∷ [] }) (x.seen ++ entries_of n.changes) (record {
        requests = k.heard.requests;
        proposals = k.heard.proposals;
        changes = k.heard.changes;
        new_views = more (λ (z : NewView). FrameEntriesHave One (Begins z)) x.heard.new_views (n ∷ []) k.heard.new_views (only (λ (z : NewView). FrameEntriesHave One (Begins z)) n one);
        held = k.heard.held;
      }) (more One x.seen (entries_of n.changes) k.seen (entries_have n.changes one)) k
  heard_has me x from frame k one = ordered_has me x from frame k one

  -- ---- histories

  after_has : {M : Type 0} (me : Self M) → One [] → (x : Node) (o : Option (Step M)) → EntriesHave One x → OrHas o → EntriesHave One (passes_after me x o).0
  after_has me null x None k heard = k
  after_has me null x (Some s) k heard = passes_keep me (λ s. EntriesHave One s.0) (steps_have me null) s heard

  or_heard : {M : Type 0} (me : Self M) (x : Node) (from : Seat) (o : Option Frame) → EntriesHave One x → ((frame : Frame) → o ≡ Some frame → FrameEntriesHave One frame) → OrHas (option_and_then (hears_all me x from) o)
  or_heard me x from None k f = tt
  or_heard me x from (Some frame) k f = heard_has me x from frame k (f frame refl)

  idle_has : (x : Node) (n : ℕ) → EntriesHave One x → EntriesHave One (record x { idle = n })
  idle_has x n k = record { heard = k.heard; seen = k.seen; casts = k.casts; proofs = k.proofs; moves = k.moves; adopted = k.adopted; committed = k.committed }

  waits_has : {M : Type 0} (me : Self M) (x : Node) (b : Bool) → starts_change me x ≡ b → EntriesHave One x → EntriesHave One (waits_by me x b).0
  waits_has me x true e k =
      turn_has me (record x { idle = 0 }) (Start (x.own.view + 1))
      (record { above = omega arith; below = ltb-true _ _ (and_parts (nat_eq (idle_now me x) PATIENCE) _ e).1 }) (idle_has x 0 k)
  waits_has me x false e k = idle_has x _ k

  -- of each entry that it keeps, where each frame that it hears has it
  pub entries_kept : {M O : Type 0} (me : Self M) → One [] → ((from : Seat) (m : M) (frame : Frame) → admitted me.means (seats.Agree me.own) from m ≡ Some frame → FrameEntriesHave One frame) → (h : List (Input M O)) → EntriesHave One (node_after me h)
  entries_kept me null hears [] = record {
    heard = record { requests = λ r i. absurd i; proposals = λ m i. absurd i; changes = λ c i. absurd i; new_views = λ n i. absurd i; held = λ r i. absurd i };
    seen = only One [] null;
    casts = λ c i. absurd i;
    proofs = λ q i. absurd i;
    moves = λ c i. absurd i;
    adopted = λ a i. absurd i;
    committed = λ a i. absurd i;
  }
  entries_kept me null hears (Submitted op ∷ h) = entries_kept me null hears h
  entries_kept me null hears (Tick ∷ h) =
      let x = node_after me h in
      passes_keep me (λ s. EntriesHave One s.0) (steps_have me null) (ticks me x) (waits_has me x (starts_change me x) refl (entries_kept me null hears h))
  entries_kept me null hears (Heard from m ∷ h) =
      let x = node_after me h in
      let k = entries_kept me null hears h in
      after_has me null x _ k (or_heard me x from (admitted me.means (seats.Agree me.own) from m) k (hears from m))
