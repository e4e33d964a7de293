-- Each new view that a node adopts it has heard or made, and each number is committed once, by a quorum.
use Rattle.std.proofs.Common.{ℕ, ◌≡◌, ◌⊎◌, inl, inr, Bool, true, false, cond, nat_eq, List, take, refl, sym, ◌∙◌, ap, subst, Option, Some, None, filter_map}
use Rattle.std.proofs.lemmas.Bool.{eqb-true}
use Rattle.std.proofs.lemmas.Option.{none-some, same_Some}
use Rattle.fw_base.specs.declared.params.Params.{Params}
use Rattle.fw_base.specs.Sizes.{quorum}
use Rattle.fw_trace.specs.declared.Input.{Input}
use Rattle.fw_trace.specs.Lists.{In, first_at}
use Rattle.fw_source.proofs.Listed.{first_at-found}
use Rattle.fw_frame.specs.View.{Change, NewView, Agreed}
use Rattle.fw_rules.specs.Agree.{Self, Node, Adopted, Act, Offer, Prepare, Pledge_to, Commit, Up, performs, nodes, Own}
use Rattle.fw_rules.specs.Views.{Turn, Adopt, Start, Make, turns, change_of, changes_by}
use Rattle.fw_law_node.specs.Once.{node_after}
use Rattle.fw_law_node.specs.Begun.{IsRemembered, IsMade, AreBegun, AreCommitted, agreed_place}
use Rattle.fw_law_node.specs.Facts.{AreQuorum, signed_by}
use Rattle.fw_law_node.specs.Ranges.{IsPlace}
use Rattle.fw_law_words.proofs.Tests.{when-some}
use Rattle.fw_law_words.proofs.Lists.{In-take}
use Rattle.fw_law_node.proofs.Acts.{MayTurn, MayAct}
use Rattle.fw_law_node.proofs.Best.{In-filter_map}
use Rattle.fw_law_node.proofs.Quorums.{enough-quorum, vote_quorum-is, change_of-is}
use Rattle.fw_law_node.proofs.Nodes.{HearsMore, node_always}

-- ---- new views

-- where more is remembered and done
still_begun : (p : Params) (node : ℕ) (x y : Node) (a : Adopted) → ((n : NewView) → In n x.heard.new_views → In n y.heard.new_views) → ((c : Change) → In c x.heard.changes → In c y.heard.changes) → ((c : Change) → In c x.own.moves → In c y.own.moves) → IsRemembered x a ⊎ IsMade p node x a → IsRemembered y a ⊎ IsMade p node y a
still_begun p node x y a new_views changes moves (inl r) =
    inl (record { new_view = r.new_view; among = new_views r.new_view r.among; its_view = r.its_view; its_changes = r.its_changes })
still_begun p node x y a new_views changes moves (inr k) =
    inr (record { by = k.by; nodes = k.nodes; views = k.views; known = λ c i. elim (k.known c i) [ inl h ↦ inl (moves c h) | inr h ↦ inr (changes c h) ] })

same_begun : (p : Params) (node : ℕ) (x y : Node) → y.own.adopted ≡ x.own.adopted → ((n : NewView) → In n x.heard.new_views → In n y.heard.new_views) → ((c : Change) → In c x.heard.changes → In c y.heard.changes) → ((c : Change) → In c x.own.moves → In c y.own.moves) → AreBegun p node x → AreBegun p node y
same_begun p node x y same new_views changes moves k a i =
    still_begun p node x y a new_views changes moves (k a (subst (In a) same i))

known_at : {M : Type 0} (me : Self M) (x : Node) (i : ℕ) (c : Change) → In c (changes_by me x i) → In c x.own.moves ⊎ In c x.heard.changes
known_at me x i c h = by (nat_eq i me.own) h
  where
    by : (b : Bool) → In c (cond b x.own.moves x.heard.changes) → In c x.own.moves ⊎ In c x.heard.changes
    by true h = inl h
    by false h = inr h

pub made : {M : Type 0} (me : Self M) (x : Node) (changes : List Change) → MayTurn me x (Make changes) → IsMade me.means.params me.own x (record { view = x.own.view; changes = changes })
made me x changes m =
    let p = me.means.params in
    let found : List Change = filter_map (change_of me x x.own.view) (nodes p) in
    let w = when-some _ _ changes m.made in
    let same = same_Some (take (quorum p) found) changes w.1 in
    let at = λ (c : Change) (i : In c changes). In-filter_map (change_of me x x.own.view) (nodes p) c (In-take (quorum p) found c (subst (In c) (sym same) i)) in
    record {
      by = sym (eqb-true _ _ m.mine);
      nodes = enough-quorum me (λ (c : Change). c.agree) (change_of me x x.own.view) changes (λ i c e. (change_of-is me x x.own.view i c e).1) m.made;
      views = λ c i. let t = at c i in (change_of-is me x x.own.view t.0 c t.2).0;
      known = λ c i. let t = at c i in known_at me x t.0 c (change_of-is me x x.own.view t.0 c t.2).2;
    }

turn_begun : {M : Type 0} (me : Self M) (x : Node) (turn : Turn) → MayTurn me x turn → AreBegun me.means.params me.own x → AreBegun me.means.params me.own (turns me x turn).0
turn_begun me x (Adopt view changes) m k a (inl s) =
    inl (record {
      new_view = m.new_view;
      among = m.remembered;
      its_view = m.its_view ∙ ap (λ (y : Adopted). y.view) (sym s);
      its_changes = m.its_changes ∙ ap (λ (y : Adopted). y.changes) (sym s);
    })
turn_begun me x (Adopt view changes) m k a (inr i) =
    still_begun me.means.params me.own x (turns me x (Adopt view changes)).0 a (λ n h. h) (λ c h. h) (λ c h. h) (k a i)
turn_begun me x (Start view) m k a i =
    still_begun me.means.params me.own x (turns me x (Start view)).0 a (λ n h. h) (λ c h. h) (λ c h. inr h) (k a i)
turn_begun me x (Make changes) m k a (inl s) =
    still_begun me.means.params me.own x (turns me x (Make changes)).0 a (λ n h. h) (λ c h. h) (λ c h. h)
    (inr (subst (IsMade me.means.params me.own x) (sym s) (made me x changes m)))
turn_begun me x (Make changes) m k a (inr i) =
    still_begun me.means.params me.own x (turns me x (Make changes)).0 a (λ n h. h) (λ c h. h) (λ c h. h) (k a i)

act_begun : {M : Type 0} (me : Self M) (x : Node) (act : Act) → MayAct me x act → AreBegun me.means.params me.own x → AreBegun me.means.params me.own (performs me x act).0
act_begun me x (Offer n entry) m k =
    same_begun me.means.params me.own x (performs me x (Offer n entry)).0 refl (λ n h. h) (λ c h. h) (λ c h. h) k
act_begun me x (Prepare n entry) m k =
    same_begun me.means.params me.own x (performs me x (Prepare n entry)).0 refl (λ n h. h) (λ c h. h) (λ c h. h) k
act_begun me x (Pledge_to n entry signers) m k =
    same_begun me.means.params me.own x (performs me x (Pledge_to n entry signers)).0 refl (λ n h. h) (λ c h. h) (λ c h. h) k
act_begun me x (Commit agreed) m k =
    same_begun me.means.params me.own x (performs me x (Commit agreed)).0 refl (λ n h. h) (λ c h. h) (λ c h. h) k
act_begun me x (Up agreed) m k =
    same_begun me.means.params me.own x (performs me x (Up agreed)).0 refl (λ n h. h) (λ c h. h) (λ c h. h) k

more_begun : (p : Params) (node : ℕ) (x y : Node) → HearsMore x y → AreBegun p node x → AreBegun p node y
more_begun p node x y more k =
    same_begun p node x y (ap (λ (o : Own). o.adopted) more.own) more.new_views more.changes
    (λ c h. subst (λ (o : Own). In c o.moves) (sym more.own) h) k

pub are_begun : {M O : Type 0} (me : Self M) (h : List (Input M O)) → AreBegun me.means.params me.own (node_after me h)
are_begun me h =
    node_always me (AreBegun me.means.params me.own)
    (record { turn = turn_begun me; act = act_begun me; more = more_begun me.means.params me.own }) (λ a i. absurd i) h

-- ---- what is committed

abbrev reads_agreed : Agreed → Option (ℕ × Agreed)
reads_agreed a = Some (a.number, a)

fresh_agreed : (committed : List Agreed) (n : ℕ) → first_at reads_agreed committed n ≡ None → (a : Agreed) → In a committed → agreed_place a ≡ n → ⊥
fresh_agreed committed n none a i same =
    let f = first_at-found reads_agreed committed a a.number a i refl in
    none-some f.value (sym none ∙ ap (λ (k : ℕ). first_at reads_agreed committed k) (sym same) ∙ f.first)

act_committed : {M : Type 0} (me : Self M) (x : Node) (act : Act) → MayAct me x act → AreCommitted me.means.params x.committed → AreCommitted me.means.params (performs me x act).0.committed
act_committed me x (Offer n entry) m k = k
act_committed me x (Prepare n entry) m k = k
act_committed me x (Pledge_to n entry signers) m k = k
act_committed me x (Commit agreed) m k =
    let p = me.means.params in
    record {
      once = (fresh_agreed x.committed agreed.number m.fresh, k.once);
      places = λ a i. elim i [ inl s ↦ subst (λ (y : Agreed). IsPlace p y.view y.number) (sym s) (m.below, m.number) | inr j ↦ k.places a j ];
      signers = λ a i. elim i [
        | inl s ↦ subst (λ (y : Agreed). AreQuorum p (signed_by y.signers)) (sym s) (vote_quorum-is me x 1 agreed.view agreed.number m.digest agreed.signers m.quorum)
        | inr j ↦ k.signers a j
      ];
    }
act_committed me x (Up agreed) m k = k

turn_committed : {M : Type 0} (me : Self M) (x : Node) (turn : Turn) → MayTurn me x turn → AreCommitted me.means.params x.committed → AreCommitted me.means.params (turns me x turn).0.committed
turn_committed me x (Adopt view changes) m k = k
turn_committed me x (Start view) m k = k
turn_committed me x (Make changes) m k = k

pub are_committed : {M O : Type 0} (me : Self M) (h : List (Input M O)) → AreCommitted me.means.params (node_after me h).committed
are_committed me h =
    node_always me (λ x. AreCommitted me.means.params x.committed)
    (record {
      turn = turn_committed me;
      act = act_committed me;
      more = λ x y more k. subst (AreCommitted me.means.params) (sym more.committed) k;
    }) (record { once = tt; places = λ a i. absurd i; signers = λ a i. absurd i }) h
