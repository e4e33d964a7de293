-- After the passes of votes there is nothing left to vote for.
use Rattle.std.proofs.Common.{ℕ, ◌≡◌, Bool, ◌&&◌, not, nat_eq, List, [], ◌∷◌, ◌++◌, refl, sym, ap, subst, Option, Some, None, is_some}
use Rattle.std.proofs.lemmas.Bool.{and_parts, and_from, and_right, eq-eqb}
use Rattle.std.proofs.lemmas.Option.{none-some, same_Some}
use Rattle.fw_trace.specs.Lists.{In}
use Rattle.fw_means.specs.Means.{when}
use Rattle.fw_rules.specs.Choices.{first_some}
use Rattle.fw_frame.specs.View.{Entry, Signer, Vote}
use Rattle.fw_rules.specs.Signing.{entry_digest}
use Rattle.fw_rules.specs.Agree.{Self, Node, Step, Pledge, Act, Offer, Prepare, Pledge_to, Commit, Up, performs, for_each, numbers, nodes, is_primary, cast_at, prepares, prepares_one, pledges, pledges_cast, pledge_of, pledge_at, pledge_if, vote_quorum, enough, signers_of, signer_of, signer_if, own_vote}
use Rattle.fw_law_words.proofs.Tests.{when-some, when-false, is_some-none, when-less, none-not_some, some-not_none}
use Rattle.fw_law_words.proofs.Firsts.{first_some-in, first_some-tail, first_some-here, first_some-more}
use Rattle.fw_law_words.proofs.Lists.{filter_map-same}
use Rattle.fw_law_quiet.proofs.Settling.{all_later, settled}
use Rattle.fw_law_quiet.proofs.Offering.{with_cast, cast_before, cast_here}

-- ---- prepare votes

prepares_less : {M : Type 0} (me : Self M) (x : Node) (a b : ℕ) (entry : Entry) → prepares me x a ≡ None → prepares me (with_cast x b entry) a ≡ None
prepares_less me x a b entry h =
    when-less (x.own.active && not (is_primary me x) && not (is_some (cast_at x x.own.view a)))
    (x.own.active && not (is_primary me x) && not (is_some (cast_at (with_cast x b entry) x.own.view a))) (first_some (prepares_one me x a) x.heard.proposals)
    (λ t.
    let p = and_parts (x.own.active && not (is_primary me x)) (not (is_some (cast_at (with_cast x b entry) x.own.view a))) t in
    and_from (x.own.active && not (is_primary me x)) (not (is_some (cast_at x x.own.view a))) p.0 (cast_before x a b entry p.1)) h

-- each act leaves nothing to prepare where there was nothing
pub act_prepares : {M : Type 0} (me : Self M) (n : ℕ) (x : Node) (act : Act) → Unit {0} → prepares me x n ≡ None → prepares me (performs me x act).0 n ≡ None
act_prepares me n x (Offer b entry) k h = prepares_less me x n b entry h
act_prepares me n x (Prepare b entry) k h = prepares_less me x n b entry h
act_prepares me n x (Pledge_to b entry signers) k h = h
act_prepares me n x (Commit a) k h = h
act_prepares me n x (Up a) k h = h

prepares_is : {M : Type 0} (me : Self M) (x : Node) (n : ℕ) (act : Act) → prepares me x n ≡ Some act → (entry : Entry) × (act ≡ Prepare n entry)
prepares_is me x n act e =
    let w = when-some _ _ act e in
    let m = first_some-in (prepares_one me x n) x.heard.proposals act w.1 in
    let k = when-some _ _ act m.2 in
    (m.0.entry, sym (same_Some (Prepare n m.0.entry) act k.1))

prepares_settle : {M : Type 0} (me : Self M) (x : Node) (n : ℕ) (act : Act) → prepares me x n ≡ Some act → prepares me (performs me x act).0 n ≡ None
prepares_settle me x n act e =
    let i = prepares_is me x n act e in
    subst (λ (z : Act). prepares me (performs me x z).0 n ≡ None) (sym i.1)
    (when-false (x.own.active && not (is_primary me x) && not (is_some (cast_at (with_cast x n i.0) x.own.view n))) _
    (and_right (x.own.active && not (is_primary me x)) (not (is_some (cast_at (with_cast x n i.0) x.own.view n))) (some-not_none (cast_at (with_cast x n i.0) x.own.view n) i.0 (cast_here x n i.0))))

pub all_prepared : {M : Type 0} (me : Self M) (s : Step M) (n : ℕ) → In n (numbers me) → prepares me (for_each me (prepares me) (numbers me) s).0 n ≡ None
all_prepared me s n i =
    let at = λ (a b : ℕ) (x : Node) (act : Act) (e : prepares me x b ≡ Some act) (h : prepares me x a ≡ None). act_prepares me a x act tt h in
    settled me (prepares me) (numbers me) (prepares_settle me) (all_later _ (numbers me) at) s n i

-- ---- commit votes

-- a commit vote more changes no quorum of prepare votes
signers_same : {M : Type 0} (me : Self M) (x : Node) (v n : ℕ) (digest : List ℕ) (vote : Vote) → vote.phase ≡ 1 → signers_of me (record x { votes = x.votes ++ vote ∷ [] }) 0 v n digest ≡ signers_of me x 0 v n digest
signers_same me x v n digest vote phase =
    filter_map-same (signer_of (x.votes ++ vote ∷ []) 0 v n digest) (signer_of x.votes 0 v n digest) (nodes me.means.params) (λ i. first_some-more (signer_if 0 v n digest i) x.votes vote (none i))
  where
    none : (i : ℕ) → signer_if 0 v n digest i vote ≡ None
    none i = rw phase refl

-- what may be committed to depends on the signers of the prepare votes
abbrev pledged_by : {M : Type 0} → Self M → ℕ → Entry → List Signer → Option Act
pledged_by me n entry signers = pledge_of n entry (enough me signers)

pledge_less : {M : Type 0} (me : Self M) (n : ℕ) (x : Node) (b : ℕ) (entry : Entry) (signers : List Signer) → pledges me x n ≡ None → pledges me (performs me x (Pledge_to b entry signers)).0 n ≡ None
pledge_less {M = M} me n x b entry signers h =
    let y = (performs me x (Pledge_to b entry signers)).0 in
    subst (λ (o : Option Act). when (x.own.active && not (is_some (pledge_at y x.own.view n))) o ≡ None) (sym (cast_same (cast_at x x.own.view n)))
    (when-less (x.own.active && not (is_some (pledge_at x x.own.view n))) (x.own.active && not (is_some (pledge_at y x.own.view n))) (pledges_cast me x n (cast_at x x.own.view n))
    (λ t.
    let p = and_parts x.own.active (not (is_some (pledge_at y x.own.view n))) t in
    and_from x.own.active (not (is_some (pledge_at x x.own.view n))) p.0
    (none-not_some (pledge_at x x.own.view n) (first_some-tail (pledge_if x.own.view n) pledge x.own.pledges (is_some-none (pledge_at y x.own.view n) p.1)))) h)
  where
    pledge : Pledge
    pledge = record { view = x.own.view; number = b; digest = entry_digest me.means.hash entry }

    cast_same : (o : Option Entry) → pledges_cast me (performs me x (Pledge_to b entry signers)).0 n o ≡ pledges_cast me x n o
    cast_same None = refl
    cast_same (Some e) =
        ap (λ (l : List Signer). pledged_by me n e l)
        (signers_same me x x.own.view n (entry_digest me.means.hash e) (own_vote me 1 x.own.view b (entry_digest me.means.hash entry)) refl)

-- an act that casts no prepare vote
abbrev pub CastsNone : Act → Type 0
CastsNone (Offer n entry) = ⊥
CastsNone (Prepare n entry) = ⊥
CastsNone (Pledge_to n entry signers) = Unit {0}
CastsNone (Commit a) = Unit {0}
CastsNone (Up a) = Unit {0}

pub act_pledges : {M : Type 0} (me : Self M) (n : ℕ) (x : Node) (act : Act) → CastsNone act → pledges me x n ≡ None → pledges me (performs me x act).0 n ≡ None
act_pledges me n x (Offer b entry) k h = absurd k
act_pledges me n x (Prepare b entry) k h = absurd k
act_pledges me n x (Pledge_to b entry signers) k h = pledge_less me n x b entry signers h
act_pledges me n x (Commit a) k h = h
act_pledges me n x (Up a) k h = h

pub pledges_is : {M : Type 0} (me : Self M) (x : Node) (n : ℕ) (act : Act) → pledges me x n ≡ Some act → (entry : Entry) × (signers : List Signer) × (act ≡ Pledge_to n entry signers)
pledges_is me x n act e = by_cast (cast_at x x.own.view n) (when-some (x.own.active && not (is_some (pledge_at x x.own.view n))) (pledges_cast me x n (cast_at x x.own.view n)) act e).1
  where
    by_quorum : (entry : Entry) (o : Option (List Signer)) → pledge_of n entry o ≡ Some act → (entry : Entry) × (signers : List Signer) × (act ≡ Pledge_to n entry signers)
    by_quorum entry None k = absurd (none-some act k)
    by_quorum entry (Some signers) k = (entry, signers, sym (same_Some (Pledge_to n entry signers) act k))

    by_cast : (o : Option Entry) → pledges_cast me x n o ≡ Some act → (entry : Entry) × (signers : List Signer) × (act ≡ Pledge_to n entry signers)
    by_cast None k = absurd (none-some act k)
    by_cast (Some entry) k = by_quorum entry (vote_quorum me x 0 x.own.view n (entry_digest me.means.hash entry)) k

pub pledges_none : {M : Type 0} (me : Self M) (x : Node) (n : ℕ) (act : Act) → pledges me x n ≡ Some act → CastsNone act
pledges_none me x n act e = let i = pledges_is me x n act e in subst CastsNone (sym i.2) tt

pledges_settle : {M : Type 0} (me : Self M) (x : Node) (n : ℕ) (act : Act) → pledges me x n ≡ Some act → pledges me (performs me x act).0 n ≡ None
pledges_settle me x n act e =
    let i = pledges_is me x n act e in
    let y = (performs me x (Pledge_to n i.0 i.1)).0 in
    let digest = entry_digest me.means.hash i.0 in
    let here = first_some-here (pledge_if x.own.view n) (record { view = x.own.view; number = n; digest = digest }) x.own.pledges digest
    (ap (λ (b : Bool). when b (Some digest)) (and_from (nat_eq x.own.view x.own.view) (nat_eq n n) (eq-eqb x.own.view x.own.view refl) (eq-eqb n n refl))) in
    subst (λ (z : Act). pledges me (performs me x z).0 n ≡ None) (sym i.2)
    (when-false (x.own.active && not (is_some (pledge_at y x.own.view n))) _ (and_right x.own.active (not (is_some (pledge_at y x.own.view n))) (some-not_none (pledge_at y x.own.view n) digest here)))

pub all_pledged : {M : Type 0} (me : Self M) (s : Step M) (n : ℕ) → In n (numbers me) → pledges me (for_each me (pledges me) (numbers me) s).0 n ≡ None
all_pledged me s n i =
    let at = λ (a b : ℕ) (x : Node) (act : Act) (e : pledges me x b ≡ Some act) (h : pledges me x a ≡ None). act_pledges me a x act (pledges_none me x b act e) h in
    settled me (pledges me) (numbers me) (pledges_settle me) (all_later _ (numbers me) at) s n i
