-- What an agreement node keeps has short pieces, and so has each act that it chooses.
use Rattle.std.proofs.Common.{ℕ, ◌≤◌, nat_eq, nat_lt, List, [], ◌∷◌, length, take, All, Option, Some, None, arith}
use Rattle.std.specs.Prelude.{IfSome}
use Rattle.std.proofs.lemmas.List.{length-take}
use Rattle.std.proofs.lemmas.List.Elements.{All-nil, All-cons, All-head, All-tail, All-filter, All-take}
use Rattle.fw_list.specs.Lists.{numbers_from}
use Rattle.fw_base.specs.declared.params.Params.{Params}
use Rattle.fw_base.specs.Sizes.{quorum}
use Rattle.fw_text.specs.Texts.{Hash}
use Rattle.fw_frame.specs.View.{Request, Entry, Signer, Proof, NewView, Propose, Vote, Agreed, Reply, Proposes, Votes, Begins, Agrees, Replies}
use Rattle.fw_rules.specs.Signing.{entry_digest}
use Rattle.fw_rules.specs.Agree.{Node, Self, Cast, Pledge, Adopted, Act, Offer, Prepare, Pledge_to, Commit, Up, nodes, numbers, reply_if, reply_at, reply_to, signer_if, signer_of, signers_of, enough, vote_quorum, cast_if, cast_at, agreed_at, last_changes, chosen, all_proofs, better, best, proofs_of, entry_or_null, choice, offers_choice, offers_request, next_number, prepares_one, prepares, pledge_of, pledges_cast, pledges, seen_if, seen_of, commit_with, commits_by, commits_in, commits, up_of, goes_up}
use Rattle.fw_rules.specs.Choices.{first_some}
use Rattle.fw_lengths.proofs.Pieces.{IsShortRequest, IsShortEntry, IsShortSigner, AreShortSigners, IsShortProof, IsShortChange, IsShort}
use Rattle.fw_lengths.proofs.Options.{all_any, when-if, cond-if, first_some-if, first_at-if, found-all, flat-all}

abbrev pub IsShortPropose : Params → Propose → Type 0
IsShortPropose p m = IsShort p (Proposes m)

abbrev pub IsShortVote : Params → Vote → Type 0
IsShortVote p v = IsShort p (Votes v)

abbrev pub IsShortAgreed : Params → Agreed → Type 0
IsShortAgreed p a = IsShort p (Agrees a)

abbrev pub IsShortReply : Params → Reply → Type 0
IsShortReply p r = IsShort p (Replies r)

abbrev pub IsShortNewView : Params → NewView → Type 0
IsShortNewView p n = IsShort p (Begins n)

abbrev pub IsShortCast : Cast → Type 0
IsShortCast c = IsShortEntry c.entry

abbrev pub IsShortPledge : Pledge → Type 0
IsShortPledge c = length c.digest ≤ 32

abbrev pub IsShortAdopted : Params → Adopted → Type 0
IsShortAdopted p a = All (IsShortChange p) a.changes

-- all that a node keeps and may send has short pieces
pub record Fitting (p : Params) (x : Node) : Type 0 where
  pub requests : All IsShortRequest x.heard.requests
  pub proposals : All (IsShortPropose p) x.heard.proposals
  pub changes : All (IsShortChange p) x.heard.changes
  pub new_views : All (IsShortNewView p) x.heard.new_views
  pub held : All (IsShortReply p) x.heard.held
  pub casts : All IsShortCast x.own.casts
  pub pledges : All IsShortPledge x.own.pledges
  pub proofs : All (IsShortProof p) x.own.proofs
  pub moves : All (IsShortChange p) x.own.moves
  pub adopted : All (IsShortAdopted p) x.own.adopted
  pub votes : All (IsShortVote p) x.votes
  pub seen : All IsShortEntry x.seen
  pub committed : All (IsShortAgreed p) x.committed

-- and so has what an act is about
abbrev pub FitAct : Params → Act → Type 0
FitAct p (Offer n entry) = IsShortEntry entry
FitAct p (Prepare n entry) = IsShortEntry entry
FitAct p (Pledge_to n entry signers) = IsShortEntry entry × AreShortSigners p signers
FitAct p (Commit agreed) = IsShortAgreed p agreed
FitAct p (Up agreed) = IsShortAgreed p agreed

-- ---- what is looked for in it

pub reply-if : (me : Self (List ℕ)) (p : Params) (x : Node) → Fitting p x → (client stamp : ℕ) → IfSome (reply_to me x client stamp) (IsShortReply p)
reply-if me p x f client stamp =
    first_some-if (reply_at x client stamp) (λ _. Unit {0}) (IsShortReply p)
    (λ n _. first_some-if (reply_if client stamp n) (IsShortReply p) (IsShortReply p) (λ r short. when-if (IsShortReply p) _ (Some r) short) x.heard.held f.held)
    (numbers me) (all_any (numbers me))

signer-found : (p : Params) (votes : List Vote) → All (IsShortVote p) votes → (phase view number : ℕ) (digest : List ℕ) (i : ℕ) → IfSome (signer_of votes phase view number digest i) IsShortSigner
signer-found p votes short phase view number digest i =
    first_some-if (signer_if phase view number digest i) (IsShortVote p) IsShortSigner
    (λ v one. when-if IsShortSigner _ (Some (record { agree = i; sig = v.sig })) one.1) votes short

-- as many as a quorum has, where all that were found are of a kind
pub enough-if : {A : Type 0} (me : Self (List ℕ)) (P : A → Type 0) (found : List A) → All P found → IfSome (enough me found) (λ xs. (length xs ≤ quorum me.means.params) × All P xs)
enough-if me P found short =
    let count = length-take (quorum me.means.params) found in
    when-if (λ xs. (length xs ≤ quorum me.means.params) × All P xs) _ (Some (take (quorum me.means.params) found))
    (omega arith, All-take P (quorum me.means.params) found short)

pub quorum-if : (me : Self (List ℕ)) (x : Node) → Fitting me.means.params x → (phase view number : ℕ) (digest : List ℕ) → IfSome (vote_quorum me x phase view number digest) (AreShortSigners me.means.params)
quorum-if me x f phase view number digest =
    enough-if me IsShortSigner (signers_of me x phase view number digest)
    (found-all (signer_of x.votes phase view number digest) IsShortSigner (signer-found me.means.params x.votes f.votes phase view number digest) (nodes me.means.params))

pub cast-if : (p : Params) (x : Node) → Fitting p x → (view n : ℕ) → IfSome (cast_at x view n) IsShortEntry
cast-if p x f view n =
    first_some-if (cast_if view n) IsShortCast IsShortEntry (λ c short. when-if IsShortEntry _ (Some c.entry) short) x.own.casts f.casts

pub agreed-if : (p : Params) (x : Node) → Fitting p x → (n : ℕ) → IfSome (agreed_at x n) (IsShortAgreed p)
agreed-if p x f n = first_at-if (λ (a : Agreed). (a.number, a)) (IsShortAgreed p) (IsShortAgreed p) (λ a short. short) n x.committed f.committed

-- ---- the choice

changes-short : (p : Params) (adopted : List Adopted) → All (IsShortAdopted p) adopted → All (IsShortChange p) (last_changes adopted)
changes-short p [] short = All-nil (IsShortChange p)
changes-short p (a ∷ adopted) short = All-head (IsShortAdopted p) a adopted short

better-if : (p : Params) (q : Proof) (o : Option Proof) → IsShortProof p q → IfSome o (IsShortProof p) → IfSome (better q o) (IsShortProof p)
better-if p q None one other = one
better-if p q (Some r) one other = cond-if (IsShortProof p) (nat_lt q.view r.view) (Some r) (Some q) other one

pub best-if : (p : Params) (proofs : List Proof) → All (IsShortProof p) proofs → IfSome (best proofs) (IsShortProof p)
best-if p [] short = tt
best-if p (q ∷ proofs) short =
    better-if p q (best proofs) (All-head (IsShortProof p) q proofs short) (best-if p proofs (All-tail (IsShortProof p) q proofs short))

entry-if : (p : Params) (o : Option Proof) → IfSome o (IsShortProof p) → IsShortEntry (entry_or_null o)
entry-if p None short = All-nil IsShortRequest
entry-if p (Some q) short = short.0

choice-short : (p : Params) (x : Node) → Fitting p x → (n : ℕ) → IsShortEntry (choice (chosen x) n)
choice-short p x f n =
    let proofs = flat-all (λ c. c.proofs) (IsShortChange p) (IsShortProof p) (λ c short. short.1) (chosen x) (changes-short p x.own.adopted f.adopted) in
    entry-if p (best (proofs_of n (all_proofs (chosen x))))
    (best-if p (proofs_of n (all_proofs (chosen x))) (All-filter (λ q. nat_eq q.number n) (IsShortProof p) (all_proofs (chosen x)) proofs))

-- ---- the acts that it chooses

-- an act, if one is chosen, is about what is short
abbrev pub FitChoice : Params → Option Act → Type 0
FitChoice p o = IfSome o (FitAct p)

pub offers_choice-fit : (me : Self (List ℕ)) (x : Node) (n : ℕ) → Fitting me.means.params x → FitChoice me.means.params (offers_choice me x n)
offers_choice-fit me x n f =
    when-if (FitAct me.means.params) _ (Some (Offer n (choice (chosen x) n))) (choice-short me.means.params x f n)

pub offers_request-fit : (me : Self (List ℕ)) (x : Node) (r : Request) → IsShortRequest r → FitChoice me.means.params (offers_request me x r)
offers_request-fit me x r short =
    when-if (FitAct me.means.params) _ (Some (Offer (next_number x) (r ∷ []))) (All-cons IsShortRequest r [] short (All-nil IsShortRequest))

pub prepares-fit : (me : Self (List ℕ)) (x : Node) (n : ℕ) → Fitting me.means.params x → FitChoice me.means.params (prepares me x n)
prepares-fit me x n f =
    let fit = FitAct me.means.params in
    when-if fit _ (first_some (prepares_one me x n) x.heard.proposals)
    (first_some-if (prepares_one me x n) (IsShortPropose me.means.params) fit (λ m short. when-if fit _ (Some (Prepare n m.entry)) short.0) x.heard.proposals f.proposals)

pledge_of-fit : (p : Params) (n : ℕ) (entry : Entry) (o : Option (List Signer)) → IsShortEntry entry → IfSome o (AreShortSigners p) → FitChoice p (pledge_of n entry o)
pledge_of-fit p n entry None short signers = tt
pledge_of-fit p n entry (Some found) short signers = (short, signers)

pledges_cast-fit : (me : Self (List ℕ)) (x : Node) (n : ℕ) → Fitting me.means.params x → (o : Option Entry) → IfSome o IsShortEntry → FitChoice me.means.params (pledges_cast me x n o)
pledges_cast-fit me x n f None short = tt
pledges_cast-fit me x n f (Some entry) short =
    let digest = entry_digest me.means.hash entry in
    pledge_of-fit me.means.params n entry (vote_quorum me x 0 x.own.view n digest) short (quorum-if me x f 0 x.own.view n digest)

pub pledges-fit : (me : Self (List ℕ)) (x : Node) (n : ℕ) → Fitting me.means.params x → FitChoice me.means.params (pledges me x n)
pledges-fit me x n f =
    when-if (FitAct me.means.params) _ (pledges_cast me x n (cast_at x x.own.view n))
    (pledges_cast-fit me x n f (cast_at x x.own.view n) (cast-if me.means.params x f x.own.view n))

commit_with-fit : (p : Params) (v n : ℕ) (e : Option Entry) (s : Option (List Signer)) → IfSome e IsShortEntry → IfSome s (AreShortSigners p) → FitChoice p (commit_with v n e s)
commit_with-fit p v n None None short signers = tt
commit_with-fit p v n None (Some found) short signers = tt
commit_with-fit p v n (Some entry) None short signers = tt
commit_with-fit p v n (Some entry) (Some found) short signers = (short, signers)

seen-if : (hash : Hash) (seen : List Entry) (digest : List ℕ) → All IsShortEntry seen → IfSome (seen_of hash seen digest) IsShortEntry
seen-if hash seen digest short =
    first_some-if (seen_if hash digest) IsShortEntry IsShortEntry (λ e one. when-if IsShortEntry _ (Some e) one) seen short

commits_by-fit : (me : Self (List ℕ)) (x : Node) → Fitting me.means.params x → (v n : ℕ) (vote : Vote) → FitChoice me.means.params (commits_by me x v n vote)
commits_by-fit me x f v n vote =
    let entry = seen_of me.means.hash x.seen vote.digest in
    let signers = vote_quorum me x 1 v n vote.digest in
    when-if (FitAct me.means.params) _ (commit_with v n entry signers)
    (commit_with-fit me.means.params v n entry signers (seen-if me.means.hash x.seen vote.digest f.seen) (quorum-if me x f 1 v n vote.digest))

commits_in-fit : (me : Self (List ℕ)) (x : Node) → Fitting me.means.params x → (n v : ℕ) → FitChoice me.means.params (commits_in me x n v)
commits_in-fit me x f n v =
    first_some-if (commits_by me x v n) (λ _. Unit {0}) (FitAct me.means.params) (λ vote _. commits_by-fit me x f v n vote) x.votes (all_any x.votes)

pub commits-fit : (me : Self (List ℕ)) (x : Node) (n : ℕ) → Fitting me.means.params x → FitChoice me.means.params (commits me x n)
commits-fit me x n f =
    let views = numbers_from 0 me.means.params.views in
    when-if (FitAct me.means.params) _ (first_some (commits_in me x n) views)
    (first_some-if (commits_in me x n) (λ _. Unit {0}) (FitAct me.means.params) (λ v _. commits_in-fit me x f n v) views (all_any views))

up_of-fit : (p : Params) (o : Option Agreed) → IfSome o (IsShortAgreed p) → FitChoice p (up_of o)
up_of-fit p None short = tt
up_of-fit p (Some agreed) short = short

pub goes_up-fit : (me : Self (List ℕ)) (x : Node) (n : ℕ) → Fitting me.means.params x → FitChoice me.means.params (goes_up me x n)
goes_up-fit me x n f =
    when-if (FitAct me.means.params) _ (up_of (agreed_at x n)) (up_of-fit me.means.params (agreed_at x n) (agreed-if me.means.params x f n))
