-- After the last passes there is nothing left to commit and nothing left to send up.
use Rattle.std.proofs.Common.{ℕ, ◌+◌, ◌<◌, ◌≤◌, ◌≡◌, Bool, true, false, cond, ◌&&◌, not, nat_eq, nat_le, List, arith, refl, sym, ◌∙◌, ap, subst, Option, Some, None, is_some}
use Rattle.std.proofs.lemmas.Bool.{and_left, eq-eqb, ne_eqb, cond-true}
use Rattle.std.proofs.lemmas.Option.{none-some, same_Some}
use Rattle.fw_list.specs.Lists.{numbers_from}
use Rattle.fw_trace.specs.Lists.{In}
use Rattle.fw_source.proofs.Listed.{first_at-in}
use Rattle.fw_rules.specs.Choices.{first_some}
use Rattle.fw_frame.specs.View.{Entry, Signer, Agreed}
use Rattle.fw_rules.specs.Agree.{Self, Node, Step, Act, Offer, Prepare, Pledge_to, Commit, Up, performs, for_each, numbers, agreed_at, commits, commits_in, commits_by, commit_with, seen_of, vote_quorum, goes_up, up_of, replied}
use Rattle.fw_law_words.proofs.Tests.{when-some, when-false, is_some-none, when-less, none-not_some, some-not_none}
use Rattle.fw_law_words.proofs.Firsts.{first_some-in}
use Rattle.fw_law_quiet.proofs.Settling.{all_later, numbers_later, settled}

-- ---- commits

abbrev is_at : Agreed → Option (ℕ × Agreed)
is_at a = Some (a.number, a)

-- an act that casts no vote
abbrev pub VotesNone : Act → Type 0
VotesNone (Offer n entry) = ⊥
VotesNone (Prepare n entry) = ⊥
VotesNone (Pledge_to n entry signers) = ⊥
VotesNone (Commit a) = Unit {0}
VotesNone (Up a) = Unit {0}

cond-rest : {A : Type 0} (b : Bool) (a : A) (o : Option A) → cond b (Some a) o ≡ None → o ≡ None
cond-rest true a o e = absurd (none-some a (sym e))
cond-rest false a o e = e

pub act_commits : {M : Type 0} (me : Self M) (n : ℕ) (x : Node) (act : Act) → VotesNone act → commits me x n ≡ None → commits me (performs me x act).0 n ≡ None
act_commits me n x (Offer b entry) k h = absurd k
act_commits me n x (Prepare b entry) k h = absurd k
act_commits me n x (Pledge_to b entry signers) k h = absurd k
act_commits me n x (Commit a) k h =
    let y = (performs me x (Commit a)).0 in
    when-less (not (is_some (agreed_at x n))) (not (is_some (agreed_at y n))) (first_some (commits_in me x n) (numbers_from 0 me.means.params.views))
    (λ t. none-not_some (agreed_at x n) (cond-rest (nat_eq a.number n) a (agreed_at x n) (is_some-none (agreed_at y n) t))) h
act_commits me n x (Up a) k h = h

commits_is : {M : Type 0} (me : Self M) (x : Node) (n : ℕ) (act : Act) → commits me x n ≡ Some act → (a : Agreed) × (act ≡ Commit a) × (a.number ≡ n)
commits_is me x n act e =
    let w = when-some (not (is_some (agreed_at x n))) (first_some (commits_in me x n) (numbers_from 0 me.means.params.views)) act e in
    let v = first_some-in (commits_in me x n) (numbers_from 0 me.means.params.views) act w.1 in
    let t = first_some-in (commits_by me x v.0 n) x.votes act v.2 in
    let k = when-some _ _ act t.2 in
    by v.0 (seen_of me.means.hash x.seen t.0.digest) (vote_quorum me x 1 v.0 n t.0.digest) k.1
  where
    by : (v : ℕ) (o : Option Entry) (q : Option (List Signer)) → commit_with v n o q ≡ Some act → (a : Agreed) × (act ≡ Commit a) × (a.number ≡ n)
    by v None q k = absurd (none-some act k)
    by v (Some entry) None k = absurd (none-some act k)
    by v (Some entry) (Some signers) k =
        let a : Agreed = record { view = v; number = n; entry = entry; signers = signers } in
        (a, sym (same_Some (Commit a) act k), refl)

pub commits_none : {M : Type 0} (me : Self M) (x : Node) (n : ℕ) (act : Act) → commits me x n ≡ Some act → VotesNone act
commits_none me x n act e = let i = commits_is me x n act e in subst VotesNone (sym i.1) tt

commits_settle : {M : Type 0} (me : Self M) (x : Node) (n : ℕ) (act : Act) → commits me x n ≡ Some act → commits me (performs me x act).0 n ≡ None
commits_settle me x n act e =
    let i = commits_is me x n act e in
    let y = (performs me x (Commit i.0)).0 in
    let here : agreed_at y n ≡ Some i.0 = cond-true (nat_eq i.0.number n) (Some i.0) (agreed_at x n) (eq-eqb i.0.number n i.2) in
    subst (λ (z : Act). commits me (performs me x z).0 n ≡ None) (sym i.1) (when-false (not (is_some (agreed_at y n))) _ (some-not_none (agreed_at y n) i.0 here))

pub all_committed : {M : Type 0} (me : Self M) (s : Step M) (n : ℕ) → In n (numbers me) → commits me (for_each me (commits me) (numbers me) s).0 n ≡ None
all_committed me s n i =
    let at = λ (a b : ℕ) (x : Node) (act : Act) (e : commits me x b ≡ Some act) (h : commits me x a ≡ None). act_commits me a x act (commits_none me x b act e) h in
    settled me (commits me) (numbers me) (commits_settle me) (all_later _ (numbers me) at) s n i

-- ---- what goes up

goes_up_is : {M : Type 0} (me : Self M) (x : Node) (n : ℕ) (act : Act) → goes_up me x n ≡ Some act → (a : Agreed) × (act ≡ Up a) × (a.number ≡ n)
goes_up_is me x n act e = by (agreed_at x n) refl (when-some (nat_eq n (x.up + 1) && nat_le n (replied me x + me.means.params.pipe)) (up_of (agreed_at x n)) act e).1
  where
    by : (o : Option Agreed) → agreed_at x n ≡ o → up_of o ≡ Some act → (a : Agreed) × (act ≡ Up a) × (a.number ≡ n)
    by None f k = absurd (none-some act k)
    by (Some a) f k =
        let t = first_at-in is_at x.committed n a f in
        let both = same_Some (t.item.number, t.item) (n, a) t.read in
        (a, sym (same_Some (Up a) act k), ap (λ (z : ℕ × Agreed). z.1.number) (sym both) ∙ ap (λ (z : ℕ × Agreed). z.0) both)

pub goes_up_none : {M : Type 0} (me : Self M) (x : Node) (n : ℕ) (act : Act) → goes_up me x n ≡ Some act → VotesNone act
goes_up_none me x n act e = let i = goes_up_is me x n act e in subst VotesNone (sym i.1) tt

-- none at or below the number that went up
gone_up : {M : Type 0} (me : Self M) (x : Node) (n b : ℕ) (act : Act) → n ≤ b → goes_up me x b ≡ Some act → goes_up me (performs me x act).0 n ≡ None
gone_up me x n b act low e =
    let i = goes_up_is me x b act e in
    let y = (performs me x (Up i.0)).0 in
    let same = i.2 in
    let differ = ne_eqb n (i.0.number + 1) (λ k. omega arith) in
    subst (λ (z : Act). goes_up me (performs me x z).0 n ≡ None) (sym i.1)
    (when-false (nat_eq n (i.0.number + 1) && nat_le n (replied me y + me.means.params.pipe)) _ (and_left (nat_eq n (i.0.number + 1)) (nat_le n (replied me y + me.means.params.pipe)) differ))

pub all_up : {M : Type 0} (me : Self M) (s : Step M) (n : ℕ) → In n (numbers me) → goes_up me (for_each me (goes_up me) (numbers me) s).0 n ≡ None
all_up me s n i =
    let at = λ (a b : ℕ) (low : a < b) (x : Node) (act : Act) (e : goes_up me x b ≡ Some act) (h : goes_up me x a ≡ None). gone_up me x a b act (omega arith) e in
    settled me (goes_up me) (numbers me) (λ x a act e. gone_up me x a a act (omega arith) e) (numbers_later _ 1 me.means.params.numbers at) s n i
