-- What the one agreement node sends: agreed frames of what it committed, one for each number, and replies that it heard from filters.
use Rattle.std.proofs.Common.{ℕ, zero, ◌+◌, ◌*◌, ◌≡◌, ◌≤◌, ◌⊎◌, inl, inr, Bool, true, false, cond, not, nat_eq, List, [], ◌∷◌, ◌++◌, map, refl, sym, ◌∙◌, ap, subst, Option, Some, None, is_some, arith}
use Rattle.std.specs.Prelude.{filter}
use Rattle.std.specs.List.{list_any}
use Rattle.std.proofs.lemmas.Bool.{eqb-true}
use Rattle.std.proofs.lemmas.Option.{none-some, same_Some}
use Rattle.fw_list.specs.Lists.{numbers_from}
use Rattle.fw_base.specs.declared.seat.Seat.{Seat}
use Rattle.fw_base.specs.declared.seat.Seat.TheVariants.{Agree, Filter, Client}
use Rattle.fw_trace.specs.Lists.{In}
use Rattle.fw_trace.proofs.Words.{In-append}
use Rattle.fw_frame.specs.View.{Entry, Given, Request, Signer, Agreed, Reply, Frame, Asks, Proposes, Votes, Agrees, Replies}
use Rattle.fw_means.specs.Means.{when}
use Rattle.fw_rules.specs.Choices.{first_some}
use Rattle.fw_rules.specs.Agree.{Node, Self, Step, Sends, Act, Offer, Prepare, Pledge_to, Commit, Up, performs, acted, for_each, to_others, numbers, agreed_at, offers_choice, offers_request, prepares_one, prepares, pledge_of, pledges_cast, pledges, commit_with, commits_by, commits_in, commits, up_of, goes_up, vote_quorum, seen_of, cast_at, passes, reply_of, reply_to, same_request, hears_request, hears_reply, hears}
use Rattle.fw_source.proofs.Listed.{first_at-in}
use Rattle.fw_law_words.proofs.Lists.{In-map, In-numbers}
use Rattle.fw_law_words.proofs.Roles.{held_reply}

-- ---- what it committed

-- whatever was committed at a number is so after it
abbrev pub Grows : Node → Node → Type 0
Grows x y = (n : ℕ) (a : Agreed) → agreed_at x n ≡ Some a → agreed_at y n ≡ Some a

pub agreed_number : (x : Node) (n : ℕ) (a : Agreed) → agreed_at x n ≡ Some a → a.number ≡ n
agreed_number x n a e =
    let at = first_at-in (λ (b : Agreed). Some (b.number, b)) x.committed n a e in
    let same : (at.item.number, at.item) ≡ (n, a) = same_Some (at.item.number, at.item) (n, a) at.read in
    ap (λ (b : Agreed). b.number) (sym (ap (λ (u : ℕ × Agreed). u.1) same)) ∙ ap (λ (u : ℕ × Agreed). u.0) same

-- the frame of what is committed at a number
pub record SentUp {M : Type 0} (me : Self M) (x : Node) (m : M) : Type 0 where
  pub agreed : Agreed
  pub there : agreed_at x agreed.number ≡ Some agreed
  pub few : agreed.number ≤ me.means.params.numbers
  pub is : m ≡ me.means.write (Agrees agreed)

up_later : {M : Type 0} (me : Self M) (x y : Node) (m : M) → Grows x y → SentUp me x m → SentUp me y m
up_later me x y m g s = record { agreed = s.agreed; there = g s.agreed.number s.agreed s.there; few = s.few; is = s.is }

-- a reply that was heard from a filter of the first row
pub record HeardReply {M : Type 0} (me : Self M) (K : Seat → M → Type 0) (r : Reply) : Type 0 where
  pub column : ℕ
  pub message : M
  pub heard : K (Filter 0 column) message
  pub read : me.means.read message ≡ Some (Replies r)

pub record SentDown {M : Type 0} (me : Self M) (K : Seat → M → Type 0) (m : M) : Type 0 where
  pub reply : Reply
  pub heard : HeardReply me K reply
  pub is : m ≡ me.means.write (Replies reply)

abbrev pub AgreeOut : {M : Type 0} → Self M → (M → Type 0) → Node → M → Type 0
AgreeOut me D x m = SentUp me x m ⊎ D m

pub out_later : {M : Type 0} (me : Self M) (D : M → Type 0) (x y : Node) (m : M) → Grows x y → AgreeOut me D x m → AgreeOut me D y m
out_later me D x y m g (inl s) = inl (up_later me x y m g s)
out_later me D x y m g (inr s) = inr s

-- from this node on: what was committed is so, the same replies are held, and all that was sent is of that kind
pub record Going {M : Type 0} (me : Self M) (D : M → Type 0) (x0 : Node) (s : Step M) : Type 0 where
  pub grows : Grows x0 s.0
  pub held : s.0.heard.held ≡ x0.heard.held
  pub outs : (o : Seat × M) → In o s.1 → AgreeOut me D s.0 o.1

-- ---- acts

-- when an act may be made: what is committed is new at its number, and what goes up is committed
abbrev Good : {M : Type 0} → Self M → Node → Act → Type 0
Good me x (Offer n entry) = Unit {0}
Good me x (Prepare n entry) = Unit {0}
Good me x (Pledge_to n entry signers) = Unit {0}
Good me x (Commit a) = agreed_at x a.number ≡ None
Good me x (Up a) = (agreed_at x a.number ≡ Some a) × (a.number ≤ me.means.params.numbers)

abbrev Chosen : {M : Type 0} → Self M → Node → Option Act → Type 0
Chosen me x None = Unit {0}
Chosen me x (Some act) = Good me x act

chosen-when : {M : Type 0} (me : Self M) (x : Node) (b : Bool) (o : Option Act) → Chosen me x o → Chosen me x (when b o)
chosen-when me x true o c = c
chosen-when me x false o c = tt

chosen-first : {M A : Type 0} (me : Self M) (x : Node) (f : A → Option Act) (xs : List A) → ((a : A) → Chosen me x (f a)) → Chosen me x (first_some f xs)
chosen-first me x f [] each = tt
chosen-first me x f (a ∷ xs) each = by (f a) (each a) (chosen-first me x f xs each)
  where
    by : (o : Option Act) → Chosen me x o → Chosen me x (first_some f xs) → Chosen me x (elim o [ Some y ↦ Some y | None ↦ first_some f xs ])
    by (Some y) c more = c
    by None c more = more

grows_by_commit : (x : Node) (a : Agreed) → agreed_at x a.number ≡ None → Grows x (record x { committed = a ∷ x.committed; idle = 0 })
grows_by_commit x a new n b h = by (nat_eq a.number n) refl
  where
    by : (t : Bool) → nat_eq a.number n ≡ t → cond t (Some a) (agreed_at x n) ≡ Some b
    by true e = absurd (none-some b (sym new ∙ ap (agreed_at x) (eqb-true a.number n e) ∙ h))
    by false e = h

module _ {M : Type 0} (me : Self M) (own : me.own ≡ 0) (one : me.means.params.f ≡ 0) where
  -- there is no other node
  no_others : (frame : Frame) → to_others me frame ≡ []
  no_others frame =
      ap (λ (i : ℕ). map (λ k. (Agree k, me.means.write frame)) (filter (λ k. not (nat_eq k i)) (numbers_from 0 (3 * me.means.params.f + 1)))) own
      ∙ ap (λ (f : ℕ). map (λ k. (Agree k, me.means.write frame)) (filter (λ k. not (nat_eq k 0)) (numbers_from 0 (3 * f + 1)))) one

  pub no_out : (frame : Frame) (o : Seat × M) → In o (to_others me frame) → ⊥
  no_out frame o i = subst (In o) (no_others frame) i

  module _ (D : M → Type 0) (x0 : Node) where
    pub goes_on : (s : Step M) (next : Node) (out : Sends M) → Going me D x0 s → Grows s.0 next → next.heard.held ≡ s.0.heard.held → ((o : Seat × M) → In o out → AgreeOut me D next o.1) → Going me D x0 (next, s.1 ++ out)
    goes_on s next out g grows held outs = record {
      grows = λ n a h. grows n a (g.grows n a h);
      held = held ∙ g.held;
      outs = λ o i. elim (In-append o s.1 out i) [
        | inl j ↦ out_later me D s.0 next o.1 grows (g.outs o j)
        | inr j ↦ outs o j
      ];
    }

    performed : (s : Step M) (act : Act) → Going me D x0 s → Good me s.0 act → Going me D x0 ((performs me s.0 act).0, s.1 ++ (performs me s.0 act).1)
    performed s (Offer n entry) g c = goes_on s _ _ g (λ n a h. h) refl (λ o i. absurd (no_out _ o i))
    performed s (Prepare n entry) g c = goes_on s _ _ g (λ n a h. h) refl (λ o i. absurd (no_out _ o i))
    performed s (Pledge_to n entry signers) g c = goes_on s _ _ g (λ n a h. h) refl (λ o i. absurd (no_out _ o i))
    performed s (Commit a) g c = goes_on s _ _ g (grows_by_commit s.0 a c) refl (λ o i. absurd i)
    performed s (Up a) g c = goes_on s _ _ g (λ n a h. h) refl
        (λ o i. let to = In-map (λ (k : ℕ). (Filter 0 k, me.means.write (Agrees a))) _ o i in
        inl (record { agreed = a; there = c.0; few = c.1; is = ap (λ (u : Seat × M). u.1) to.2 }))

    acted-is : (s : Step M) (o : Option Act) → Chosen me s.0 o → Going me D x0 s → Going me D x0 (acted me s o)
    acted-is s None c g = g
    acted-is s (Some act) c g = performed s act g c

    each-is : {A : Type 0} (P : A → Type 0) (chooses : Node → A → Option Act) → ((a : A) → P a → (x : Node) → Chosen me x (chooses x a))
        → (xs : List A) → ((a : A) → In a xs → P a) → (s : Step M) → Going me D x0 s → Going me D x0 (for_each me chooses xs s)
    each-is P chooses good [] all s g = g
    each-is P chooses good (a ∷ xs) all s g =
        each-is P chooses good xs (λ b i. all b (inr i)) (acted me s (chooses s.0 a)) (acted-is s (chooses s.0 a) (good a (all a (inl refl)) s.0) g)

    any-is : {A : Type 0} (chooses : Node → A → Option Act) → ((a : A) (x : Node) → Chosen me x (chooses x a)) → (xs : List A) (s : Step M) → Going me D x0 s → Going me D x0 (for_each me chooses xs s)
    any-is chooses good xs s g = each-is (λ a. Unit {0}) chooses (λ a p. good a) xs (λ a i. tt) s g

  -- ---- choices

  good_choice : (n : ℕ) (x : Node) → Chosen me x (offers_choice me x n)
  good_choice n x = chosen-when me x _ (Some (Offer n _)) tt

  good_request : (r : Request) (x : Node) → Chosen me x (offers_request me x r)
  good_request r x = chosen-when me x _ (Some (Offer _ (r ∷ []))) tt

  good_prepare : (n : ℕ) (x : Node) → Chosen me x (prepares me x n)
  good_prepare n x =
      chosen-when me x _ (first_some (prepares_one me x n) x.heard.proposals)
      (chosen-first me x (prepares_one me x n) x.heard.proposals (λ m. chosen-when me x _ (Some (Prepare n m.entry)) tt))

  pledge-good : (n : ℕ) (x : Node) (entry : Entry) (o : Option (List Signer)) → Chosen me x (pledge_of n entry o)
  pledge-good n x entry None = tt
  pledge-good n x entry (Some signers) = tt

  cast-good : (n : ℕ) (x : Node) (o : Option Entry) → Chosen me x (pledges_cast me x n o)
  cast-good n x None = tt
  cast-good n x (Some entry) = pledge-good n x entry _

  good_pledge : (n : ℕ) (x : Node) → Chosen me x (pledges me x n)
  good_pledge n x = chosen-when me x _ (pledges_cast me x n (cast_at x x.own.view n)) (cast-good n x (cast_at x x.own.view n))

  commit-good : (v n : ℕ) (x : Node) → agreed_at x n ≡ None → (entry : Option Entry) (signers : Option (List Signer)) → Chosen me x (commit_with v n entry signers)
  commit-good v n x new (Some entry) (Some signers) = new
  commit-good v n x new (Some entry) None = tt
  commit-good v n x new None signers = tt

  good_commit : (n : ℕ) (x : Node) → Chosen me x (commits me x n)
  good_commit n x = by (agreed_at x n) refl
    where
      by : (o : Option Agreed) → agreed_at x n ≡ o → Chosen me x (when (not (is_some o)) (first_some (commits_in me x n) (numbers_from 0 me.means.params.views)))
      by (Some a) e = tt
      by None e = chosen-first me x (commits_in me x n) (numbers_from 0 me.means.params.views)
          (λ v. chosen-first me x (commits_by me x v n) x.votes
          (λ vote. chosen-when me x _ (commit_with v n (seen_of me.means.hash x.seen vote.digest) (vote_quorum me x 1 v n vote.digest))
          (commit-good v n x e (seen_of me.means.hash x.seen vote.digest) (vote_quorum me x 1 v n vote.digest))))

  good_up : (n : ℕ) → n ≤ me.means.params.numbers → (x : Node) → Chosen me x (goes_up me x n)
  good_up n few x = chosen-when me x _ (up_of (agreed_at x n)) (by (agreed_at x n) refl)
    where
      by : (o : Option Agreed) → agreed_at x n ≡ o → Chosen me x (up_of o)
      by None e = tt
      by (Some a) e =
          let number = agreed_number x n a e in
          (ap (agreed_at x) number ∙ e, subst (λ (k : ℕ). k ≤ me.means.params.numbers) (sym number) few)

  pub passes-is : (D : M → Type 0) (x0 : Node) (s : Step M) → Going me D x0 s → Going me D x0 (passes me s)
  passes-is D x0 s g =
      let all = numbers me in
      let offered = any-is D x0 (offers_request me) good_request s.0.heard.requests _ (any-is D x0 (offers_choice me) good_choice all s g) in
      let cast = any-is D x0 (pledges me) good_pledge all _ (any-is D x0 (prepares me) good_prepare all _ offered) in
      each-is D x0 (λ n. n ≤ me.means.params.numbers) (goes_up me) good_up all (λ n i. let r = In-numbers n 1 me.means.params.numbers i in omega (arith, r.1)) _
      (any-is D x0 (commits me) good_commit all _ cast)

  -- ---- what it hears

  module _ (K : Seat → M → Type 0) where
    pub record Hearing (x : Node) (s : Step M) : Type 0 where
      pub committed : s.0.committed ≡ x.committed
      pub held : (r : Reply) → In r s.0.heard.held → HeardReply me K r
      pub outs : (o : Seat × M) → In o s.1 → SentDown me K o.1

    abbrev pub HeldHeard : Node → Type 0
    HeldHeard x = (r : Reply) → In r x.heard.held → HeardReply me K r

    abbrev pub MayHear : Node → Option (Step M) → Type 0
    MayHear x None = Unit {0}
    MayHear x (Some s) = Hearing x s

    request-is : (x : Node) (from : Seat) (r : Request) (o : Option Reply) → ((y : Reply) → o ≡ Some y → In y x.heard.held) → HeldHeard x → Hearing x (hears_request me x from r o)
    request-is x from r (Some reply) inside h = record {
      committed = refl;
      held = h;
      outs = λ o i. elim i [
        | inl e ↦ record { reply = reply; heard = h reply (inside reply refl); is = ap (λ (u : Seat × M). u.1) e }
        | inr j ↦ absurd j
      ];
    }
    request-is x from r None inside h = by (list_any (same_request r) x.heard.requests)
      where
        by : (b : Bool) → Hearing x (cond b x (record x { heard = record x.heard { requests = x.heard.requests ++ r ∷ [] }; seen = x.seen ++ (r ∷ []) ∷ [] }), [])
        by true = record { committed = refl; held = h; outs = λ o i. absurd i }
        by false = record { committed = refl; held = h; outs = λ o i. absurd i }

    reply-is : (x : Node) (r : Reply) → HeardReply me K r → HeldHeard x → Hearing x (hears_reply me x r)
    reply-is x r new h = by (is_some (reply_of x.heard.held r.number))
      where
        by : (b : Bool) → Hearing x (cond b (x, []) (record x { heard = record x.heard { held = r ∷ x.heard.held } }, map (λ g. (Client g.client, me.means.write (Replies r))) r.answers))
        by true = record { committed = refl; held = h; outs = λ o i. absurd i }
        by false = record {
          committed = refl;
          held = λ y i. elim i [ inl e ↦ subst (HeardReply me K) (sym e) new | inr j ↦ h y j ];
          outs = λ o i. let to = In-map (λ (g : Given). (Client g.client, me.means.write (Replies r))) r.answers o i in
              record { reply = r; heard = new; is = ap (λ (u : Seat × M). u.1) to.2 };
        }

    pub hears-is : (x : Node) (from : Seat) (m : M) (frame : Frame) → K from m → me.means.read m ≡ Some frame → HeldHeard x → MayHear x (hears me x from frame)
    hears-is x (Client c) m (Asks r) k e h = request-is x (Client c) r (reply_to me x r.client r.stamp) (λ y q. held_reply me x r.client r.stamp y q) h
    hears-is x (Agree i) m (Proposes q) k e h = record { committed = refl; held = h; outs = λ o i. absurd i }
    hears-is x (Agree i) m (Votes v) k e h = record { committed = refl; held = h; outs = λ o i. absurd i }
    hears-is x (Filter zero c) m (Replies r) k e h = reply-is x r (record { column = c; message = m; heard = k; read = e }) h
    hears-is x _ m _ k e h = tt

    pub record Goes (x : Node) (s : Step M) : Type 0 where
      pub grows : Grows x s.0
      pub held : HeldHeard s.0
      pub outs : (o : Seat × M) → In o s.1 → AgreeOut me (SentDown me K) s.0 o.1
