-- All that a filter sends it heard, or is a reply of the deployment that it made of shares.
use Rattle.std.proofs.Common.{ℕ, ◌+◌, ◌≡◌, ◌⊎◌, ◌&&◌, inl, inr, nat_eq, nat_lt, List, [], ◌∷◌, length, take, Some, IsTrue, arith, refl, sym, ◌∙◌, ap, subst}
use Rattle.std.proofs.lemmas.Bool.{and_from, eq-eqb}
use Rattle.std.proofs.lemmas.Option.{none-some, same_Some}
use Rattle.fw_list.specs.declared.limits.TheConstants.{SIGNATURE_LEN}
use Rattle.fw_base.specs.declared.params.Params.{Params}
use Rattle.fw_base.specs.declared.seat.Seat.{Seat}
use Rattle.fw_base.specs.declared.seat.Seat.TheVariants as seats
use Rattle.fw_base.specs.Seats.{fits, linked, above}
use Rattle.fw_base.specs.Sizes.{executors}
use Rattle.fw_trace.specs.declared.Input.{Input}
use Rattle.fw_trace.specs.declared.Input.TheVariants as inputs
use Rattle.fw_trace.specs.declared.Share as shares
use Rattle.fw_trace.specs.Lists.{In}
use Rattle.fw_trace.specs.Role.{kept, sends}
use Rattle.fw_trace.specs.Filter.{filter_role}
use Rattle.fw_frame.specs.Ranges.{number_fits, answer_fits, values_fit}
use Rattle.fw_frame.specs.View.{Given, Share, Frame, Agrees, Shares, Replies, first_given}
use Rattle.fw_frame.proofs.Fields.{four}
use Rattle.fw_rules.specs.Means.{Means}
use Rattle.fw_rules.specs.Choices.{admitted}
use Rattle.fw_rules.specs.Roles.{Valued, agreed_number, replied_number, share_from, joined, filter_speech}
use Rattle.fw_law_words.proofs.Tests.{when-some}
use Rattle.fw_law_words.proofs.Roles.{admits}
use Rattle.fw_law_filter.specs.Heard.{HeardNow, WasHeard, IsThisReply, IsShare, WasMade}
use Rattle.fw_law_filter.specs.Passed.{GoesUp}
use Rattle.fw_law_filter.proofs.Holding.{WasHeard-weaken, shares_heard, shares_apart, held_comes}
use Rattle.fw_law_filter.proofs.Sending.{sends_are}
use Rattle.fw_law_sources.specs.Sources.{IsReplyFrame, IsAgreedOrReplyFrame, IsHeard, IsPassed}
use Rattle.fw_law_sources.specs.Joined.{part_of_share, IsHeardShare, joined_part, IsJoined}
use Rattle.fw_law_sources.proofs.Joining.{combines}
use Rattle.fw_law_frames.specs.Plain.{IsPlain, MakesPlain}
use Rattle.fw_law_frames.specs.Sent.{IsPlainMade}
use Rattle.fw_law_frames.proofs.Fitting.{single, plain_from}

-- the reply with the answers of a share
reply_plain : (p : Params) (s : Share) (n : ℕ) (values : List ℕ) → IsPlain p (Shares s) → s.number ≡ n → length values ≡ SIGNATURE_LEN → IsPlain p (Replies (record { number = n; answers = s.answers; values = values }))
reply_plain p s n values plain number long =
    let given = first_given s.answers in
    let f = four (number_fits p s.number) (nat_lt s.exec (executors p)) (answer_fits p given.client given.stamp given.body) (values_fit s.values) plain.fits in
    plain_from p (Replies (record { number = n; answers = s.answers; values = values }))
    (and_from _ _ (and_from _ _ (subst (λ (k : ℕ). IsTrue (number_fits p k)) number f.0) f.2) (eq-eqb (length values) SIGNATURE_LEN long))
    (single p (Shares s) plain)

-- a message that was heard, of which this holds
record Found {M O : Type 0} (P : Seat → M → Type 0) (h : List (Input M O)) : Type 0 where
  from : Seat
  message : M
  is : P from message

found : {M O : Type 0} (P : Seat → M → Type 0) (h : List (Input M O)) → WasHeard P h → Found P h
found P [] w = absurd w
found P (inputs.Heard from m ∷ h) (inl now) = record { from = from; message = m; is = now }
found P (inputs.Tick ∷ h) (inl now) = absurd now
found P (inputs.Submitted op ∷ h) (inl now) = absurd now
found P (i ∷ h) (inr was) = let f = found P h was in record { from = f.from; message = f.message; is = f.is }

-- one of a list that isn't empty
member : {A : Type 0} (xs : List A) (n : ℕ) → length xs ≡ n + 1 → (x : A) × In x xs
member [] n e = absurd (omega (arith, e))
member (x ∷ xs) n e = (x, inl refl)

module _ {M : Type 0} (k : Means M) (r c : ℕ) (makes : MakesPlain k (seats.Filter r c)) where
  made_of_share : (n : ℕ) (s : shares.Share Valued) (answers : List Given) (equal : List (shares.Share Valued)) (from : Seat) (v : Frame) → IsPlain k.params v → share_from from v ≡ Some s → s.number ≡ n → s.value.0 ≡ answers → IsPlain k.params (Replies (joined k n answers equal))
  made_of_share n s answers equal (seats.Exec j) (Shares x) plain e number same =
      let told : shares.Share Valued = record { number = x.number; exec = x.exec; value = (x.answers, x.values) } in
      let is = same_Some told s (when-some (nat_eq x.exec j) (Some told) s e).1 in
      let here : x.number ≡ n = ap (λ (t : shares.Share Valued). t.number) is ∙ number in
      let told_answers : x.answers ≡ answers = ap (λ (t : shares.Share Valued). t.value.0) is ∙ same in
      subst (λ (gs : List Given). IsPlain k.params (Replies (joined k n gs equal))) told_answers (reply_plain k.params x n _ plain here (makes.joins _))
  made_of_share n s answers equal _ _ plain e number same = absurd (none-some s e)

  -- the list of values of a share that is read
  part_there : (s : shares.Share Valued) (from : Seat) (m : M) (v : Frame) → admitted k (seats.Filter r c) from m ≡ Some v → share_from from v ≡ Some s → IsHeard k (seats.Filter r c) (part_of_share s) from m
  part_there s (seats.Exec j) m (Shares x) read e =
      let told : shares.Share Valued = record { number = x.number; exec = x.exec; value = (x.answers, x.values) } in
      record { frame = Shares x; read = read; among = inl (ap part_of_share (sym (same_Some told s (when-some (nat_eq x.exec j) (Some told) s e).1))) }
  part_there s _ m _ read e = absurd (none-some s e)

  part_heard : (s : shares.Share Valued) (from : Seat) (m : M) → IsShare (filter_speech k r c) s from m → IsHeard k (seats.Filter r c) (part_of_share s) from m
  part_heard s from m e = let a = admits k (seats.Filter r c) from m (share_from from) s e in part_there s from m a.frame a.read a.gives

  -- a reply that is read
  reply_kind : (from : Seat) (v : Frame) (n : ℕ) → replied_number from v ≡ Some n → IsAgreedOrReplyFrame v
  reply_kind (seats.Filter q d) (Replies a) n e = inr (a, refl)
  reply_kind _ _ n e = absurd (none-some n e)

  reply_passed : (n : ℕ) (sent : M) (from : Seat) (m : M) → IsThisReply (filter_speech k r c) n sent from m → IsPassed k (seats.Filter r c) IsAgreedOrReplyFrame sent from m
  reply_passed n sent from m p =
      let a = admits k (seats.Filter r c) from m (replied_number from) n (when-some (above k.params (seats.Filter r c) from) _ n p.1).1 in
      record { same = p.0; frame = a.frame; read = a.read; kind = reply_kind from a.frame n a.gives }

  -- an agreed frame that is read
  agreed_kind : (from : Seat) (v : Frame) (n : ℕ) → agreed_number (seats.Filter r c) from v ≡ Some n → IsAgreedOrReplyFrame v
  agreed_kind from (Agrees a) n e = inl (a, refl)
  agreed_kind from _ n e = absurd (none-some n e)

module _ {M O : Type 0} (k : Means M) (r c : ℕ) (makes : MakesPlain k (seats.Filter r c)) where
  -- ---- replies that it made

  abbrev Made : List (Input M O) → M → Type 0
  Made h m = IsPlainMade k IsReplyFrame (IsJoined k r c h) m

  made_plain : (h : List (Input M O)) (n : ℕ) (m : M) → (filter_speech k r c).combined n (kept (filter_role (filter_speech k r c)) h).shares ≡ Some m → Made h m
  made_plain h n m e =
      let sp = filter_speech k r c in
      let w = combines k n (kept (filter_role sp) h).shares m (shares_apart sp h) e in
      let joins = take (k.params.g + 1) w.equal in
      let one = member joins k.params.g w.count in
      let its = w.each one.0 one.1 in
      let f = found (IsShare sp one.0) h (shares_heard sp h one.0 its.0) in
      let a = admits k (seats.Filter r c) f.from f.message (share_from f.from) one.0 f.is in
      let plain = makes.reads f.message a.frame (when-some (fits k.params f.from && linked k.params f.from (seats.Filter r c)) (k.read f.message) a.frame a.read).1 in
      record {
        made = record {
          frame = Replies (joined k n w.answers w.equal);
          written = w.is;
          kind = (joined k n w.answers w.equal, refl);
          part = joined_part k n w.answers joins;
          one = refl;
          own = record {
            number = n;
            answers = w.answers;
            joined = joins;
            count = w.count;
            each = λ s i. (
                let all = w.each s i in
                let told = shares_heard sp h s all.0 in
                record { of_number = all.1; with_answers = all.2; told = told; heard = WasHeard-weaken (IsShare sp s) (IsHeard k (seats.Filter r c) (part_of_share s)) (part_heard k r c makes s) h told });
            distinct = w.distinct;
            is = refl;
          };
        };
        plain = made_of_share k r c makes n one.0 w.answers w.equal f.from a.frame plain a.gives its.1 its.2;
      }

  share_longer : (i : Input M O) (h : List (Input M O)) (n : ℕ) (answers : List Given) (s : shares.Share Valued) → IsHeardShare k r c h n answers s → IsHeardShare k r c (i ∷ h) n answers s
  share_longer i h n answers s p = record { of_number = p.of_number; with_answers = p.with_answers; told = inr p.told; heard = inr p.heard }

  made_longer : (i : Input M O) (h : List (Input M O)) (m : M) → Made h m → Made (i ∷ h) m
  made_longer i h m q =
      let own = q.made.own in
      record {
        made = record {
          frame = q.made.frame;
          written = q.made.written;
          kind = q.made.kind;
          part = q.made.part;
          one = q.made.one;
          own = record {
            number = own.number;
            answers = own.answers;
            joined = own.joined;
            count = own.count;
            each = λ s there. share_longer i h own.number own.answers s (own.each s there);
            distinct = own.distinct;
            is = own.is;
          };
        };
        plain = q.plain;
      }

  was_made : (h : List (Input M O)) (n : ℕ) (m : M) → WasMade (filter_speech k r c) n m h → Made h m
  was_made [] n m w = absurd w
  was_made (i ∷ h) n m (inl now) = made_plain (i ∷ h) n m now
  was_made (i ∷ h) n m (inr was) = made_longer i h m (was_made h n m was)

  -- ---- all that it sends

  held_plain : (h : List (Input M O)) (n : ℕ) (m : M) → In (n, m) (kept (filter_role (filter_speech k r c)) h).held → Made h m ⊎ WasHeard (IsPassed k (seats.Filter r c) IsAgreedOrReplyFrame m) h
  held_plain h n m i = elim (held_comes (filter_speech k r c) h n m i) [
    | inl w ↦ inr (WasHeard-weaken (IsThisReply (filter_speech k r c) n m) (IsPassed k (seats.Filter r c) IsAgreedOrReplyFrame m) (reply_passed k r c makes n m) h w)
    | inr made ↦ inl (was_made h n m made)
  ]

  up_passed : (i : Input M O) (h : List (Input M O)) (o : Seat × M) → HeardNow (GoesUp (filter_speech k r c) (kept (filter_role (filter_speech k r c)) h) o) i → HeardNow (IsPassed k (seats.Filter r c) IsAgreedOrReplyFrame o.1) i
  up_passed (inputs.Heard from m) h o up =
      let a = admits k (seats.Filter r c) from m (agreed_number (seats.Filter r c) from) up.number up.agreed in
      record { same = sym up.same; frame = a.frame; read = a.read; kind = agreed_kind k r c makes from a.frame up.number a.gives }
  up_passed inputs.Tick h o up = absurd up
  up_passed (inputs.Submitted op) h o up = absurd up

  pub filter_plain : (h : List (Input M O)) (o : Seat × M) → In o (sends (filter_role (filter_speech k r c)) h) → IsPlainMade k IsReplyFrame (IsJoined k r c h) o.1 ⊎ WasHeard (IsPassed k (seats.Filter r c) IsAgreedOrReplyFrame o.1) h
  filter_plain [] o there = absurd there
  filter_plain (i ∷ h) o there = elim (sends_are (filter_speech k r c) i h o there) [
    | inl up ↦ inr (inl (up_passed i h o up))
    | inr down ↦ held_plain (i ∷ h) down.number o.1 down.held
  ]
