-- Each part that a filter sends is joined of shares that it heard, or stood in an agreed frame or a reply that it passes on.
use Rattle.std.proofs.Common.{ℕ, ◌+◌, ◌≡◌, ◌⊎◌, inl, inr, List, [], ◌∷◌, take, Some, refl, sym, ap}
use Rattle.std.proofs.lemmas.Option.{none-some, same_Some}
use Rattle.fw_base.specs.declared.seat.Seat.{Seat}
use Rattle.fw_base.specs.declared.seat.Seat.TheVariants as seats
use Rattle.fw_base.specs.Seats.{above}
use Rattle.fw_trace.specs.declared.Input.{Input}
use Rattle.fw_trace.specs.declared.Input.TheVariants as inputs
use Rattle.fw_trace.specs.declared.Share as shares
use Rattle.fw_trace.specs.Lists.{In}
use Rattle.fw_trace.specs.Role.{kept, sends}
use Rattle.fw_trace.specs.Filter.{filter_role}
use Rattle.fw_frame.specs.View.{Given, Frame, Agrees, Shares, Replies}
use Rattle.fw_rules.specs.Means.{Means}
use Rattle.fw_rules.specs.Choices.{admitted}
use Rattle.fw_rules.specs.Roles.{Valued, agreed_number, replied_number, share_from, joined, filter_speech}
use Rattle.fw_law_words.proofs.Tests.{when-some}
use Rattle.fw_law_words.proofs.Roles.{admits}
use Rattle.fw_law_filter.specs.Heard.{HeardNow, WasHeard, IsThisReply, IsShare, WasMade}
use Rattle.fw_law_filter.specs.Passed.{GoesUp}
use Rattle.fw_law_filter.proofs.Holding.{WasHeard-weaken, shares_heard, shares_apart, held_comes}
use Rattle.fw_law_filter.proofs.Sending.{sends_are}
use Rattle.fw_law_sources.specs.Sources.{IsReplyFrame, IsAgreedOrReplyFrame, IsHeard, IsPassed, IsMade, IsSourcedOrPassed}
use Rattle.fw_law_sources.specs.Joined.{part_of_share, IsHeardShare, joined_part, IsJoined}
use Rattle.fw_law_sources.proofs.Passing.{made_sourced}
use Rattle.fw_law_sources.proofs.Joining.{combines}

-- ---- what is read of a message

agreement : (me from : Seat) (v : Frame) (n : ℕ) → agreed_number me from v ≡ Some n → IsAgreedOrReplyFrame v
agreement me from (Agrees a) n e = inl (a, refl)
agreement me from _ n e = absurd (none-some n e)

reply : (from : Seat) (v : Frame) (n : ℕ) → replied_number from v ≡ Some n → IsAgreedOrReplyFrame v
reply (seats.Filter r c) (Replies a) n e = inr (a, refl)
reply _ _ n e = absurd (none-some n e)

module _ {M : Type 0} (k : Means M) (r c : ℕ) where
  share_part : (from : Seat) (m : M) (s : shares.Share Valued) (v : Frame) → admitted k (seats.Filter r c) from m ≡ Some v → share_from from v ≡ Some s → IsHeard k (seats.Filter r c) (part_of_share s) from m
  share_part (seats.Exec j) m s (Shares x) read e =
      let told : shares.Share Valued = record { number = x.number; exec = x.exec; value = (x.answers, x.values) } in
      record { frame = Shares x; read = read; among = inl (ap part_of_share (sym (same_Some told s (when-some _ (Some told) s e).1))) }
  share_part _ m s _ read e = absurd (none-some s e)

  heard_part : (s : shares.Share Valued) (from : Seat) (m : M) → IsShare (filter_speech k r c) s from m → IsHeard k (seats.Filter r c) (part_of_share s) from m
  heard_part s from m e =
      let a = admits k (seats.Filter r c) from m (share_from from) s e in
      share_part from m s a.frame a.read a.gives

  passed_reply : (n : ℕ) (sent : M) (from : Seat) (m : M) → IsThisReply (filter_speech k r c) n sent from m → IsPassed k (seats.Filter r c) IsAgreedOrReplyFrame sent from m
  passed_reply n sent from m p =
      let a = admits k (seats.Filter r c) from m (replied_number from) n ((when-some (above k.params (seats.Filter r c) from) _ n p.1).1) in
      record { same = p.0; frame = a.frame; read = a.read; kind = reply from a.frame n a.gives }

module _ {M O : Type 0} (k : Means M) (r c : ℕ) where
  -- ---- replies that it made

  heard_longer : (i : Input M O) (h : List (Input M O)) (n : ℕ) (answers : List Given) (s : shares.Share Valued) → IsHeardShare k r c h n answers s → IsHeardShare k r c (i ∷ h) n answers s
  heard_longer i h n answers s p = record { of_number = p.of_number; with_answers = p.with_answers; told = inr p.told; heard = inr p.heard }

  joined_longer : (i : Input M O) (h : List (Input M O)) (m : M) → IsMade k IsReplyFrame (IsJoined k r c h) m → IsMade k IsReplyFrame (IsJoined k r c (i ∷ h)) m
  joined_longer i h m q =
      let own = q.own in
      record {
        frame = q.frame;
        written = q.written;
        kind = q.kind;
        part = q.part;
        one = q.one;
        own = record {
          number = own.number;
          answers = own.answers;
          joined = own.joined;
          count = own.count;
          each = λ s there. heard_longer i h own.number own.answers s (own.each s there);
          distinct = own.distinct;
          is = own.is;
        };
      }

  made_now : (h : List (Input M O)) (n : ℕ) (m : M) → (filter_speech k r c).combined n (kept (filter_role (filter_speech k r c)) h).shares ≡ Some m → IsMade k IsReplyFrame (IsJoined k r c h) m
  made_now h n m e =
      let sp = filter_speech k r c in
      let w = combines k n (kept (filter_role sp) h).shares m (shares_apart sp h) e in
      record {
        frame = Replies (joined k n w.answers w.equal);
        written = w.is;
        kind = (joined k n w.answers w.equal, refl);
        part = joined_part k n w.answers (take (k.params.g + 1) w.equal);
        one = refl;
        own = record {
          number = n;
          answers = w.answers;
          joined = take (k.params.g + 1) w.equal;
          count = w.count;
          each = λ s i. (
              let all = w.each s i in
              let told = shares_heard sp h s all.0 in
              record { of_number = all.1; with_answers = all.2; told = told; heard = WasHeard-weaken (IsShare sp s) (IsHeard k (seats.Filter r c) (part_of_share s)) (heard_part k r c s) h told });
          distinct = w.distinct;
          is = refl;
        };
      }

  was_made : (h : List (Input M O)) (n : ℕ) (m : M) → WasMade (filter_speech k r c) n m h → IsMade k IsReplyFrame (IsJoined k r c h) m
  was_made [] n m w = absurd w
  was_made (i ∷ h) n m (inl now) = made_now (i ∷ h) n m now
  was_made (i ∷ h) n m (inr was) = joined_longer i h m (was_made h n m was)

  -- ---- all that it sends

  -- a reply that it made, or an agreed frame or a reply as it was heard
  abbrev Sends : List (Input M O) → M → Type 0
  Sends h m = IsMade k IsReplyFrame (IsJoined k r c h) m ⊎ WasHeard (IsPassed k (seats.Filter r c) IsAgreedOrReplyFrame m) h

  held_sent : (h : List (Input M O)) (n : ℕ) (m : M) → In (n, m) (kept (filter_role (filter_speech k r c)) h).held → Sends h m
  held_sent h n m i = elim (held_comes (filter_speech k r c) h n m i) [
    | inl w ↦ inr (WasHeard-weaken (IsThisReply (filter_speech k r c) n m) (IsPassed k (seats.Filter r c) IsAgreedOrReplyFrame m) (passed_reply k r c n m) h w)
    | inr made ↦ inl (was_made h n m made)
  ]

  up_passed : (i : Input M O) (h : List (Input M O)) (o : Seat × M) → HeardNow (GoesUp (filter_speech k r c) (kept (filter_role (filter_speech k r c)) h) o) i → HeardNow (IsPassed k (seats.Filter r c) IsAgreedOrReplyFrame o.1) i
  up_passed (inputs.Heard from m) h o g =
      let a = admits k (seats.Filter r c) from m (agreed_number (seats.Filter r c) from) g.number g.agreed in
      record { same = sym g.same; frame = a.frame; read = a.read; kind = agreement (seats.Filter r c) from a.frame g.number a.gives }
  up_passed inputs.Tick h o g = absurd g
  up_passed (inputs.Submitted op) h o g = absurd g

  pub filter_sends : (h : List (Input M O)) (o : Seat × M) → In o (sends (filter_role (filter_speech k r c)) h) → Sends h o.1
  filter_sends [] o there = absurd there
  filter_sends (i ∷ h) o there = elim (sends_are (filter_speech k r c) i h o there) [
    | inl up ↦ inr (inl (up_passed i h o up))
    | inr down ↦ held_sent (i ∷ h) down.number o.1 down.held
  ]

  pub filter_sourced : (h : List (Input M O)) (o : Seat × M) → In o (sends (filter_role (filter_speech k r c)) h) → IsSourcedOrPassed k (seats.Filter r c) (IsJoined k r c h) IsAgreedOrReplyFrame h o.1
  filter_sourced h o there = elim (filter_sends h o there) [
    | inl a ↦ inl (made_sourced k (seats.Filter r c) IsReplyFrame (IsJoined k r c h) h o.1 a)
    | inr a ↦ inr a
  ]
