-- A test tells the replies of a number, by reading: of a speech that makes replies of numbers of the list alone, as which the filter's
-- own speech acts.
use mathlib.Core.Path.{fun_ext}
use Rattle.std.proofs.Common.{ℕ, ◌≡◌, Bool, true, cond, ◌&&◌, nat_eq, nat_le, [], ◌∷◌, ◌++◌, Option, Some, None, refl, sym, ◌∙◌, ap, subst}
use Rattle.std.specs.Prelude.{option_and_then, filter}
use Rattle.std.proofs.lemmas.Bool.{eqb-true}
use Rattle.std.proofs.lemmas.Option.{none-some, same_Some}
use Rattle.fw_base.specs.declared.seat.Seat.{Seat}
use Rattle.fw_base.specs.declared.seat.Seat.TheVariants as seats
use Rattle.fw_base.specs.Seats.{fits, linked, above}
use Rattle.fw_trace.specs.declared.Input.{Input}
use Rattle.fw_trace.specs.declared.Input.TheVariants as inputs
use Rattle.fw_trace.specs.declared.Share as shares
use Rattle.fw_trace.specs.Executor.{Sends}
use Rattle.fw_trace.specs.Filter.{Filter, hear_agreed, hear_reply, hear_share, hold_made, has_share, filter_next, filter_role}
use Rattle.fw_trace.specs.Role.{Role}
use Rattle.fw_frame.specs.View.{Share, Reply, Frame, Shares, Replies}
use Rattle.fw_means.specs.Means.{when}
use Rattle.fw_rules.specs.Means.{Means}
use Rattle.fw_rules.specs.Choices.{admitted}
use Rattle.fw_rules.specs.Roles.{Valued, replied_number, share_from, is_equal, joined, combined_of, filter_speech}
use Rattle.fw_law_words.proofs.Tests.{when-some}
use Rattle.fw_law_words.proofs.Roles.{admits, combines}
use Rattle.fw_law_filter.specs.Copies.{TellsReplies}
use Rattle.fw_law_speeches.specs.Frames.{is_reply, is_reply_of, ReadsNumbers, numbered_speech}

-- the number of a reply that is told, and what passes the test
replied_is : (n j : ℕ) (from : Seat) (v : Frame) → replied_number from v ≡ Some j → is_reply n (Some v) ≡ true → j ≡ n
replied_is n j (seats.Filter r c) (Replies a) e test = sym (same_Some a.number j e) ∙ eqb-true a.number n test
replied_is n j _ _ e test = absurd (none-some j e)

passes : (n : ℕ) (o : Option Frame) → is_reply n o ≡ true → (b : Reply) × (o ≡ Some (Replies b)) × (b.number ≡ n)
passes n (Some (Replies b)) test = (b, refl, eqb-true b.number n test)
passes n _ test = cc

share_is : (from : Seat) (v : Frame) (s : shares.Share Valued) → share_from from v ≡ Some s → (t : Share) × (v ≡ Shares t) × (t.number ≡ s.number)
share_is (seats.Exec j) (Shares t) s e =
    let made : shares.Share Valued = record { number = t.number; exec = t.exec; value = (t.answers, t.values) } in
    let same = same_Some made s (when-some (nat_eq t.exec j) (Some made) s e).1 in
    (t, refl, ap (λ (u : shares.Share Valued). u.number) same)
share_is _ _ s e = absurd (none-some s e)

module _ {M : Type 0} (k : Means M) (reads : ReadsNumbers k) (r c : ℕ) where
  -- what is admitted is read
  was_read : (from : Seat) (m : M) (v : Frame) → admitted k (seats.Filter r c) from m ≡ Some v → k.read m ≡ Some v
  was_read from m v e = (when-some (fits k.params from && linked k.params from (seats.Filter r c)) (k.read m) v e).1

  pub tells_replies : (n : ℕ) → TellsReplies (numbered_speech k r c) n (is_reply_of k n)
  tells_replies n = record {
    heard = λ from m j e test. (
        let w = (when-some (above k.params (seats.Filter r c) from) (option_and_then (replied_number from) (admitted k (seats.Filter r c) from m)) j e).1 in
        let a = admits k (seats.Filter r c) from m (replied_number from) j w in
        replied_is n j from a.frame a.gives (subst (λ (o : Option Frame). is_reply n o ≡ true) (was_read from m a.frame a.read) test));
    made = λ kept m j e test. (
        let w = when-some (nat_le j k.params.numbers) (combined_of k j kept) m e in
        let made = combines k j kept m w.1 in
        let p = passes n (k.read m) test in
        let reply = joined k j made.share.value.0 (filter (is_equal j made.share) kept) in
        sym (reads.replies reply p.0 w.0 (ap k.read (sym made.is) ∙ p.1)) ∙ p.2);
  }

  share_on_list : (from : Seat) (m : M) (s : shares.Share Valued) → (filter_speech k r c).shared from m ≡ Some s → nat_le s.number k.params.numbers ≡ true
  share_on_list from m s e =
      let a = admits k (seats.Filter r c) from m (share_from from) s e in
      let t = share_is from a.frame s a.gives in
      subst (λ (n : ℕ). nat_le n k.params.numbers ≡ true) t.2 (reads.shares m t.0 (was_read from m a.frame a.read ∙ ap (λ (v : Frame). Some v) t.1))

  same_share : (x : Filter M Valued) (o : Option (shares.Share Valued)) → ((s : shares.Share Valued) → o ≡ Some s → nat_le s.number k.params.numbers ≡ true) → hear_share (numbered_speech k r c) x o ≡ hear_share (filter_speech k r c) x o
  same_share x None listed = refl
  same_share x (Some s) listed =
      let kept : Filter M Valued = record x { shares = x.shares ++ s ∷ [] } in
      ap (λ (b : Bool). cond (has_share x.shares s.number s.exec) (x, []) (hold_made (filter_speech k r c) kept s.number (when b (combined_of k s.number kept.shares)))) (listed s refl)

  same_next : {O : Type 0} (x : Filter M Valued) (i : Input M O) → filter_next (numbered_speech k r c) x i ≡ filter_next (filter_speech k r c) x i
  same_next x (inputs.Heard from m) =
      let sp = filter_speech k r c in
      let a = hear_agreed sp x from m (sp.agreed from m) in
      let t = hear_reply sp a.0 m (sp.replied from m) in
      ap (λ (s : Filter M Valued × Sends M). (s.0, a.1 ++ t.1 ++ s.1)) (same_share t.0 (sp.shared from m) (λ s e. share_on_list from m s e))
  same_next x inputs.Tick = refl
  same_next x (inputs.Submitted op) = refl

  pub same_role : {O : Type 0} → ◌≡◌ {A = Role (Filter M Valued) M O} (filter_role (numbered_speech k r c)) (filter_role (filter_speech k r c))
  same_role {O = O} =
      ap (λ (next : Filter M Valued → Input M O → Filter M Valued × Sends M). record { start = record { held = []; asked = []; shares = [] }; next = next })
      (fun_ext (λ x. fun_ext (λ i. same_next x i)))
