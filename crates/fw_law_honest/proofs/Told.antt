-- The answer at a number of a list, the shares of it, and its certificate.
use Rattle.std.proofs.Common.{ℕ, ◌+◌, ◌-◌, ◌<◌, ◌≤◌, ◌≡◌, ◌&&◌, List, [], map, length, Some, refl, sym, ◌∙◌, ap, subst, IsTrue}
use Rattle.std.specs.Prelude.{slice_get, nat_lt}
use Rattle.std.proofs.lemmas.Bool.{and_from, eq-eqb, lt-ltb}
use Rattle.std.proofs.lemmas.Option.{same_Some}
use Rattle.fw_list.specs.declared.limits.TheConstants.{SIGNATURE_LEN}
use Rattle.fw_base.specs.Sizes.{accepted, executors}
use Rattle.fw_text.specs.Texts.{hash, Answered}
use Rattle.fw_frame.specs.Frames as frames
use Rattle.fw_frame.specs.Ranges.{number_fits, answer_fits, values_fit, frame_fits, IsFrame}
use Rattle.fw_frame.specs.Spelling.{frame_bytes}
use Rattle.fw_frame.specs.View.{Entry, Given, Share, Reply, Shares, Replies, viewed_answers, first_given, plain_entry_of}
use Rattle.fw_secret.specs.Dealt.{Origin}
use Rattle.fw_deal.specs.Deals.{PlainDeal}
use Rattle.fw_ref.specs.declared.replica.Answer.{Answer}
use Rattle.fw_ref.specs.Reference.{at_start}
use Rattle.fw_ref.specs.Bodies.{PlainReplica}
use Rattle.fw_ref.specs.Certificates.{keys_of, secrets_for, certificate}
use Rattle.fw_means.specs.Means.{written}
use Rattle.fw_law_honest.proofs.Frames.{Reads, read_one, first_again}
use Rattle.fw_law_honest.proofs.Values.{values_on, length-values_on, secrets-values}
use Rattle.fw_law_honest.proofs.Replying.{Fits, told_all}

abbrev pub begins : PlainDeal → PlainReplica
begins deal = record { done = 0; reference = at_start deal.starts }

-- the answer at a number of a list
pub record IsTold (deal : PlainDeal) (list : List Entry) (n : ℕ) (a : Answer) : Type 0 where
  pub from : 1 ≤ n
  pub within : n ≤ length list
  pub number : IsTrue (number_fits deal.origin.params n)
  pub there : slice_get (told_all (keys_of deal.origin) (begins deal) (map plain_entry_of list)) (n - 1) ≡ Some a
  pub fits : Fits deal.origin n a

pub one_told : (deal : PlainDeal) (list : List Entry) (n : ℕ) (a b : Answer) → IsTold deal list n a → IsTold deal list n b → a ≡ b
one_told deal list n a b x y = same_Some a b (sym x.there ∙ y.there)

abbrev pub digest_of : ℕ → Answer → List ℕ
digest_of n a = hash (Answered n a.client a.stamp a.body.bytes)

abbrev pub answers_of : Answer → List Given
answers_of a = viewed_answers a.client a.stamp a.body.bytes

-- the share of an answer by executor j, as it is seen
abbrev pub share_by : Origin → ℕ → ℕ → Answer → Share
share_by o j n a = record { number = n; exec = j; answers = answers_of a; values = values_on o n (digest_of n a) (j + 1) }

-- the bytes are the certificate of the answer at a number of the list
pub record Certified (deal : PlainDeal) (list : List Entry) (m : List ℕ) : Type 0 where
  pub number : ℕ
  pub answer : Answer
  pub told : IsTold deal list number answer
  pub is : m ≡ certificate deal.origin number answer

module _ (deal : PlainDeal) (list : List Entry) (sizes : IsTrue (accepted deal.origin.params)) (n : ℕ) (a : Answer) (told : IsTold deal list n a) where
  values-long : (values : List ℕ) → length values ≡ 8192 → IsTrue (values_fit values)
  values-long values long = eq-eqb (length values) SIGNATURE_LEN long

  reply-fits : (values : List ℕ) → length values ≡ 8192 → IsTrue (frame_fits deal.origin.params (frames.Reply n a.client a.stamp a.body.bytes values))
  reply-fits values long =
      and_from (number_fits deal.origin.params n && answer_fits deal.origin.params a.client a.stamp a.body.bytes) (values_fit values)
      (and_from (number_fits deal.origin.params n) (answer_fits deal.origin.params a.client a.stamp a.body.bytes) told.number told.fits.fits) (values-long values long)

  -- the answer, again
  pub first-is : first_given (answers_of a) ≡ record { client = a.client; stamp = a.stamp; body = a.body.bytes }
  first-is = first_again deal.origin.params n a.client a.stamp a.body.bytes (values_on deal.origin n [] 0) (reply-fits (values_on deal.origin n [] 0) (length-values_on deal.origin n [] 0))

  secrets-long : length (secrets_for deal.origin n (digest_of n a)) ≡ 8192
  secrets-long = ap length (secrets-values deal.origin n (digest_of n a)) ∙ length-values_on deal.origin n (digest_of n a) 0

  -- the certificate is a frame of the deployment
  pub certificate-frame : IsFrame deal.origin.params (certificate deal.origin n a) (frames.Reply n a.client a.stamp a.body.bytes (secrets_for deal.origin n (digest_of n a)))
  certificate-frame = record { spelled = refl; fits = reply-fits (secrets_for deal.origin n (digest_of n a)) secrets-long }

  -- and is read as its reply
  pub certificate-read : (m : List ℕ) (r : Reply) → m ≡ certificate deal.origin n a → Reads deal.origin.params m (Replies r) → r ≡ record { number = n; answers = answers_of a; values = secrets_for deal.origin n (digest_of n a) }
  certificate-read m r is reads =
      let secrets = secrets_for deal.origin n (digest_of n a) in
      let frame : IsFrame deal.origin.params m (frames.Reply n a.client a.stamp a.body.bytes secrets) = subst (λ (bytes : List ℕ). IsFrame deal.origin.params bytes (frames.Reply n a.client a.stamp a.body.bytes secrets)) (sym is) certificate-frame in
      same_reply r _ (read_one deal.origin.params m (Replies r) (frames.Reply n a.client a.stamp a.body.bytes secrets) sizes reads frame)
    where
      same_reply : (x y : Reply) → Replies x ≡ Replies y → x ≡ y
      same_reply x y e = cc

  -- the reply with the secrets is the certificate
  pub certificate-is : (values : List ℕ) → values ≡ secrets_for deal.origin n (digest_of n a) → written (Replies (record { number = n; answers = answers_of a; values = values })) ≡ certificate deal.origin n a
  certificate-is values same =
      ap (λ (g : Given). frame_bytes (frames.Reply n g.client g.stamp g.body values)) first-is
      ∙ ap (λ (xs : List ℕ). frame_bytes (frames.Reply n a.client a.stamp a.body.bytes xs)) same

  share-fits : (j : ℕ) → j < executors deal.origin.params → IsTrue (frame_fits deal.origin.params (frames.Share n j a.client a.stamp a.body.bytes (values_on deal.origin n (digest_of n a) (j + 1))))
  share-fits j below =
      let p = deal.origin.params in
      let values = values_on deal.origin n (digest_of n a) (j + 1) in
      and_from (number_fits p n && nat_lt j (executors p) && answer_fits p a.client a.stamp a.body.bytes) (values_fit values)
      (and_from (number_fits p n && nat_lt j (executors p)) (answer_fits p a.client a.stamp a.body.bytes)
      (and_from (number_fits p n) (nat_lt j (executors p)) told.number (lt-ltb j (executors p) below)) told.fits.fits)
      (values-long values (length-values_on deal.origin n (digest_of n a) (j + 1)))

  -- a share is read as it was written
  pub share-read : (j : ℕ) (m : List ℕ) (s : Share) → j < executors deal.origin.params → m ≡ written (Shares (share_by deal.origin j n a)) → Reads deal.origin.params m (Shares s) → s ≡ share_by deal.origin j n a
  share-read j m s below is reads =
      let values = values_on deal.origin n (digest_of n a) (j + 1) in
      let spelled : m ≡ frame_bytes (frames.Share n j a.client a.stamp a.body.bytes values) = is ∙ ap (λ (g : Given). frame_bytes (frames.Share n j g.client g.stamp g.body values)) first-is in
      let frame : IsFrame deal.origin.params m (frames.Share n j a.client a.stamp a.body.bytes values) = record { spelled = spelled; fits = share-fits j below } in
      same_share s _ (read_one deal.origin.params m (Shares s) (frames.Share n j a.client a.stamp a.body.bytes values) sizes reads frame)
    where
      same_share : (x y : Share) → Shares x ≡ Shares y → x ≡ y
      same_share x y e = cc
