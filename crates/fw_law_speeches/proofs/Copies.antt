-- What a filter of a deployment holds, and how many copies of a reply it sends to a seat that isn't above.
use Rattle.std.proofs.Common.{ℕ, ◌+◌, ◌≤◌, ◌≡◌, false, List, Some, ap, subst, IsTrue, arith}
use Rattle.fw_base.specs.declared.seat.Seat.{Seat}
use Rattle.fw_base.specs.declared.seat.Seat.TheVariants.{Filter}
use Rattle.fw_base.specs.Sizes.{accepted}
use Rattle.fw_base.specs.Seats.{above}
use Rattle.fw_trace.specs.declared.Input.{Input}
use Rattle.fw_trace.specs.Role.{Role, kept, sends}
use Rattle.fw_trace.specs.Filter as filters
use Rattle.fw_trace.specs.Lists.{In}
use Rattle.fw_directory.specs.Directories.{PlainDirectory}
use Rattle.fw_hand.specs.Hands.{PlainHand}
use Rattle.fw_rules.specs.Means.{Means}
use Rattle.fw_rules.specs.Roles.{Valued, filter_speech}
use Rattle.fw_rules.specs.Deployed.{means_of}
use Rattle.fw_law_filter.specs.Heard.{WasHeard, IsAgreed}
use Rattle.fw_law_filter.specs.Copies.{copies, agreed_from}
use Rattle.fw_law_filter.proofs.Counting.{few_copies, no_copies}
use Rattle.fw_law_filter.proofs.Settled.{made_held}
use Rattle.fw_law_speeches.specs.Frames.{is_reply_of, ReadsNumbers, numbered_speech}
use Rattle.fw_law_speeches.proofs.Combining.{combines_by_number}
use Rattle.fw_law_speeches.proofs.Numbers.{reads_numbers}
use Rattle.fw_law_speeches.proofs.Telling.{tells_replies, same_role}
use Rattle.fw_law_speeches.proofs.Below.{downs_once, none_above}

module _ {M O : Type 0} (k : Means M) (r c : ℕ) where
  pub speech_made : (h : List (Input M O)) (n : ℕ) (reply : M) → (filter_speech k r c).combined n (kept (filters.filter_role (filter_speech k r c)) h).shares ≡ Some reply → (held : M) × In (n, held) (kept (filters.filter_role (filter_speech k r c)) h).held
  speech_made h n reply e = made_held (filter_speech k r c) (combines_by_number k r c) h n reply e

  module _ (reads : ReadsNumbers k) (n : ℕ) (seat : Seat) (over : above k.params (Filter r c) seat ≡ false) where
    pub speech_few : (h : List (Input M O)) → copies (sends (filters.filter_role (filter_speech k r c))) (is_reply_of k n) seat h ≤ 1 + agreed_from (filter_speech k r c) seat n h
    speech_few h =
        let few = few_copies (numbered_speech k r c) n (is_reply_of k n) (tells_replies k reads r c n) seat (none_above k.params r c seat over) h in
        let once = downs_once k.params r seat in
        let bound : copies (sends (filters.filter_role (numbered_speech k r c))) (is_reply_of k n) seat h ≤ 1 + agreed_from (filter_speech k r c) seat n h = omega (arith, few, once) in
        subst (λ (role : Role (filters.Filter M Valued) M O). copies (sends role) (is_reply_of k n) seat h ≤ 1 + agreed_from (filter_speech k r c) seat n h) (same_role k reads r c) bound

    pub speech_none : (h : List (Input M O)) → (WasHeard (IsAgreed (filter_speech k r c) n) h → ⊥) → copies (sends (filters.filter_role (filter_speech k r c))) (is_reply_of k n) seat h ≡ 0
    speech_none h unheard =
        subst (λ (role : Role (filters.Filter M Valued) M O). copies (sends role) (is_reply_of k n) seat h ≡ 0) (same_role k reads r c)
        (no_copies (numbered_speech k r c) n (is_reply_of k n) (tells_replies k reads r c n) seat (none_above k.params r c seat over) h unheard)

-- its own speech and the one that makes replies of numbers of the list alone send the same
pub speech_acts : {M O : Type 0} (k : Means M) → ReadsNumbers k → (r c : ℕ) (h : List (Input M O)) → sends (filters.filter_role (numbered_speech k r c)) h ≡ sends (filters.filter_role (filter_speech k r c)) h
speech_acts {M = M} {O = O} k reads r c h = ap (λ (role : Role (filters.Filter M Valued) M O). sends role h) (same_role k reads r c)

module _ {O : Type 0} (d : PlainDirectory) (hand : PlainHand) (ok : IsTrue (accepted d.params)) (r c n : ℕ) (seat : Seat) (over : above d.params (Filter r c) seat ≡ false) where
  pub deployed_few : (h : List (Input (List ℕ) O)) → copies (sends (filters.filter_role (filter_speech (means_of d hand) r c))) (is_reply_of (means_of d hand) n) seat h ≤ 1 + agreed_from (filter_speech (means_of d hand) r c) seat n h
  deployed_few h = speech_few (means_of d hand) r c (reads_numbers d hand ok) n seat over h

  pub deployed_none : (h : List (Input (List ℕ) O)) → (WasHeard (IsAgreed (filter_speech (means_of d hand) r c) n) h → ⊥) → copies (sends (filters.filter_role (filter_speech (means_of d hand) r c))) (is_reply_of (means_of d hand) n) seat h ≡ 0
  deployed_none h unheard = speech_none (means_of d hand) r c (reads_numbers d hand ok) n seat over h unheard
