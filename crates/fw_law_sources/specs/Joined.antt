-- The values of a reply that a filter makes of shares.
use Rattle.std.specs.Prelude.{ℕ, ◌+◌, ◌≡◌, ◌≢◌, List, [], ◌∷◌, map, length}
use Rattle.fw_base.specs.declared.seat.Seat.TheVariants as seats
use Rattle.fw_base.specs.declared.slot.Slot.TheVariants as slots
use Rattle.fw_trace.specs.declared.Input.{Input}
use Rattle.fw_trace.specs.declared.Share as shares
use Rattle.fw_trace.specs.Lists.{In}
use Rattle.fw_frame.specs.Parts.{Part}
use Rattle.fw_frame.specs.View.{Given}
use Rattle.fw_rules.specs.Means.{Means}
use Rattle.fw_rules.specs.Signing.{reply_text}
use Rattle.fw_rules.specs.Roles.{Valued, filter_speech}
use Rattle.fw_law_filter.specs.Heard.{WasHeard, IsShare}
use Rattle.fw_law_sources.specs.Sources.{IsHeard}

-- the list of values of a share, as a part
abbrev pub part_of_share : shares.Share Valued → Part
part_of_share s = record { slot = slots.Reply s.number; point = s.exec + 1; text = reply_text s.number s.value.0; values = s.value.1 }

-- a share of a number and with answers, which was heard
pub record IsHeardShare {M O : Type 0} (k : Means M) (r c : ℕ) (h : List (Input M O)) (number : ℕ) (answers : List Given) (s : shares.Share Valued) : Type 0 where
  pub of_number : s.number ≡ number
  pub with_answers : s.value.0 ≡ answers
  pub told : WasHeard (IsShare (filter_speech k r c) s) h
  pub heard : WasHeard (IsHeard k (seats.Filter r c) (part_of_share s)) h

-- no two are by one executor
abbrev pub AreByDistinct : List (shares.Share Valued) → Type 0
AreByDistinct [] = Unit {0}
AreByDistinct (s ∷ ss) = ((t : shares.Share Valued) → In t ss → t.exec ≢ s.exec) × AreByDistinct ss

abbrev pub point_of : shares.Share Valued → ℕ × List ℕ
point_of s = (s.exec + 1, s.value.1)

-- the values that shares are joined to, as a part
abbrev pub joined_part : {M : Type 0} → Means M → ℕ → List Given → List (shares.Share Valued) → Part
joined_part k n answers joined = record { slot = slots.Reply n; point = 0; text = reply_text n answers; values = k.join (map point_of joined) }

-- it is joined of g + 1 shares of one number and with the same answers, by distinct executors
pub record IsJoined {M O : Type 0} (k : Means M) (r c : ℕ) (h : List (Input M O)) (part : Part) : Type 0 where
  pub number : ℕ
  pub answers : List Given
  pub joined : List (shares.Share Valued)
  pub count : length joined ≡ k.params.g + 1
  pub each : (s : shares.Share Valued) → In s joined → IsHeardShare k r c h number answers s
  pub distinct : AreByDistinct joined
  pub is : part ≡ joined_part k number answers joined
