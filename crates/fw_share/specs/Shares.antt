-- Shares as they are kept, and what holds of those that are.
use Rattle.std.specs.Prelude.{◌≡◌, ◌<◌, false, List, [], ◌∷◌, length, Option, Some, None, IsTrue}
use Rattle.fw_list.specs.declared.limits.TheConstants.{SIGNATURE_LEN}
use Rattle.fw_base.specs.declared.params.Params.{Params}
use Rattle.fw_base.specs.Sizes.{executors}
use Rattle.fw_trace.specs.declared.Share as shares
use Rattle.fw_trace.specs.Filter.{has_share}
use Rattle.fw_frame.specs.Frames.{PlainFrame}
use Rattle.fw_frame.specs.Ranges.{frame_fits}
use Rattle.fw_frame.specs.View.{Given, Frame, Shares, viewed}
use Rattle.fw_rules.specs.Roles.{Valued}
use Rattle.fw_share.specs.declared.kept.Answer.{Answer}
use Rattle.fw_share.specs.declared.kept.KeptShare.{KeptShare}

-- a share: its number, its executor, its answers and its values
abbrev pub Share : Type 0
Share = shares.Share Valued

-- at most one answer
abbrev pub answers_of : Option Answer → List Given
answers_of None = []
answers_of (Some a) = record { client = a.client; stamp = a.stamp; body = a.body } ∷ []

-- what a share that is kept says
abbrev pub valued : KeptShare → Share
valued s = record { number = s.number; exec = s.exec; value = (answers_of s.answer, s.values) }

-- the share that a frame is
abbrev pub share_in : Frame → Option Share
share_in (Shares s) = Some (record { number = s.number; exec = s.exec; value = (s.answers, s.values) })
share_in _ = None

-- a frame of the deployment is seen so
abbrev pub IsSeen : Params → Frame → Type 0
IsSeen p v = (f : PlainFrame) × IsTrue (frame_fits p f) × (viewed f ≡ v)

-- a share of one of the deployment's executors, with all its values
pub record IsWhole (p : Params) (s : Share) : Type 0 where
  pub exec : s.exec < executors p
  pub values : length s.value.1 ≡ SIGNATURE_LEN

-- no two have the same number and the same executor
abbrev pub AreFirsts : List Share → Type 0
AreFirsts [] = Unit {0}
AreFirsts (s ∷ kept) = (has_share kept s.number s.exec ≡ false) × AreFirsts kept
