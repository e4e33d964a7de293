-- What holds of every trace of a deployment of a deal in which nobody is faulty and one agreement node decides.
use Rattle.std.specs.Prelude.{ℕ, ◌-◌, ◌≡◌, ◌≤◌, List, map, length, Option, Some, slice_get, Contains, IsTrue}
use Rattle.fw_base.specs.declared.params.Params.{Params}
use Rattle.fw_base.specs.declared.seat.Seat.TheVariants.{Agree, Filter}
use Rattle.fw_op.specs.declared.op.Op.{Op}
use Rattle.fw_op.specs.declared.reply.Reply as said
use Rattle.fw_record.specs.Records.{starts_fit}
use Rattle.fw_trace.specs.declared.Told.{Told}
use Rattle.fw_trace.specs.declared.Sent.{Sent}
use Rattle.fw_trace.specs.Trace.{Trace}
use Rattle.fw_frame.specs.Frames.{Reply}
use Rattle.fw_frame.specs.Ranges.{IsFrame}
use Rattle.fw_frame.specs.View.{Entry, plain_entry_of}
use Rattle.fw_directory.specs.Directories.{PlainDirectory}
use Rattle.fw_deal.specs.Deals.{PlainDeal, IsDirectoryOf, hand_of}
use Rattle.fw_ref.specs.Reference.{Replied, at_start, answers}
use Rattle.fw_ref.specs.Bodies.{entry_opened}
use Rattle.fw_ref.specs.Certificates.{keys_of, permitted}
use Rattle.fw_rules.specs.World.{Deployed, agreed_in, agreed, accepted_by, let_down}

-- the directory of a deal with one agreement node, and with records that executors can start with
pub record OneDecides (deal : PlainDeal) (d : PlainDirectory) : Type 0 where
  pub directory : IsDirectoryOf deal.origin d
  pub one : deal.origin.params.f ≡ 0
  pub starts : IsTrue (starts_fit deal.origin.params.clients deal.starts)

-- its deployment: the directory, and each seat's hand
abbrev pub deployed : PlainDeal → PlainDirectory → Deployed
deployed deal d = record { directory = d; hand = hand_of deal }

-- the reference's answer at a number of a list
abbrev pub answer_at : PlainDeal → List Entry → ℕ → Option Replied
answer_at deal list n =
    slice_get (answers (at_start deal.starts) (map (entry_opened (keys_of deal.origin)) (map plain_entry_of list))) (n - 1)

-- all agreed frames of a number are one frame, whoever sent them
abbrev pub AgreesOnce : PlainDeal → PlainDirectory → Trace (List ℕ) Op → Type 0
AgreesOnce deal d t =
    (s u : Sent (List ℕ)) (n : ℕ) (e g : Entry) → Contains t.pool s → Contains t.pool u → agreed_in d s.message ≡ Some (n, e) → agreed_in d u.message ≡ Some (n, g)
    → s.message ≡ u.message

-- what a client was told is the reference's answer to it, at a number of the list
pub record IsAnswer (deal : PlainDeal) (list : List Entry) (c : ℕ) (told : Told said.Reply) : Type 0 where
  pub from : 1 ≤ told.number
  pub within : told.number ≤ length list
  pub is : answer_at deal list told.number ≡ Some (record { client = c; stamp = told.stamp; reply = told.reply })

-- whatever a client has accepted is the reference's answer to the agreed list
abbrev pub AcceptsAnswers : PlainDeal → PlainDirectory → Trace (List ℕ) Op → Type 0
AcceptsAnswers deal d t =
    (c : ℕ) (told : Told said.Reply) → Contains (accepted_by (deployed deal d) c t) told → IsAnswer deal (agreed (deployed deal d) t) c told

-- the bytes are a reply frame of a deployment, of this number
pub record IsReplyOf (p : Params) (number : ℕ) (bytes : List ℕ) : Type 0 where
  pub client : ℕ
  pub stamp : ℕ
  pub body : List ℕ
  pub secrets : List ℕ
  pub frame : IsFrame p bytes (Reply number client stamp body secrets)

-- the bytes are the reply frame of a number of the list, the one that the list permits for it
pub record IsCertificate (deal : PlainDeal) (list : List Entry) (bytes : List ℕ) : Type 0 where
  pub number : ℕ
  pub from : 1 ≤ number
  pub within : number ≤ length list
  pub is : slice_get (permitted deal.origin deal.starts (map plain_entry_of list)) (number - 1) ≡ Some bytes
  pub reply : IsReplyOf deal.origin.params number bytes

-- whatever a row of filters sent downwards is a certificate of the agreed list
abbrev pub LetsDownCertificates : PlainDeal → PlainDirectory → Trace (List ℕ) Op → Type 0
LetsDownCertificates deal d t =
    (r : ℕ) (s : Sent (List ℕ)) → Contains (let_down r t) s → IsCertificate deal (agreed (deployed deal d) t) s.message

-- whatever a filter sent to an agreement node is one
abbrev pub SendsCertificates : PlainDeal → PlainDirectory → Trace (List ℕ) Op → Type 0
SendsCertificates deal d t =
    (r c i : ℕ) (m : List ℕ) → Contains t.pool (record { from = Filter r c; to = Agree i; message = m }) → IsCertificate deal (agreed (deployed deal d) t) m
