-- Which fault of bytes that are no document comes first.
use Rattle.std.specs.Prelude.{◌≡◌, ℕ, List, [], Option, None, Some, ◌⊎◌, codes, IsTrue}
use Rattle.std.specs.Str.{IsUtf8}
use Rattle.toml.specs.Data.{Members}
use Rattle.fw_base.specs.declared.params.ParamFault.TheVariants as params
use Rattle.fw_base.specs.Checks.{whole_fault}
use Rattle.fw_base.specs.Sizes.{accepted}
use Rattle.fw_base.specs.declared.seat.Seat.{Seat}
use Rattle.fw_op.specs.declared.start.Start.{Start}
use Rattle.fw_sched.specs.declared.fault.InputFault.{InputFault}
use Rattle.fw_sched.specs.declared.fault.InputFault.TheVariants.{NotToml, Field, Keys, Record, Faulty, Step, Seat as NoSeat, Hand}
use Rattle.fw_sched.specs.Members.{fields, first_wrong, least_other}
use Rattle.fw_sched.specs.Reading.{Reads, StopsAt}
use Rattle.fw_sched.specs.Document.{IsToml, Head, HasHead, IsRecord, IsFaultySeat, IsStep}

-- the first field that isn't as it has to be; else the least other name
abbrev pub field_fault : Members → Option (List ℕ)
field_fault members = elim (first_wrong (fields members)) [ Some name ↦ Some name | None ↦ least_other members ]

-- the bytes are TOML with a head of which this holds
pub record HeadOf (bytes : List ℕ) (P : Head → Type 0) : Type 0 where
  pub members : Members
  pub toml : IsToml bytes members
  pub head : Head
  pub says : HasHead members head
  pub holds : P head

-- the same, where the sizes are a deployment's
abbrev pub Sized : List ℕ → (Head → Type 0) → Type 0
Sized bytes P = HeadOf bytes (λ h. IsTrue (accepted h.params) × P h)

-- the records are read, and this holds of the head behind them
abbrev pub RecordsRead : Head → Type 0
RecordsRead h = (starts : List Start) × Reads (IsRecord h.params) [] h.records starts

-- the first fault of the bytes: no TOML; a field, or another name, or more stamps than numbers; too many keys; the first
-- record, faulty seat or step that isn't one
abbrev pub IsFault : List ℕ → InputFault → Type 0
IsFault bytes NotToml = (members : Members) → ¬ IsToml bytes members
IsFault bytes (Field name) =
    ((members : Members) × IsToml bytes members × (field_fault members ≡ Some name))
    ⊎ ((name ≡ codes "numbers") × HeadOf bytes (λ h. whole_fault h.params ≡ Some (params.Field 3)))
IsFault bytes (Keys keys) = HeadOf bytes (λ h. whole_fault h.params ≡ Some (params.TooManyKeys keys))
IsFault bytes (Record index) = Sized bytes (λ h. StopsAt (IsRecord h.params) h.records index)
IsFault bytes (Faulty index) = Sized bytes (λ h. RecordsRead h × StopsAt (IsFaultySeat h.params) h.faulty index)
IsFault bytes (Step index) =
    Sized bytes (λ h. RecordsRead h × ((faulty : List Seat) × Reads (IsFaultySeat h.params) [] h.faulty faulty × StopsAt (IsStep h.params faulty) h.steps index))
IsFault bytes NoSeat = ⊥
IsFault bytes Hand = ⊥

-- bytes that may want memory: a text. Where it is blank the name of its first fault is copied
pub record MayWant (bytes : List ℕ) : Type 0 where
  pub utf8 : IsUtf8 bytes
