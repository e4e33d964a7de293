-- What is found of a document's members, step by step, up to its plan or its first fault.
use Rattle.std.specs.Prelude.{◌≡◌, ◌<◌, ◌^◌, ℕ, Bool, true, nat_lt, List, [], map, slice_index, Option, None, Some, Result, Ok, Err, codes, unwrap_or}
use Rattle.toml.specs.Data.{Members, as_str}
use Rattle.toml.specs.View.{view}
use Rattle.toml.specs.declared.value.Value.{Value}
use Rattle.fw_base.specs.declared.params.Params.{Params}
use Rattle.fw_base.specs.declared.params.ParamFault.{ParamFault}
use Rattle.fw_base.specs.declared.params.ParamFault.TheVariants as params
use Rattle.fw_base.specs.Checks.{whole_fault}
use Rattle.fw_base.specs.declared.seat.Seat.{Seat}
use Rattle.fw_op.specs.declared.start.Start.{Start}
use Rattle.fw_step.specs.declared.step.Step.{Step}
use Rattle.fw_step.specs.declared.step.Step.TheVariants.{Submit}
use Rattle.fw_sched.specs.declared.fields.Head.{Head as ReadHead}
use Rattle.fw_sched.specs.declared.plan.Plan.{Plan}
use Rattle.fw_sched.specs.declared.fault.InputFault.{InputFault}
use Rattle.fw_sched.specs.declared.fault.InputFault.TheVariants as faults
use Rattle.fw_sched.specs.Members.{seed_at, texts_at}
use Rattle.fw_sched.specs.Reading.{Rule, Reads, StopsAt}
use Rattle.fw_sched.specs.Document.{Head, HasSizes, HasHead, IsRecord, IsFaultySeat, IsStep, submissions_of}
use Rattle.fw_sched.specs.Faults.{field_fault}

-- the text of an item, or no text where it isn't one
abbrev pub text_in : Value → List ℕ
text_in v = unwrap_or (as_str (view v)) []

abbrev pub texts_in : List Value → List (List ℕ)
texts_in vs = map text_in vs

-- the numbers that the members say fit in the fields of sizes
pub record AreShort (p : Params) : Type 0 where
  pub f : p.f < 2 ^ 32
  pub g : p.g < 2 ^ 32
  pub h : p.h < 2 ^ 32
  pub numbers : p.numbers < 2 ^ 32
  pub views : p.views < 2 ^ 32
  pub clients : p.clients < 2 ^ 32
  pub stamps : p.stamps < 2 ^ 32
  pub pipe : p.pipe < 2 ^ 32

-- the head stands in the members, whatever its numbers are and whatever else stands there
pub record HasParts (members : Members) (h : Head) : Type 0 where
  pub sizes : HasSizes members h.params
  pub seed : seed_at members ≡ Some h.seed
  pub records : texts_at members (codes "records") ≡ Some h.records
  pub faulty : texts_at members (codes "faulty") ≡ Some h.faulty
  pub steps : texts_at members (codes "steps") ≡ Some h.steps

-- the counts are those of the submissions to each client
abbrev pub AreCounts : List ℕ → List Step → Type 0
AreCounts counts steps = (c : ℕ) → c < 8 → slice_index counts c ≡ submissions_of c steps

-- a submission to one of the clients that are counted, or no submission
abbrev pub has_counter : Step → Bool
has_counter (Submit client op) = nat_lt client 8
has_counter _ = true

-- the head that stands in a document's values
abbrev pub said : ReadHead → Head
said h = record { params = h.params; seed = h.seed; records = texts_in h.records.now; faulty = texts_in h.faulty.now; steps = texts_in h.steps.now }

-- texts that are read are items, or there is a place where they stop
abbrev pub Found : {A : Type 0} → Rule A → List (List ℕ) → Result (List A) ℕ → Type 0
Found Is texts (Ok items) = Reads Is [] texts items
Found Is texts (Err place) = StopsAt Is texts place

abbrev pub Verdict : Type 0
Verdict = Result Plan InputFault

abbrev pub plan_of : Head → List Start → List Seat → List Step → Plan
plan_of h starts faulty steps = record { params = h.params; seed = h.seed; faulty = faulty; starts = starts; steps = steps }

-- behind the head, the records and the faulty seats
abbrev pub FromSteps : Head → List Start → List Seat → Result (List Step) ℕ → Verdict → Type 0
FromSteps h starts faulty (Ok steps) verdict = verdict ≡ Ok (plan_of h starts faulty steps)
FromSteps h starts faulty (Err place) verdict = verdict ≡ Err (faults.Step place)

-- behind the head and the records
abbrev pub FromFaulty : Head → List Start → Result (List Seat) ℕ → Verdict → Type 0
FromFaulty h starts (Ok faulty) verdict = (read : Result (List Step) ℕ) × Found (IsStep h.params faulty) h.steps read × FromSteps h starts faulty read verdict
FromFaulty h starts (Err place) verdict = verdict ≡ Err (faults.Faulty place)

-- behind the head
abbrev pub FromRecords : Head → Result (List Start) ℕ → Verdict → Type 0
FromRecords h (Ok starts) verdict = (read : Result (List Seat) ℕ) × Found (IsFaultySeat h.params) h.faulty read × FromFaulty h starts read verdict
FromRecords h (Err place) verdict = verdict ≡ Err (faults.Record place)

-- where the sizes are a deployment's, or are at fault
abbrev pub FromSizes : Head → Option ParamFault → Verdict → Type 0
FromSizes h None verdict = (read : Result (List Start) ℕ) × Found (IsRecord h.params) h.records read × FromRecords h read verdict
FromSizes h (Some (params.Field k)) verdict = verdict ≡ Err (faults.Field (codes "numbers"))
FromSizes h (Some (params.TooManyKeys keys)) verdict = verdict ≡ Err (faults.Keys keys)

-- the whole
abbrev pub FromFields : Members → Option (List ℕ) → Verdict → Type 0
FromFields table None verdict = (h : Head) × HasHead table h × FromSizes h (whole_fault h.params) verdict
FromFields table (Some name) verdict = verdict ≡ Err (faults.Field name)

abbrev pub IsVerdict : Members → Verdict → Type 0
IsVerdict members verdict = FromFields members (field_fault members) verdict
