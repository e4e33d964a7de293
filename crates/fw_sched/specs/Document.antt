-- Which bytes are the document of a plan.
use Rattle.std.specs.Prelude.{◌≡◌, ℕ, ◌+◌, Bool, true, false, nat_eq, nat_lt, List, [], ◌∷◌, None, Some, codes, IsTrue, if◌then◌else◌}
use Rattle.std.specs.List.{list_all}
use Rattle.std.specs.Str.{IsUtf8}
use Rattle.toml.specs.Data.{Members}
use Rattle.toml.specs.Parse.{parse_document}
use Rattle.fw_base.specs.declared.params.Params.{Params}
use Rattle.fw_base.specs.Sizes.{accepted}
use Rattle.fw_base.specs.declared.seat.Seat.{Seat}
use Rattle.fw_base.specs.declared.seat.Seat.TheVariants.{Agree, Exec, Filter}
use Rattle.fw_base.specs.Seats.{fits, seat_index}
use Rattle.fw_base.specs.Names.{seat_name}
use Rattle.fw_op.specs.declared.start.Start.{Start}
use Rattle.fw_record.specs.Records.{start_text, start_fits, is_new}
use Rattle.fw_step.specs.declared.step.Step.{Step}
use Rattle.fw_step.specs.declared.step.Step.TheVariants.{Submit}
use Rattle.fw_step.specs.Spelling.{IsStepText}
use Rattle.fw_step.specs.Fitting.{step_fits}
use Rattle.fw_sched.specs.declared.plan.Plan.{Plan}
use Rattle.fw_sched.specs.Members.{number_at, seed_at, texts_at, fields, first_wrong, least_other}
use Rattle.fw_sched.specs.Reading.{Reads}

-- the bytes are a TOML document of these members
pub record IsToml (bytes : List ℕ) (members : Members) : Type 0 where
  pub utf8 : IsUtf8 bytes
  pub parsed : parse_document bytes ≡ Some members

-- what stands at the names of a document: sizes, seed, and the texts of its records, faulty seats and steps
pub record Head : Type 0 where
  pub params : Params
  pub seed : List ℕ
  pub records : List (List ℕ)
  pub faulty : List (List ℕ)
  pub steps : List (List ℕ)

abbrev pub HasNumber : Members → List ℕ → ℕ → Type 0
HasNumber members name n = number_at members name ≡ Some n

pub record HasSizes (members : Members) (p : Params) : Type 0 where
  pub f : HasNumber members (codes "f") p.f
  pub g : HasNumber members (codes "g") p.g
  pub h : HasNumber members (codes "h") p.h
  pub numbers : HasNumber members (codes "numbers") p.numbers
  pub views : HasNumber members (codes "views") p.views
  pub clients : HasNumber members (codes "clients") p.clients
  pub stamps : HasNumber members (codes "stamps") p.stamps
  pub pipe : HasNumber members (codes "pipe") p.pipe

-- the members have this head: each field is there, of its kind and within its limit, and there is no other name
pub record HasHead (members : Members) (h : Head) : Type 0 where
  pub right : first_wrong (fields members) ≡ None
  pub sizes : HasSizes members h.params
  pub seed : seed_at members ≡ Some h.seed
  pub records : texts_at members (codes "records") ≡ Some h.records
  pub faulty : texts_at members (codes "faulty") ≡ Some h.faulty
  pub steps : texts_at members (codes "steps") ≡ Some h.steps
  pub no_other : least_other members ≡ None

-- ---- the items of the three arrays

-- a record: its text, within the deployment, and of a name that none before it has
pub record IsRecord (p : Params) (before : List Start) (text : List ℕ) (s : Start) : Type 0 where
  pub spelled : text ≡ start_text s
  pub fits : IsTrue (start_fits p.clients s)
  pub new : IsTrue (is_new before s)

-- how many of the seats are of the kind of this one
abbrev pub same_kind : Seat → Seat → Bool
same_kind (Agree i) (Agree j) = true
same_kind (Exec i) (Exec j) = true
same_kind (Filter r c) (Filter s d) = true
same_kind _ _ = false

abbrev pub count_of : Seat → List Seat → ℕ
count_of seat [] = 0
count_of seat (other ∷ seats) = if same_kind seat other then count_of seat seats + 1 else count_of seat seats

-- one more of its kind may be faulty; of clients any number may
abbrev pub may_fail : Params → List Seat → Seat → Bool
may_fail p before (Agree i) = nat_lt (count_of (Agree i) before) p.f
may_fail p before (Exec j) = nat_lt (count_of (Exec j) before) p.g
may_fail p before (Filter r c) = nat_lt (count_of (Filter r c) before) p.h
may_fail p before _ = true

-- a faulty seat: its name, above those before it in the order of all seats, and not one too many of its kind
pub record IsFaultySeat (p : Params) (before : List Seat) (text : List ℕ) (seat : Seat) : Type 0 where
  pub named : text ≡ seat_name seat
  pub fits : IsTrue (fits p seat)
  pub above : IsTrue (list_all (λ s. nat_lt (seat_index p s) (seat_index p seat)) before)
  pub few : IsTrue (may_fail p before seat)

-- how often steps submit to a client
abbrev pub submissions_of : ℕ → List Step → ℕ
submissions_of c [] = 0
submissions_of c (Submit client op ∷ steps) = if nat_eq client c then submissions_of c steps + 1 else submissions_of c steps
submissions_of c (_ ∷ steps) = submissions_of c steps

-- a submission is one of at most so many to its client
abbrev pub is_free : Params → List Step → Step → Bool
is_free p before (Submit client op) = nat_lt (submissions_of client before) p.stamps
is_free p before _ = true

-- a step: its text, within the deployment with these faulty seats, and not a submission too many
pub record IsStep (p : Params) (faulty : List Seat) (before : List Step) (text : List ℕ) (s : Step) : Type 0 where
  pub spelled : IsStepText text s
  pub fits : IsTrue (step_fits p faulty s)
  pub free : IsTrue (is_free p before s)

-- ---- the whole

-- the bytes are a document of the plan
pub record IsDocument (bytes : List ℕ) (p : Plan) : Type 0 where
  pub members : Members
  pub toml : IsToml bytes members
  pub head : Head
  pub says : HasHead members head
  pub sizes : IsTrue (accepted p.params)
  pub params : p.params ≡ head.params
  pub seed : p.seed ≡ head.seed
  pub starts : Reads (IsRecord p.params) [] head.records p.starts
  pub faulty : Reads (IsFaultySeat p.params) [] head.faulty p.faulty
  pub steps : Reads (IsStep p.params p.faulty) [] head.steps p.steps
