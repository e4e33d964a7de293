-- Of a document's members there is one verdict: its plan, or its first fault.
use Rattle.std.proofs.Common.{◌≡◌, ℕ, ◌<◌, ◌^◌, true, nat_lt, List, [], ◌∷◌, map, Option, None, Some, Result, Ok, Err, IfOk, IfErr, codes, inl, inr, refl, sym, ap, ap₂, ◌∙◌, subst, arith}
use Rattle.std.proofs.lemmas.Bool.{and_parts, ltb-true}
use Rattle.std.proofs.lemmas.Option.{same_Some}
use Rattle.std.specs.List.{list_all}
use Rattle.toml.specs.Data.{Members}
use Rattle.fw_base.specs.declared.params.Params.{Params}
use Rattle.fw_base.specs.declared.params.ParamFault.{ParamFault}
use Rattle.fw_base.specs.declared.params.ParamFault.TheVariants as params
use Rattle.fw_base.specs.declared.seat.Seat.{Seat}
use Rattle.fw_base.specs.Checks.{whole_fault, fault_of}
use Rattle.fw_base.specs.Sizes.{accepted}
use Rattle.fw_op.specs.declared.start.Start.{Start}
use Rattle.fw_op.specs.Words.{client_word, words_of}
use Rattle.fw_record.specs.Records.{start_words, start_text, start_fits}
use Rattle.fw_record.proofs.Rising.{same_client}
use Rattle.fw_record.proofs.Texts.{words_of_start, fitting_of}
use Rattle.fw_step.specs.declared.step.Step.{Step}
use Rattle.fw_step.proofs.Whole.{small_sizes}
use Rattle.fw_step.proofs.One.{same_seat}
use Rattle.fw_step.proofs.Made.{one_step}
use Rattle.fw_sched.specs.declared.plan.Plan.{Plan}
use Rattle.fw_sched.specs.declared.fault.InputFault.{InputFault}
use Rattle.fw_sched.specs.declared.fault.InputFault.TheVariants as faults
use Rattle.fw_sched.specs.Reading.{Reads}
use Rattle.fw_sched.specs.Document.{IsToml, Head, HasHead, IsRecord, IsFaultySeat, IsStep, IsDocument}
use Rattle.fw_sched.specs.Faults.{field_fault, IsFault}
use Rattle.fw_sched.specs.Stages.{Found, Verdict, plan_of, FromSteps, FromFaulty, FromRecords, FromSizes, FromFields, IsVerdict}
use Rattle.fw_sched.proofs.Itemwise.{IsOne, found_once}
use Rattle.fw_sched.proofs.Heads.{sizes_accepted, whole_accepted, whole_field, whole_alone, no_field_fault, same_head}

-- ---- one item for a text

same_clients : (clients : ℕ) (xs ys : List ℕ) → clients < 2 ^ 32 → list_all (λ c. nat_lt c clients) xs ≡ true → list_all (λ c. nat_lt c clients) ys ≡ true → map client_word xs ≡ map client_word ys → xs ≡ ys
same_clients clients [] [] small g h e = refl
same_clients clients [] (y ∷ ys) small g h e = absurd (cc)
same_clients clients (x ∷ xs) [] small g h e = absurd (cc)
same_clients clients (x ∷ xs) (y ∷ ys) small g h e =
    let one = and_parts (nat_lt x clients) (list_all (λ c. nat_lt c clients) xs) g in
    let other = and_parts (nat_lt y clients) (list_all (λ c. nat_lt c clients) ys) h in
    let first : client_word x ≡ client_word y = cc in
    let later : map client_word xs ≡ map client_word ys = cc in
    ap₂ (λ (z : ℕ) (zs : List ℕ). z ∷ zs) (same_client x y clients small (ltb-true x clients one.0) (ltb-true y clients other.0) first) (same_clients clients xs ys small one.1 other.1 later)

pub same_start : (clients : ℕ) (a b : Start) → clients < 2 ^ 32 → start_fits clients a ≡ true → start_fits clients b ≡ true → start_text a ≡ start_text b → a ≡ b
same_start clients a b small g h e =
    let words : start_words a ≡ start_words b = sym (words_of_start clients a small g) ∙ ap words_of e ∙ words_of_start clients b small h in
    let one = fitting_of clients a g in
    let other = fitting_of clients b h in
    let owners : client_word a.owner ≡ client_word b.owner = cc in
    let key : a.key ≡ b.key = cc in
    let value : a.value ≡ b.value = cc in
    let readers : map client_word a.readers ≡ map client_word b.readers = cc in
    let make : ℕ → List ℕ → List ℕ → List ℕ → Start = λ o k v r. record { owner = o; key = k; value = v; readers = r } in
    ap (λ (o : ℕ). make o a.key a.value a.readers) (same_client a.owner b.owner clients small (ltb-true a.owner clients one.owner) (ltb-true b.owner clients other.owner) owners)
    ∙ ap₂ (λ (k v : List ℕ). make b.owner k v a.readers) key value
    ∙ ap (λ (r : List ℕ). make b.owner b.key b.value r) (same_clients clients a.readers b.readers small one.readers other.readers readers)

one_record : (p : Params) → accepted p ≡ true → IsOne (IsRecord p)
one_record p sizes before text a b x y = same_start p.clients a b (omega (arith, (small_sizes p sizes).clients)) x.fits y.fits (sym x.spelled ∙ y.spelled)

one_seat : (p : Params) → accepted p ≡ true → IsOne (IsFaultySeat p)
one_seat p sizes before text a b x y = same_seat p a b sizes x.fits y.fits (sym x.named ∙ y.named)

only_step : (p : Params) (faulty : List Seat) → accepted p ≡ true → IsOne (IsStep p faulty)
only_step p faulty sizes before text a b x y = one_step p faulty text a b sizes x.fits y.fits x.spelled y.spelled

-- ---- one verdict

from_steps_once : (h : Head) (starts : List Start) (faulty : List Seat) (read : Result (List Step) ℕ) (v w : Verdict) → FromSteps h starts faulty read v → FromSteps h starts faulty read w → v ≡ w
from_steps_once h starts faulty (Ok steps) v w a b = a ∙ sym b
from_steps_once h starts faulty (Err place) v w a b = a ∙ sym b

from_faulty_once : (h : Head) (starts : List Start) (read : Result (List Seat) ℕ) (v w : Verdict) → accepted h.params ≡ true → FromFaulty h starts read v → FromFaulty h starts read w → v ≡ w
from_faulty_once h starts (Err place) v w sizes a b = a ∙ sym b
from_faulty_once h starts (Ok faulty) v w sizes a b =
    let same = found_once (IsStep h.params faulty) (only_step h.params faulty sizes) h.steps a.0 b.0 a.1 b.1 in
    from_steps_once h starts faulty a.0 v w a.2 (subst (λ (r : Result (List Step) ℕ). FromSteps h starts faulty r w) (sym same) b.2)

from_records_once : (h : Head) (read : Result (List Start) ℕ) (v w : Verdict) → accepted h.params ≡ true → FromRecords h read v → FromRecords h read w → v ≡ w
from_records_once h (Err place) v w sizes a b = a ∙ sym b
from_records_once h (Ok starts) v w sizes a b =
    let same = found_once (IsFaultySeat h.params) (one_seat h.params sizes) h.faulty a.0 b.0 a.1 b.1 in
    from_faulty_once h starts a.0 v w sizes a.2 (subst (λ (r : Result (List Seat) ℕ). FromFaulty h starts r w) (sym same) b.2)

from_sizes_once : (h : Head) (fault : Option ParamFault) (v w : Verdict) → (fault ≡ None → accepted h.params ≡ true) → FromSizes h fault v → FromSizes h fault w → v ≡ w
from_sizes_once h None v w sizes a b =
    let same = found_once (IsRecord h.params) (one_record h.params (sizes refl)) h.records a.0 b.0 a.1 b.1 in
    from_records_once h a.0 v w (sizes refl) a.2 (subst (λ (r : Result (List Start) ℕ). FromRecords h r w) (sym same) b.2)
from_sizes_once h (Some (params.Field k)) v w sizes a b = a ∙ sym b
from_sizes_once h (Some (params.TooManyKeys keys)) v w sizes a b = a ∙ sym b

from_fields_once : (members : Members) (fault : Option (List ℕ)) (v w : Verdict) → FromFields members fault v → FromFields members fault w → v ≡ w
from_fields_once table (Some name) v w a b = a ∙ sym b
from_fields_once table None v w a b =
    let same = same_head table b.0 a.0 b.1 a.1 in
    from_sizes_once a.0 (whole_fault a.0.params) v w (sizes_accepted table a.0 a.1) a.2 (subst (λ (h : Head). FromSizes h (whole_fault h.params) w) same b.2)

verdict_once : (members : Members) (v w : Verdict) → IsVerdict members v → IsVerdict members w → v ≡ w
verdict_once members v w a b = from_fields_once members (field_fault members) v w a b

-- ---- what a verdict says

abbrev planned : Plan → Verdict
planned p = Ok p

abbrev faulted : InputFault → Verdict
faulted f = Err f

same_plan : (p q : Plan) → planned p ≡ planned q → p ≡ q
same_plan p q e = cc

same_fault : (f g : InputFault) → faulted f ≡ faulted g → f ≡ g
same_fault f g e = cc

no_plan : (p : Plan) (f : InputFault) → planned p ≡ faulted f → ⊥
no_plan p f e = cc

no_fault : (p : Plan) (f : InputFault) → faulted f ≡ planned p → ⊥
no_fault p f e = cc

-- a plan is that of a document
abbrev IsPlanOf : Head → Plan → Type 0
IsPlanOf h p = (starts : List Start) × (faulty : List Seat) × (steps : List Step) × (p ≡ plan_of h starts faulty steps) × Reads (IsRecord h.params) [] h.records starts × Reads (IsFaultySeat h.params) [] h.faulty faulty × Reads (IsStep h.params faulty) [] h.steps steps

plan_from_faulty : (h : Head) (starts : List Start) (read : Result (List Seat) ℕ) (p : Plan) → Reads (IsRecord h.params) [] h.records starts → Found (IsFaultySeat h.params) h.faulty read → FromFaulty h starts read (Ok p) → IsPlanOf h p
plan_from_faulty h starts (Err place) p records found from = absurd (no_plan p (faults.Faulty place) from)
plan_from_faulty h starts (Ok faulty) p records found (Err place, stops, from) = absurd (no_plan p (faults.Step place) from)
plan_from_faulty h starts (Ok faulty) p records found (Ok steps, reads, from) = (starts, faulty, steps, same_plan p (plan_of h starts faulty steps) from, records, found, reads)

plan_from_records : (h : Head) (read : Result (List Start) ℕ) (p : Plan) → Found (IsRecord h.params) h.records read → FromRecords h read (Ok p) → IsPlanOf h p
plan_from_records h (Err place) p found from = absurd (no_plan p (faults.Record place) from)
plan_from_records h (Ok starts) p found from = plan_from_faulty h starts from.0 p found from.1 from.2

plan_from_sizes : (h : Head) (fault : Option ParamFault) (p : Plan) → FromSizes h fault (Ok p) → (fault ≡ None) × IsPlanOf h p
plan_from_sizes h None p from = (refl, plan_from_records h from.0 p from.1 from.2)
plan_from_sizes h (Some (params.Field k)) p from = absurd (no_plan p (faults.Field (codes "numbers")) from)
plan_from_sizes h (Some (params.TooManyKeys keys)) p from = absurd (no_plan p (faults.Keys keys) from)

document_of : (bytes : List ℕ) (members : Members) (h : Head) (p : Plan) → IsToml bytes members → HasHead members h → accepted h.params ≡ true → IsPlanOf h p → IsDocument bytes p
document_of bytes members h p toml says sizes (starts, faulty, steps, is, records, seats, read) =
    subst (λ (q : Plan). IsDocument bytes q) (sym is) (record { members = members; toml = toml; head = h; says = says; sizes = sizes; params = refl; seed = refl; starts = records; faulty = seats; steps = read })

document_from_fields : (bytes : List ℕ) (members : Members) (fault : Option (List ℕ)) (p : Plan) → IsToml bytes members → FromFields members fault (Ok p) → IsDocument bytes p
document_from_fields bytes table (Some name) p toml from = absurd (no_plan p (faults.Field name) from)
document_from_fields bytes table None p toml from =
    let read = plan_from_sizes from.0 (whole_fault from.0.params) p from.2 in
    document_of bytes table from.0 p toml from.1 (sizes_accepted table from.0 from.1 read.0) read.1

pub document_from : (bytes : List ℕ) (members : Members) (p : Plan) → IsToml bytes members → IsVerdict members (Ok p) → IsDocument bytes p
document_from bytes members p toml from = document_from_fields bytes members (field_fault members) p toml from

-- a fault is the first
fault_from_faulty : (bytes : List ℕ) (members : Members) (h : Head) (starts : List Start) (read : Result (List Seat) ℕ) (f : InputFault) → IsToml bytes members → HasHead members h → accepted h.params ≡ true → Reads (IsRecord h.params) [] h.records starts
    → Found (IsFaultySeat h.params) h.faulty read → FromFaulty h starts read (Err f) → IsFault bytes f
fault_from_faulty bytes table h starts (Err place) f toml says sizes records stops from =
    subst (IsFault bytes) (sym (same_fault f (faults.Faulty place) from)) (record { members = table; toml = toml; head = h; says = says; holds = (sizes, ((starts, records), stops)) })
fault_from_faulty bytes table h starts (Ok faulty) f toml says sizes records seats (Ok steps, reads, from) = absurd (no_fault (plan_of h starts faulty steps) f from)
fault_from_faulty bytes table h starts (Ok faulty) f toml says sizes records seats (Err place, stops, from) =
    subst (IsFault bytes) (sym (same_fault f (faults.Step place) from)) (record { members = table; toml = toml; head = h; says = says; holds = (sizes, ((starts, records), (faulty, seats, stops))) })

fault_from_records : (bytes : List ℕ) (members : Members) (h : Head) (read : Result (List Start) ℕ) (f : InputFault) → IsToml bytes members → HasHead members h → accepted h.params ≡ true → Found (IsRecord h.params) h.records read → FromRecords h read (Err f) → IsFault bytes f
fault_from_records bytes table h (Err place) f toml says sizes stops from =
    subst (IsFault bytes) (sym (same_fault f (faults.Record place) from)) (record { members = table; toml = toml; head = h; says = says; holds = (sizes, stops) })
fault_from_records bytes table h (Ok starts) f toml says sizes records from = fault_from_faulty bytes table h starts from.0 f toml says sizes records from.1 from.2

fault_from_sizes : (bytes : List ℕ) (members : Members) (h : Head) (fault : Option ParamFault) (f : InputFault) → IsToml bytes members → HasHead members h → whole_fault h.params ≡ fault → FromSizes h fault (Err f) → IsFault bytes f
fault_from_sizes bytes table h None f toml says whole from = fault_from_records bytes table h from.0 f toml says (sizes_accepted table h says whole) from.1 from.2
fault_from_sizes bytes table h (Some (params.Field k)) f toml says whole from =
    subst (IsFault bytes) (sym (same_fault f (faults.Field (codes "numbers")) from)) (inr (refl, record { members = table; toml = toml; head = h; says = says; holds = whole ∙ ap Some (ap params.Field (whole_field h.params k whole)) }))
fault_from_sizes bytes table h (Some (params.TooManyKeys keys)) f toml says whole from =
    subst (IsFault bytes) (sym (same_fault f (faults.Keys keys) from)) (record { members = table; toml = toml; head = h; says = says; holds = whole })

fault_from_fields : (bytes : List ℕ) (members : Members) (fault : Option (List ℕ)) (f : InputFault) → IsToml bytes members → field_fault members ≡ fault → FromFields members fault (Err f) → IsFault bytes f
fault_from_fields bytes table None f toml e from = fault_from_sizes bytes table from.0 (whole_fault from.0.params) f toml from.1 refl from.2
fault_from_fields bytes table (Some name) f toml e from = subst (IsFault bytes) (sym (same_fault f (faults.Field name) from)) (inl (table, toml, e))

pub fault_from : (bytes : List ℕ) (members : Members) (f : InputFault) → IsToml bytes members → IsVerdict members (Err f) → IsFault bytes f
fault_from bytes members f toml from = fault_from_fields bytes members (field_fault members) f toml refl from

-- ---- the way back

same_members : (bytes : List ℕ) (a b : Members) → IsToml bytes a → IsToml bytes b → a ≡ b
same_members bytes a b x y = same_Some a b (sym x.parsed ∙ y.parsed)

from_head : (members : Members) (h : Head) (v : Verdict) → HasHead members h → FromSizes h (whole_fault h.params) v → IsVerdict members v
from_head members h v says from = subst (λ (o : Option (List ℕ)). FromFields members o v) (sym (no_field_fault members h says)) (h, says, from)

from_accepted : (members : Members) (h : Head) (v : Verdict) → HasHead members h → accepted h.params ≡ true → FromSizes h None v → IsVerdict members v
from_accepted members h v says sizes from = from_head members h v says (subst (λ (o : Option ParamFault). FromSizes h o v) (sym (whole_accepted h.params sizes)) from)

from_fault : (members : Members) (h : Head) (v : Verdict) (fault : ParamFault) → HasHead members h → whole_fault h.params ≡ Some fault → FromSizes h (Some fault) v → IsVerdict members v
from_fault members h v fault says whole from = from_head members h v says (subst (λ (o : Option ParamFault). FromSizes h o v) (sym whole) from)

-- what stands behind a head is what stands behind its members
pub verdict_from_head : (members : Members) (h : Head) (v : Verdict) → HasHead members h → FromSizes h (fault_of h.params) v → IsVerdict members v
verdict_from_head members h v says from = from_head members h v says (subst (λ (o : Option ParamFault). FromSizes h o v) (whole_alone members h says) from)

-- a verdict on the members of the bytes
record VerdictOn (bytes : List ℕ) (v : Verdict) : Type 0 where
  members : Members
  toml : IsToml bytes members
  is : IsVerdict members v

verdict_of_document : (bytes : List ℕ) (p : Plan) → IsDocument bytes p → VerdictOn bytes (Ok p)
verdict_of_document bytes p d =
    let h = d.head in
    let make : Params → List ℕ → Plan = λ q seed. record { params = q; seed = seed; faulty = p.faulty; starts = p.starts; steps = p.steps } in
    let is : p ≡ plan_of h p.starts p.faulty p.steps = ap (λ (q : Params). make q p.seed) d.params ∙ ap (λ (s : List ℕ). make h.params s) d.seed in
    let sizes : accepted h.params ≡ true = subst (λ (q : Params). accepted q ≡ true) d.params d.sizes in
    let records = subst (λ (q : Params). Reads (IsRecord q) [] h.records p.starts) d.params d.starts in
    let seats = subst (λ (q : Params). Reads (IsFaultySeat q) [] h.faulty p.faulty) d.params d.faulty in
    let read = subst (λ (q : Params). Reads (IsStep q p.faulty) [] h.steps p.steps) d.params d.steps in
    record { members = d.members; toml = d.toml; is = from_accepted d.members h (Ok p) d.says sizes (Ok p.starts, records, (Ok p.faulty, seats, (Ok p.steps, read, ap planned is))) }

verdict_of_fault : (bytes : List ℕ) (f : InputFault) → IsFault bytes f → (f ≡ faults.NotToml → ⊥) → VerdictOn bytes (Err f)
verdict_of_fault bytes faults.NotToml is toml = absurd (toml refl)
verdict_of_fault bytes (faults.Field name) (inl (members, toml, e)) not = record { members = members; toml = toml; is = subst (λ (o : Option (List ℕ)). FromFields members o (Err (faults.Field name))) (sym e) refl }
verdict_of_fault bytes (faults.Field name) (inr (named, x)) not =
    record { members = x.members; toml = x.toml; is = from_fault x.members x.head (Err (faults.Field name)) (params.Field 3) x.says x.holds (ap (λ (n : List ℕ). faulted (faults.Field n)) named) }
verdict_of_fault bytes (faults.Keys keys) x not = record { members = x.members; toml = x.toml; is = from_fault x.members x.head (Err (faults.Keys keys)) (params.TooManyKeys keys) x.says x.holds refl }
verdict_of_fault bytes (faults.Record place) x not = record { members = x.members; toml = x.toml; is = from_accepted x.members x.head (Err (faults.Record place)) x.says x.holds.0 (Err place, x.holds.1, refl) }
verdict_of_fault bytes (faults.Faulty place) x not =
    let read = x.holds.1 in
    record { members = x.members; toml = x.toml; is = from_accepted x.members x.head (Err (faults.Faulty place)) x.says x.holds.0 (Ok read.0.0, read.0.1, (Err place, read.1, refl)) }
verdict_of_fault bytes (faults.Step place) x not =
    let read = x.holds.1 in
    record { members = x.members; toml = x.toml; is = from_accepted x.members x.head (Err (faults.Step place)) x.says x.holds.0 (Ok read.0.0, read.0.1, (Ok read.1.0, read.1.1, (Err place, read.1.2, refl))) }
verdict_of_fault bytes faults.Seat is not = absurd is
verdict_of_fault bytes faults.Hand is not = absurd is

-- ---- what is read is the one verdict

once_on : (bytes : List ℕ) (members : Members) (v w : Verdict) → IsToml bytes members → IsVerdict members v → VerdictOn bytes w → v ≡ w
once_on bytes members v w toml is on = verdict_once members v w is (subst (λ (ms : Members). IsVerdict ms w) (same_members bytes on.members members on.toml toml) on.is)

pub plan_found : (bytes : List ℕ) (members : Members) (v : Verdict) → IsToml bytes members → IsVerdict members v → IfOk v (λ p. IsDocument bytes p)
plan_found bytes table (Ok p) toml is = document_from bytes table p toml is
plan_found bytes table (Err f) toml is = tt

pub fault_found : (bytes : List ℕ) (members : Members) (v : Verdict) → IsToml bytes members → IsVerdict members v → IfErr v (λ f. IsFault bytes f)
fault_found bytes table (Ok p) toml is = tt
fault_found bytes table (Err f) toml is = fault_from bytes table f toml is

pub only_plan : (bytes : List ℕ) (members : Members) (v : Verdict) → IsToml bytes members → IsVerdict members v → (p : Plan) → IsDocument bytes p → v ≡ Ok p
only_plan bytes members v toml is p d = once_on bytes members v (Ok p) toml is (verdict_of_document bytes p d)

is_not_toml : (bytes : List ℕ) (members : Members) (f : InputFault) → IsToml bytes members → IsFault bytes f → f ≡ faults.NotToml → ⊥
is_not_toml bytes members f toml is e = subst (IsFault bytes) e is members toml

pub first_fault : (bytes : List ℕ) (members : Members) (v : Verdict) → IsToml bytes members → IsVerdict members v → (f : InputFault) → IsFault bytes f → v ≡ Err f
first_fault bytes members v toml is f fault = once_on bytes members v (Err f) toml is (verdict_of_fault bytes f fault (is_not_toml bytes members f toml fault))

pub no_document : (bytes : List ℕ) → ((members : Members) → ¬ IsToml bytes members) → (p : Plan) → ¬ IsDocument bytes p
no_document bytes none p = λ d. none d.members d.toml

pub not_toml_first : (bytes : List ℕ) → ((members : Members) → ¬ IsToml bytes members) → (f : InputFault) → IsFault bytes f → faults.NotToml ≡ f
not_toml_first bytes none faults.NotToml is = refl
not_toml_first bytes none (faults.Field name) (inl (members, toml, e)) = absurd (none members toml)
not_toml_first bytes none (faults.Field name) (inr (named, x)) = absurd (none x.members x.toml)
not_toml_first bytes none (faults.Keys keys) x = absurd (none x.members x.toml)
not_toml_first bytes none (faults.Record place) x = absurd (none x.members x.toml)
not_toml_first bytes none (faults.Faulty place) x = absurd (none x.members x.toml)
not_toml_first bytes none (faults.Step place) x = absurd (none x.members x.toml)
not_toml_first bytes none faults.Seat is = absurd is
not_toml_first bytes none faults.Hand is = absurd is
