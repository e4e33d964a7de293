-- The head of a document: what its fields say of its sizes, and that there is one head.
use Rattle.std.proofs.Common.{◌≡◌, ℕ, ◌<◌, ◌≤◌, ◌^◌, ◌*◌, Bool, true, false, ◌&&◌, nat_le, nat_lt, List, [], ◌∷◌, length, Option, None, Some, IfNone, is_some, codes, refl, sym, ap, ◌∙◌, arith, if◌then◌else◌}
use Rattle.std.proofs.lemmas.Bool.{and_parts, leb-true, le-leb, le-ltb, ltb-false}
use Rattle.std.proofs.lemmas.Option.{same_Some}
use Rattle.toml.specs.Data.{Members}
use Rattle.fw_list.specs.Numbers.{within}
use Rattle.fw_base.specs.declared.params.Params.{Params}
use Rattle.fw_base.specs.declared.params.ParamFault.{ParamFault}
use Rattle.fw_base.specs.declared.params.ParamFault.TheVariants as params
use Rattle.fw_base.specs.declared.limits.TheConstants.{MOST_FAULTS, MOST_NUMBERS, MOST_VIEWS, MOST_CLIENTS, MOST_STAMPS, MOST_KEYS}
use Rattle.fw_base.specs.Checks.{first_out, fields_fit, whole_fault, fault_of}
use Rattle.fw_base.specs.Sizes.{accepted, keys}
use Rattle.fw_record.specs.declared.limits.TheConstants.{MOST_RECORDS}
use Rattle.fw_sched.specs.declared.limits.TheConstants.{MOST_STEPS}
use Rattle.fw_sched.specs.Members.{number_at, seed_at, texts_at, has, number_within, pipe_fits, few_texts, fields, first_wrong, least_other}
use Rattle.fw_sched.specs.Document.{Head, HasSizes, HasHead}
use Rattle.fw_sched.specs.Faults.{field_fault}
use Rattle.fw_sched.specs.Stages.{AreShort, HasParts}

-- ---- what holds where no field is wrong

right_first : (f : List ℕ × Bool) (fs : List (List ℕ × Bool)) → first_wrong (f ∷ fs) ≡ None → (f.1 ≡ true) × (first_wrong fs ≡ None)
right_first (name, true) fs e = (refl, e)
right_first (name, false) fs e = absurd (cc)

pub record AllRight (members : Members) : Type 0 where
  pub f : number_within members (codes "f") 0 MOST_FAULTS ≡ true
  pub g : number_within members (codes "g") 0 MOST_FAULTS ≡ true
  pub h : number_within members (codes "h") 0 MOST_FAULTS ≡ true
  pub numbers : number_within members (codes "numbers") 1 MOST_NUMBERS ≡ true
  pub views : number_within members (codes "views") 1 MOST_VIEWS ≡ true
  pub clients : number_within members (codes "clients") 1 MOST_CLIENTS ≡ true
  pub stamps : number_within members (codes "stamps") 1 MOST_STAMPS ≡ true
  pub pipe : pipe_fits members ≡ true
  pub seed : is_some (seed_at members) ≡ true
  pub faulty : is_some (texts_at members (codes "faulty")) ≡ true
  pub records : few_texts members (codes "records") MOST_RECORDS ≡ true
  pub steps : few_texts members (codes "steps") MOST_STEPS ≡ true

abbrev AllTrue : List (List ℕ × Bool) → Type 0
AllTrue [] = Unit {0}
AllTrue (f ∷ fs) = (f.1 ≡ true) × AllTrue fs

all_true : (fs : List (List ℕ × Bool)) → first_wrong fs ≡ None → AllTrue fs
all_true [] e = tt
all_true (f ∷ fs) e = let both = right_first f fs e in (both.0, all_true fs both.1)

pub all_right : (members : Members) → first_wrong (fields members) ≡ None → AllRight members
all_right members e =
    let all : AllTrue (fields members) = all_true (fields members) e in
    let sizes = all.1 in
    let stamps = sizes.1.1.1.1.1.1 in
    let seed = stamps.1.1 in
    record {
      f = sizes.0;
      g = sizes.1.0;
      h = sizes.1.1.0;
      numbers = sizes.1.1.1.0;
      views = sizes.1.1.1.1.0;
      clients = sizes.1.1.1.1.1.0;
      stamps = stamps.0;
      pipe = stamps.1.0;
      seed = seed.0;
      faulty = seed.1.0;
      records = seed.1.1.0;
      steps = seed.1.1.1.0;
    }

has_at : {A : Type 0} (test : A → Bool) (o : Option A) (x : A) → has test o ≡ true → o ≡ Some x → test x ≡ true
has_at test None x h e = absurd (cc)
has_at test (Some y) x h e = ap test (sym (same_Some y x e)) ∙ h

pub has_some : {A : Type 0} (test : A → Bool) (o : Option A) → has test o ≡ true → (x : A) × (o ≡ Some x)
has_some test None h = absurd (cc)
has_some test (Some x) h = (x, refl)

short : (n least most : ℕ) → most < 2 ^ 32 → within least n most ≡ true → n < 2 ^ 32
short n least most small h = omega (arith, leb-true n most (and_parts (nat_le least n) (nat_le n most) h).1)

-- the sizes stand there
pub sized : (members : Members) → AllRight members → (p : Params) × AreShort p × HasSizes members p
sized members right =
    let f = has_some (λ n. within 0 n MOST_FAULTS) (number_at members (codes "f")) right.f in
    let g = has_some (λ n. within 0 n MOST_FAULTS) (number_at members (codes "g")) right.g in
    let h = has_some (λ n. within 0 n MOST_FAULTS) (number_at members (codes "h")) right.h in
    let numbers = has_some (λ n. within 1 n MOST_NUMBERS) (number_at members (codes "numbers")) right.numbers in
    let views = has_some (λ n. within 1 n MOST_VIEWS) (number_at members (codes "views")) right.views in
    let clients = has_some (λ n. within 1 n MOST_CLIENTS) (number_at members (codes "clients")) right.clients in
    let stamps = has_some (λ n. within 1 n MOST_STAMPS) (number_at members (codes "stamps")) right.stamps in
    let pipes = has_at (λ numbers. number_within members (codes "pipe") 1 numbers) (number_at members (codes "numbers")) numbers.0 right.pipe numbers.1 in
    let pipe = has_some (λ n. within 1 n numbers.0) (number_at members (codes "pipe")) pipes in
    let few = short numbers.0 1 MOST_NUMBERS (omega arith) (has_at (λ n. within 1 n MOST_NUMBERS) (number_at members (codes "numbers")) numbers.0 right.numbers numbers.1) in
    let p : Params = record { f = f.0; g = g.0; h = h.0; numbers = numbers.0; views = views.0; clients = clients.0; stamps = stamps.0; pipe = pipe.0 } in
    let shorts : AreShort p = record {
      f = short f.0 0 MOST_FAULTS (omega arith) (has_at (λ n. within 0 n MOST_FAULTS) (number_at members (codes "f")) f.0 right.f f.1);
      g = short g.0 0 MOST_FAULTS (omega arith) (has_at (λ n. within 0 n MOST_FAULTS) (number_at members (codes "g")) g.0 right.g g.1);
      h = short h.0 0 MOST_FAULTS (omega arith) (has_at (λ n. within 0 n MOST_FAULTS) (number_at members (codes "h")) h.0 right.h h.1);
      numbers = few;
      views = short views.0 1 MOST_VIEWS (omega arith) (has_at (λ n. within 1 n MOST_VIEWS) (number_at members (codes "views")) views.0 right.views views.1);
      clients = short clients.0 1 MOST_CLIENTS (omega arith) (has_at (λ n. within 1 n MOST_CLIENTS) (number_at members (codes "clients")) clients.0 right.clients clients.1);
      stamps = short stamps.0 1 MOST_STAMPS (omega arith) (has_at (λ n. within 1 n MOST_STAMPS) (number_at members (codes "stamps")) stamps.0 right.stamps stamps.1);
      pipe = short pipe.0 1 numbers.0 few (has_at (λ n. within 1 n numbers.0) (number_at members (codes "pipe")) pipe.0 pipes pipe.1);
    } in
    let sizes : HasSizes members p = record { f = f.1; g = g.1; h = h.1; numbers = numbers.1; views = views.1; clients = clients.1; stamps = stamps.1; pipe = pipe.1 } in
    (p, shorts, sizes)

-- each size is within its limit
record Fitting (p : Params) : Type 0 where
  f : nat_le p.f MOST_FAULTS ≡ true
  g : nat_le p.g MOST_FAULTS ≡ true
  h : nat_le p.h MOST_FAULTS ≡ true
  numbers : within 1 p.numbers MOST_NUMBERS ≡ true
  views : within 1 p.views MOST_VIEWS ≡ true
  clients : within 1 p.clients MOST_CLIENTS ≡ true
  stamps : within 1 p.stamps MOST_STAMPS ≡ true
  pipe : within 1 p.pipe p.numbers ≡ true

upper : (n most : ℕ) → within 0 n most ≡ true → nat_le n most ≡ true
upper n most h = (and_parts (nat_le 0 n) (nat_le n most) h).1

fitting : (members : Members) (h : Head) → HasHead members h → Fitting h.params
fitting members h says =
    let right = all_right members says.right in
    let sizes = says.sizes in
    let p = h.params in
    let pipes = has_at (λ numbers. number_within members (codes "pipe") 1 numbers) (number_at members (codes "numbers")) p.numbers right.pipe sizes.numbers in
    record {
      f = upper p.f MOST_FAULTS (has_at (λ n. within 0 n MOST_FAULTS) (number_at members (codes "f")) p.f right.f sizes.f);
      g = upper p.g MOST_FAULTS (has_at (λ n. within 0 n MOST_FAULTS) (number_at members (codes "g")) p.g right.g sizes.g);
      h = upper p.h MOST_FAULTS (has_at (λ n. within 0 n MOST_FAULTS) (number_at members (codes "h")) p.h right.h sizes.h);
      numbers = has_at (λ n. within 1 n MOST_NUMBERS) (number_at members (codes "numbers")) p.numbers right.numbers sizes.numbers;
      views = has_at (λ n. within 1 n MOST_VIEWS) (number_at members (codes "views")) p.views right.views sizes.views;
      clients = has_at (λ n. within 1 n MOST_CLIENTS) (number_at members (codes "clients")) p.clients right.clients sizes.clients;
      stamps = has_at (λ n. within 1 n MOST_STAMPS) (number_at members (codes "stamps")) p.stamps right.stamps sizes.stamps;
      pipe = has_at (λ n. within 1 n p.numbers) (number_at members (codes "pipe")) p.pipe pipes sizes.pipe;
    }

none_out : (a b c d e f g h : Bool) → a ≡ true → b ≡ true → c ≡ true → d ≡ true → e ≡ true → f ≡ true → g ≡ true → h ≡ true → first_out 0 (a ∷ b ∷ c ∷ d ∷ e ∷ f ∷ g ∷ h ∷ []) ≡ None
none_out a b c d e f g h ea eb ec ed ee ef eg eh = rw (ea, eb, ec, ed, ee, ef, eg, eh) refl

else_whole : (o : Option ℕ) (whole : Option ParamFault) → o ≡ None → elim o as (λ _. Option ParamFault) [ Some k ↦ Some (params.Field k) | None ↦ whole ] ≡ whole
else_whole None whole e = refl
else_whole (Some k) whole e = absurd (cc)

-- the fields of a head are within their limits, so what is wrong is the whole
pub whole_alone : (members : Members) (h : Head) → HasHead members h → fault_of h.params ≡ whole_fault h.params
whole_alone members h says =
    let fit = fitting members h says in
    else_whole (first_out 0 (fields_fit h.params)) (whole_fault h.params) (none_out _ _ _ _ _ _ _ _ fit.f fit.g fit.h fit.numbers fit.views fit.clients fit.stamps fit.pipe)

neither : (b c : Bool) (x y : ParamFault) → (if b then Some x else (if c then Some y else None)) ≡ None → (b ≡ false) × (c ≡ false)
neither true c x y e = absurd (cc)
neither false true x y e = absurd (cc)
neither false false x y e = (refl, refl)

field_three : (b c : Bool) (keys k : ℕ) → (if b then Some (params.Field 3) else (if c then Some (params.TooManyKeys keys) else None)) ≡ Some (params.Field k) → k ≡ 3
field_three true c keys k e = cc
field_three false true keys k e = absurd (cc)
field_three false false keys k e = absurd (cc)

-- the field that is at fault in the whole is the numbers
pub whole_field : (p : Params) (k : ℕ) → whole_fault p ≡ Some (params.Field k) → k ≡ 3
whole_field p k e = field_three (nat_lt p.numbers (p.clients * p.stamps)) (nat_lt MOST_KEYS (keys p)) (keys p) k e

nothing : (b c : Bool) (x y : ParamFault) → b ≡ false → c ≡ false → (if b then Some x else (if c then Some y else None)) ≡ None
nothing b c x y e f = rw (e, f) refl

pub sizes_accepted : (members : Members) (h : Head) → HasHead members h → whole_fault h.params ≡ None → accepted h.params ≡ true
sizes_accepted members h says none =
    let p = h.params in
    let fit = fitting members h says in
    let both = neither (nat_lt p.numbers (p.clients * p.stamps)) (nat_lt MOST_KEYS (keys p)) (params.Field 3) (params.TooManyKeys (keys p)) none in
    let stamps : nat_le (p.clients * p.stamps) p.numbers ≡ true = le-leb (p.clients * p.stamps) p.numbers (ltb-false p.numbers (p.clients * p.stamps) both.0) in
    let few : nat_le (keys p) MOST_KEYS ≡ true = le-leb (keys p) MOST_KEYS (ltb-false MOST_KEYS (keys p) both.1) in
    rw (fit.f, fit.g, fit.h, fit.numbers, fit.views, fit.clients, fit.stamps, fit.pipe, stamps, few) refl

pub whole_accepted : (p : Params) → accepted p ≡ true → whole_fault p ≡ None
whole_accepted p sizes =
    let first =
    nat_le p.f MOST_FAULTS && nat_le p.g MOST_FAULTS && nat_le p.h MOST_FAULTS && within 1 p.numbers MOST_NUMBERS
    && within 1 p.views MOST_VIEWS && within 1 p.clients MOST_CLIENTS && within 1 p.stamps MOST_STAMPS
    && within 1 p.pipe p.numbers in
    let last = and_parts (first && nat_le (p.clients * p.stamps) p.numbers) (nat_le (keys p) MOST_KEYS) sizes in
    let one = and_parts first (nat_le (p.clients * p.stamps) p.numbers) last.0 in
    nothing (nat_lt p.numbers (p.clients * p.stamps)) (nat_lt MOST_KEYS (keys p)) (params.Field 3) (params.TooManyKeys (keys p))
    (le-ltb p.numbers (p.clients * p.stamps) (leb-true (p.clients * p.stamps) p.numbers one.1)) (le-ltb MOST_KEYS (keys p) (leb-true (keys p) MOST_KEYS last.1))

-- ---- the first field at fault

else_other : (a b : Option (List ℕ)) → a ≡ None → elim a as (λ _. Option (List ℕ)) [ Some name ↦ Some name | None ↦ b ] ≡ b
else_other None b e = refl
else_other (Some name) b e = absurd (cc)

pub no_field_fault : (members : Members) (h : Head) → HasHead members h → field_fault members ≡ None
no_field_fault members h says = else_other (first_wrong (fields members)) (least_other members) says.right ∙ says.no_other

both_none : (a b : Option (List ℕ)) → elim a as (λ _. Option (List ℕ)) [ Some name ↦ Some name | None ↦ b ] ≡ None → (a ≡ None) × (b ≡ None)
both_none None b e = (refl, e)
both_none (Some name) b e = absurd (cc)

pub right_and_no_other : (members : Members) → field_fault members ≡ None → (first_wrong (fields members) ≡ None) × (least_other members ≡ None)
right_and_no_other members e = both_none (first_wrong (fields members)) (least_other members) e

pub head_from : (members : Members) (h : Head) → field_fault members ≡ None → HasParts members h → HasHead members h
head_from members h e parts =
    let both = right_and_no_other members e in
    record { right = both.0; sizes = parts.sizes; seed = parts.seed; records = parts.records; faulty = parts.faulty; steps = parts.steps; no_other = both.1 }

few_at : (o : Option (List (List ℕ))) (texts : List (List ℕ)) (most : ℕ) → has (λ ts. nat_le (length ts) most) o ≡ true → o ≡ Some texts → length texts ≤ most
few_at o texts most h e = leb-true (length texts) most (has_at (λ ts. nat_le (length ts) most) o texts h e)

-- a head has few records and steps
pub few_records : (members : Members) (h : Head) → HasHead members h → length h.records ≤ MOST_RECORDS
few_records members h says = few_at (texts_at members (codes "records")) h.records MOST_RECORDS (all_right members says.right).records says.records

pub few_steps : (members : Members) (h : Head) → HasHead members h → length h.steps ≤ MOST_STEPS
few_steps members h says = few_at (texts_at members (codes "steps")) h.steps MOST_STEPS (all_right members says.right).steps says.steps

-- what holds in any case holds where there is none
pub if_none : {A : Type 0} (P : Type 0) (r : Option A) → P → IfNone r P
if_none P None p = p
if_none P (Some x) p = tt

-- where texts are missing, a field is wrong
pub no_texts : (o : Option (List (List ℕ))) (most : ℕ) → o ≡ None → has (λ ts. nat_le (length ts) most) o ≡ true → ⊥
no_texts None most e h = cc
no_texts (Some ts) most e h = cc

-- ---- one head

made : ℕ → ℕ → ℕ → ℕ → ℕ → ℕ → ℕ → ℕ → Params
made f g h numbers views clients stamps pipe = record { f = f; g = g; h = h; numbers = numbers; views = views; clients = clients; stamps = stamps; pipe = pipe }

same_made : (p q : Params) → p.f ≡ q.f → p.g ≡ q.g → p.h ≡ q.h → p.numbers ≡ q.numbers → p.views ≡ q.views → p.clients ≡ q.clients → p.stamps ≡ q.stamps → p.pipe ≡ q.pipe → made p.f p.g p.h p.numbers p.views p.clients p.stamps p.pipe ≡ made q.f q.g q.h q.numbers q.views q.clients q.stamps q.pipe
same_made p q f g h numbers views clients stamps pipe = cc

same_params : (p q : Params) → p.f ≡ q.f → p.g ≡ q.g → p.h ≡ q.h → p.numbers ≡ q.numbers → p.views ≡ q.views → p.clients ≡ q.clients → p.stamps ≡ q.stamps → p.pipe ≡ q.pipe → p ≡ q
unfolding made
same_params p q f g h numbers views clients stamps pipe = same_made p q f g h numbers views clients stamps pipe

same_number : (o : Option ℕ) (a b : ℕ) → o ≡ Some a → o ≡ Some b → a ≡ b
same_number o a b e f = same_Some a b (sym e ∙ f)

pub same_sizes : (members : Members) (p q : Params) → HasSizes members p → HasSizes members q → p ≡ q
same_sizes table p q a b =
    same_params p q
    (same_number _ p.f q.f a.f b.f)
    (same_number _ p.g q.g a.g b.g)
    (same_number _ p.h q.h a.h b.h)
    (same_number _ p.numbers q.numbers a.numbers b.numbers)
    (same_number _ p.views q.views a.views b.views)
    (same_number _ p.clients q.clients a.clients b.clients)
    (same_number _ p.stamps q.stamps a.stamps b.stamps)
    (same_number _ p.pipe q.pipe a.pipe b.pipe)

pub same_head : (members : Members) (h k : Head) → HasHead members h → HasHead members k → h ≡ k
same_head members h k a b =
    let make : Params → List ℕ → List (List ℕ) → List (List ℕ) → List (List ℕ) → Head = λ p seed records faulty steps. record { params = p; seed = seed; records = records; faulty = faulty; steps = steps } in
    ap (λ (p : Params). make p h.seed h.records h.faulty h.steps) (same_sizes members h.params k.params a.sizes b.sizes)
    ∙ ap (λ (seed : List ℕ). make k.params seed h.records h.faulty h.steps) (same_Some h.seed k.seed (sym a.seed ∙ b.seed))
    ∙ ap (λ (records : List (List ℕ)). make k.params k.seed records h.faulty h.steps) (same_Some h.records k.records (sym a.records ∙ b.records))
    ∙ ap (λ (faulty : List (List ℕ)). make k.params k.seed k.records faulty h.steps) (same_Some h.faulty k.faulty (sym a.faulty ∙ b.faulty))
    ∙ ap (λ (steps : List (List ℕ)). make k.params k.seed k.records k.faulty steps) (same_Some h.steps k.steps (sym a.steps ∙ b.steps))
