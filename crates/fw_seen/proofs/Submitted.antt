-- What waits is what was submitted in all, less what was accepted in all.
use Rattle.std.proofs.Common.{◌≡◌, ◌≤◌, ◌<◌, ◌+◌, ◌-◌, ℕ, zero, suc, Bool, true, false, ◌&&◌, cond, nat_eq, nat_lt, List, [], ◌∷◌, map, length, refl, sym, ap, ◌∙◌, arith, inl, inr, Option, Some, None}
use Rattle.std.specs.List.{sum_by}
use Rattle.std.specs.Prelude.{if◌then◌else◌, filter, not}
use Rattle.std.proofs.lemmas.Bool.{cases_Bool, false≢true, eqb-true, eqb-false, ltb-true, lt-ltb, and_parts}
use Rattle.std.proofs.lemmas.List.{length-append, length-reverse, length-map}
use Rattle.fw_list.specs.Lists.{numbers_from}
use Rattle.fw_base.specs.declared.params.Params.{Params}
use Rattle.fw_base.specs.declared.seat.Seat.{Seat}
use Rattle.fw_base.specs.declared.seat.Seat.TheVariants.{Agree, Exec, Filter, Client}
use Rattle.fw_base.specs.Seats.{seat_eq}
use Rattle.fw_op.specs.declared.op.Op.{Op}
use Rattle.fw_op.specs.declared.reply.Reply.{Reply}
use Rattle.fw_trace.specs.declared.Told.{Told}
use Rattle.fw_trace.specs.declared.Logged.{Logged}
use Rattle.fw_trace.specs.declared.Input.TheVariants.{Heard, Tick, Submitted}
use Rattle.fw_trace.specs.Client as clients
use Rattle.fw_trace.specs.Trace.{Trace, history}
use Rattle.fw_node.specs.Histories.{History, Taken}
use Rattle.fw_rules.specs.World.{Deployed, accepted_by}
use Rattle.fw_step.specs.Fitting.{is_faulty, is_correct}
use Rattle.fw_fair.specs.Correct.{correct_below}
use Rattle.fw_fair.proofs.Ranks.{filter_yes, filter_no}
use Rattle.fw_client.specs.Kept.{Speech}
use Rattle.fw_client.specs.Standing.{speech_of}
use Rattle.fw_pool.specs.Counts.{submissions, is_submission}
use Rattle.fw_seen.specs.Summary.{submitted, correct_clients, waiting, accept_line_of, accept_lines}
use Rattle.fw_seen.proofs.Clients.{Kept, kept_by, hear_took, given_took, sum_more}

-- ---- a client accepts no more than it asked, one at a time

abbrev count_of : Bool → ℕ
count_of true = 1
count_of false = 0

abbrev Balanced : Kept → Type 0
Balanced c = length c.accepted + count_of c.pending ≤ length c.asked

ask_balanced : (sp : Speech) (c : Kept) (op : Op) → length c.accepted ≤ length c.asked → Balanced (clients.ask sp c op).0
ask_balanced sp c op few = omega (arith, few)

go_on_balanced : (sp : Speech) (c : Kept) (more : List Op) → c.pending ≡ false → length c.accepted ≤ length c.asked → Balanced (clients.go_on sp c more).0
go_on_balanced sp c [] idle few = let none = ap count_of idle in omega (arith, none, few)
go_on_balanced sp c (op ∷ more) idle few = ask_balanced sp (record c { waiting = more }) op few

hear_balanced : (sp : Speech) (c : Kept) → Balanced c → (told : Option (Told Reply)) → Balanced (clients.hear sp c told).0
hear_balanced sp c fine None = fine
hear_balanced sp c fine (Some told) = elim (cases_Bool (c.pending && nat_eq told.stamp (clients.stamp c))) [
  | inl holds ↦
      let one = ap count_of (and_parts c.pending (nat_eq told.stamp (clients.stamp c)) holds).0 in
      rw holds (go_on_balanced sp (record c { pending = false; accepted = told ∷ c.accepted }) c.waiting refl (omega (arith, one, fine)))
  | inr fails ↦ rw fails fine
]

submit_balanced : (sp : Speech) (c : Kept) → Balanced c → (op : Op) (pending : Bool) → c.pending ≡ pending → Balanced (clients.submit sp c op pending).0
submit_balanced sp c fine op false idle = ask_balanced sp c op (omega (arith, fine))
submit_balanced sp c fine op true busy = fine

given_balanced : (sp : Speech) (c : Kept) → Balanced c → (op : Op) (room : Bool) → Balanced (if room then clients.submit sp c op c.pending else (c, [])).0
given_balanced sp c fine op true = submit_balanced sp c fine op c.pending refl
given_balanced sp c fine op false = fine

balanced : (sp : Speech) (h : History) → Balanced (kept_by sp h)
balanced sp [] = omega arith
balanced sp (Heard from m ∷ h) = hear_balanced sp (kept_by sp h) (balanced sp h) (sp.told from m)
balanced sp (Tick ∷ h) = balanced sp h
balanced sp (Submitted op ∷ h) = given_balanced sp (kept_by sp h) (balanced sp h) op (nat_lt (clients.taken (kept_by sp h)) sp.most)

-- it takes no more than is submitted
given_few : (sp : Speech) (c : Kept) (op : Op) (room : Bool) → clients.taken (if room then clients.submit sp c op c.pending else (c, [])).0 ≤ clients.taken c + 1
given_few sp c op true = let took = given_took sp c op true refl in omega (arith, took)
given_few sp c op false = omega arith

took_few : (sp : Speech) (h : History) → clients.taken (kept_by sp h) ≤ submitted h
took_few sp [] = omega arith
took_few sp (Heard from m ∷ h) = let took = hear_took sp (kept_by sp h) (sp.told from m) in let before = took_few sp h in omega (arith, took, before)
took_few sp (Tick ∷ h) = took_few sp h
took_few sp (Submitted op ∷ h) =
    let given = given_few sp (kept_by sp h) op (nat_lt (clients.taken (kept_by sp h)) sp.most) in
    let before = took_few sp h in
    omega (arith, given, before)

accepted-few : (d : Deployed) (t : Trace (List ℕ) Op) (c : ℕ) → length (accepted_by d c t) ≤ submitted (history (Client c) t.log)
accepted-few d t c =
    let sp = speech_of c (d.hand (Client c)) d.directory in
    let h = history (Client c) t.log in
    let same = length-reverse (kept_by sp h).accepted in
    let fine = balanced sp h in
    let few = took_few sp h in
    omega (arith, same, fine, few)

-- ---- sums

-- less in each is less in all
sum_less : (f g : ℕ → ℕ) → ((c : ℕ) → g c ≤ f c) → (cs : List ℕ) → (sum_by (λ c. f c - g c) cs ≡ sum_by f cs - sum_by g cs) × (sum_by g cs ≤ sum_by f cs)
sum_less f g few [] = (omega arith, omega arith)
sum_less f g few (c ∷ cs) =
    let rest = sum_less f g few cs in
    let one = few c in
    let x = sum_more (λ k. f k - g k) c cs in
    let y = sum_more f c cs in
    let z = sum_more g c cs in
    (omega (arith, rest.0, rest.1, one, x, y, z), omega (arith, rest.1, one, y, z))

sum_plus : (f g h : ℕ → ℕ) → ((c : ℕ) → f c ≡ g c + h c) → (cs : List ℕ) → sum_by f cs ≡ sum_by g cs + sum_by h cs
sum_plus f g h each [] = omega arith
sum_plus f g h each (c ∷ cs) =
    let rest = sum_plus f g h each cs in
    let one = each c in
    let x = sum_more f c cs in
    let y = sum_more g c cs in
    let z = sum_more h c cs in
    omega (arith, rest, one, x, y, z)

sum_none : (f : ℕ → ℕ) → ((c : ℕ) → f c ≡ 0) → (cs : List ℕ) → sum_by f cs ≡ 0
sum_none f none [] = refl
sum_none f none (c ∷ cs) = let rest = sum_none f none cs in let one = none c in let x = sum_more f c cs in omega (arith, rest, one, x)

-- a number that is before them stands not among them
sum_absent : (k first n : ℕ) → k < first → sum_by (λ c. count_of (nat_eq k c)) (numbers_from first n) ≡ 0
sum_absent k first zero before = refl
sum_absent k first (suc n) before =
    let rest = sum_absent k (first + 1) n (omega (arith, before)) in
    let split = sum_more (λ c. count_of (nat_eq k c)) first (numbers_from (first + 1) n) in
    let one : count_of (nat_eq k first) ≡ 0 = ap count_of (differ k first before) in
    omega (arith, rest, split, one)
  where
    differ : (a b : ℕ) → a < b → nat_eq a b ≡ false
    differ a b less = elim (cases_Bool (nat_eq a b)) [
      | inl same ↦ absurd (let is = eqb-true a b same in omega (arith, less, is))
      | inr other ↦ other
    ]

not_below : (a b : ℕ) → b ≤ a → nat_lt a b ≡ false
not_below a b above = elim (cases_Bool (nat_lt a b)) [
  | inl less ↦ absurd (let wrong = ltb-true a b less in omega (arith, wrong, above))
  | inr more ↦ more
]

-- another stands once among those from the first on, or is behind them
sum_once : (k first n : ℕ) → first ≤ k → sum_by (λ c. count_of (nat_eq k c)) (numbers_from first n) ≡ count_of (nat_lt k (first + n))
sum_once k first zero from = sym (ap count_of (not_below k (first + 0) (omega (arith, from))))
sum_once k first (suc n) from =
    let split = sum_more (λ c. count_of (nat_eq k c)) first (numbers_from (first + 1) n) in
    elim (cases_Bool (nat_eq k first)) [
      | inl same ↦
          let is = eqb-true k first same in
          let one = ap count_of same in
          let rest = sum_absent k (first + 1) n (omega (arith, is)) in
          let inside = ap count_of (lt-ltb k (first + suc n) (omega (arith, is))) in
          omega (arith, split, one, rest, inside)
      | inr other ↦
          let apart = eqb-false k first other in
          let one = ap count_of other in
          let rest = sum_once k (first + 1) n (omega (arith, from, apart)) in
          let bound = ap (λ m. count_of (nat_lt k m)) (let e : first + 1 + n ≡ first + suc n = omega arith in e) in
          omega (arith, split, one, rest, bound)
    ]

-- ---- the submissions of a log

-- one where this input is a submission to this client
abbrev given_to : Seat → Taken → ℕ → ℕ
given_to (Client k) (Submitted op) c = count_of (nat_eq k c)
given_to seat input c = 0

client_more : (b : Bool) (h : History) → submitted (cond b h h) ≡ submitted h + 0
client_more true h = omega arith
client_more false h = omega arith

input_more : (seat : Seat) (input : Taken) (h : History) (c : ℕ) → submitted (cond (seat_eq seat (Client c)) (input ∷ h) h) ≡ submitted h + given_to seat input c
input_more (Client k) (Submitted op) h c = elim (cases_Bool (nat_eq k c)) [
  | inl same ↦ rw same refl
  | inr other ↦ rw other (omega arith)
]
input_more (Client k) (Heard from m) h c = elim (cases_Bool (nat_eq k c)) [
  | inl same ↦ rw same (omega arith)
  | inr other ↦ rw other (omega arith)
]
input_more (Client k) Tick h c = elim (cases_Bool (nat_eq k c)) [
  | inl same ↦ rw same (omega arith)
  | inr other ↦ rw other (omega arith)
]
input_more (Agree i) input h c = omega arith
input_more (Exec j) input h c = omega arith
input_more (Filter r s) input h c = omega arith

and_no : (a b : Bool) → b ≡ false → (a && b) ≡ false
and_no true b e = e
and_no false b e = refl

and_yes : (a b : Bool) → b ≡ true → (a && b) ≡ a
and_yes true b e = e
and_yes false b e = refl

-- where a number passes, those that pass count for it as all do; where it doesn't, none counts
sum_kept : (t : ℕ → Bool) (k : ℕ) → t k ≡ true → (cs : List ℕ) → sum_by (λ c. count_of (nat_eq k c)) (filter t cs) ≡ sum_by (λ c. count_of (nat_eq k c)) cs
sum_kept t k passes [] = refl
sum_kept t k passes (c ∷ cs) = by (sum_kept t k passes cs) (t c) refl
  where
    f : ℕ → ℕ
    f x = count_of (nat_eq k x)

    by : sum_by f (filter t cs) ≡ sum_by f cs → (b : Bool) → t c ≡ b → sum_by f (filter t (c ∷ cs)) ≡ sum_by f (c ∷ cs)
    by rest true e =
        let kept = ap (sum_by f) (filter_yes t c cs e) in
        let x = sum_more f c (filter t cs) in
        let y = sum_more f c cs in
        omega (arith, rest, kept, x, y)
    by rest false e =
        let kept = ap (sum_by f) (filter_no t c cs e) in
        let y = sum_more f c cs in
        let none : f c ≡ 0 = elim (cases_Bool (nat_eq k c)) [
          | inl same ↦ absurd (false≢true (sym e ∙ ap t (sym (eqb-true k c same)) ∙ passes))
          | inr other ↦ ap count_of other
        ] in
        omega (arith, rest, kept, y, none)

sum_gone : (t : ℕ → Bool) (k : ℕ) → t k ≡ false → (cs : List ℕ) → sum_by (λ c. count_of (nat_eq k c)) (filter t cs) ≡ 0
sum_gone t k fails [] = refl
sum_gone t k fails (c ∷ cs) = by (sum_gone t k fails cs) (t c) refl
  where
    f : ℕ → ℕ
    f x = count_of (nat_eq k x)

    by : sum_by f (filter t cs) ≡ 0 → (b : Bool) → t c ≡ b → sum_by f (filter t (c ∷ cs)) ≡ 0
    by rest true e =
        let kept = ap (sum_by f) (filter_yes t c cs e) in
        let x = sum_more f c (filter t cs) in
        let none : f c ≡ 0 = elim (cases_Bool (nat_eq k c)) [
          | inl same ↦ absurd (false≢true (sym fails ∙ ap t (eqb-true k c same) ∙ e))
          | inr other ↦ ap count_of other
        ] in
        omega (arith, rest, kept, x, none)
    by rest false e = ap (sum_by f) (filter_no t c cs e) ∙ rest

-- it is one to one correct client at most
given_once : (p : Params) (faulty : List Seat) (seat : Seat) (input : Taken) → sum_by (given_to seat input) (correct_below faulty Client p.clients) ≡ count_of (is_submission (is_correct p faulty) seat input)
given_once p faulty (Client k) (Submitted op) = elim (cases_Bool (is_faulty faulty (Client k))) [
  | inl wrong ↦ sum_gone (λ c. not (is_faulty faulty (Client c))) k (ap not wrong) (numbers_from 0 p.clients) ∙ sym (ap count_of (and_no (nat_lt k p.clients) (not (is_faulty faulty (Client k))) (ap not wrong)))
  | inr fine ↦
      sum_kept (λ c. not (is_faulty faulty (Client c))) k (ap not fine) (numbers_from 0 p.clients)
      ∙ sum_once k 0 p.clients (omega arith) ∙ ap (λ n. count_of (nat_lt k n)) (let e : 0 + p.clients ≡ p.clients = omega arith in e)
      ∙ sym (ap count_of (and_yes (nat_lt k p.clients) (not (is_faulty faulty (Client k))) (ap not fine)))
]
given_once p faulty (Client k) (Heard from m) = sum_none _ (λ c. refl) (correct_below faulty Client p.clients)
given_once p faulty (Client k) Tick = sum_none _ (λ c. refl) (correct_below faulty Client p.clients)
given_once p faulty (Agree i) input = sum_none _ (λ c. refl) (correct_below faulty Client p.clients)
given_once p faulty (Exec j) input = sum_none _ (λ c. refl) (correct_below faulty Client p.clients)
given_once p faulty (Filter r s) input = sum_none _ (λ c. refl) (correct_below faulty Client p.clients)

counted : (b : Bool) (n : ℕ) → (if b then n + 1 else n) ≡ n + count_of b
counted true n = refl
counted false n = omega arith

-- those of a log are those of all correct clients
submitted_in_all : (p : Params) (faulty : List Seat) (log : List (Logged (List ℕ) Op)) → sum_by (λ c. submitted (history (Client c) log)) (correct_below faulty Client p.clients) ≡ submissions (is_correct p faulty) log
submitted_in_all p faulty [] = sum_none _ (λ c. refl) (correct_below faulty Client p.clients)
submitted_in_all p faulty (l ∷ log) =
    let ns = correct_below faulty Client p.clients in
    let split = sum_plus (λ c. submitted (history (Client c) (l ∷ log))) (λ c. submitted (history (Client c) log)) (given_to l.seat l.input) (λ c. input_more l.seat l.input (history (Client c) log) c) ns in
    let rest = submitted_in_all p faulty log in
    let one = given_once p faulty l.seat l.input in
    let all = counted (is_submission (is_correct p faulty) l.seat l.input) (submissions (is_correct p faulty) log) in
    omega (arith, split, rest, one, all)

-- ---- the lines of what was accepted

lines_in_all : (d : Deployed) (t : Trace (List ℕ) Op) (cs : List ℕ) → length (accept_lines d t cs) ≡ sum_by (λ c. length (accepted_by d c t)) cs
lines_in_all d t [] = refl
lines_in_all d t (c ∷ cs) =
    let rest = lines_in_all d t cs in
    let one = length-map (accepted_by d c t) (accept_line_of c) in
    let both = length-append (map (accept_line_of c) (accepted_by d c t)) (accept_lines d t cs) in
    let split = sum_more (λ k. length (accepted_by d k t)) c cs in
    omega (arith, rest, one, both, split)

-- what waits is what was submitted and not accepted
pub waiting_in_all : (d : Deployed) (faulty : List Seat) (t : Trace (List ℕ) Op) → waiting d faulty t ≡ submissions (is_correct d.directory.params faulty) t.log - length (accept_lines d t (correct_clients d faulty))
waiting_in_all d faulty t =
    let ns = correct_clients d faulty in
    let less = sum_less (λ c. submitted (history (Client c) t.log)) (λ c. length (accepted_by d c t)) (accepted-few d t) ns in
    let all = submitted_in_all d.directory.params faulty t.log in
    let lines = lines_in_all d t ns in
    omega (arith, less.0, all, lines)
