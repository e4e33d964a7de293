-- What is read from its parts.
use Rattle.std.proofs.Common.{◌≡◌, ◌≢◌, ℕ, ◌<◌, ◌≤◌, true, ◌&&◌, not, nat_lt, nat_le, List, [], ◌∷◌, Option, Some, None, Result, Ok, Err, IfOk, OnErr, IfSome, IfNone, IsTrue, refl, sym, ap, ◌∙◌, arith, codes, decimal}
use Rattle.std.proofs.lemmas.Bool.{and_parts, and_from, lt-ltb, le-leb, true≢false, not-true}
use Rattle.std.proofs.lemmas.List.{append-nil}
use Rattle.fw_list.specs.Numbers.{within}
use Rattle.fw_base.specs.declared.params.Params.{Params}
use Rattle.fw_base.specs.declared.seat.Seat.{Seat}
use Rattle.fw_base.specs.declared.seat.Seat.TheVariants as seats
use Rattle.fw_base.specs.Names.{seat_name}
use Rattle.fw_base.specs.Seats.{fits, linked}
use Rattle.fw_base.specs.Sizes.{accepted}
use Rattle.fw_op.specs.declared.op.Op.{Op}
use Rattle.fw_op.specs.declared.reply.Reply.{Reply}
use Rattle.fw_op.specs.Ops.{op_words, op_fits}
use Rattle.fw_op.specs.Replies.{reply_fits, has_bytes}
use Rattle.fw_op.specs.Words.{sentence, client_word, words_of}
use Rattle.fw_op.proofs.Sentences.{sentence_words}
use Rattle.fw_step.specs.declared.step.Step.{Step}
use Rattle.fw_step.specs.declared.step.Step.TheVariants as steps
use Rattle.fw_step.specs.declared.step.Lie.{Lie}
use Rattle.fw_step.specs.declared.step.Lie.TheVariants as lies
use Rattle.fw_step.specs.declared.step.LieOp.{LieOp}
use Rattle.fw_step.specs.declared.step.LieRequest.{LieRequest}
use Rattle.fw_step.specs.declared.step.LieReply.{LieReply}
use Rattle.fw_step.specs.Spelling.{phase_word, lie_words, request_words, answered_words, IsStepText}
use Rattle.fw_step.specs.Fitting.{is_faulty, is_correct, is_agreement, is_executor, lie_fits, step_fits, request_fits, answered_fits, lie_op_fits, entry_fits, answer_fits}
use Rattle.fw_step.specs.Parts.{IsLieOpOf, IsRequestOf, IsSaidOf, IsAnsweredOf, IsEntryOf, IsAnswerOf, IsBallotOf, IsResultOf, IsLieOf, IsStepOf}
use Rattle.fw_step.proofs.Whole.{small_sizes, words_of_step}
use Rattle.fw_step.proofs.FirstWords.{is_lie}
use Rattle.fw_step.proofs.One.{same_client, same_seat, same_step}

pub request_made : (p : Params) (words rest : List (List ℕ)) (client stamp : ℕ) (op : LieOp) → words ≡ client_word client ∷ decimal stamp ∷ rest → client < p.clients → within 1 stamp p.stamps ≡ true → IsLieOpOf p.clients rest op
    → IsRequestOf p words (record { client = client; stamp = stamp; op = op })
request_made p words rest client stamp op e inside stamped is = (
  e ∙ ap (λ ws. client_word client ∷ decimal stamp ∷ ws) is.0,
  and_from (nat_lt client p.clients) (within 1 stamp p.stamps && lie_op_fits p.clients op) (lt-ltb client p.clients inside) (and_from (within 1 stamp p.stamps) (lie_op_fits p.clients op) stamped is.1),
)

pub answered_made : (p : Params) (words rest : List (List ℕ)) (client stamp : ℕ) (reply : Reply) → words ≡ client_word client ∷ decimal stamp ∷ rest → client < p.clients → within 1 stamp p.stamps ≡ true → IsSaidOf p.clients rest reply
    → IsAnsweredOf p words (record { client = client; stamp = stamp; reply = reply })
answered_made p words rest client stamp reply e inside stamped is = (
  e ∙ ap (λ ws. client_word client ∷ decimal stamp ∷ ws) is.0,
  and_from (nat_lt client p.clients) (within 1 stamp p.stamps && (reply_fits p.clients reply && has_bytes reply)) (lt-ltb client p.clients inside)
      (and_from (within 1 stamp p.stamps) (reply_fits p.clients reply && has_bytes reply) stamped (and_from (reply_fits p.clients reply) (has_bytes reply) is.1 is.2)),
)

pub entry_made : (p : Params) (words : List (List ℕ)) (r : LieRequest) → IsRequestOf p words r → IsEntryOf p words (r ∷ [])
entry_made p words r is = (is.0 ∙ sym (append-nil (request_words r)), and_from (request_fits p r) true is.1 refl)

pub answer_made : (p : Params) (words : List (List ℕ)) (a : LieReply) → IsAnsweredOf p words a → IsAnswerOf p words (a ∷ [])
answer_made p words a is = (is.0 ∙ sym (append-nil (answered_words a)), and_from (answered_fits p a) true is.1 refl)

pub moved_lie : (p : Params) (from : Seat) (words more : List (List ℕ)) (lie : Lie) → more ≡ words → IsLieOf p from words lie → IsLieOf p from more lie
moved_lie p from words more lie e is = ((is.0.0, is.0.1, e ∙ is.0.2), is.1)

pub request_lie : (p : Params) (words : List (List ℕ)) (r : LieRequest) → IsRequestOf p words r → (from : Seat) → IsLieOf p from (codes "request" ∷ words) (lies.Request r)
request_lie p words r is from = (([], refl, ap (λ ws. codes "request" ∷ ws) is.0), is.1)

ballot_fits : (p : Params) (words : List (List ℕ)) (view number : ℕ) (entry : List LieRequest) → IsBallotOf p words view number entry → (nat_lt view p.views && (within 1 number p.numbers && entry_fits p entry)) ≡ true
ballot_fits p words view number entry is = and_from (nat_lt view p.views) (within 1 number p.numbers && entry_fits p entry) (lt-ltb view p.views is.1) (and_from (within 1 number p.numbers) (entry_fits p entry) is.2 is.3)

pub propose_lie : (p : Params) (words : List (List ℕ)) (view number : ℕ) (entry : List LieRequest) → IsBallotOf p words view number entry → (from : Seat) → IsLieOf p from (codes "propose" ∷ words) (lies.Propose view number entry)
propose_lie p words view number entry is from = (([], refl, ap (λ ws. codes "propose" ∷ ws) is.0), ballot_fits p words view number entry is)

pub vote_lie : (p : Params) (from : Seat) (words rest : List (List ℕ)) (phase view number : ℕ) (entry : List LieRequest) → is_agreement from ≡ true → words ≡ phase_word phase ∷ rest → phase ≤ 1 → IsBallotOf p rest view number entry
    → IsLieOf p from (codes "vote" ∷ words) (lies.Vote phase view number entry)
vote_lie p from words rest phase view number entry sent e few is = (
  ([], refl, ap (λ ws. codes "vote" ∷ ws) (e ∙ ap (λ ws. phase_word phase ∷ ws) is.0)),
  and_from (is_agreement from) (nat_le phase 1 && (nat_lt view p.views && (within 1 number p.numbers && entry_fits p entry))) sent
      (and_from (nat_le phase 1) (nat_lt view p.views && (within 1 number p.numbers && entry_fits p entry)) (le-leb phase 1 few) (ballot_fits p rest view number entry is)),
)

result_fits : (p : Params) (words : List (List ℕ)) (number : ℕ) (answer : List LieReply) → IsResultOf p words number answer → (within 1 number p.numbers && answer_fits p answer) ≡ true
result_fits p words number answer is = and_from (within 1 number p.numbers) (answer_fits p answer) is.1 is.2

pub share_lie : (p : Params) (from : Seat) (words : List (List ℕ)) (number : ℕ) (answer : List LieReply) → is_executor from ≡ true → IsResultOf p words number answer → IsLieOf p from (codes "share" ∷ words) (lies.Share number answer)
share_lie p from words number answer sent is =
    (([], refl, ap (λ ws. codes "share" ∷ ws) is.0), and_from (is_executor from) (within 1 number p.numbers && answer_fits p answer) sent (result_fits p words number answer is))

pub reply_lie : (p : Params) (words : List (List ℕ)) (number : ℕ) (answer : List LieReply) → IsResultOf p words number answer → (from : Seat) → IsLieOf p from (codes "reply" ∷ words) (lies.Reply number answer)
reply_lie p words number answer is from = (([], refl, ap (λ ws. codes "reply" ∷ ws) is.0), result_fits p words number answer is)

-- a correct client is another one than a faulty one
pub not_correct : (p : Params) (faulty : List Seat) (c d : ℕ) (word next : List ℕ) (more words : List (List ℕ)) → IsTrue (accepted p) → c < p.clients → word ≡ client_word c → is_faulty faulty (seats.Client c) ≡ true
    → is_correct p faulty (seats.Client d) ≡ true → word ∷ more ≡ client_word d ∷ next ∷ words → ⊥
not_correct p faulty c d word next more words sizes inside named bad correct e =
    let both = and_parts (nat_lt d p.clients) (not (is_faulty faulty (seats.Client d))) correct in
    let names : client_word c ≡ client_word d = sym named ∙ (let first : word ≡ client_word d = cc in first) in
    let small = (small_sizes p sizes).clients in
    let same : c ≡ d = same_client c d p.clients (omega arith) (lt-ltb c p.clients inside) both.0 names in
    true≢false (sym bad ∙ ap (λ (n : ℕ). is_faulty faulty (seats.Client n)) same ∙ not-true (is_faulty faulty (seats.Client d)) both.1)

pub submit_made : (p : Params) (faulty : List Seat) (words rest : List (List ℕ)) (client : ℕ) (op : Op) → words ≡ client_word client ∷ rest → is_correct p faulty (seats.Client client) ≡ true → rest ≡ op_words op → op_fits p.clients op ≡ true
    → IsStepOf p faulty (codes "submit" ∷ words) (steps.Submit client op)
submit_made p faulty words rest client op e correct asked fit =
    (([], refl, ap (λ ws. codes "submit" ∷ ws) (e ∙ ap (λ ws. client_word client ∷ ws) asked)), and_from (is_correct p faulty (seats.Client client)) (op_fits p.clients op) correct fit)

-- a lie has words
some_words : (digits : List ℕ) (lie : Lie) → (word : List ℕ) × (words : List (List ℕ)) × (lie_words digits lie ≡ word ∷ words)
some_words digits (lies.Raw bytes) = (_, _, refl)
some_words digits (lies.Copy frame) = (_, _, refl)
some_words digits (lies.Request request) = (_, _, refl)
some_words digits (lies.Propose view number entry) = (_, _, refl)
some_words digits (lies.Vote phase view number entry) = (_, _, refl)
some_words digits (lies.Change view) = (_, _, refl)
some_words digits (lies.Share number answer) = (_, _, refl)
some_words digits (lies.Reply number answer) = (_, _, refl)

-- the parts of a step that is a lie
record ToldParts (p : Params) (faulty : List Seat) (from to : Seat) (lie : Lie) : Type 0 where
  from_fits : fits p from ≡ true
  from_faulty : is_faulty faulty from ≡ true
  to_fits : fits p to ≡ true
  linked : linked p from to ≡ true
  lie_fits : lie_fits p from lie ≡ true

told_parts : (p : Params) (faulty : List Seat) (from to : Seat) (lie : Lie) → step_fits p faulty (steps.Lie from to lie) ≡ true → ToldParts p faulty from to lie
told_parts p faulty from to lie fitting =
    let one = and_parts (fits p from) (is_faulty faulty from && (fits p to && (linked p from to && lie_fits p from lie))) fitting in
    let two = and_parts (is_faulty faulty from) (fits p to && (linked p from to && lie_fits p from lie)) one.1 in
    let three = and_parts (fits p to) (linked p from to && lie_fits p from lie) two.1 in
    let four = and_parts (linked p from to) (lie_fits p from lie) three.1 in
    record { from_fits = one.0; from_faulty = two.0; to_fits = three.0; linked = four.0; lie_fits = four.1 }

pub told_made : (p : Params) (faulty : List Seat) (words rest last : List (List ℕ)) (from to : Seat) (lie : Lie) → words ≡ seat_name from ∷ rest → fits p from ≡ true → is_faulty faulty from ≡ true
    → rest ≡ seat_name to ∷ last → fits p to ≡ true → linked p from to ≡ true → IsLieOf p from last lie → IsStepOf p faulty (codes "lie" ∷ words) (steps.Lie from to lie)
told_made p faulty words rest last from to lie e from_fits bad f to_fits link is = (
  (is.0.0, is.0.1, ap (λ ws. codes "lie" ∷ ws) (e ∙ ap (λ ws. seat_name from ∷ ws) (f ∙ ap (λ ws. seat_name to ∷ ws) is.0.2))),
  and_from (fits p from) (is_faulty faulty from && (fits p to && (linked p from to && lie_fits p from lie))) from_fits
      (and_from (is_faulty faulty from) (fits p to && (linked p from to && lie_fits p from lie)) bad
      (and_from (fits p to) (linked p from to && lie_fits p from lie) to_fits
      (and_from (linked p from to) (lie_fits p from lie) link is.1))),
)

pub no_addressee : (p : Params) (faulty : List Seat) (words rest : List (List ℕ)) (from : Seat) → IsTrue (accepted p) → words ≡ seat_name from ∷ rest → fits p from ≡ true
    → ((to : Seat) (word : List ℕ) (more : List (List ℕ)) → IsTrue (fits p to) → IsTrue (linked p from to) → rest ≢ seat_name to ∷ word ∷ more) → (s : Step) → ¬ IsStepOf p faulty (codes "lie" ∷ words) s
no_addressee p faulty words rest from sizes e inside none s = λ is.
    let i = is_lie words s is.0 in
    let parts = told_parts p faulty i.0 i.1 i.2 (rw i.4 at is.1) in
    let names : seat_name i.0 ≡ seat_name from = cc in
    let same = same_seat p i.0 from sizes parts.from_fits inside names in
    let some = some_words i.3 i.2 in
    let left : rest ≡ seat_name i.1 ∷ lie_words i.3 i.2 = cc in
    none i.1 some.0 some.1 parts.to_fits (ap (λ (x : Seat). linked p x i.1) (sym same) ∙ parts.linked) (left ∙ ap (λ ws. seat_name i.1 ∷ ws) some.2)

pub no_lie : (p : Params) (faulty : List Seat) (words rest last : List (List ℕ)) (from to : Seat) → IsTrue (accepted p) → words ≡ seat_name from ∷ rest → fits p from ≡ true → rest ≡ seat_name to ∷ last → ((lie : Lie) → ¬ IsLieOf p from last lie)
    → (s : Step) → ¬ IsStepOf p faulty (codes "lie" ∷ words) s
no_lie p faulty words rest last from to sizes e inside f none s = λ is.
    let i = is_lie words s is.0 in
    let parts = told_parts p faulty i.0 i.1 i.2 (rw i.4 at is.1) in
    let names : seat_name i.0 ≡ seat_name from = cc in
    let same = same_seat p i.0 from sizes parts.from_fits inside names in
    let told : last ≡ lie_words i.3 i.2 = cc in
    none i.2 ((i.3, i.5, told), ap (λ (x : Seat). lie_fits p x i.2) (sym same) ∙ parts.lie_fits)

-- what is known of a step by its words is known by its text
text_of : (p : Params) (faulty : List Seat) (text : List ℕ) (s : Step) → IsStepOf p faulty (words_of text) s → IsStepText text s × IsTrue (step_fits p faulty s)
text_of p faulty text s is = (record { digits = is.0.0; raw = is.0.1; spelled = sym (sentence_words text) ∙ ap sentence is.0.2 }, is.1)

words_by_text : (p : Params) (faulty : List Seat) (text : List ℕ) (s : Step) → IsTrue (accepted p) → IsTrue (step_fits p faulty s) → IsStepText text s → IsStepOf p faulty (words_of text) s
words_by_text p faulty text s sizes fit is = ((is.digits, is.raw, ap words_of is.spelled ∙ words_of_step p faulty is.digits s (small_sizes p sizes) fit is.raw), fit)

-- a text is one step's alone
pub one_step : (p : Params) (faulty : List Seat) (text : List ℕ) (a b : Step) → IsTrue (accepted p) → IsTrue (step_fits p faulty a) → IsTrue (step_fits p faulty b) → IsStepText text a → IsStepText text b → a ≡ b
one_step p faulty text a b sizes g h x y =
    let one = words_by_text p faulty text a sizes g x in
    let other = words_by_text p faulty text b sizes h y in
    same_step p faulty (words_of text) a b sizes (small_sizes p sizes) g h one.0 other.0

pub found_by_text : {E : Type 0} (p : Params) (faulty : List Seat) (text : List ℕ) (r : Result (Option Step) E) → IfOk r (λ found. IfSome found (λ s. IsStepOf p faulty (words_of text) s))
    → IfOk r (λ found. IfSome found (λ s. IsStepText text s × IsTrue (step_fits p faulty s)))
found_by_text p faulty text (Ok (Some s)) found = text_of p faulty text s found
found_by_text p faulty text (Ok None) found = tt
found_by_text p faulty text (Err e) found = tt

pub each_by_text : {E : Type 0} (p : Params) (faulty : List Seat) (text : List ℕ) (r : Result (Option Step) E) → IsTrue (accepted p) → IfOk r (λ found. IfSome found (λ s. IsStepOf p faulty (words_of text) s))
    → IfOk r (λ found. IfNone found ((s : Step) → ¬ IsStepOf p faulty (words_of text) s)) → IfOk r (λ found. (s : Step) → IsTrue (step_fits p faulty s) → IsStepText text s → found ≡ Some s)
each_by_text p faulty text (Ok (Some x)) sizes found none = λ s fit is.
    let words = words_by_text p faulty text s sizes fit is in
    ap Some (same_step p faulty (words_of text) x s sizes (small_sizes p sizes) found.1 fit found.0 words.0)
each_by_text p faulty text (Ok None) sizes found none = λ s fit is. absurd (none s (words_by_text p faulty text s sizes fit is))
each_by_text p faulty text (Err e) sizes found none = tt

pub memory_by_text : {E : Type 0} (p : Params) (faulty : List Seat) (text : List ℕ) (r : Result (Option Step) E) → OnErr r ((s : Step) × IsStepOf p faulty (words_of text) s)
    → OnErr r ((s : Step) × IsStepText text s × IsTrue (step_fits p faulty s))
memory_by_text p faulty text (Ok x) wanted = tt
memory_by_text p faulty text (Err e) wanted = let is = text_of p faulty text wanted.0 wanted.1 in (wanted.0, is.0, is.1)
