-- No word of a step has a blank, so the words of its text are its words.
use Rattle.std.proofs.Common.{◌≡◌, ℕ, ◌<◌, ◌≤◌, ◌^◌, true, false, ◌&&◌, not, nat_lt, nat_le, zero, suc, List, [], ◌∷◌, ◌++◌, length, Ok, IsTrue, inl, inr, refl, ◌∙◌, arith, rules, codes, decimal, flat_map}
use Rattle.std.proofs.lemmas.Bool.{and_parts, and_from, cases_Bool, ltb-true, leb-true}
use Rattle.std.proofs.lemmas.List.Folds.{list_all-append}
use Rattle.std.proofs.lemmas.List.Splits.{slice_split-cons_yes, slice_split-cons_no}
use Rattle.std.proofs.lemmas.List.Sums.{list_all-from_AllPass}
use Rattle.std.specs.List.{list_all, onto_first}
use Rattle.hex.specs.Hex.{decode_of, is_hex_digit}
use Rattle.hex.proofs.HexLemmas.{decode_of-ok}
use Rattle.fw_list.specs.Numbers.{within}
use Rattle.fw_base.specs.declared.params.Params.{Params}
use Rattle.fw_base.specs.declared.seat.Seat.{Seat}
use Rattle.fw_base.specs.declared.seat.Seat.TheVariants as seats
use Rattle.fw_base.specs.Names.{seat_name}
use Rattle.fw_base.specs.Seats.{fits, linked}
use Rattle.fw_base.specs.Sizes.{accepted, agreements, executors, width}
use Rattle.fw_op.specs.declared.reply.Reply.{Reply}
use Rattle.fw_op.specs.Ops.{op_words, op_fits}
use Rattle.fw_op.specs.Replies.{reply_words, reply_text, reply_fits, has_bytes}
use Rattle.fw_op.specs.Words.{sentence, client_word, is_blank, words_of}
use Rattle.fw_op.proofs.Sentences.{is_whole, words_sentence, without, whole_decimal, whole_client}
use Rattle.fw_op.proofs.OpSentences.{whole_op}
use Rattle.fw_op.proofs.ReplySentences.{words_of_reply}
use Rattle.fw_step.specs.declared.limits.TheConstants.{MOST_FLUSHED, LAST_FRAME}
use Rattle.fw_step.specs.declared.step.Step.{Step}
use Rattle.fw_step.specs.declared.step.Step.TheVariants as steps
use Rattle.fw_step.specs.declared.step.Lie.{Lie}
use Rattle.fw_step.specs.declared.step.Lie.TheVariants.{Raw, Copy, Request, Propose, Vote, Change, Share, Reply as Answered}
use Rattle.fw_step.specs.declared.step.LieOp.{LieOp}
use Rattle.fw_step.specs.declared.step.LieOp.TheVariants as lie_ops
use Rattle.fw_step.specs.declared.step.LieRequest.{LieRequest}
use Rattle.fw_step.specs.declared.step.LieReply.{LieReply}
use Rattle.fw_step.specs.Spelling.{lie_op_words, request_words, answered_words, entry_words, answer_words, phase_word, lie_words, step_words, AreLieDigits, AreDigits}
use Rattle.fw_step.specs.Fitting.{is_faulty, is_correct, is_agreement, is_executor, lie_op_fits, request_fits, answered_fits, entry_fits, answer_fits, lie_fits, step_fits}

-- accepted sizes are small
pub record AreSmall (p : Params) : Type 0 where
  pub numbers : p.numbers ≤ 64
  pub views : p.views ≤ 8
  pub clients : p.clients ≤ 8
  pub stamps : p.stamps ≤ 16
  pub agreements : agreements p ≤ 10
  pub executors : executors p ≤ 10
  pub width : width p ≤ 10

pub small_sizes : (p : Params) → IsTrue (accepted p) → AreSmall p
small_sizes p sizes = record {
  numbers = search rules;
  views = search rules;
  clients = search rules;
  stamps = search rules;
  agreements = search rules;
  executors = search rules;
  width = search rules;
}

-- the words of any text have no blank
onto : (x : ℕ) (parts : List (List ℕ)) → is_blank x ≡ false → list_all is_whole parts ≡ true → list_all is_whole (onto_first x parts) ≡ true
onto x [] other all = rw other refl
onto x (part ∷ parts) other all =
    let both = and_parts (is_whole part) (list_all is_whole parts) all in
    rw (other, both.0) both.1

pub whole_words : (text : List ℕ) → list_all is_whole (words_of text) ≡ true
whole_words [] = refl
whole_words (x ∷ xs) =
    elim (cases_Bool (is_blank x)) [
      | inl same ↦ rw (slice_split-cons_yes is_blank x xs same) (whole_words xs)
      | inr other ↦ rw (slice_split-cons_no is_blank x xs other) (onto x (words_of xs) other (whole_words xs))
    ]

cons_whole : (w : List ℕ) (ws : List (List ℕ)) → is_whole w ≡ true → list_all is_whole ws ≡ true → list_all is_whole (w ∷ ws) ≡ true
cons_whole w ws one more = and_from (is_whole w) (list_all is_whole ws) one more

one_whole : (w : List ℕ) → is_whole w ≡ true → list_all is_whole (w ∷ []) ≡ true
one_whole w one = and_from (is_whole w) true one refl

append_whole : (ws vs : List (List ℕ)) → list_all is_whole ws ≡ true → list_all is_whole vs ≡ true → list_all is_whole (ws ++ vs) ≡ true
append_whole ws vs one more = list_all-append is_whole ws vs ∙ and_from (list_all is_whole ws) (list_all is_whole vs) one more

whole_within : (n least most : ℕ) → most < 2 ^ 32 → within least n most ≡ true → is_whole (decimal n) ≡ true
whole_within n least most small h = whole_decimal n (omega (arith, leb-true n most (and_parts (nat_le least n) (nat_le n most) h).1))

whole_below : (n most : ℕ) → most < 2 ^ 32 → nat_lt n most ≡ true → is_whole (decimal n) ≡ true
whole_below n most small h = whole_decimal n (omega (arith, ltb-true n most h))

whole_reply : (clients : ℕ) (reply : Reply) → clients < 2 ^ 32 → reply_fits clients reply ≡ true → list_all is_whole (reply_words reply) ≡ true
whole_reply clients reply small fits = rw (words_of_reply clients reply small fits) at (whole_words (reply_text reply))

whole_lie_op : (clients : ℕ) (op : LieOp) → clients < 2 ^ 32 → lie_op_fits clients op ≡ true → list_all is_whole (lie_op_words op) ≡ true
whole_lie_op clients lie_ops.Bad small fits = refl
whole_lie_op clients (lie_ops.Op op) small fits = whole_op clients op small fits

whole_request : (p : Params) (r : LieRequest) → AreSmall p → request_fits p r ≡ true → list_all is_whole (request_words r) ≡ true
whole_request p r small fits =
    let one = and_parts (nat_lt r.client p.clients) (within 1 r.stamp p.stamps && lie_op_fits p.clients r.op) fits in
    let two = and_parts (within 1 r.stamp p.stamps) (lie_op_fits p.clients r.op) one.1 in
    cons_whole (client_word r.client) (decimal r.stamp ∷ lie_op_words r.op) (whole_client r.client p.clients (omega (arith, small.clients)) one.0)
    (cons_whole (decimal r.stamp) (lie_op_words r.op) (whole_within r.stamp 1 p.stamps (omega (arith, small.stamps)) two.0) (whole_lie_op p.clients r.op (omega (arith, small.clients)) two.1))

whole_answered : (p : Params) (a : LieReply) → AreSmall p → answered_fits p a ≡ true → list_all is_whole (answered_words a) ≡ true
whole_answered p a small fits =
    let one = and_parts (nat_lt a.client p.clients) (within 1 a.stamp p.stamps && (reply_fits p.clients a.reply && has_bytes a.reply)) fits in
    let two = and_parts (within 1 a.stamp p.stamps) (reply_fits p.clients a.reply && has_bytes a.reply) one.1 in
    let three = and_parts (reply_fits p.clients a.reply) (has_bytes a.reply) two.1 in
    cons_whole (client_word a.client) (decimal a.stamp ∷ reply_words a.reply) (whole_client a.client p.clients (omega (arith, small.clients)) one.0)
    (cons_whole (decimal a.stamp) (reply_words a.reply) (whole_within a.stamp 1 p.stamps (omega (arith, small.stamps)) two.0) (whole_reply p.clients a.reply (omega (arith, small.clients)) three.0))

whole_requests : (p : Params) (rs : List LieRequest) → AreSmall p → list_all (request_fits p) rs ≡ true → list_all is_whole (flat_map request_words rs) ≡ true
whole_requests p [] small fits = refl
whole_requests p (r ∷ rs) small fits =
    let both = and_parts (request_fits p r) (list_all (request_fits p) rs) fits in
    append_whole (request_words r) (flat_map request_words rs) (whole_request p r small both.0) (whole_requests p rs small both.1)

whole_entry : (p : Params) (entry : List LieRequest) → AreSmall p → entry_fits p entry ≡ true → list_all is_whole (entry_words entry) ≡ true
whole_entry p [] small fits = refl
whole_entry p (r ∷ rs) small fits = whole_requests p (r ∷ rs) small (and_parts (nat_le (length (r ∷ rs)) 1) (list_all (request_fits p) (r ∷ rs)) fits).1

whole_replies : (p : Params) (more : List LieReply) → AreSmall p → list_all (answered_fits p) more ≡ true → list_all is_whole (flat_map answered_words more) ≡ true
whole_replies p [] small fits = refl
whole_replies p (a ∷ more) small fits =
    let both = and_parts (answered_fits p a) (list_all (answered_fits p) more) fits in
    append_whole (answered_words a) (flat_map answered_words more) (whole_answered p a small both.0) (whole_replies p more small both.1)

whole_answer : (p : Params) (answer : List LieReply) → AreSmall p → answer_fits p answer ≡ true → list_all is_whole (answer_words answer) ≡ true
whole_answer p [] small fits = refl
whole_answer p (a ∷ more) small fits = whole_replies p (a ∷ more) small (and_parts (nat_le (length (a ∷ more)) 1) (list_all (answered_fits p) (a ∷ more)) fits).1

pub whole_digits : (text bytes : List ℕ) → decode_of text ≡ Ok bytes → is_whole text ≡ true
whole_digits text bytes decoded = without 32 is_hex_digit refl text (list_all-from_AllPass is_hex_digit text (decode_of-ok text bytes decoded).1)

whole_phase : (phase : ℕ) → is_whole (phase_word phase) ≡ true
whole_phase zero = refl
whole_phase (suc k) = refl

whole_seat : (p : Params) (seat : Seat) → AreSmall p → fits p seat ≡ true → is_whole (seat_name seat) ≡ true
whole_seat p (seats.Agree i) small within = whole_below i (agreements p) (omega (arith, small.agreements)) within
whole_seat p (seats.Exec j) small within = whole_below j (executors p) (omega (arith, small.executors)) within
whole_seat p (seats.Filter r c) small within =
    let both = and_parts (nat_lt r (width p)) (nat_lt c (width p)) within in
    let row = whole_below r (width p) (omega (arith, small.width)) both.0 in
    let column = whole_below c (width p) (omega (arith, small.width)) both.1 in
    let point : is_whole (codes "x" ++ decimal r ++ codes ".") ≡ true =
    list_all-append (λ b. not (is_blank b)) (codes "x" ++ decimal r) (codes ".") ∙ and_from (is_whole (codes "x" ++ decimal r)) (is_whole (codes ".")) row refl in
    list_all-append (λ b. not (is_blank b)) (codes "x" ++ decimal r ++ codes ".") (decimal c)
    ∙ and_from (is_whole (codes "x" ++ decimal r ++ codes ".")) (is_whole (decimal c)) point column
whole_seat p (seats.Client c) small within = whole_below c p.clients (omega (arith, small.clients)) within

-- the words of a view, a number and what follows them
whole_ballot : (p : Params) (view number : ℕ) (words : List (List ℕ)) → AreSmall p → nat_lt view p.views ≡ true → within 1 number p.numbers ≡ true → list_all is_whole words ≡ true → list_all is_whole (decimal view ∷ decimal number ∷ words) ≡ true
whole_ballot p view number words small inside numbered all =
    cons_whole (decimal view) (decimal number ∷ words) (whole_below view p.views (omega (arith, small.views)) inside)
    (cons_whole (decimal number) words (whole_within number 1 p.numbers (omega (arith, small.numbers)) numbered) all)

whole_lie : (p : Params) (from : Seat) (digits : List ℕ) (lie : Lie) → AreSmall p → lie_fits p from lie ≡ true → AreLieDigits digits lie → list_all is_whole (lie_words digits lie) ≡ true
whole_lie p from digits (Raw bytes) small fits are = one_whole digits (whole_digits digits bytes are)
whole_lie p from digits (Copy frame) small fits are = one_whole (decimal frame) (whole_decimal frame (omega (arith, leb-true frame LAST_FRAME fits)))
whole_lie p from digits (Request request) small fits are = whole_request p request small fits
whole_lie p from digits (Propose view number entry) small fits are =
    let one = and_parts (nat_lt view p.views) (within 1 number p.numbers && entry_fits p entry) fits in
    let two = and_parts (within 1 number p.numbers) (entry_fits p entry) one.1 in
    whole_ballot p view number (entry_words entry) small one.0 two.0 (whole_entry p entry small two.1)
whole_lie p from digits (Vote phase view number entry) small fits are =
    let sent = and_parts (is_agreement from) (nat_le phase 1 && (nat_lt view p.views && (within 1 number p.numbers && entry_fits p entry))) fits in
    let phased = and_parts (nat_le phase 1) (nat_lt view p.views && (within 1 number p.numbers && entry_fits p entry)) sent.1 in
    let one = and_parts (nat_lt view p.views) (within 1 number p.numbers && entry_fits p entry) phased.1 in
    let two = and_parts (within 1 number p.numbers) (entry_fits p entry) one.1 in
    cons_whole (phase_word phase) (decimal view ∷ decimal number ∷ entry_words entry) (whole_phase phase)
    (whole_ballot p view number (entry_words entry) small one.0 two.0 (whole_entry p entry small two.1))
whole_lie p from digits (Change view) small fits are =
    let sent = and_parts (is_agreement from) (nat_le 1 view && nat_lt view p.views) fits in
    let both = and_parts (nat_le 1 view) (nat_lt view p.views) sent.1 in
    one_whole (decimal view) (whole_below view p.views (omega (arith, small.views)) both.1)
whole_lie p from digits (Share number answer) small fits are =
    let sent = and_parts (is_executor from) (within 1 number p.numbers && answer_fits p answer) fits in
    let both = and_parts (within 1 number p.numbers) (answer_fits p answer) sent.1 in
    cons_whole (decimal number) (answer_words answer) (whole_within number 1 p.numbers (omega (arith, small.numbers)) both.0) (whole_answer p answer small both.1)
whole_lie p from digits (Answered number answer) small fits are =
    let both = and_parts (within 1 number p.numbers) (answer_fits p answer) fits in
    cons_whole (decimal number) (answer_words answer) (whole_within number 1 p.numbers (omega (arith, small.numbers)) both.0) (whole_answer p answer small both.1)

-- the words of a step's text are the step's words
pub words_of_step : (p : Params) (faulty : List Seat) (digits : List ℕ) (s : Step) → AreSmall p → step_fits p faulty s ≡ true → AreDigits digits s → words_of (sentence (step_words digits s)) ≡ step_words digits s
words_of_step p faulty digits (steps.Submit client op) small fits are =
    let both = and_parts (is_correct p faulty (seats.Client client)) (op_fits p.clients op) fits in
    let inside = and_parts (nat_lt client p.clients) (not (is_faulty faulty (seats.Client client))) both.0 in
    words_sentence (codes "submit") (client_word client ∷ op_words op) refl
    (cons_whole (client_word client) (op_words op) (whole_client client p.clients (omega (arith, small.clients)) inside.0) (whole_op p.clients op (omega (arith, small.clients)) both.1))
words_of_step p faulty digits (steps.Deliver frame) small fits are =
    words_sentence (codes "deliver") (decimal frame ∷ []) refl (one_whole (decimal frame) (whole_decimal frame (omega (arith, leb-true frame LAST_FRAME fits))))
words_of_step p faulty digits (steps.Flush most) small fits are =
    words_sentence (codes "flush") (decimal most ∷ []) refl (one_whole (decimal most) (whole_within most 1 MOST_FLUSHED (omega arith) fits))
words_of_step p faulty digits (steps.Tick seat) small fitting are =
    words_sentence (codes "tick") (seat_name seat ∷ []) refl (one_whole (seat_name seat) (whole_seat p seat small (and_parts (fits p seat) (not (is_faulty faulty seat)) fitting).0))
words_of_step p faulty digits (steps.Lie from to lie) small fitting are =
    let one = and_parts (fits p from) (is_faulty faulty from && (fits p to && (linked p from to && lie_fits p from lie))) fitting in
    let two = and_parts (is_faulty faulty from) (fits p to && (linked p from to && lie_fits p from lie)) one.1 in
    let three = and_parts (fits p to) (linked p from to && lie_fits p from lie) two.1 in
    let four = and_parts (linked p from to) (lie_fits p from lie) three.1 in
    words_sentence (codes "lie") (seat_name from ∷ seat_name to ∷ lie_words digits lie) refl
    (cons_whole (seat_name from) (seat_name to ∷ lie_words digits lie) (whole_seat p from small one.0)
    (cons_whole (seat_name to) (lie_words digits lie) (whole_seat p to small three.0) (whole_lie p from digits lie small four.1 are)))
