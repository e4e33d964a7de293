-- The words of a step are those of one step alone.
use Rattle.std.proofs.Common.{◌≡◌, ℕ, ◌<◌, ◌≤◌, ◌^◌, Bool, true, ◌&&◌, not, nat_lt, nat_le, zero, suc, List, [], ◌∷◌, length, get_or, IsTrue, refl, sym, ap, ap₂, ◌∙◌, arith, codes, decimal}
use Rattle.std.proofs.lemmas.Bool.{and_parts, ltb-true, leb-true}
use Rattle.std.proofs.lemmas.Fmt.{decimal_injective}
use Rattle.std.proofs.lemmas.List.{append-nil}
use Rattle.std.specs.List.{list_all}
use Rattle.hex.specs.Hex.{decode_of}
use Rattle.hex.proofs.HexLemmas.{decode_of-same}
use Rattle.fw_list.specs.Numbers.{within}
use Rattle.fw_base.specs.declared.params.Params.{Params}
use Rattle.fw_base.specs.declared.seat.Seat.{Seat}
use Rattle.fw_base.specs.declared.seat.Seat.TheVariants as seats
use Rattle.fw_base.specs.Names.{seat_name}
use Rattle.fw_base.specs.Seats.{fits, linked}
use Rattle.fw_base.specs.Sizes.{accepted}
use Rattle.fw_base.proofs.Naming.{same_name, one_seat}
use Rattle.fw_op.specs.declared.op.Op.{Op}
use Rattle.fw_op.specs.declared.op.Op.TheVariants as ops
use Rattle.fw_op.specs.declared.reply.Reply.{Reply}
use Rattle.fw_op.specs.Ops.{op_words, op_fits}
use Rattle.fw_op.specs.Replies.{reply_words, reply_fits, has_bytes}
use Rattle.fw_op.specs.Words.{client_word}
use Rattle.fw_op.proofs.OneOp.{same_op_words}
use Rattle.fw_op.proofs.OneReply.{same_reply_words}
use Rattle.fw_step.specs.declared.limits.TheConstants.{LAST_FRAME, MOST_FLUSHED}
use Rattle.fw_step.specs.declared.step.Step.{Step}
use Rattle.fw_step.specs.declared.step.Step.TheVariants as steps
use Rattle.fw_step.specs.declared.step.Lie.{Lie}
use Rattle.fw_step.specs.declared.step.Lie.TheVariants.{Raw, Copy, Request, Propose, Vote, Change, Share, Reply as Answered}
use Rattle.fw_step.specs.declared.step.LieOp.{LieOp}
use Rattle.fw_step.specs.declared.step.LieOp.TheVariants as lie_ops
use Rattle.fw_step.specs.declared.step.LieRequest.{LieRequest}
use Rattle.fw_step.specs.declared.step.LieReply.{LieReply}
use Rattle.fw_step.specs.Spelling.{lie_op_words, request_words, answered_words, entry_words, answer_words, phase_word, lie_words, AreLieWords, AreStepWords}
use Rattle.fw_step.specs.Fitting.{is_faulty, is_correct, is_agreement, is_executor, lie_op_fits, request_fits, answered_fits, entry_fits, answer_fits, lie_fits, step_fits}
use Rattle.fw_step.proofs.Whole.{AreSmall}
use Rattle.fw_step.proofs.FirstWords.{is_raw, is_copy, is_request, is_propose, is_vote, is_change, is_share, is_reply, is_submit, is_deliver, is_flush, is_tick, is_lie}

same_below : (m n most : ℕ) → most < 2 ^ 32 → nat_lt m most ≡ true → nat_lt n most ≡ true → decimal m ≡ decimal n → m ≡ n
same_below m n most small g h e = decimal_injective m n (omega (arith, ltb-true m most g)) (omega (arith, ltb-true n most h)) e

at_most : (n least most : ℕ) → within least n most ≡ true → n ≤ most
at_most n least most h = leb-true n most (and_parts (nat_le least n) (nat_le n most) h).1

same_within : (m n least most : ℕ) → most < 2 ^ 32 → within least m most ≡ true → within least n most ≡ true → decimal m ≡ decimal n → m ≡ n
same_within m n least most small g h e = decimal_injective m n (omega (arith, at_most m least most g)) (omega (arith, at_most n least most h)) e

pub same_client : (c d clients : ℕ) → clients < 2 ^ 32 → nat_lt c clients ≡ true → nat_lt d clients ≡ true → client_word c ≡ client_word d → c ≡ d
same_client c d clients small g h e = same_below c d clients small g h (let digits : decimal c ≡ decimal d = cc in digits)

pub same_seat : (p : Params) (a b : Seat) → IsTrue (accepted p) → fits p a ≡ true → fits p b ≡ true → seat_name a ≡ seat_name b → a ≡ b
same_seat p a b sizes g h e = one_seat a b (sym (same_name p a sizes g) ∙ e ∙ same_name p b sizes h)

-- no operation is `bad`
never_bad : (op : Op) → codes "bad" ∷ [] ≡ op_words op → ⊥
never_bad (ops.Put key value) e = cc
never_bad (ops.Get owner key) e = cc
never_bad (ops.Del key) e = cc
never_bad (ops.Cas key old new) e = cc
never_bad (ops.Grant key client) e = cc
never_bad (ops.Revoke key client) e = cc
never_bad ops.Count e = let letter : 98 ≡ 99 = ap (λ ws. get_or (get_or ws 0 []) 0 0) e in omega (arith, letter)
never_bad ops.Keys e = let letter : 98 ≡ 107 = ap (λ ws. get_or (get_or ws 0 []) 0 0) e in omega (arith, letter)

same_lie_op : (clients : ℕ) (a b : LieOp) → clients < 2 ^ 32 → lie_op_fits clients a ≡ true → lie_op_fits clients b ≡ true → lie_op_words a ≡ lie_op_words b → a ≡ b
same_lie_op clients lie_ops.Bad lie_ops.Bad small g h e = refl
same_lie_op clients lie_ops.Bad (lie_ops.Op op) small g h e = absurd (never_bad op e)
same_lie_op clients (lie_ops.Op op) lie_ops.Bad small g h e = absurd (never_bad op (sym e))
same_lie_op clients (lie_ops.Op a) (lie_ops.Op b) small g h e = ap lie_ops.Op (same_op_words clients a b small g h e)

same_request : (p : Params) (a b : LieRequest) → AreSmall p → request_fits p a ≡ true → request_fits p b ≡ true → request_words a ≡ request_words b → a ≡ b
same_request p a b small g h e =
    let one = and_parts (nat_lt a.client p.clients) (within 1 a.stamp p.stamps && lie_op_fits p.clients a.op) g in
    let two = and_parts (within 1 a.stamp p.stamps) (lie_op_fits p.clients a.op) one.1 in
    let first = and_parts (nat_lt b.client p.clients) (within 1 b.stamp p.stamps && lie_op_fits p.clients b.op) h in
    let second = and_parts (within 1 b.stamp p.stamps) (lie_op_fits p.clients b.op) first.1 in
    let client : a.client ≡ b.client = same_client a.client b.client p.clients (omega (arith, small.clients)) one.0 first.0 (let words : client_word a.client ≡ client_word b.client = cc in words) in
    let stamp : a.stamp ≡ b.stamp = same_within a.stamp b.stamp 1 p.stamps (omega (arith, small.stamps)) two.0 second.0 (let words : decimal a.stamp ≡ decimal b.stamp = cc in words) in
    let op : a.op ≡ b.op = same_lie_op p.clients a.op b.op (omega (arith, small.clients)) two.1 second.1 (let words : lie_op_words a.op ≡ lie_op_words b.op = cc in words) in
    let made : ℕ → ℕ → LieOp → LieRequest = λ c s o. record { client = c; stamp = s; op = o } in
    ap (λ c. made c a.stamp a.op) client ∙ ap₂ (λ s o. made b.client s o) stamp op

same_answered : (p : Params) (a b : LieReply) → AreSmall p → answered_fits p a ≡ true → answered_fits p b ≡ true → answered_words a ≡ answered_words b → a ≡ b
same_answered p a b small g h e =
    let one = and_parts (nat_lt a.client p.clients) (within 1 a.stamp p.stamps && (reply_fits p.clients a.reply && has_bytes a.reply)) g in
    let two = and_parts (within 1 a.stamp p.stamps) (reply_fits p.clients a.reply && has_bytes a.reply) one.1 in
    let three = and_parts (reply_fits p.clients a.reply) (has_bytes a.reply) two.1 in
    let first = and_parts (nat_lt b.client p.clients) (within 1 b.stamp p.stamps && (reply_fits p.clients b.reply && has_bytes b.reply)) h in
    let second = and_parts (within 1 b.stamp p.stamps) (reply_fits p.clients b.reply && has_bytes b.reply) first.1 in
    let third = and_parts (reply_fits p.clients b.reply) (has_bytes b.reply) second.1 in
    let client : a.client ≡ b.client = same_client a.client b.client p.clients (omega (arith, small.clients)) one.0 first.0 (let words : client_word a.client ≡ client_word b.client = cc in words) in
    let stamp : a.stamp ≡ b.stamp = same_within a.stamp b.stamp 1 p.stamps (omega (arith, small.stamps)) two.0 second.0 (let words : decimal a.stamp ≡ decimal b.stamp = cc in words) in
    let reply = same_reply_words p.clients a.reply b.reply (omega (arith, small.clients)) three.0 third.0 (let words : reply_words a.reply ≡ reply_words b.reply = cc in words) in
    let made : ℕ → ℕ → Reply → LieReply = λ c s r. record { client = c; stamp = s; reply = r } in
    ap (λ (c : ℕ). made c a.stamp a.reply) client ∙ ap₂ (λ (s : ℕ) (r : Reply). made b.client s r) stamp reply

too_many : {A : Type 0} (fit : A → Bool) (x y : A) (more : List A) → (nat_le (length (x ∷ y ∷ more)) 1 && list_all fit (x ∷ y ∷ more)) ≡ true → ⊥
too_many fit x y more h = let few = leb-true (length (x ∷ y ∷ more)) 1 (and_parts (nat_le (length (x ∷ y ∷ more)) 1) (list_all fit (x ∷ y ∷ more)) h).0 in omega (arith, few)

-- lists of at most one item, whose spelling is `null` where there is none
same_few : {A : Type 0} (spell : A → List (List ℕ)) (fit : A → Bool) (words : List A → List (List ℕ)) → words [] ≡ codes "null" ∷ [] → ((a : A) → words (a ∷ []) ≡ spell a)
    → ((a : A) → get_or (get_or (spell a) 0 []) 0 0 ≡ 99) → ((a b : A) → fit a ≡ true → fit b ≡ true → spell a ≡ spell b → a ≡ b)
    → (xs ys : List A) → (nat_le (length xs) 1 && list_all fit xs) ≡ true → (nat_le (length ys) 1 && list_all fit ys) ≡ true → words xs ≡ words ys → xs ≡ ys
same_few spell fit words none one letter same [] [] g h e = refl
same_few spell fit words none one letter same [] (b ∷ []) g h e =
    let differ : 110 ≡ 99 = ap (λ ws. get_or (get_or ws 0 []) 0 0) (sym none ∙ e ∙ one b) ∙ letter b in
    absurd (omega (arith, differ))
same_few spell fit words none one letter same (a ∷ []) [] g h e =
    let differ : 110 ≡ 99 = ap (λ ws. get_or (get_or ws 0 []) 0 0) (sym none ∙ sym e ∙ one a) ∙ letter a in
    absurd (omega (arith, differ))
same_few spell fit words none one letter same (a ∷ []) (b ∷ []) g h e =
    ap (λ x. x ∷ []) (same a b (and_parts (fit a) true g).0 (and_parts (fit b) true h).0 (sym (one a) ∙ e ∙ one b))
same_few spell fit words none one letter same [] (b ∷ d ∷ ys) g h e = absurd (too_many fit b d ys h)
same_few spell fit words none one letter same (a ∷ []) (b ∷ d ∷ ys) g h e = absurd (too_many fit b d ys h)
same_few spell fit words none one letter same (a ∷ c ∷ xs) ys g h e = absurd (too_many fit a c xs g)

pub same_entry : (p : Params) (a b : List LieRequest) → AreSmall p → entry_fits p a ≡ true → entry_fits p b ≡ true → entry_words a ≡ entry_words b → a ≡ b
same_entry p a b small g h e =
    same_few request_words (request_fits p) entry_words refl (λ r. append-nil (request_words r)) (λ r. refl) (λ r s fit_r fit_s. same_request p r s small fit_r fit_s) a b g h e

pub same_answer : (p : Params) (a b : List LieReply) → AreSmall p → answer_fits p a ≡ true → answer_fits p b ≡ true → answer_words a ≡ answer_words b → a ≡ b
same_answer p a b small g h e =
    same_few answered_words (answered_fits p) answer_words refl (λ r. append-nil (answered_words r)) (λ r. refl) (λ r s fit_r fit_s. same_answered p r s small fit_r fit_s) a b g h e

same_phase : (m n : ℕ) → nat_le m 1 ≡ true → nat_le n 1 ≡ true → phase_word m ≡ phase_word n → m ≡ n
same_phase zero zero g h e = refl
same_phase zero (suc n) g h e = let letter : 112 ≡ 99 = ap (λ w. get_or w 0 0) e in absurd (omega (arith, letter))
same_phase (suc m) zero g h e = let letter : 99 ≡ 112 = ap (λ w. get_or w 0 0) e in absurd (omega (arith, letter))
same_phase (suc m) (suc n) g h e = omega (arith, leb-true (suc m) 1 g, leb-true (suc n) 1 h)

-- the parts of a proposal or a vote
same_ballot : (p : Params) (v n : ℕ) (x : List LieRequest) (w m : ℕ) (y : List LieRequest) → AreSmall p → (nat_lt v p.views && (within 1 n p.numbers && entry_fits p x)) ≡ true → (nat_lt w p.views && (within 1 m p.numbers && entry_fits p y)) ≡ true
    → decimal v ∷ decimal n ∷ entry_words x ≡ decimal w ∷ decimal m ∷ entry_words y → (v ≡ w) × (n ≡ m) × (x ≡ y)
same_ballot p v n x w m y small g h e =
    let one = and_parts (nat_lt v p.views) (within 1 n p.numbers && entry_fits p x) g in
    let two = and_parts (within 1 n p.numbers) (entry_fits p x) one.1 in
    let first = and_parts (nat_lt w p.views) (within 1 m p.numbers && entry_fits p y) h in
    let second = and_parts (within 1 m p.numbers) (entry_fits p y) first.1 in
    let view_words : decimal v ≡ decimal w = cc in
    let number_words : decimal n ≡ decimal m = cc in
    let entries : entry_words x ≡ entry_words y = cc in
    (same_below v w p.views (omega (arith, small.views)) one.0 first.0 view_words, same_within n m 1 p.numbers (omega (arith, small.numbers)) two.0 second.0 number_words, same_entry p x y small two.1 second.1 entries)

same_result : (p : Params) (n : ℕ) (x : List LieReply) (m : ℕ) (y : List LieReply) → AreSmall p → (within 1 n p.numbers && answer_fits p x) ≡ true → (within 1 m p.numbers && answer_fits p y) ≡ true
    → decimal n ∷ answer_words x ≡ decimal m ∷ answer_words y → (n ≡ m) × (x ≡ y)
same_result p n x m y small g h e =
    let one = and_parts (within 1 n p.numbers) (answer_fits p x) g in
    let first = and_parts (within 1 m p.numbers) (answer_fits p y) h in
    let number_words : decimal n ≡ decimal m = cc in
    let answers : answer_words x ≡ answer_words y = cc in
    (same_within n m 1 p.numbers (omega (arith, small.numbers)) one.0 first.0 number_words, same_answer p x y small one.1 first.1 answers)

-- the words of the second are those that the first has
moved : (words more : List (List ℕ)) (b : Lie) → words ≡ more → AreLieWords words b → AreLieWords more b
moved words more b e are = (are.0, are.1, sym e ∙ are.2)

same_lie : (p : Params) (from : Seat) (words : List (List ℕ)) (a b : Lie) → AreSmall p → lie_fits p from a ≡ true → lie_fits p from b ≡ true → AreLieWords words a → AreLieWords words b → a ≡ b
same_lie p from words (Raw bytes) b small g h x y =
    let i = is_raw (x.0 ∷ []) b (moved words (codes "raw" ∷ x.0 ∷ []) b x.2 y) in
    let digits : x.0 ≡ i.1 = cc in
    ap Raw (decode_of-same x.0 bytes i.0 x.1 (ap decode_of digits ∙ i.3)) ∙ sym i.2
same_lie p from words (Copy frame) b small g h x y =
    let i = is_copy (decimal frame ∷ []) b (moved words (codes "copy" ∷ decimal frame ∷ []) b x.2 y) in
    let fit : lie_fits p from (Copy i.0) ≡ true = rw i.1 at h in
    let digits : decimal frame ≡ decimal i.0 = cc in
    ap Copy (decimal_injective frame i.0 (omega (arith, leb-true frame LAST_FRAME g)) (omega (arith, leb-true i.0 LAST_FRAME fit)) digits) ∙ sym i.1
same_lie p from words (Request request) b small g h x y =
    let i = is_request (request_words request) b (moved words (codes "request" ∷ request_words request) b x.2 y) in
    ap Request (same_request p request i.0 small g (rw i.1 at h) i.2) ∙ sym i.1
same_lie p from words (Propose view number entry) b small g h x y =
    let i = is_propose (decimal view ∷ decimal number ∷ entry_words entry) b (moved words (codes "propose" ∷ decimal view ∷ decimal number ∷ entry_words entry) b x.2 y) in
    let same = same_ballot p view number entry i.0 i.1 i.2 small g (rw i.3 at h) i.4 in
    ap (λ (v : ℕ). Propose v number entry) same.0 ∙ ap₂ (λ (n : ℕ) (z : List LieRequest). Propose i.0 n z) same.1 same.2 ∙ sym i.3
same_lie p from words (Vote phase view number entry) b small g h x y =
    let i = is_vote (phase_word phase ∷ decimal view ∷ decimal number ∷ entry_words entry) b (moved words (codes "vote" ∷ phase_word phase ∷ decimal view ∷ decimal number ∷ entry_words entry) b x.2 y) in
    let sent = and_parts (is_agreement from) (nat_le phase 1 && (nat_lt view p.views && (within 1 number p.numbers && entry_fits p entry))) g in
    let phased = and_parts (nat_le phase 1) (nat_lt view p.views && (within 1 number p.numbers && entry_fits p entry)) sent.1 in
    let sent_b = and_parts (is_agreement from) (nat_le i.0 1 && (nat_lt i.1 p.views && (within 1 i.2 p.numbers && entry_fits p i.3))) (rw i.4 at h) in
    let phased_b = and_parts (nat_le i.0 1) (nat_lt i.1 p.views && (within 1 i.2 p.numbers && entry_fits p i.3)) sent_b.1 in
    let phase_words : phase_word phase ≡ phase_word i.0 = cc in
    let rest : decimal view ∷ decimal number ∷ entry_words entry ≡ decimal i.1 ∷ decimal i.2 ∷ entry_words i.3 = cc in
    let same = same_ballot p view number entry i.1 i.2 i.3 small phased.1 phased_b.1 rest in
    ap₂ (λ (k v : ℕ). Vote k v number entry) (same_phase phase i.0 phased.0 phased_b.0 phase_words) same.0 ∙ ap₂ (λ (n : ℕ) (z : List LieRequest). Vote i.0 i.1 n z) same.1 same.2 ∙ sym i.4
same_lie p from words (Change view) b small g h x y =
    let i = is_change (decimal view ∷ []) b (moved words (codes "change" ∷ decimal view ∷ []) b x.2 y) in
    let sent = and_parts (is_agreement from) (nat_le 1 view && nat_lt view p.views) g in
    let sent_b = and_parts (is_agreement from) (nat_le 1 i.0 && nat_lt i.0 p.views) (rw i.1 at h) in
    let digits : decimal view ≡ decimal i.0 = cc in
    ap Change (same_below view i.0 p.views (omega (arith, small.views)) (and_parts (nat_le 1 view) (nat_lt view p.views) sent.1).1 (and_parts (nat_le 1 i.0) (nat_lt i.0 p.views) sent_b.1).1 digits) ∙ sym i.1
same_lie p from words (Share number answer) b small g h x y =
    let i = is_share (decimal number ∷ answer_words answer) b (moved words (codes "share" ∷ decimal number ∷ answer_words answer) b x.2 y) in
    let sent = and_parts (is_executor from) (within 1 number p.numbers && answer_fits p answer) g in
    let sent_b = and_parts (is_executor from) (within 1 i.0 p.numbers && answer_fits p i.1) (rw i.2 at h) in
    let same = same_result p number answer i.0 i.1 small sent.1 sent_b.1 i.3 in
    ap₂ (λ (n : ℕ) (z : List LieReply). Share n z) same.0 same.1 ∙ sym i.2
same_lie p from words (Answered number answer) b small g h x y =
    let i = is_reply (decimal number ∷ answer_words answer) b (moved words (codes "reply" ∷ decimal number ∷ answer_words answer) b x.2 y) in
    let same = same_result p number answer i.0 i.1 small g (rw i.2 at h) i.3 in
    ap₂ (λ (n : ℕ) (z : List LieReply). Answered n z) same.0 same.1 ∙ sym i.2

moved_step : (words more : List (List ℕ)) (b : Step) → words ≡ more → AreStepWords words b → AreStepWords more b
moved_step words more b e are = (are.0, are.1, sym e ∙ are.2)

pub same_step : (p : Params) (faulty : List Seat) (words : List (List ℕ)) (a b : Step) → IsTrue (accepted p) → AreSmall p → step_fits p faulty a ≡ true → step_fits p faulty b ≡ true → AreStepWords words a → AreStepWords words b → a ≡ b
same_step p faulty words (steps.Submit client op) b sizes small g h x y =
    let i = is_submit (client_word client ∷ op_words op) b (moved_step words (codes "submit" ∷ client_word client ∷ op_words op) b x.2 y) in
    let one = and_parts (is_correct p faulty (seats.Client client)) (op_fits p.clients op) g in
    let inside = and_parts (nat_lt client p.clients) (not (is_faulty faulty (seats.Client client))) one.0 in
    let first = and_parts (is_correct p faulty (seats.Client i.0)) (op_fits p.clients i.1) (rw i.2 at h) in
    let inside_b = and_parts (nat_lt i.0 p.clients) (not (is_faulty faulty (seats.Client i.0))) first.0 in
    let client_words : client_word client ≡ client_word i.0 = cc in
    let asked : op_words op ≡ op_words i.1 = cc in
    ap₂ steps.Submit (same_client client i.0 p.clients (omega (arith, small.clients)) inside.0 inside_b.0 client_words) (same_op_words p.clients op i.1 (omega (arith, small.clients)) one.1 first.1 asked) ∙ sym i.2
same_step p faulty words (steps.Deliver frame) b sizes small g h x y =
    let i = is_deliver (decimal frame ∷ []) b (moved_step words (codes "deliver" ∷ decimal frame ∷ []) b x.2 y) in
    let fit : step_fits p faulty (steps.Deliver i.0) ≡ true = rw i.1 at h in
    let digits : decimal frame ≡ decimal i.0 = cc in
    ap steps.Deliver (decimal_injective frame i.0 (omega (arith, leb-true frame LAST_FRAME g)) (omega (arith, leb-true i.0 LAST_FRAME fit)) digits) ∙ sym i.1
same_step p faulty words (steps.Flush most) b sizes small g h x y =
    let i = is_flush (decimal most ∷ []) b (moved_step words (codes "flush" ∷ decimal most ∷ []) b x.2 y) in
    let digits : decimal most ≡ decimal i.0 = cc in
    ap steps.Flush (same_within most i.0 1 MOST_FLUSHED (omega arith) g (rw i.1 at h) digits) ∙ sym i.1
same_step p faulty words (steps.Tick seat) b sizes small g h x y =
    let i = is_tick (seat_name seat ∷ []) b (moved_step words (codes "tick" ∷ seat_name seat ∷ []) b x.2 y) in
    let one = and_parts (fits p seat) (not (is_faulty faulty seat)) g in
    let first = and_parts (fits p i.0) (not (is_faulty faulty i.0)) (rw i.1 at h) in
    let names : seat_name seat ≡ seat_name i.0 = cc in
    ap steps.Tick (same_seat p seat i.0 sizes one.0 first.0 names) ∙ sym i.1
same_step p faulty words (steps.Lie from to lie) b sizes small g h x y =
    let i = is_lie (seat_name from ∷ seat_name to ∷ lie_words x.0 lie) b (moved_step words (codes "lie" ∷ seat_name from ∷ seat_name to ∷ lie_words x.0 lie) b x.2 y) in
    let one = and_parts (fits p from) (is_faulty faulty from && (fits p to && (linked p from to && lie_fits p from lie))) g in
    let two = and_parts (is_faulty faulty from) (fits p to && (linked p from to && lie_fits p from lie)) one.1 in
    let three = and_parts (fits p to) (linked p from to && lie_fits p from lie) two.1 in
    let four = and_parts (linked p from to) (lie_fits p from lie) three.1 in
    let one_b = and_parts (fits p i.0) (is_faulty faulty i.0 && (fits p i.1 && (linked p i.0 i.1 && lie_fits p i.0 i.2))) (rw i.4 at h) in
    let two_b = and_parts (is_faulty faulty i.0) (fits p i.1 && (linked p i.0 i.1 && lie_fits p i.0 i.2)) one_b.1 in
    let three_b = and_parts (fits p i.1) (linked p i.0 i.1 && lie_fits p i.0 i.2) two_b.1 in
    let four_b = and_parts (linked p i.0 i.1) (lie_fits p i.0 i.2) three_b.1 in
    let from_names : seat_name from ≡ seat_name i.0 = cc in
    let to_names : seat_name to ≡ seat_name i.1 = cc in
    let told : lie_words x.0 lie ≡ lie_words i.3 i.2 = cc in
    let same_from = same_seat p from i.0 sizes one.0 one_b.0 from_names in
    let same_to = same_seat p to i.1 sizes three.0 three_b.0 to_names in
    let fit : lie_fits p from i.2 ≡ true = ap (λ (s : Seat). lie_fits p s i.2) same_from ∙ four_b.1 in
    let same = same_lie p from (lie_words x.0 lie) lie i.2 small four.1 fit (x.0, x.1, refl) (i.3, i.5, told) in
    ap₂ (λ (s t : Seat). steps.Lie s t lie) same_from same_to ∙ ap (λ (l : Lie). steps.Lie i.0 i.1 l) same ∙ sym i.4
