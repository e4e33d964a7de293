-- The rules of the client, the filter and the executor over frames: what a frame from a seat means to each, and what it writes.
use Rattle.std.specs.Prelude.{ℕ, zero, suc, ◌+◌, Bool, true, false, ◌&&◌, not, nat_eq, nat_le, List, [], ◌∷◌, map, length, take, filter, Option, Some, None, option_and_then, option_map, bytes_eq, if◌then◌else◌}
use Rattle.fw_list.specs.Lists.{numbers_from}
use Rattle.fw_base.specs.declared.params.Params.{Params}
use Rattle.fw_base.specs.declared.seat.Seat.{Seat}
use Rattle.fw_base.specs.declared.seat.Seat.TheVariants.{Agree, Exec, Filter, Client}
use Rattle.fw_base.specs.declared.slot.Slot.TheVariants as slots
use Rattle.fw_base.specs.Sizes.{agreements, executors, width}
use Rattle.fw_base.specs.Seats.{above, below}
use Rattle.fw_op.specs.declared.op.Op.{Op}
use Rattle.fw_op.specs.declared.reply.Reply as said
use Rattle.fw_trace.specs.declared.Told.{Told}
use Rattle.fw_trace.specs.Client as clients
use Rattle.fw_trace.specs.Executor as executors
use Rattle.fw_trace.specs.Filter as filters
use Rattle.fw_trace.specs.declared.Share as shares
use Rattle.fw_op.specs.declared.start.Start.{Start}
use Rattle.fw_trace.specs.declared.Input.{Input}
use Rattle.fw_trace.specs.Role.{sends}
use Rattle.fw_ref.specs.Reference.{Reference, Opened, Replied, at_start, step}
use Rattle.fw_frame.specs.View.{Request, Entry, Given, Share, Reply, Frame, Asks, Agrees, Shares, Replies, Wants}
use Rattle.fw_rules.specs.Signing.{request_text, reply_text}
use Rattle.fw_rules.specs.Means.{Means, Bodies}
use Rattle.fw_means.specs.Means.{when}
use Rattle.fw_rules.specs.Choices.{first_some, admitted}
use Rattle.fw_rules.specs.Views.{agree_role}

-- ---- the client c

-- the request of a stamp: the operation, sealed, and the client's signature
abbrev pub request_of : {M : Type 0} → Means M → Bodies → ℕ → ℕ → Op → Request
request_of k b c stamp op =
    let bare : Request = record { client = c; stamp = stamp; body = b.seal_op c stamp op; sig = [] } in
    record bare { sig = k.sign (slots.Request c stamp) 0 (request_text bare) }

-- a reply that is the client's, and whose body opens
abbrev pub told_one : Bodies → ℕ → ℕ → Given → Option (Told said.Reply)
told_one b c n g =
    when (nat_eq g.client c) (option_map (λ r. record { number = n; stamp = g.stamp; reply = r }) (b.open_reply c n g.body))

abbrev pub told_in : Bodies → ℕ → Seat → Frame → Option (Told said.Reply)
told_in b c (Agree i) (Replies r) = first_some (told_one b c r.number) r.answers
told_in b c _ _ = None

abbrev pub client_speech : {M : Type 0} → Means M → Bodies → ℕ → clients.Speech M Op said.Reply
client_speech k b c = record {
  most = k.params.stamps;
  request = λ stamp op. k.write (Asks (request_of k b c stamp op));
  told = λ from m. option_and_then (told_in b c from) (admitted k (Client c) from m);
  to = map Agree (numbers_from 0 (agreements k.params));
}

-- ---- the executor j

abbrev pub request_opened : Bodies → Request → Opened
request_opened b r = record { client = r.client; stamp = r.stamp; op = b.open_op r.client r.stamp r.body }

-- a reply at a number as it is told: sealed for its client
abbrev pub given : Bodies → ℕ → Replied → Given
given b n a = record { client = a.client; stamp = a.stamp; body = b.seal_reply a.client n a.reply }

-- the replies to the requests of an entry, in order, and the reference after them
abbrev pub step_all : Bodies → Reference → Entry → List Replied × Reference
step_all b m [] = ([], m)
step_all b m (r ∷ more) =
    let one = step m (Some (request_opened b r)) in
    let rest = step_all b one.1 more in
    (one.0 ∷ rest.0, rest.1)

abbrev pub share_of : {M : Type 0} → Means M → Bodies → ℕ → ℕ → List Replied → Share
share_of k b j n replies =
    let answers = map (given b n) replies in
    record { number = n; exec = j; answers = answers; values = k.sign (slots.Reply n) (j + 1) (reply_text n answers) }

abbrev pub agreed_frame : Seat → Frame → Option (ℕ × Entry)
agreed_frame (Filter r c) (Agrees a) = Some (a.number, a.entry)
agreed_frame (Exec j) (Agrees a) = Some (a.number, a.entry)
agreed_frame _ _ = None

abbrev pub want_frame : Seat → Frame → Option ℕ
want_frame (Exec j) (Wants n) = Some n
want_frame _ _ = None

abbrev pub is_filter : Seat → Bool
is_filter (Filter r c) = true
is_filter _ = false

abbrev pub row_of : Params → ℕ → List Seat
row_of p r = map (Filter r) (numbers_from 0 (width p))

abbrev pub executor_speech : {M : Type 0} → Means M → Bodies → List Start → ℕ → executors.Speech M Entry (List Replied) Reference
executor_speech k b starts j = record {
  agreed = λ from m. option_and_then (agreed_frame from) (admitted k (Exec j) from m);
  wanted = λ from m. option_and_then (want_frame from) (admitted k (Exec j) from m);
  is_filter = is_filter;
  begin = at_start starts;
  step = step_all b;
  share = λ n replies. k.write (Shares (share_of k b j n replies));
  want = λ n. k.write (Wants n);
  filters = row_of k.params k.params.h;
  others = map Exec (filter (λ i. not (nat_eq i j)) (numbers_from 0 (executors k.params)));
}

-- ---- the filter in row r and column c

-- what a share says: the answers, and the values at the executor's point
abbrev pub Valued : Type 0
Valued = List Given × List ℕ

abbrev pub agreed_number : Seat → Seat → Frame → Option ℕ
agreed_number me from (Agrees a) = when (below me from) (Some a.number)
agreed_number me from _ = None

abbrev pub replied_number : Seat → Frame → Option ℕ
replied_number (Filter r c) (Replies a) = Some a.number
replied_number _ _ = None

abbrev pub share_from : Seat → Frame → Option (shares.Share Valued)
share_from (Exec j) (Shares s) = when (nat_eq s.exec j) (Some (record { number = s.number; exec = s.exec; value = (s.answers, s.values) }))
share_from _ _ = None

abbrev pub same_given : Given → Given → Bool
same_given g h = nat_eq g.client h.client && nat_eq g.stamp h.stamp && bytes_eq g.body h.body

abbrev pub same_answers : List Given → List Given → Bool
same_answers [] [] = true
same_answers (g ∷ gs) (h ∷ hs) = same_given g h && same_answers gs hs
same_answers _ _ = false

-- the reply that equal shares make: the first g + 1 of them, at their points
abbrev pub joined : {M : Type 0} → Means M → ℕ → List Given → List (shares.Share Valued) → Reply
joined k n answers equal = record {
  number = n;
  answers = answers;
  values = k.join (map (λ s. (s.exec + 1, s.value.1)) (take (k.params.g + 1) equal));
}

abbrev pub is_equal : ℕ → shares.Share Valued → shares.Share Valued → Bool
is_equal n s t = nat_eq t.number n && same_answers t.value.0 s.value.0

-- the reply of a number, where g + 1 shares have the answers of this one
abbrev pub combined_with : {M : Type 0} → Means M → ℕ → List (shares.Share Valued) → shares.Share Valued → Option M
combined_with k n kept s =
    let equal = filter (is_equal n s) kept in
    when (nat_eq s.number n && nat_le (k.params.g + 1) (length equal)) (Some (k.write (Replies (joined k n s.value.0 equal))))

abbrev pub combined_of : {M : Type 0} → Means M → ℕ → List (shares.Share Valued) → Option M
combined_of k n kept = first_some (combined_with k n kept) kept

abbrev pub downs : Params → ℕ → List Seat
downs p zero = map Agree (numbers_from 0 (agreements p))
downs p (suc r) = row_of p r

abbrev pub ups : Params → ℕ → List Seat
ups p r = if nat_eq r p.h then map Exec (numbers_from 0 (executors p)) else row_of p (r + 1)

abbrev pub filter_speech : {M : Type 0} → Means M → ℕ → ℕ → filters.Speech M Valued
filter_speech k r c = record {
  agreed = λ from m. option_and_then (agreed_number (Filter r c) from) (admitted k (Filter r c) from m);
  replied = λ from m. when (above k.params (Filter r c) from) (option_and_then (replied_number from) (admitted k (Filter r c) from m));
  shared = λ from m. option_and_then (share_from from) (admitted k (Filter r c) from m);
  combined = combined_of k;
  ups = ups k.params r;
  downs = downs k.params r;
}

-- ---- what each seat sends on the newest input of its history

abbrev pub rule_of : {M : Type 0} → Means M → Bodies → List Start → Seat → List (Input M Op) → List (Seat × M)
rule_of k b starts (Agree i) h = sends (agree_role (record { own = i; means = k })) h
rule_of k b starts (Exec j) h = sends (executors.executor_role (executor_speech k b starts j)) h
rule_of k b starts (Filter r c) h = sends (filters.filter_role (filter_speech k r c)) h
rule_of k b starts (Client c) h = sends (clients.client_role (client_speech k b c)) h
