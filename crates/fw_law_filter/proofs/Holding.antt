-- What a filter has heard, keeps and holds.
use Rattle.std.proofs.Common.{ℕ, ◌≡◌, ◌⊎◌, ◌↔◌, inl, inr, Bool, true, false, cond, ◌&&◌, ◌||◌, nat_eq, List, [], ◌∷◌, ◌++◌, Option, Some, None, is_some, refl, sym, ◌∙◌, ap, subst, arith, true≢false}
use Rattle.std.proofs.lemmas.Bool.{eqb-true, eq-eqb, and_from}
use Rattle.std.proofs.lemmas.Option.{none-some, same_Some}
use Rattle.fw_base.specs.declared.seat.Seat.{Seat}
use Rattle.fw_trace.specs.declared.Input.{Input}
use Rattle.fw_trace.specs.declared.Input.TheVariants.{Heard, Tick, Submitted}
use Rattle.fw_trace.specs.declared.Share.{Share}
use Rattle.fw_trace.specs.Role.{kept}
use Rattle.fw_trace.specs.Executor.{Sends}
use Rattle.fw_trace.specs.Filter.{Speech, Filter, held_of, asked_at_all, hear_agreed, has_share, filter_role}
use Rattle.fw_trace.specs.Lists.{In}
use Rattle.fw_trace.proofs.Words.{In-append}
use Rattle.fw_source.proofs.Listed.{first_at-in}
use Rattle.fw_law_filter.specs.Heard.{HeardNow, WasHeard, IsAgreed, IsAgreedBy, IsReply, IsThisReply, IsShare, WasMade, AreApart, AreOnce}
use Rattle.fw_law_filter.proofs.Steps.{on_message, message_keeps}

-- ---- lists

pub or_false : (a b : Bool) → (a || b) ≡ false → (a ≡ false) × (b ≡ false)
or_false false b h = (refl, h)
or_false true b h = cc

pub false_or : (a b : Bool) → a ≡ false → b ≡ false → (a || b) ≡ false
false_or false b h k = k
false_or true b h k = cc

eq_sym : (a b : ℕ) → nat_eq a b ≡ nat_eq b a
eq_sym a b = grind arith

apart_push : {V : Type 0} (shares : List (Share V)) (s : Share V) → AreApart shares → has_share shares s.number s.exec ≡ false → AreApart (shares ++ s ∷ [])
apart_push [] s a new = (refl, tt)
apart_push (t ∷ shares) s a new =
    let both = or_false (nat_eq t.number s.number && nat_eq t.exec s.exec) (has_share shares s.number s.exec) new in
    (behind shares a.0 both.0, apart_push shares s a.1 both.1)
  where
    other : (nat_eq t.number s.number && nat_eq t.exec s.exec) ≡ false → (nat_eq s.number t.number && nat_eq s.exec t.exec) ≡ false
    other e = rw (eq_sym s.number t.number, eq_sym s.exec t.exec) e

    behind : (us : List (Share _)) → has_share us t.number t.exec ≡ false → (nat_eq t.number s.number && nat_eq t.exec s.exec) ≡ false → has_share (us ++ s ∷ []) t.number t.exec ≡ false
    behind [] h e = false_or (nat_eq s.number t.number && nat_eq s.exec t.exec) false (other e) refl
    behind (u ∷ us) h e =
        let both = or_false (nat_eq u.number t.number && nat_eq u.exec t.exec) (has_share us t.number t.exec) h in
        false_or (nat_eq u.number t.number && nat_eq u.exec t.exec) (has_share (us ++ s ∷ []) t.number t.exec) both.0 (behind us both.1 e)

or_left : (a b : Bool) → a ≡ true → (a || b) ≡ true
or_left true b e = refl
or_left false b e = cc

or_right : (a b : Bool) → b ≡ true → (a || b) ≡ true
or_right true b e = refl
or_right false b e = e

share_stays : {V : Type 0} (shares : List (Share V)) (s : Share V) (n j : ℕ) → has_share shares n j ≡ true → has_share (shares ++ s ∷ []) n j ≡ true
share_stays [] s n j h = cc
share_stays (u ∷ shares) s n j h = by (nat_eq u.number n && nat_eq u.exec j) h (share_stays shares s n j)
  where
    by : (b : Bool) → (b || has_share shares n j) ≡ true → (has_share shares n j ≡ true → has_share (shares ++ s ∷ []) n j ≡ true) → (b || has_share (shares ++ s ∷ []) n j) ≡ true
    by true k more = refl
    by false k more = more k

share_pushed : {V : Type 0} (shares : List (Share V)) (s : Share V) → has_share (shares ++ s ∷ []) s.number s.exec ≡ true
share_pushed [] s = or_left (nat_eq s.number s.number && nat_eq s.exec s.exec) false (and_from (nat_eq s.number s.number) (nat_eq s.exec s.exec) (eq-eqb s.number s.number refl) (eq-eqb s.exec s.exec refl))
share_pushed (u ∷ shares) s = or_right (nat_eq u.number s.number && nat_eq u.exec s.exec) (has_share (shares ++ s ∷ []) s.number s.exec) (share_pushed shares s)

-- what is held of a number is the one reply that it has
pub held-in : {M : Type 0} (held : List (ℕ × M)) (n : ℕ) (reply : M) → held_of held n ≡ Some reply → In (n, reply) held
held-in held n reply e =
    let at = first_at-in (λ (h : ℕ × _). Some h) held n reply e in
    subst (λ (u : ℕ × _). In u held) (same_Some at.item (n, reply) at.read) at.inside

pub in-held : {M : Type 0} (held : List (ℕ × M)) (n : ℕ) (reply : M) → AreOnce held → In (n, reply) held → held_of held n ≡ Some reply
in-held [] n reply a i = absurd i
in-held {M = M} (h ∷ held) n reply a i = by (nat_eq h.0 n) refl i (in-held held n reply a.1)
  where
    by : (b : Bool) → nat_eq h.0 n ≡ b → ((n, reply) ≡ h) ⊎ In (n, reply) held → (In (n, reply) held → held_of held n ≡ Some reply) → cond b (Some h.1) (held_of held n) ≡ Some reply
    by true e (inl s) more = ap (λ (u : ℕ × M). Some u.1) (sym s)
    by true e (inr j) more =
        let none : held_of held n ≡ None = ap (held_of held) (sym (eqb-true h.0 n e)) ∙ a.0 in
        absurd (none-some reply (sym none ∙ more j))
    by false e (inl s) more = absurd (true≢false (sym (eq-eqb h.0 n (ap (λ (u : ℕ × M). u.0) (sym s))) ∙ e))
    by false e (inr j) more = more j

pub some_held : {A : Type 0} (o : Option A) → is_some o ≡ true → (x : A) × (o ≡ Some x)
some_held None e = cc
some_held (Some x) e = (x, refl)

pub unheld-front : {M : Type 0} (more held : List (ℕ × M)) (n : ℕ) → held_of (more ++ held) n ≡ None → held_of held n ≡ None
unheld-front [] held n e = e
unheld-front {M = M} (h ∷ more) held n e = by (nat_eq h.0 n) e (unheld-front more held n)
  where
    by : (b : Bool) → cond b (Some h.1) (held_of (more ++ held) n) ≡ None → (held_of (more ++ held) n ≡ None → held_of held n ≡ None) → held_of held n ≡ None
    by true k rest = cc
    by false k rest = rest k

pub In-right : {A : Type 0} (x : A) (xs ys : List A) → In x ys → In x (xs ++ ys)
In-right x [] ys i = i
In-right x (z ∷ xs) ys i = inr (In-right x xs ys i)

-- where each message is of the one kind, so it is of the other
pub WasHeard-weaken : {M O : Type 0} (P Q : Seat → M → Type 0) → ((from : Seat) (m : M) → P from m → Q from m) → (h : List (Input M O)) → WasHeard P h → WasHeard Q h
WasHeard-weaken P Q f [] w = absurd w
WasHeard-weaken P Q f (Heard from m ∷ h) (inl w) = inl (f from m w)
WasHeard-weaken P Q f (Tick ∷ h) (inl w) = absurd w
WasHeard-weaken P Q f (Submitted op ∷ h) (inl w) = absurd w
WasHeard-weaken P Q f (i ∷ h) (inr w) = inr (WasHeard-weaken P Q f h w)

pub still_held : {M : Type 0} (n : ℕ) (reply : M) (held : List (ℕ × M)) (k : ℕ) → is_some (held_of held k) ≡ true → is_some (held_of ((n, reply) ∷ held) k) ≡ true
still_held n reply held k e = by (nat_eq n k)
  where
    by : (b : Bool) → is_some (cond b (Some reply) (held_of held k)) ≡ true
    by true = refl
    by false = e

pub newest_held : {M : Type 0} (n : ℕ) (reply : M) (held : List (ℕ × M)) → is_some (held_of ((n, reply) ∷ held) n) ≡ true
newest_held n reply held = ap (λ (b : Bool). is_some (cond b (Some reply) (held_of held n))) (eq-eqb n n refl)

In-pushed : {A : Type 0} (P : A → Type 0) (xs : List A) (y : A) → ((x : A) → In x xs → P x) → P y → (x : A) → In x (xs ++ y ∷ []) → P x
In-pushed P xs y all one x i = elim (In-append x xs (y ∷ []) i) [
  | inl j ↦ all x j
  | inr (inl e) ↦ subst P (sym e) one
  | inr (inr j) ↦ absurd j
]

-- ---- after every history

-- an input that is no message
abbrev pub IsIdle : {M O : Type 0} → Input M O → Type 1
IsIdle {M} i = (P : Seat → M → Type 0) → HeardNow P i → ⊥

pub not_now : {M O : Type 0} (P : Seat → M → Type 0) (i : Input M O) (h : List (Input M O)) → IsIdle i → WasHeard P (i ∷ h) → WasHeard P h
not_now P i h idle (inl now) = absurd (idle P now)
not_now P i h idle (inr before) = before

-- what holds of each history and what is kept after it, since each message keeps it so
pub always : {M O V : Type 0} (sp : Speech M V) (P : List (Input M O) → Filter M V → Type 0) → P [] (record { held = []; asked = []; shares = [] })
    → ((from : Seat) (m : M) (h : List (Input M O)) (x : Filter M V) → x ≡ kept (filter_role sp) h → P h x → P (Heard from m ∷ h) (on_message sp x from m).0)
    → ((i : Input M O) (h : List (Input M O)) (x : Filter M V) → IsIdle i → P h x → P (i ∷ h) x)
    → (h : List (Input M O)) → P h (kept (filter_role sp) h)
always sp P start step idle [] = start
always sp P start step idle (Heard from m ∷ h) = step from m h (kept (filter_role sp) h) refl (always sp P start step idle h)
always sp P start step idle (Tick ∷ h) = idle Tick h (kept (filter_role sp) h) (λ Q a. a) (always sp P start step idle h)
always sp P start step idle (Submitted op ∷ h) = idle (Submitted op) h (kept (filter_role sp) h) (λ Q a. a) (always sp P start step idle h)

-- ---- one message

module _ {M V : Type 0} (sp : Speech M V) where
  pub asked_after : (x : Filter M V) (from : Seat) (m : M) → (on_message sp x from m).0.asked ≡ (hear_agreed sp x from m (sp.agreed from m)).0.asked
  asked_after x from m =
      let same : Filter M V → Sends M → Type 0 = λ y out. y.asked ≡ (hear_agreed sp x from m (sp.agreed from m)).0.asked in
      message_keeps sp from m same same same (record {
        known = λ y out k a. a;
        replied = λ y out n e u a. a;
        done = λ y out k b. b;
        shared = λ y out s e u b. b;
        made = λ y out n reply e u c. c;
      }) x refl

  agreed_shares : (x : Filter M V) (from : Seat) (m : M) (o : Option ℕ) → (hear_agreed sp x from m o).0.shares ≡ x.shares
  agreed_shares x from m None = refl
  agreed_shares x from m (Some n) = refl

  pub agreed_held : (x : Filter M V) (from : Seat) (m : M) (o : Option ℕ) → (hear_agreed sp x from m o).0.held ≡ x.held
  agreed_held x from m None = refl
  agreed_held x from m (Some n) = refl

  noted : (x : Filter M V) (from : Seat) (m : M) (o : Option ℕ) (seat : Seat) (n : ℕ) → In (seat, n) (hear_agreed sp x from m o).0.asked ↔ ((from ≡ seat) × (o ≡ Some n)) ⊎ In (seat, n) x.asked
  noted x from m None seat n = (λ i. inr i, λ k. elim k [ inl a ↦ absurd (none-some n a.1) | inr i ↦ i ])
  noted x from m (Some k) seat n = (
    λ i. elim i [ inl e ↦ inl (sym (ap (λ (u : Seat × ℕ). u.0) e), ap (λ (u : Seat × ℕ). Some u.1) (sym e)) | inr j ↦ inr j ],
    λ w. elim w [ inl a ↦ inl (ap (λ (s : Seat). (s, n)) (sym a.0) ∙ ap (λ (j : ℕ). (from, j)) (sym (same_Some k n a.1))) | inr j ↦ inr j ],
  )

  noted_number : (x : Filter M V) (from : Seat) (m : M) (o : Option ℕ) (n : ℕ) → asked_at_all (hear_agreed sp x from m o).0.asked n ≡ true ↔ (o ≡ Some n) ⊎ (asked_at_all x.asked n ≡ true)
  noted_number x from m None n = (λ i. inr i, λ k. elim k [ inl a ↦ absurd (none-some n a) | inr i ↦ i ])
  noted_number x from m (Some k) n = by (nat_eq k n) refl
    where
      by : (b : Bool) → nat_eq k n ≡ b → ((b || asked_at_all x.asked n) ≡ true) ↔ (Some k ≡ Some n) ⊎ (asked_at_all x.asked n ≡ true)
      by true e = (λ i. inl (ap Some (eqb-true k n e)), λ w. refl)
      by false e = (λ i. inr i, λ w. elim w [ inl s ↦ absurd (true≢false (sym (eq-eqb k n (same_Some k n s)) ∙ e)) | inr i ↦ i ])

  -- what is held after a message is what was held before, with more in front
  pub held_grows : (x : Filter M V) (from : Seat) (m : M) → (more : List (ℕ × M)) × ((on_message sp x from m).0.held ≡ more ++ x.held)
  held_grows x from m =
      let grown : Filter M V → Sends M → Type 0 = λ y out. (more : List (ℕ × M)) × (y.held ≡ more ++ x.held) in
      message_keeps sp from m grown grown grown (record {
        known = λ y out k a. a;
        replied = λ y out n e u a. ((n, m) ∷ a.0, ap (λ (held : List (ℕ × M)). (n, m) ∷ held) a.1);
        done = λ y out k b. b;
        shared = λ y out s e u b. b;
        made = λ y out n reply e u c. ((n, reply) ∷ c.0, ap (λ (held : List (ℕ × M)). (n, reply) ∷ held) c.1);
      }) x ([], agreed_held x from m (sp.agreed from m))

-- ---- agreed frames

module _ {M O V : Type 0} (sp : Speech M V) where
  -- what is remembered are the agreed frames that were heard
  pub asked_is : (h : List (Input M O)) (seat : Seat) (n : ℕ) → In (seat, n) (kept (filter_role sp) h).asked ↔ WasHeard (IsAgreedBy sp seat n) h
  asked_is h seat n = always sp (λ g x. In (seat, n) x.asked ↔ WasHeard (IsAgreedBy sp seat n) g) (λ i. absurd i, λ w. absurd w)
      (λ from m g x same both. (
      let now = noted sp x from m (sp.agreed from m) seat n in
      let after = asked_after sp x from m in (
        λ i. elim (now.0 (subst (In (seat, n)) after i)) [ inl a ↦ inl a | inr j ↦ inr (both.0 j) ],
        λ w. subst (In (seat, n)) (sym after) (now.1 (elim w [ inl a ↦ inl a | inr v ↦ inr (both.1 v) ])),
      )))
      (λ i g x idle both. (λ there. inr (both.0 there), λ w. both.1 (not_now (IsAgreedBy sp seat n) i g idle w))) h

  pub number_asked_is : (h : List (Input M O)) (n : ℕ) → asked_at_all (kept (filter_role sp) h).asked n ≡ true ↔ WasHeard (IsAgreed sp n) h
  number_asked_is h n = always sp (λ g x. asked_at_all x.asked n ≡ true ↔ WasHeard (IsAgreed sp n) g) (λ i. absurd (true≢false (sym i)), λ w. absurd w)
      (λ from m g x same both. (
      let now = noted_number sp x from m (sp.agreed from m) n in
      let after = ap (λ (asked : List (Seat × ℕ)). asked_at_all asked n) (asked_after sp x from m) in (
        λ i. elim (now.0 (sym after ∙ i)) [ inl a ↦ inl a | inr j ↦ inr (both.0 j) ],
        λ w. after ∙ now.1 (elim w [ inl a ↦ inl a | inr v ↦ inr (both.1 v) ]),
      )))
      (λ i g x idle both. (λ there. inr (both.0 there), λ w. both.1 (not_now (IsAgreed sp n) i g idle w))) h

  -- ---- shares

  record SharesKept (new old : List (Input M O)) (shares : List (Share V)) : Type 0 where
    heard : (s : Share V) → In s shares → WasHeard (IsShare sp s) new
    apart : AreApart shares
    known : (s : Share V) → WasHeard (IsShare sp s) old → has_share shares s.number s.exec ≡ true

  shares_step : (from : Seat) (m : M) (h : List (Input M O)) (x : Filter M V) → SharesKept h h x.shares → SharesKept (Heard from m ∷ h) (Heard from m ∷ h) (on_message sp x from m).0.shares
  shares_step from m h x k =
      let before : Filter M V → Sends M → Type 0 = λ y out. SharesKept (Heard from m ∷ h) h y.shares in
      let after : Filter M V → Sends M → Type 0 = λ y out. SharesKept (Heard from m ∷ h) (Heard from m ∷ h) y.shares in
      message_keeps sp from m before before after (record {
        known = λ y out e a. a;
        replied = λ y out n e u a. a;
        done = λ y out e b. record { heard = b.heard; apart = b.apart; known = λ s w. elim w [ inl now ↦ e s now | inr v ↦ b.known s v ] };
        shared = λ y out s e u b. record {
          heard = In-pushed (λ (t : Share V). WasHeard (IsShare sp t) (Heard from m ∷ h)) y.shares s b.heard (inl e);
          apart = apart_push y.shares s b.apart u;
          known = λ t w. elim w [
            | inl now ↦ subst (λ (v : Share V). has_share (y.shares ++ s ∷ []) v.number v.exec ≡ true) (same_Some s t (sym e ∙ now)) (share_pushed y.shares s)
            | inr v ↦ share_stays y.shares s t.number t.exec (b.known t v)
          ];
        };
        made = λ y out n reply e u c. c;
      }) x (subst (SharesKept (Heard from m ∷ h) h) (sym (agreed_shares sp x from m (sp.agreed from m))) (record { heard = λ s i. inr (k.heard s i); apart = k.apart; known = k.known }))

  shares_kept : (h : List (Input M O)) → SharesKept h h (kept (filter_role sp) h).shares
  shares_kept h = always sp (λ g x. SharesKept g g x.shares) (record { heard = λ s i. absurd i; apart = tt; known = λ s w. absurd w })
      (λ from m g x same k. shares_step from m g x k)
      (λ i g x idle k. record { heard = λ s there. inr (k.heard s there); apart = k.apart; known = λ s w. k.known s (not_now (IsShare sp s) i g idle w) }) h

  -- each share that is kept was heard
  pub shares_heard : (h : List (Input M O)) (s : Share V) → In s (kept (filter_role sp) h).shares → WasHeard (IsShare sp s) h
  shares_heard h = (shares_kept h).heard

  -- no two are of one number by one executor
  pub shares_apart : (h : List (Input M O)) → AreApart (kept (filter_role sp) h).shares
  shares_apart h = (shares_kept h).apart

  -- one like each that was heard is kept
  pub shares_known : (h : List (Input M O)) (s : Share V) → WasHeard (IsShare sp s) h → has_share (kept (filter_role sp) h).shares s.number s.exec ≡ true
  shares_known h = (shares_kept h).known

  -- ---- replies

  record HeldKept (Comes : ℕ → M → Type 0) (old : List (Input M O)) (held : List (ℕ × M)) : Type 0 where
    once : AreOnce held
    comes : (n : ℕ) (reply : M) → In (n, reply) held → Comes n reply
    known : (n : ℕ) → WasHeard (IsReply sp n) old → is_some (held_of held n) ≡ true

  held_more : (Comes : ℕ → M → Type 0) (old : List (Input M O)) (held : List (ℕ × M)) (n : ℕ) (reply : M) → held_of held n ≡ None → Comes n reply → HeldKept Comes old held → HeldKept Comes old ((n, reply) ∷ held)
  held_more Comes old held n reply u good k = record {
    once = (u, k.once);
    comes = λ j r i. elim i [
      | inl e ↦ subst (λ (v : ℕ × M). Comes v.0 v.1) (sym e) good
      | inr there ↦ k.comes j r there
    ];
    known = λ j w. still_held n reply held j (k.known j w);
  }

  held_step : (from : Seat) (m : M) (h : List (Input M O)) (x : Filter M V) → x ≡ kept (filter_role sp) h → HeldKept (λ n r. WasHeard (IsThisReply sp n r) h ⊎ WasMade sp n r h) h x.held
      → HeldKept (λ n r. WasHeard (IsThisReply sp n r) (Heard from m ∷ h) ⊎ ((sp.combined n (on_message sp x from m).0.shares ≡ Some r) ⊎ WasMade sp n r h)) (Heard from m ∷ h) (on_message sp x from m).0.held
  held_step from m h x same k =
      let told : ℕ → M → Type 0 = λ n r. WasHeard (IsThisReply sp n r) (Heard from m ∷ h) ⊎ WasMade sp n r h in
      let first : Filter M V → Sends M → Type 0 = λ y out. HeldKept told h y.held in
      let second : Filter M V → Sends M → Type 0 = λ y out. HeldKept told (Heard from m ∷ h) y.held in
      let third : Filter M V → Sends M → Type 0 = λ y out. HeldKept (λ n r. WasHeard (IsThisReply sp n r) (Heard from m ∷ h) ⊎ ((sp.combined n y.shares ≡ Some r) ⊎ WasMade sp n r h)) (Heard from m ∷ h) y.held in
      message_keeps sp from m first second third (record {
        known = λ y out e a. record { once = a.once; comes = a.comes; known = λ n w. elim w [ inl now ↦ e n now | inr v ↦ a.known n v ] };
        replied = λ y out n e u a. (
            let b = held_more told h y.held n m u (inl (inl (refl, e))) a in
            record {
              once = b.once;
              comes = b.comes;
              known = λ j w. elim w [
                | inl now ↦ subst (λ (i : ℕ). is_some (held_of ((n, m) ∷ y.held) i) ≡ true) (same_Some n j (sym e ∙ now)) (newest_held n m y.held)
                | inr v ↦ b.known j v
              ];
            });
        done = λ y out e b. record { once = b.once; comes = λ n r i. weaker (sp.combined n y.shares ≡ Some r) (b.comes n r i); known = b.known };
        shared = λ y out s e u b. record { once = b.once; comes = λ n r i. weaker (sp.combined n (y.shares ++ s ∷ []) ≡ Some r) (b.comes n r i); known = b.known };
        made = λ y out n reply e u c. held_more (λ j r. WasHeard (IsThisReply sp j r) (Heard from m ∷ h) ⊎ ((sp.combined j y.shares ≡ Some r) ⊎ WasMade sp j r h)) (Heard from m ∷ h) y.held n reply u (inr (inl e)) c;
      }) x (subst (HeldKept told h) (sym (agreed_held sp x from m (sp.agreed from m))) (record {
        once = k.once;
        comes = λ n r i. elim (k.comes n r i) [ inl w ↦ inl (inr w) | inr v ↦ inr v ];
        known = k.known;
      }))
    where
      weaker : {P R : Type 0} (Q : Type 0) → P ⊎ R → P ⊎ (Q ⊎ R)
      weaker Q (inl p) = inl p
      weaker Q (inr r) = inr (inr r)

  held_kept : (h : List (Input M O)) → HeldKept (λ n r. WasHeard (IsThisReply sp n r) h ⊎ WasMade sp n r h) h (kept (filter_role sp) h).held
  held_kept [] = record { once = tt; comes = λ n r i. absurd i; known = λ n w. absurd w }
  held_kept (Heard from m ∷ h) = held_step from m h (kept (filter_role sp) h) refl (held_kept h)
  held_kept (Tick ∷ h) = let k = held_kept h in record { once = k.once; comes = λ n r i. elim (k.comes n r i) [ inl w ↦ inl (inr w) | inr v ↦ inr (inr v) ]; known = λ n w. elim w [ inl a ↦ absurd a | inr v ↦ k.known n v ] }
  held_kept (Submitted op ∷ h) = let k = held_kept h in record { once = k.once; comes = λ n r i. elim (k.comes n r i) [ inl w ↦ inl (inr w) | inr v ↦ inr (inr v) ]; known = λ n w. elim w [ inl a ↦ absurd a | inr v ↦ k.known n v ] }

  -- each reply that is held was heard from above, or was made of the shares kept at that moment
  pub held_comes : (h : List (Input M O)) (n : ℕ) (reply : M) → In (n, reply) (kept (filter_role sp) h).held → WasHeard (IsThisReply sp n reply) h ⊎ WasMade sp n reply h
  held_comes h = (held_kept h).comes

  -- no number has two
  pub held_once : (h : List (Input M O)) → AreOnce (kept (filter_role sp) h).held
  held_once h = (held_kept h).once

  -- each number that was heard in a reply has one
  pub reply_held : (h : List (Input M O)) (n : ℕ) → WasHeard (IsReply sp n) h → (reply : M) × In (n, reply) (kept (filter_role sp) h).held
  reply_held h n w =
      let r = some_held (held_of (kept (filter_role sp) h).held n) ((held_kept h).known n w) in
      (r.0, held-in (kept (filter_role sp) h).held n r.0 r.1)

  pub held_next : (i : Input M O) (h : List (Input M O)) (n : ℕ) (reply : M) → In (n, reply) (kept (filter_role sp) h).held → In (n, reply) (kept (filter_role sp) (i ∷ h)).held
  held_next (Heard from m) h n reply i = let g = held_grows sp (kept (filter_role sp) h) from m in subst (In (n, reply)) (sym g.1) (In-right (n, reply) g.0 (kept (filter_role sp) h).held i)
  held_next Tick h n reply i = i
  held_next (Submitted op) h n reply i = i

  -- what is held stays
  pub held_stays : (later h : List (Input M O)) (n : ℕ) (reply : M) → In (n, reply) (kept (filter_role sp) h).held → In (n, reply) (kept (filter_role sp) (later ++ h)).held
  held_stays [] h n reply i = i
  held_stays (i ∷ later) h n reply there = held_next i (later ++ h) n reply (held_stays later h n reply there)
