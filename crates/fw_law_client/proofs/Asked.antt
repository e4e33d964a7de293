-- What a client takes and asks, and what it sends.
use Rattle.std.proofs.Common.{ℕ, zero, suc, ◌+◌, ◌-◌, ◌<◌, ◌≤◌, min, ◌≡◌, ◌⊎◌, ◌↔◌, inl, inr, Bool, true, false, cond, ◌&&◌, nat_eq, nat_lt, List, [], ◌∷◌, ◌++◌, length, reverse, take, Option, Some, None, refl, sym, ◌∙◌, ap, subst, arith, append_assoc, append-nil, length-append, take_all}
use Rattle.std.specs.Prelude.{slice_get}
use Rattle.std.proofs.lemmas.Bool.{ltb-true, ltb-false}
use Rattle.std.proofs.lemmas.Option.{none-some, same_Some}
use Rattle.std.proofs.lemmas.Grind.{reverse_onto}
use Rattle.std.proofs.lemmas.List.{length-reverse, length-take, reverse-append, take-append-le}
use Rattle.fw_base.specs.declared.seat.Seat.{Seat}
use Rattle.fw_trace.specs.declared.Input.{Input}
use Rattle.fw_trace.specs.declared.Input.TheVariants.{Heard, Tick, Submitted}
use Rattle.fw_trace.specs.declared.Told.{Told}
use Rattle.fw_trace.specs.Role.{kept, sends}
use Rattle.fw_trace.specs.Client.{Speech, Client, to_all, taken, stamp, go_on, submit, hear, again, client_next, client_role}
use Rattle.fw_trace.specs.Lists.{In}
use Rattle.fw_source.specs.Sources.{EverSent}
use Rattle.fw_source.proofs.Listed.{In-to_all}
use Rattle.fw_law_client.specs.Asking.{submitted, took, IsAsked, IsRequestOf}
use Rattle.fw_law_client.proofs.Accepted.{nothing_waits, answered_but_one}

-- ---- lists

slice_get-left : {A : Type 0} (xs ys : List A) (k : ℕ) (x : A) → slice_get xs k ≡ Some x → slice_get (xs ++ ys) k ≡ Some x
slice_get-left [] ys k x e = absurd (none-some x e)
slice_get-left (z ∷ xs) ys zero x e = e
slice_get-left (z ∷ xs) ys (suc k) x e = slice_get-left xs ys k x e

slice_get-last : {A : Type 0} (xs : List A) (x : A) → slice_get (xs ++ x ∷ []) (length xs) ≡ Some x
slice_get-last [] x = refl
slice_get-last (z ∷ xs) x = slice_get-last xs x

slice_get-pushed : {A : Type 0} (xs : List A) (x : A) (k : ℕ) (y : A) → slice_get (xs ++ x ∷ []) k ≡ Some y → (slice_get xs k ≡ Some y) ⊎ ((k ≡ length xs) × (x ≡ y))
slice_get-pushed [] x zero y e = inr (refl, same_Some x y e)
slice_get-pushed [] x (suc k) y e = absurd (none-some y e)
slice_get-pushed (z ∷ xs) x zero y e = inl e
slice_get-pushed (z ∷ xs) x (suc k) y e = elim (slice_get-pushed xs x k y e) [ inl f ↦ inl f | inr p ↦ inr (ap suc p.0, p.1) ]

slice_get-taken : {A : Type 0} (n : ℕ) (xs : List A) (k : ℕ) (x : A) → slice_get (take n xs) k ≡ Some x → slice_get xs k ≡ Some x
slice_get-taken zero xs k x e = absurd (none-some x e)
slice_get-taken (suc n) [] k x e = e
slice_get-taken (suc n) (z ∷ xs) zero x e = e
slice_get-taken (suc n) (z ∷ xs) (suc k) x e = slice_get-taken n xs k x e

pub to_all-In : {M : Type 0} (seats : List Seat) (m : M) (seat : Seat) → In seat seats → In (seat, m) (to_all seats m)
to_all-In [] m seat i = absurd i
to_all-In (s ∷ seats) m seat (inl e) = inl (ap (λ (x : Seat). (x, m)) e)
to_all-In (s ∷ seats) m seat (inr i) = inr (to_all-In seats m seat i)

-- ---- the request of a stamp

reversed : {A : Type 0} (x : A) (xs : List A) → reverse (x ∷ xs) ≡ reverse xs ++ x ∷ []
reversed x xs = reverse_onto xs x []

module _ {O R : Type 0} where
  -- where one list of what was asked stands behind another
  asked-more : (c d : Client O R) (more : List O) → d.asked ≡ more ++ c.asked → (s : ℕ) (op : O) → IsAsked c s op → IsAsked d s op
  asked-more c d more e s op a =
      let r : reverse d.asked ≡ reverse c.asked ++ reverse more = ap reverse e ∙ reverse-append more c.asked in
      record { from = a.from; is = ap (λ (xs : List O). slice_get xs (s - 1)) r ∙ slice_get-left (reverse c.asked) (reverse more) (s - 1) op a.is }

  newest-asked : (c d : Client O R) (op : O) → d.asked ≡ op ∷ c.asked → IsAsked d (stamp c + 1) op
  newest-asked c d op e =
      let place : stamp c + 1 - 1 ≡ length (reverse c.asked) = omega (arith, length-reverse c.asked) in
      record {
        from = omega arith;
        is = ap (λ (xs : List O). slice_get (reverse xs) (stamp c + 1 - 1)) e ∙ ap (λ (xs : List O). slice_get xs (stamp c + 1 - 1)) (reversed op c.asked)
            ∙ ap (slice_get (reverse c.asked ++ op ∷ [])) place ∙ slice_get-last (reverse c.asked) op;
      }

  asked-before : (c d : Client O R) (op : O) → d.asked ≡ op ∷ c.asked → (s : ℕ) (x : O) → IsAsked d s x → IsAsked c s x ⊎ ((s ≡ stamp c + 1) × (op ≡ x))
  asked-before c d op e s x a =
      let from = a.from in
      let is : slice_get (reverse c.asked ++ op ∷ []) (s - 1) ≡ Some x = sym (ap (λ (xs : List O). slice_get xs (s - 1)) (ap reverse e ∙ reversed op c.asked)) ∙ a.is in
      elim (slice_get-pushed (reverse c.asked) op (s - 1) x is) [
        | inl f ↦ inl (record { from = from; is = f })
        | inr p ↦ inr (omega (arith, from, p.0, length-reverse c.asked), p.1)
      ]

module _ {M O R : Type 0} (sp : Speech M O R) where
  -- ---- what is taken

  go_on-took : (c : Client O R) (waiting : List O) → c.waiting ≡ waiting → took (go_on sp c waiting).0 ≡ reverse c.asked ++ waiting
  go_on-took c [] w = ap (λ (xs : List O). reverse c.asked ++ xs) w
  go_on-took c (op ∷ waiting) w = ap (λ (xs : List O). xs ++ waiting) (reversed op c.asked) ∙ append_assoc (reverse c.asked) (op ∷ []) waiting

  hear-took : (c : Client O R) (o : Option (Told R)) → took (hear sp c o).0 ≡ took c
  hear-took c None = refl
  hear-took c (Some t) = by (c.pending && nat_eq t.stamp (stamp c))
    where
      by : (b : Bool) → took (cond b (go_on sp (record c { pending = false; accepted = t ∷ c.accepted }) c.waiting) (c, [])).0 ≡ took c
      by true = go_on-took (record c { pending = false; accepted = t ∷ c.accepted }) c.waiting refl
      by false = refl

  submit-took : (c : Client O R) (op : O) (b : Bool) → c.pending ≡ b → (c.pending ≡ false → c.waiting ≡ []) → took (submit sp c op b).0 ≡ took c ++ op ∷ []
  submit-took c op true e w = sym (append_assoc (reverse c.asked) c.waiting (op ∷ []))
  submit-took c op false e w =
      let none : c.waiting ≡ [] = w e in
      ap (λ (xs : List O). reverse (op ∷ c.asked) ++ xs) none ∙ append-nil (reverse (op ∷ c.asked)) ∙ reversed op c.asked
      ∙ ap (λ (xs : List O). xs ++ op ∷ []) (sym (append-nil (reverse c.asked)) ∙ ap (λ (xs : List O). reverse c.asked ++ xs) (sym none))

  length-took : (c : Client O R) → length (took c) ≡ taken c
  length-took c = length-append (reverse c.asked) c.waiting ∙ ap (λ (n : ℕ). n + length c.waiting) (length-reverse c.asked)

  next-took : (c : Client O R) (i : Input M O) (h : List (Input M O)) → (c.pending ≡ false → c.waiting ≡ []) → took c ≡ take sp.most (submitted h) → took (client_next sp c i).0 ≡ take sp.most (submitted (i ∷ h))
  next-took c (Heard from m) h w t = hear-took c (sp.told from m) ∙ t
  next-took c Tick h w t = t
  next-took c (Submitted op) h w t = by (nat_lt (taken c) sp.most) refl
    where
      long : taken c ≡ min sp.most (length (submitted h))
      long = sym (length-took c) ∙ ap length t ∙ length-take sp.most (submitted h)

      by : (b : Bool) → nat_lt (taken c) sp.most ≡ b → took (cond b (submit sp c op c.pending) (c, [])).0 ≡ take sp.most (submitted h ++ op ∷ [])
      by true e =
          let few : taken c < sp.most = ltb-true (taken c) sp.most e in
          let short : length (submitted h) < sp.most = omega (arith, few, long) in
          let all : took c ≡ submitted h = t ∙ take_all sp.most (submitted h) (omega (arith, short)) in
          submit-took c op c.pending refl w ∙ ap (λ (xs : List O). xs ++ op ∷ []) all
          ∙ sym (take_all sp.most (submitted h ++ op ∷ []) (omega (arith, short, length-append (submitted h) (op ∷ []))))
      by false e =
          let many : sp.most ≤ taken c = ltb-false (taken c) sp.most e in
          t ∙ sym (take-append-le sp.most (submitted h) (op ∷ []) (omega (arith, many, long)))

  -- what was taken are the first submissions
  pub takes_the_first : (h : List (Input M O)) → took (kept (client_role sp) h) ≡ take sp.most (submitted h)
  takes_the_first [] = sym (take_all sp.most [] (omega arith))
  takes_the_first (i ∷ h) = next-took (kept (client_role sp) h) i h (nothing_waits sp h) (takes_the_first h)

  -- where no stamp is pending, all that it takes is answered
  pub all_answered : (h : List (Input M O)) → (kept (client_role sp) h).pending ≡ false → length (kept (client_role sp) h).accepted ≡ length (take sp.most (submitted h))
  all_answered h e =
      let c = kept (client_role sp) h in
      let count : length c.asked ≡ length c.accepted + cond false 1 0 = subst (λ (b : Bool). length c.asked ≡ length c.accepted + cond b 1 0) e (answered_but_one sp h) in
      let all : reverse c.asked ≡ take sp.most (submitted h) = sym (append-nil (reverse c.asked)) ∙ ap (λ (xs : List O). reverse c.asked ++ xs) (sym (nothing_waits sp h e)) ∙ takes_the_first h in
      omega (arith, count, ap length all, length-reverse c.asked)

  -- the request of stamp s is the s-th submission
  pub asked_was_submitted : (h : List (Input M O)) (s : ℕ) (op : O) → IsAsked (kept (client_role sp) h) s op → slice_get (submitted h) (s - 1) ≡ Some op
  asked_was_submitted h s op a =
      let c = kept (client_role sp) h in
      let t : slice_get (take sp.most (submitted h)) (s - 1) ≡ Some op = ap (λ (xs : List O). slice_get xs (s - 1)) (sym (takes_the_first h)) ∙ slice_get-left (reverse c.asked) c.waiting (s - 1) op a.is in
      slice_get-taken sp.most (submitted h) (s - 1) op t

  -- ---- what it asks and sends on one input

  -- the newest request again or nothing, or the request of the next stamp to all
  abbrev Asks : Client O R → Client O R × List (Seat × M) → Type 0
  Asks c r =
      ((r.0.asked ≡ c.asked) × ((o : Seat × M) → In o r.1 → IsRequestOf sp c o))
      ⊎ ((op : O) × (r.0.asked ≡ op ∷ c.asked) × (r.1 ≡ to_all sp.to (sp.request (stamp c + 1) op)))

  again-sends : (c : Client O R) (asked : List O) → c.asked ≡ asked → (o : Seat × M) → In o (again sp c asked) → IsRequestOf sp c o
  again-sends c [] e o i = absurd i
  again-sends c (op ∷ asked) e o i = by c.pending i
    where
      by : (b : Bool) → In o (cond b (to_all sp.to (sp.request (stamp c) op)) []) → IsRequestOf sp c o
      by true j =
          let to = In-to_all sp.to (sp.request (stamp c) op) o j in
          let same : length asked + 1 ≡ stamp c = omega (arith, ap length e) in
          record { number = stamp c; op = op; asked = subst (λ (s : ℕ). IsAsked c s op) same (newest-asked (record c { asked = asked }) c op e); to = to.0; is = to.1 }
      by false j = absurd j

  hear-asks : (c : Client O R) (o : Option (Told R)) → Asks c (hear sp c o)
  hear-asks c None = inl (refl, λ o i. absurd i)
  hear-asks c (Some t) = by (c.pending && nat_eq t.stamp (stamp c))
    where
      by : (b : Bool) → Asks c (cond b (go_on sp (record c { pending = false; accepted = t ∷ c.accepted }) c.waiting) (c, []))
      by true = from c.waiting
        where
          from : (waiting : List O) → Asks c (go_on sp (record c { pending = false; accepted = t ∷ c.accepted }) waiting)
          from [] = inl (refl, λ o i. absurd i)
          from (op ∷ waiting) = inr (op, refl, refl)
      by false = inl (refl, λ o i. absurd i)

  next-asks : (c : Client O R) (i : Input M O) → Asks c (client_next sp c i)
  next-asks c (Heard from m) = hear-asks c (sp.told from m)
  next-asks c Tick = inl (refl, again-sends c c.asked refl)
  next-asks c (Submitted op) = by (nat_lt (taken c) sp.most) c.pending
    where
      by : (b p : Bool) → Asks c (cond b (submit sp c op p) (c, []))
      by true true = inl (refl, λ o i. absurd i)
      by true false = inr (op, refl, refl)
      by false p = inl (refl, λ o i. absurd i)

  asked-next : (c : Client O R) (i : Input M O) (s : ℕ) (op : O) → IsAsked c s op → IsAsked (client_next sp c i).0 s op
  asked-next c i s op a = elim (next-asks c i) [
    | inl e ↦ asked-more c (client_next sp c i).0 [] e.0 s op a
    | inr n ↦ asked-more c (client_next sp c i).0 (n.0 ∷ []) n.1 s op a
  ]

  -- what was asked stays so
  pub asked_stays : (later h : List (Input M O)) (s : ℕ) (op : O) → IsAsked (kept (client_role sp) h) s op → IsAsked (kept (client_role sp) (later ++ h)) s op
  asked_stays [] h s op a = a
  asked_stays (i ∷ later) h s op a = asked-next (kept (client_role sp) (later ++ h)) i s op (asked_stays later h s op a)

  request-next : (c : Client O R) (i : Input M O) (o : Seat × M) → IsRequestOf sp c o → IsRequestOf sp (client_next sp c i).0 o
  request-next c i o r = record { number = r.number; op = r.op; asked = asked-next c i r.number r.op r.asked; to = r.to; is = r.is }

  next-sends : (c : Client O R) (i : Input M O) (o : Seat × M) → In o (client_next sp c i).1 → IsRequestOf sp (client_next sp c i).0 o
  next-sends c i o there = elim (next-asks c i) [
    | inl e ↦ request-next c i o (e.1 o there)
    | inr n ↦
        let to = In-to_all sp.to (sp.request (stamp c + 1) n.0) o (subst (In o) n.2 there) in
        record { number = stamp c + 1; op = n.0; asked = newest-asked c (client_next sp c i).0 n.0 n.1; to = to.0; is = to.1 }
  ]

  -- a stamp that is asked now was asked before, or its request goes out
  next-sent : (c : Client O R) (i : Input M O) (s : ℕ) (op : O) → IsAsked (client_next sp c i).0 s op → IsAsked c s op ⊎ ((seat : Seat) → In seat sp.to → In (seat, sp.request s op) (client_next sp c i).1)
  next-sent c i s op a = elim (next-asks c i) [
    | inl e ↦ inl (asked-more (client_next sp c i).0 c [] (sym e.0) s op a)
    | inr n ↦ elim (asked-before c (client_next sp c i).0 n.0 n.1 s op a) [
      | inl b ↦ inl b
      | inr p ↦ inr (λ seat to.
          let same : sp.request (stamp c + 1) n.0 ≡ sp.request s op = ap (λ (k : ℕ). sp.request k n.0) (sym p.0) ∙ ap (sp.request s) p.1 in
          subst (In (seat, sp.request s op)) (sym n.2) (subst (λ (m : M). In (seat, m) (to_all sp.to (sp.request (stamp c + 1) n.0))) same (to_all-In sp.to (sp.request (stamp c + 1) n.0) seat to)))
    ]
  ]

  -- what is sent on an input is the request of a stamp that was asked
  pub sends_requests : (h : List (Input M O)) (o : Seat × M) → In o (sends (client_role sp) h) → IsRequestOf sp (kept (client_role sp) h) o
  sends_requests [] o there = absurd there
  sends_requests (i ∷ h) o there = next-sends (kept (client_role sp) h) i o there

  ever-request : (h : List (Input M O)) (o : Seat × M) → EverSent (sends (client_role sp)) h o → IsRequestOf sp (kept (client_role sp) h) o
  ever-request [] o s = absurd s
  ever-request (i ∷ h) o (inl now) = next-sends (kept (client_role sp) h) i o now
  ever-request (i ∷ h) o (inr before) = request-next (kept (client_role sp) h) i o (ever-request h o before)

  -- the request of each stamp that was asked was sent to all that it goes to
  pub asked_was_sent : (h : List (Input M O)) (s : ℕ) (op : O) → IsAsked (kept (client_role sp) h) s op → (seat : Seat) → In seat sp.to → EverSent (sends (client_role sp)) h (seat, sp.request s op)
  asked_was_sent [] s op a seat to = absurd (none-some op a.is)
  asked_was_sent (i ∷ h) s op a seat to = elim (next-sent (kept (client_role sp) h) i s op a) [
    | inl b ↦ inr (asked_was_sent h s op b seat to)
    | inr now ↦ inl (now seat to)
  ]

  -- what was ever sent are the requests of the stamps that were asked, to all that they go to
  pub sent_is : (h : List (Input M O)) (o : Seat × M) → EverSent (sends (client_role sp)) h o ↔ IsRequestOf sp (kept (client_role sp) h) o
  sent_is h o = (
    ever-request h o,
    λ r. subst (λ (m : M). EverSent (sends (client_role sp)) h (o.0, m)) (sym r.is) (asked_was_sent h r.number r.op r.asked o.0 r.to),
  )

abbrev pub IsRequest : {M O R : Type 0} → Speech M O R → M → Type 0
IsRequest {O = O} sp m = (n : ℕ) × (op : O) × (m ≡ sp.request n op)

-- what is sent is a request
pub client_sends : {M O R : Type 0} (sp : Speech M O R) (h : List (Input M O)) (o : Seat × M) → In o (sends (client_role sp) h) → IsRequest sp o.1
client_sends sp h o there = let r = sends_requests sp h o there in (r.number, r.op, r.is)
