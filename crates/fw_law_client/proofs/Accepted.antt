-- What a client accepts, and which stamp is pending.
use Rattle.std.proofs.Common.{ℕ, zero, suc, ◌+◌, ◌≤◌, ◌≡◌, ◌⊎◌, ◌↔◌, inl, inr, Bool, true, false, cond, ◌&&◌, nat_eq, nat_lt, List, [], ◌∷◌, ◌++◌, length, map, reverse, Option, Some, None, refl, sym, ◌∙◌, ap, subst, arith, true≢false}
use Rattle.std.proofs.lemmas.Bool.{and_parts, and_from, eqb-true, eq-eqb}
use Rattle.std.proofs.lemmas.Option.{none-some, same_Some}
use Rattle.std.proofs.lemmas.Grind.{reverse_onto}
use Rattle.std.proofs.lemmas.List.{map-append}
use Rattle.fw_list.specs.Lists.{numbers_from}
use Rattle.fw_base.specs.declared.seat.Seat.{Seat}
use Rattle.fw_trace.specs.declared.Input.{Input}
use Rattle.fw_trace.specs.declared.Input.TheVariants.{Heard, Tick, Submitted}
use Rattle.fw_trace.specs.declared.Told.{Told}
use Rattle.fw_trace.specs.Role.{kept}
use Rattle.fw_trace.specs.Client.{Speech, Client, taken, stamp, ask, go_on, submit, hear, client_next, client_role}
use Rattle.fw_trace.specs.Lists.{In}
use Rattle.fw_source.specs.Sources.{Hears, AllHeard}
use Rattle.fw_law_client.specs.Asking.{IsOpen, IsAnswered, stamp_told, Answers, WasAnswered, TellsAsked, WasToldAsked}

-- ---- stamps that count down to 1

abbrev pub AreNumbered : {R : Type 0} → List (Told R) → Type 0
AreNumbered [] = Unit {0}
AreNumbered (t ∷ ts) = (t.stamp ≡ suc (length ts)) × AreNumbered ts

numbered-below : {R : Type 0} (ts : List (Told R)) (t : Told R) → AreNumbered ts → In t ts → t.stamp ≤ length ts
numbered-below [] t n i = absurd i
numbered-below (u ∷ ts) t n (inl e) = let same : t.stamp ≡ u.stamp = ap (λ (x : Told _). x.stamp) e in omega (arith, same, n.0)
numbered-below (u ∷ ts) t n (inr i) = let below = numbered-below ts t n.1 i in omega (arith, below)

numbered-at : {R : Type 0} (ts : List (Told R)) (s : ℕ) → AreNumbered ts → 1 ≤ s → s ≤ length ts → (t : Told R) × In t ts × (t.stamp ≡ s)
numbered-at [] s n from to = absurd (omega (arith, from, to))
numbered-at {R = R} (u ∷ ts) s n from to = by (nat_eq s (suc (length ts))) refl (λ k. numbered-at ts s n.1 from k)
  where
    by : (b : Bool) → nat_eq s (suc (length ts)) ≡ b → (s ≤ length ts → (t : Told R) × In t ts × (t.stamp ≡ s)) → (t : Told R) × In t (u ∷ ts) × (t.stamp ≡ s)
    by true e more = (u, inl refl, n.0 ∙ sym (eqb-true s (suc (length ts)) e))
    by false e more = let t = more (grind (arith, to, e)) in (t.0, inr t.1, t.2)

numbers-push : (first count : ℕ) → numbers_from first (suc count) ≡ numbers_from first count ++ (first + count) ∷ []
numbers-push first zero = ap (λ (k : ℕ). k ∷ []) (omega arith)
numbers-push first (suc count) =
    let place : first + 1 + count ≡ first + suc count = omega arith in
    ap (λ (ks : List ℕ). first ∷ ks) (numbers-push (first + 1) count ∙ ap (λ (k : ℕ). numbers_from (first + 1) count ++ k ∷ []) place)

numbered-list : {R : Type 0} (ts : List (Told R)) → AreNumbered ts → map stamp_told (reverse ts) ≡ numbers_from 1 (length ts)
numbered-list [] n = refl
numbered-list (t ∷ ts) n =
    let same : t.stamp ≡ 1 + length ts = omega (arith, n.0) in
    ap (map stamp_told) (reverse_onto ts t []) ∙ map-append stamp_told (reverse ts) (t ∷ [])
    ∙ ap (λ (ks : List ℕ). ks ++ t.stamp ∷ []) (numbered-list ts n.1) ∙ ap (λ (k : ℕ). numbers_from 1 (length ts) ++ k ∷ []) same ∙ sym (numbers-push 1 (length ts))

-- ---- after every history

pub record IsSound {O R : Type 0} (c : Client O R) : Type 0 where
  pub waits : c.pending ≡ false → c.waiting ≡ []
  pub count : length c.asked ≡ length c.accepted + cond c.pending 1 0
  pub numbered : AreNumbered c.accepted

counted : {O R : Type 0} (c : Client O R) (b : Bool) → c.pending ≡ b → length c.asked ≡ length c.accepted + cond c.pending 1 0 → length c.asked ≡ length c.accepted + cond b 1 0
counted c b e l = subst (λ (x : Bool). length c.asked ≡ length c.accepted + cond x 1 0) e l

module _ {M O R : Type 0} (sp : Speech M O R) where
  ask-sound : (c : Client O R) (op : O) → length c.asked ≡ length c.accepted → AreNumbered c.accepted → IsSound (ask sp c op).0
  ask-sound c op l n = record { waits = λ e. absurd (true≢false e); count = omega (arith, l); numbered = n }

  go_on-sound : (c : Client O R) (waiting : List O) → c.waiting ≡ waiting → c.pending ≡ false → length c.asked ≡ length c.accepted → AreNumbered c.accepted → IsSound (go_on sp c waiting).0
  go_on-sound c [] w p l n = record { waits = λ e. w; count = subst (λ (b : Bool). length c.asked ≡ length c.accepted + cond b 1 0) (sym p) (omega (arith, l)); numbered = n }
  go_on-sound c (op ∷ waiting) w p l n = ask-sound (record c { waiting = waiting }) op l n

  hear-sound : (c : Client O R) (o : Option (Told R)) → IsSound c → IsSound (hear sp c o).0
  hear-sound c None s = s
  hear-sound c (Some t) s = by (c.pending && nat_eq t.stamp (stamp c)) refl
    where
      by : (b : Bool) → (c.pending && nat_eq t.stamp (stamp c)) ≡ b → IsSound (cond b (go_on sp (record c { pending = false; accepted = t ∷ c.accepted }) c.waiting) (c, [])).0
      by true e =
          let both = and_parts c.pending (nat_eq t.stamp (stamp c)) e in
          let l : length c.asked ≡ length c.accepted + 1 = counted c true both.0 s.count in
          let n : t.stamp ≡ length c.asked = eqb-true t.stamp (stamp c) both.1 in
          go_on-sound (record c { pending = false; accepted = t ∷ c.accepted }) c.waiting refl refl (omega (arith, l)) (omega (arith, l, n), s.numbered)
      by false e = s

  submit-sound : (c : Client O R) (op : O) (b : Bool) → c.pending ≡ b → IsSound c → IsSound (submit sp c op b).0
  submit-sound c op false e s = let l : length c.asked ≡ length c.accepted + 0 = counted c false e s.count in ask-sound c op (omega (arith, l)) s.numbered
  submit-sound c op true e s = record { waits = λ f. absurd (true≢false (sym e ∙ f)); count = s.count; numbered = s.numbered }

  next-sound : (c : Client O R) (i : Input M O) → IsSound c → IsSound (client_next sp c i).0
  next-sound c (Heard from m) s = hear-sound c (sp.told from m) s
  next-sound c Tick s = s
  next-sound c (Submitted op) s = by (nat_lt (taken c) sp.most)
    where
      by : (b : Bool) → IsSound (cond b (submit sp c op c.pending) (c, [])).0
      by true = submit-sound c op c.pending refl s
      by false = s

  pub client_sound : (h : List (Input M O)) → IsSound (kept (client_role sp) h)
  client_sound [] = record { waits = λ e. refl; count = refl; numbered = tt }
  client_sound (i ∷ h) = next-sound (kept (client_role sp) h) i (client_sound h)

  -- nothing waits where no stamp is pending
  pub nothing_waits : (h : List (Input M O)) → (kept (client_role sp) h).pending ≡ false → (kept (client_role sp) h).waiting ≡ []
  nothing_waits h = (client_sound h).waits

  -- all that was asked is answered, but for the stamp that is pending
  pub answered_but_one : (h : List (Input M O)) → length (kept (client_role sp) h).asked ≡ length (kept (client_role sp) h).accepted + cond (kept (client_role sp) h).pending 1 0
  answered_but_one h = (client_sound h).count

  -- the stamps of what was accepted are 1, 2, ..
  pub stamps_follow : (h : List (Input M O)) → map stamp_told (reverse (kept (client_role sp) h).accepted) ≡ numbers_from 1 (length (kept (client_role sp) h).accepted)
  stamps_follow h = numbered-list (kept (client_role sp) h).accepted (client_sound h).numbered

  open-pending : (c : Client O R) (s : ℕ) → IsSound c → IsOpen c s → (b : Bool) → c.pending ≡ b → (c.pending ≡ true) × (s ≡ stamp c)
  open-pending c s k o true e =
      let l : length c.asked ≡ length c.accepted + 1 = counted c true e k.count in
      (e, by (nat_lt s (stamp c)) refl l)
    where
      by : (b : Bool) → nat_lt s (stamp c) ≡ b → length c.asked ≡ length c.accepted + 1 → s ≡ stamp c
      by true f l = let below : s ≤ length c.accepted = grind (arith, f, l) in let t = numbered-at c.accepted s k.numbered o.from below in absurd (o.unanswered t.0 t.1 t.2)
      by false f l = let within = o.asked in grind (arith, f, within)
  open-pending c s k o false e =
      let l : length c.asked ≡ length c.accepted + 0 = counted c false e k.count in
      let within = o.asked in
      let t = numbered-at c.accepted s k.numbered o.from (omega (arith, within, l)) in
      absurd (o.unanswered t.0 t.1 t.2)

  pending-open : (c : Client O R) (s : ℕ) → IsSound c → c.pending ≡ true → s ≡ stamp c → IsOpen c s
  pending-open c s k p e =
      let l : length c.asked ≡ length c.accepted + 1 = counted c true p k.count in
      record { from = omega (arith, l, e); asked = omega (arith, e); unanswered = λ t i same. (let below = numbered-below c.accepted t k.numbered i in omega (arith, below, same, e, l)) }

  -- the stamp that is pending is the one that was asked and isn't answered
  pub pending_is : (h : List (Input M O)) (s : ℕ) → IsOpen (kept (client_role sp) h) s ↔ ((kept (client_role sp) h).pending ≡ true) × (s ≡ stamp (kept (client_role sp) h))
  pending_is h s = (
    λ o. open-pending (kept (client_role sp) h) s (client_sound h) o (kept (client_role sp) h).pending refl,
    λ p. pending-open (kept (client_role sp) h) s (client_sound h) p.0 p.1,
  )

  -- ---- what is accepted

  go_on-accepted : (c : Client O R) (waiting : List O) → (go_on sp c waiting).0.accepted ≡ c.accepted
  go_on-accepted c [] = refl
  go_on-accepted c (op ∷ waiting) = refl

  submit-accepted : (c : Client O R) (op : O) (b : Bool) → (submit sp c op b).0.accepted ≡ c.accepted
  submit-accepted c op true = refl
  submit-accepted c op false = refl

  hear-accepted : (c : Client O R) (o : Option (Told R)) (t : Told R) → In t (hear sp c o).0.accepted ↔ ((o ≡ Some t) × (c.pending ≡ true) × (t.stamp ≡ stamp c)) ⊎ In t c.accepted
  hear-accepted c None t = (λ i. inr i, λ k. elim k [ inl a ↦ absurd (none-some t a.0) | inr i ↦ i ])
  hear-accepted c (Some u) t = by (c.pending && nat_eq u.stamp (stamp c)) refl
    where
      by : (b : Bool) → (c.pending && nat_eq u.stamp (stamp c)) ≡ b → In t (cond b (go_on sp (record c { pending = false; accepted = u ∷ c.accepted }) c.waiting) (c, [])).0.accepted ↔ ((Some u ≡ Some t) × (c.pending ≡ true) × (t.stamp ≡ stamp c)) ⊎ In t c.accepted
      by true e =
          let both = and_parts c.pending (nat_eq u.stamp (stamp c)) e in
          let now = go_on-accepted (record c { pending = false; accepted = u ∷ c.accepted }) c.waiting in (
            λ i. elim (subst (In t) now i) [
              | inl s ↦ inl (ap Some (sym s), both.0, ap (λ (x : Told R). x.stamp) s ∙ eqb-true u.stamp (stamp c) both.1)
              | inr j ↦ inr j
            ],
            λ k. subst (In t) (sym now) (elim k [ inl a ↦ inl (sym (same_Some u t a.0)) | inr j ↦ inr j ]),
          )
      by false e = (
        λ i. inr i,
        λ k. elim k [
          | inl a ↦
              let same : u.stamp ≡ stamp c = ap (λ (x : Told R). x.stamp) (same_Some u t a.0) ∙ a.2 in
              absurd (true≢false (sym (and_from c.pending (nat_eq u.stamp (stamp c)) a.1 (eq-eqb u.stamp (stamp c) same)) ∙ e))
          | inr i ↦ i
        ],
      )

  next-accepted : (c : Client O R) (i : Input M O) (t : Told R) → In t (client_next sp c i).0.accepted ↔ Answers sp c i t ⊎ In t c.accepted
  next-accepted c (Heard from m) t = hear-accepted c (sp.told from m) t
  next-accepted c Tick t = (λ i. inr i, λ k. elim k [ inl a ↦ absurd a | inr i ↦ i ])
  next-accepted c (Submitted op) t = by (nat_lt (taken c) sp.most)
    where
      by : (b : Bool) → In t (cond b (submit sp c op c.pending) (c, [])).0.accepted ↔ ⊥ ⊎ In t c.accepted
      by true = (λ i. inr (subst (In t) (submit-accepted c op c.pending) i), λ k. elim k [ inl a ↦ absurd a | inr i ↦ subst (In t) (sym (submit-accepted c op c.pending)) i ])
      by false = (λ i. inr i, λ k. elim k [ inl a ↦ absurd a | inr i ↦ i ])

  -- what is accepted is what was told under the stamp that was pending
  pub accepted_is : (h : List (Input M O)) (t : Told R) → In t (kept (client_role sp) h).accepted ↔ WasAnswered sp h t
  accepted_is [] t = (λ i. absurd i, λ w. absurd w)
  accepted_is (i ∷ h) t =
      let now = next-accepted (kept (client_role sp) h) i t in
      let before = accepted_is h t in (
        λ k. elim (now.0 k) [ inl a ↦ inl a | inr j ↦ inr (before.0 j) ],
        λ w. now.1 (elim w [ inl a ↦ inl a | inr v ↦ inr (before.1 v) ]),
      )

  accepted-longer : (later h : List (Input M O)) (t : Told R) → WasAnswered sp h t → WasAnswered sp (later ++ h) t
  accepted-longer [] h t w = w
  accepted-longer (i ∷ later) h t w = inr (accepted-longer later h t w)

  pub accepted_stays : (later h : List (Input M O)) (t : Told R) → In t (kept (client_role sp) h).accepted → In t (kept (client_role sp) (later ++ h)).accepted
  accepted_stays later h t i = (accepted_is (later ++ h) t).1 (accepted-longer later h t ((accepted_is h t).0 i))

  tells-asked : (c : Client O R) (i : Input M O) (t : Told R) → IsSound c → TellsAsked sp c i t → IsAnswered (client_next sp c i).0 t.stamp
  tells-asked c (Heard from m) t k a = by (nat_lt (length c.accepted) t.stamp) refl c.pending refl
    where
      by : (b : Bool) → nat_lt (length c.accepted) t.stamp ≡ b → (p : Bool) → c.pending ≡ p → IsAnswered (client_next sp c (Heard from m)).0 t.stamp
      by false e p q =
          let u = numbered-at c.accepted t.stamp k.numbered a.1 (grind (arith, e)) in
          record { told = u.0; accepted = (next-accepted c (Heard from m) u.0).1 (inr u.1); same = u.2 }
      by true e true q =
          let l : length c.asked ≡ length c.accepted + 1 = counted c true q k.count in
          let within : t.stamp ≤ length c.asked = a.2 in
          record { told = t; accepted = (next-accepted c (Heard from m) t).1 (inl (a.0, q, grind (arith, e, l, within))); same = refl }
      by true e false q =
          let l : length c.asked ≡ length c.accepted + 0 = counted c false q k.count in
          let within : t.stamp ≤ length c.asked = a.2 in
          absurd (grind (arith, e, l, within))
  tells-asked c Tick t k a = absurd a
  tells-asked c (Submitted op) t k a = absurd a

  -- a stamp that was told after it was asked is answered
  pub told_answered : (h : List (Input M O)) (t : Told R) → WasToldAsked sp h t → IsAnswered (kept (client_role sp) h) t.stamp
  told_answered [] t w = absurd w
  told_answered (i ∷ h) t (inl a) = tells-asked (kept (client_role sp) h) i t (client_sound h) a
  told_answered (i ∷ h) t (inr w) =
      let u = told_answered h t w in
      record { told = u.told; accepted = (next-accepted (kept (client_role sp) h) i u.told).1 (inr u.accepted); same = u.same }

  -- what holds of all that was told in what was heard holds of all that was accepted
  pub client_accepts : (T : Told R → Type 0) (K : Seat → M → Type 0) → ((from : Seat) (m : M) (t : Told R) → K from m → sp.told from m ≡ Some t → T t)
      → (h : List (Input M O)) → AllHeard K h → (told : Told R) → In told (kept (client_role sp) h).accepted → T told
  client_accepts T K telling h a t i = was h a ((accepted_is h t).0 i)
    where
      now : (c : Client O R) (x : Input M O) → Hears K x → Answers sp c x t → T t
      now c (Heard from m) k w = telling from m t k w.0
      now c Tick k w = absurd w
      now c (Submitted op) k w = absurd w

      was : (g : List (Input M O)) → AllHeard K g → WasAnswered sp g t → T t
      was [] k w = absurd w
      was (x ∷ g) k (inl w) = now (kept (client_role sp) g) x k.0 w
      was (x ∷ g) k (inr w) = was g k.1 w
