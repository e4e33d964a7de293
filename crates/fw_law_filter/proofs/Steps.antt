-- What a filter does on one message, step by step: what each step keeps, all keep.
use Rattle.std.proofs.Common.{ℕ, ◌≡◌, Bool, true, false, cond, [], ◌∷◌, ◌++◌, Option, Some, None, is_some, refl, sym, ◌∙◌, subst, append-nil}
use Rattle.std.proofs.lemmas.Option.{none-some, same_Some}
use Rattle.fw_base.specs.declared.seat.Seat.{Seat}
use Rattle.fw_trace.specs.declared.Input.TheVariants.{Heard}
use Rattle.fw_trace.specs.declared.Share.{Share}
use Rattle.fw_trace.specs.Client.{to_all}
use Rattle.fw_trace.specs.Executor.{Sends}
use Rattle.fw_trace.specs.Filter.{Speech, Filter, held_of, asked_at_all, hear_agreed, hold, hear_reply, has_share, hold_made, hear_share, filter_next}

abbrev pub with_held : {M V : Type 0} → Filter M V → ℕ → M → Filter M V
with_held x n reply = record x { held = (n, reply) ∷ x.held }

abbrev pub with_share : {M V : Type 0} → Filter M V → Share V → Filter M V
with_share x s = record x { shares = x.shares ++ s ∷ [] }

-- what is kept and sent after a message
abbrev pub on_message : {M V : Type 0} → Speech M V → Filter M V → Seat → M → Filter M V × Sends M
on_message sp x from m = filter_next {O = ⊥} sp x (Heard from m)

-- a reply that comes to be held, sent where it was asked for
abbrev pub downwards : {M V : Type 0} → Speech M V → Filter M V → ℕ → M → Sends M
downwards sp x n reply = cond (asked_at_all x.asked n) (to_all sp.downs reply) []

-- what is kept and was sent so far on a message: A once it was taken for an agreed frame, B for a reply, C for a share
pub record Keeps {M V : Type 0} (sp : Speech M V) (from : Seat) (m : M) (A B C : Filter M V → Sends M → Type 0) : Type 0 where
  pub known : (x : Filter M V) (out : Sends M) → ((n : ℕ) → sp.replied from m ≡ Some n → is_some (held_of x.held n) ≡ true) → A x out → B x out
  pub replied : (x : Filter M V) (out : Sends M) (n : ℕ) → sp.replied from m ≡ Some n → held_of x.held n ≡ None → A x out → B (with_held x n m) (out ++ downwards sp x n m)
  pub done : (x : Filter M V) (out : Sends M) → ((s : Share V) → sp.shared from m ≡ Some s → has_share x.shares s.number s.exec ≡ true) → B x out → C x out
  pub shared : (x : Filter M V) (out : Sends M) (s : Share V) → sp.shared from m ≡ Some s → has_share x.shares s.number s.exec ≡ false → B x out → C (with_share x s) out
  pub made : (x : Filter M V) (out : Sends M) (n : ℕ) (reply : M) → sp.combined n x.shares ≡ Some reply → held_of x.held n ≡ None → C x out → C (with_held x n reply) (out ++ downwards sp x n reply)

-- after what was sent so far, and this result of a step
abbrev pub After : {M V : Type 0} → (Filter M V → Sends M → Type 0) → Sends M → Filter M V × Sends M → Type 0
After P out r = P r.0 (out ++ r.1)

pub no_some : {A : Type 0} (o : Option A) → is_some o ≡ false → o ≡ None
no_some None e = refl
no_some (Some x) e = cc

module _ {M V : Type 0} (sp : Speech M V) where
  pub hold-keeps : (P : Filter M V → Sends M → Type 0) (x : Filter M V) (out : Sends M) (n : ℕ) (reply : M) → (is_some (held_of x.held n) ≡ true → P x out) → (held_of x.held n ≡ None → P (with_held x n reply) (out ++ downwards sp x n reply))
      → After P out (hold sp x n reply)
  hold-keeps P x out n reply old new = by (is_some (held_of x.held n)) refl
    where
      by : (b : Bool) → is_some (held_of x.held n) ≡ b → After P out (cond b (x, []) (with_held x n reply, downwards sp x n reply))
      by true e = subst (P x) (sym (append-nil out)) (old e)
      by false e = new (no_some (held_of x.held n) e)

  module _ (from : Seat) (m : M) (A B C : Filter M V → Sends M → Type 0) (k : Keeps sp from m A B C) where
    reply-keeps : (x : Filter M V) (out : Sends M) (o : Option ℕ) → sp.replied from m ≡ o → A x out → After B out (hear_reply sp x m o)
    reply-keeps x out None e a = subst (B x) (sym (append-nil out)) (k.known x out (λ n f. absurd (none-some n (sym e ∙ f))) a)
    reply-keeps x out (Some n) e a = hold-keeps B x out n m
        (λ old. k.known x out (λ j f. subst (λ (i : ℕ). is_some (held_of x.held i) ≡ true) (same_Some n j (sym e ∙ f)) old) a)
        (λ new. k.replied x out n e new a)

    made-keeps : (x : Filter M V) (out : Sends M) (n : ℕ) (o : Option M) → sp.combined n x.shares ≡ o → C x out → After C out (hold_made sp x n o)
    made-keeps x out n None e c = subst (C x) (sym (append-nil out)) c
    made-keeps x out n (Some reply) e c = hold-keeps C x out n reply (λ old. c) (λ new. k.made x out n reply e new c)

    share-keeps : (x : Filter M V) (out : Sends M) (o : Option (Share V)) → sp.shared from m ≡ o → B x out → After C out (hear_share sp x o)
    share-keeps x out None e b = subst (C x) (sym (append-nil out)) (k.done x out (λ s f. absurd (none-some s (sym e ∙ f))) b)
    share-keeps x out (Some s) e b = by (has_share x.shares s.number s.exec) refl
      where
        by : (t : Bool) → has_share x.shares s.number s.exec ≡ t
            → After C out (cond t (x, []) (hold_made sp (with_share x s) s.number (sp.combined s.number (x.shares ++ s ∷ []))))
        by true t = subst (C x) (sym (append-nil out)) (k.done x out (λ u f. subst (λ (v : Share V). has_share x.shares v.number v.exec ≡ true) (same_Some s u (sym e ∙ f)) t) b)
        by false t = made-keeps (with_share x s) out s.number (sp.combined s.number (x.shares ++ s ∷ [])) refl (k.shared x out s e t b)

    pub message_keeps : (x : Filter M V) → A (hear_agreed sp x from m (sp.agreed from m)).0 (hear_agreed sp x from m (sp.agreed from m)).1 → C (on_message sp x from m).0 (on_message sp x from m).1
    message_keeps x a =
        let heard = hear_agreed sp x from m (sp.agreed from m) in
        let told = hear_reply sp heard.0 m (sp.replied from m) in
        share-keeps told.0 (heard.1 ++ told.1) (sp.shared from m) refl (reply-keeps heard.0 heard.1 (sp.replied from m) refl a)
