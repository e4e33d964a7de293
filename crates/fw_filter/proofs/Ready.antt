-- The reply of each number whose shares make one is held, after each history.
use Rattle.std.proofs.Common.{◌≡◌, ℕ, List, [], ◌∷◌, ◌++◌, Bool, true, false, cond, nat_eq, Option, Some, None, refl, sym, ap, ap₂, ◌∙◌, subst, inl, inr}
use Rattle.std.specs.Prelude.{is_some, IfSome, filter}
use Rattle.std.specs.Option.{option_map}
use Rattle.std.proofs.lemmas.Bool.{cases_Bool, eqb-true, eq-eqb}
use Rattle.std.proofs.lemmas.List.{append-nil}
use Rattle.std.proofs.lemmas.List.Elements.{filter-append}
use Rattle.fw_base.specs.declared.params.Params.{Params}
use Rattle.fw_base.specs.declared.seat.Seat.{Seat}
use Rattle.fw_trace.specs.declared.Input.TheVariants.{Heard, Tick, Submitted}
use Rattle.fw_trace.specs.Filter as filters
use Rattle.fw_trace.specs.Role.{kept}
use Rattle.fw_node.specs.Histories.{Taken, History}
use Rattle.fw_rules.specs.Means.{Means}
use Rattle.fw_rules.specs.Choices.{first_some}
use Rattle.fw_rules.specs.Roles.{is_equal, combined_with, combined_of}
use Rattle.fw_share.specs.Shares.{Share}
use Rattle.fw_share.specs.Combining.{joining, added_if, made_if}
use Rattle.fw_filter.specs.Sifting.{Keeps, Speech, SpeaksIn, IsReady}
use Rattle.fw_filter.specs.Standing.{next_of}

-- ---- a share of another number makes no difference

other-with : (k : Means (List ℕ)) (m : ℕ) (kept : List Share) (s t : Share) → nat_eq s.number m ≡ false → combined_with k m (kept ++ s ∷ []) t ≡ combined_with k m kept t
other-with k m kept s t other =
    let apart : is_equal m t s ≡ false = rw other refl in
    let equal : filter (is_equal m t) (kept ++ s ∷ []) ≡ filter (is_equal m t) kept =
    filter-append (is_equal m t) kept (s ∷ []) ∙ (rw apart (append-nil (filter (is_equal m t) kept))) in
    rw equal refl

same-some : {A B : Type 0} (f g : A → Option B) → ((x : A) → f x ≡ g x) → (xs : List A) → first_some f xs ≡ first_some g xs
same-some f g same [] = refl
same-some {B = B} f g same (x ∷ xs) =
    let pick : Option B → Option B → Option B = λ o rest. elim o [ Some y ↦ Some y | None ↦ rest ] in
    ap₂ pick (same x) (same-some f g same xs)

last-none : {A B : Type 0} (f : A → Option B) (xs : List A) (last : A) → f last ≡ None → first_some f (xs ++ last ∷ []) ≡ first_some f xs
last-none f [] last none = rw none refl
last-none {B = B} f (x ∷ xs) last none =
    let pick : Option B → Option B → Option B = λ o rest. elim o [ Some y ↦ Some y | None ↦ rest ] in
    ap (pick (f x)) (last-none f xs last none)

pub other-combined : (k : Means (List ℕ)) (m : ℕ) (kept : List Share) (s : Share) → nat_eq s.number m ≡ false → combined_of k m (kept ++ s ∷ []) ≡ combined_of k m kept
other-combined k m kept s other =
    let none : combined_with k m (kept ++ s ∷ []) s ≡ None = rw other refl in
    last-none (combined_with k m (kept ++ s ∷ [])) kept s none
    ∙ same-some (combined_with k m (kept ++ s ∷ [])) (combined_with k m kept) (λ t. other-with k m kept s t other) kept

-- ---- what is held stays held

held-stays : (held : List (ℕ × List ℕ)) (m : ℕ) (reply : List ℕ) (n : ℕ) → is_some (filters.held_of held n) ≡ true → is_some (filters.held_of ((m, reply) ∷ held) n) ≡ true
held-stays held m reply n some = by (nat_eq m n) some
  where
    by : (b : Bool) → is_some (filters.held_of held n) ≡ true → is_some (cond b (Some reply) (filters.held_of held n)) ≡ true
    by true e = refl
    by false e = e

hold-stays : (sp : Speech) (x : Keeps) (m : ℕ) (reply : List ℕ) (n : ℕ) → is_some (filters.held_of x.held n) ≡ true → is_some (filters.held_of (filters.hold sp x m reply).0.held n) ≡ true
hold-stays sp x m reply n some = elim (cases_Bool (is_some (filters.held_of x.held m))) [
  | inl is ↦ rw is some
  | inr none ↦ rw none (held-stays x.held m reply n some)
]

hold-holds : (sp : Speech) (x : Keeps) (n : ℕ) (reply : List ℕ) → is_some (filters.held_of (filters.hold sp x n reply).0.held n) ≡ true
hold-holds sp x n reply = elim (cases_Bool (is_some (filters.held_of x.held n))) [
  | inl is ↦ rw is is
  | inr none ↦ let same = eq-eqb n n refl in rw none (rw same refl)
]

hold-shares : (sp : Speech) (x : Keeps) (n : ℕ) (reply : List ℕ) → (filters.hold sp x n reply).0.shares ≡ x.shares
hold-shares sp x n reply = elim (cases_Bool (is_some (filters.held_of x.held n))) [
  | inl is ↦ rw is refl
  | inr none ↦ rw none refl
]

ready-hold : (sp : Speech) (x : Keeps) (n : ℕ) (reply : List ℕ) → IsReady sp x → IsReady sp (filters.hold sp x n reply).0
ready-hold sp x n reply ready = λ m made. hold-stays sp x n reply m (ready m (ap (λ kept. is_some (sp.combined m kept)) (sym (hold-shares sp x n reply)) ∙ made))

-- ---- what a share does

ready-made : (sp : Speech) (x : Keeps) (n : ℕ) (o : Option (List ℕ)) → o ≡ sp.combined n x.shares → ((m : ℕ) → nat_eq n m ≡ false → is_some (sp.combined m x.shares) ≡ true → is_some (filters.held_of x.held m) ≡ true)
    → IsReady sp (filters.hold_made sp x n o).0
ready-made sp x n None is ready = λ m made. elim (cases_Bool (nat_eq n m)) [
  | inr other ↦ ready m other made
  | inl same ↦
      let e = eqb-true n m same in
      let none : None ≡ sp.combined m x.shares = subst (λ j. None ≡ sp.combined j x.shares) e is in
      let wrong : false ≡ true = ap is_some none ∙ made in
      absurd (let no : ⊥ = cc in no)
]
ready-made sp x n (Some reply) is ready = λ m made.
    let before : is_some (sp.combined m x.shares) ≡ true = ap (λ kept. is_some (sp.combined m kept)) (sym (hold-shares sp x n reply)) ∙ made in
    elim (cases_Bool (nat_eq n m)) [
      | inr other ↦ hold-stays sp x n reply m (ready m other before)
      | inl same ↦ subst (λ j. is_some (filters.held_of (filters.hold sp x n reply).0.held j) ≡ true) (eqb-true n m same) (hold-holds sp x n reply)
    ]

ready-share : (p : Params) (row : ℕ) (sp : Speech) → SpeaksIn p row sp → (x : Keeps) (o : Option Share) → IsReady sp x → IsReady sp (filters.hear_share sp x o).0
ready-share p row sp speaks x None ready = ready
ready-share p row sp speaks x (Some s) ready = elim (cases_Bool (filters.has_share x.shares s.number s.exec)) [
  | inl has ↦ rw has ready
  | inr first ↦ rw first
      (ready-made sp (record x { shares = x.shares ++ s ∷ [] }) s.number _ refl
      (λ m other made. ready m (ap is_some (speaks.combined m x.shares ∙ sym (other-combined (joining p) m x.shares s other) ∙ sym (speaks.combined m (x.shares ++ s ∷ []))) ∙ made)))
]

-- ---- after each input

ready-agreed : (sp : Speech) (x : Keeps) (from : Seat) (m : List ℕ) (o : Option ℕ) → IsReady sp x → IsReady sp (filters.hear_agreed sp x from m o).0
ready-agreed sp x from m None ready = ready
ready-agreed sp x from m (Some n) ready = ready

ready-reply : (sp : Speech) (x : Keeps) (m : List ℕ) (o : Option ℕ) → IsReady sp x → IsReady sp (filters.hear_reply sp x m o).0
ready-reply sp x m None ready = ready
ready-reply sp x m (Some n) ready = ready-hold sp x n m ready

ready-next : (p : Params) (row : ℕ) (sp : Speech) → SpeaksIn p row sp → (x : Keeps) (i : Taken) → IsReady sp x → IsReady sp (next_of sp x i).0
ready-next p row sp speaks x (Heard from m) ready =
    let agreed = ready-agreed sp x from m (sp.agreed from m) ready in
    let replied = ready-reply sp _ m (sp.replied from m) agreed in
    ready-share p row sp speaks _ (sp.shared from m) replied
ready-next p row sp speaks x Tick ready = ready
ready-next p row sp speaks x (Submitted op) ready = ready

pub ready-after : (p : Params) (row : ℕ) (sp : Speech) → SpeaksIn p row sp → (h : History) → IsReady sp (kept (filters.filter_role sp) h)
ready-after p row sp speaks [] = λ n made. absurd (let wrong : false ≡ true = ap is_some (sym (speaks.combined n [])) ∙ made in let no : ⊥ = cc in no)
ready-after p row sp speaks (i ∷ h) = ready-next p row sp speaks (kept (filters.filter_role sp) h) i (ready-after p row sp speaks h)

-- ---- a share that is heard

same-hold : (sp : Speech) (x : Keeps) (n : ℕ) (o : Option (List ℕ)) → is_some (filters.held_of x.held n) ≡ true → filters.hold_made sp x n o ≡ (x, [])
same-hold sp x n None held = refl
same-hold sp x n (Some reply) held = rw held refl

-- what is held with a share that was added, and what is held by the rule
pub share-heard : (p : Params) (row : ℕ) (sp : Speech) → SpeaksIn p row sp → (x : Keeps) (o : Option Share) (new : List Share) (made : Option (List ℕ)) (n : ℕ) → IsReady sp x
    → option_map (λ (s : Share). s.number) o ≡ Some n → new ≡ added_if x.shares o → made ≡ made_if p x.shares o
    → IfSome o (λ s. filters.has_share x.shares s.number s.exec ≡ false → combined_of (joining p) s.number x.shares ≡ None → made ≡ combined_of (joining p) s.number new)
    → filters.hold_made sp (record x { shares = new }) n made ≡ filters.hear_share sp x o
share-heard p row sp speaks x None new made n ready number adds makes first = absurd (let no : ⊥ = cc in no)
share-heard p row sp speaks x (Some s) new made n ready number adds makes first =
    let is : s.number ≡ n = cc in
    subst (λ m. filters.hold_made sp (record x { shares = new }) m made ≡ filters.hear_share sp x (Some s)) is
    (elim (cases_Bool (filters.has_share x.shares s.number s.exec)) [
      | inl has ↦
          let old : new ≡ x.shares = adds ∙ (rw has refl) in
          let none : made ≡ None = makes ∙ (rw has refl) in
          rw (old, none, has) refl
      | inr new-one ↦
          let more : new ≡ x.shares ++ s ∷ [] = adds ∙ (rw new-one refl) in
          let y : Keeps = record x { shares = new } in
          let same : filters.hold_made sp y s.number made ≡ filters.hold_made sp y s.number (sp.combined s.number new) =
          elim (cases_Bool (is_some (sp.combined s.number x.shares))) [
            | inl made-before ↦ same-hold sp y s.number made (ready s.number made-before) ∙ sym (same-hold sp y s.number (sp.combined s.number new) (ready s.number made-before))
            | inr none ↦
                let first-of : combined_of (joining p) s.number x.shares ≡ None = sym (speaks.combined s.number x.shares) ∙ is-none (sp.combined s.number x.shares) none in
                ap (filters.hold_made sp y s.number) (first new-one first-of ∙ sym (speaks.combined s.number new))
          ] in
          same ∙ ap (λ (kept : List Share). filters.hold_made sp (record x { shares = kept }) s.number (sp.combined s.number kept)) more ∙ (rw new-one refl)
    ])
  where
    is-none : (made-of : Option (List ℕ)) → is_some made-of ≡ false → made-of ≡ None
    is-none None e = refl
    is-none (Some y) e = absurd (let no : ⊥ = cc in no)
