-- What the plan of each document has.
use Rattle.std.proofs.Common.{◌≡◌, ℕ, ◌≤◌, zero, suc, arith, Bool, true, false, not, ◌&&◌, cond, nat_le, List, [], ◌∷◌, ◌++◌, length, Some, None, Less, Equal, Greater, slice_get, refl, sym, ap, ◌∙◌, append_assoc, codes}
use Rattle.std.proofs.lemmas.Bool.{and_parts, and_from, leb-true, le-leb, false≢true}
use Rattle.std.proofs.lemmas.List.Folds.{list_all-append}
use Rattle.std.proofs.lemmas.List.{append-nil}
use Rattle.std.specs.List.{list_all}
use Rattle.std.specs.Ordering.{is_eq}
use Rattle.std.specs.declared.cmp.Ordering.{Ordering}
use Rattle.toml.specs.Data.{Members}
use Rattle.fw_base.specs.declared.params.Params.{Params}
use Rattle.fw_base.specs.declared.seat.Seat.{Seat}
use Rattle.fw_op.specs.declared.start.Start.{Start}
use Rattle.fw_store.specs.Store.{name_cmp, name_of, is_other, are_distinct}
use Rattle.fw_store.proofs.Names.{equal-equal}
use Rattle.fw_record.specs.declared.limits.TheConstants.{MOST_RECORDS}
use Rattle.fw_record.specs.Records.{start_fits, is_new}
use Rattle.fw_step.specs.declared.step.Step.{Step}
use Rattle.fw_step.specs.Fitting.{step_fits}
use Rattle.fw_sched.specs.declared.plan.Plan.{Plan}
use Rattle.fw_sched.specs.Members.{fields, first_wrong, few_texts, texts_at, has}
use Rattle.fw_sched.specs.Reading.{Reads}
use Rattle.fw_sched.specs.Document.{IsDocument, IsRecord, IsStep}
use Rattle.fw_call.specs.Reasons.{IsPlan}

-- other names, the other way round
other_back : (a b : Start) → is_other (name_of a) b ≡ true → is_other (name_of b) a ≡ true
other_back a b h = by (name_cmp (name_of a) (name_of b)) refl
  where
    by : (o : Ordering) → name_cmp (name_of a) (name_of b) ≡ o → not (is_eq (name_cmp (name_of a) (name_of b))) ≡ true
    by Less e = ap (λ (o : Ordering). not (is_eq o)) e
    by Greater e = ap (λ (o : Ordering). not (is_eq o)) e
    by Equal e = absurd (false≢true (sym (ap (λ (o : Ordering). not (is_eq o)) (equal-equal (name_of a) (name_of b) e)) ∙ h))

-- a record of a new name may join
distinct_more : (before : List Start) (s : Start) → are_distinct before ≡ true → is_new before s ≡ true → are_distinct (before ++ s ∷ []) ≡ true
distinct_more [] s d n = refl
distinct_more (r ∷ rs) s d n =
    let both = and_parts (list_all (is_other (name_of r)) rs) (are_distinct rs) d in
    let new = and_parts (is_other (name_of s) r) (list_all (is_other (name_of s)) rs) n in
    and_from (list_all (is_other (name_of r)) (rs ++ s ∷ [])) (are_distinct (rs ++ s ∷ []))
    (list_all-append (is_other (name_of r)) rs (s ∷ []) ∙ and_from (list_all (is_other (name_of r)) rs) (is_other (name_of r) s && true) both.0 (and_from (is_other (name_of r) s) true (other_back s r new.0) refl))
    (distinct_more rs s both.1 new.1)

-- the records of a document fit, each of a name of its own, as many as there are texts
records_fit : (p : Params) (before : List Start) (texts : List (List ℕ)) (starts : List Start) → Reads (IsRecord p) before texts starts → are_distinct before ≡ true
    → (list_all (start_fits p.clients) starts ≡ true) × (are_distinct (before ++ starts) ≡ true) × (length starts ≡ length texts)
records_fit p before [] [] r d = (refl, ap are_distinct (append-nil before) ∙ d, refl)
records_fit p before [] (s ∷ starts) r d = absurd r
records_fit p before (t ∷ texts) [] r d = absurd r
records_fit p before (t ∷ texts) (s ∷ starts) r d =
    let rest = records_fit p (before ++ s ∷ []) texts starts r.1 (distinct_more before s d r.0.new) in (
      and_from (start_fits p.clients s) (list_all (start_fits p.clients) starts) r.0.fits rest.0,
      ap are_distinct (sym (append_assoc before (s ∷ []) starts)) ∙ rest.1,
      ap suc rest.2,
    )

-- and so do its steps
steps_fit : (p : Params) (faulty : List Seat) (before : List Step) (texts : List (List ℕ)) (steps : List Step) → Reads (IsStep p faulty) before texts steps → list_all (step_fits p faulty) steps ≡ true
steps_fit p faulty before [] [] r = refl
steps_fit p faulty before [] (s ∷ steps) r = absurd r
steps_fit p faulty before (t ∷ texts) [] r = absurd r
steps_fit p faulty before (t ∷ texts) (s ∷ steps) r =
    and_from (step_fits p faulty s) (list_all (step_fits p faulty) steps) r.0.fits (steps_fit p faulty (before ++ s ∷ []) texts steps r.1)

-- where no field is wrong, each is right
each_right : (fs : List (List ℕ × Bool)) → first_wrong fs ≡ None → (k : ℕ) (f : List ℕ × Bool) → slice_get fs k ≡ Some f → f.1 ≡ true
each_right [] none k f at = absurd (cc)
each_right (g ∷ fs) none zero f at = let same : g ≡ f = cc in first g.1 refl none ∙ refl
  where
    first : (b : Bool) → g.1 ≡ b → cond b (first_wrong fs) (Some g.0) ≡ None → f.1 ≡ true
    first true e n = ap (λ (x : List ℕ × Bool). x.1) (sym (let same : g ≡ f = cc in same)) ∙ e
    first false e n = absurd (cc)
each_right (g ∷ fs) none (suc k) f at = each_right fs (rest g.1 none) k f at
  where
    rest : (b : Bool) → cond b (first_wrong fs) (Some g.0) ≡ None → first_wrong fs ≡ None
    rest true n = n
    rest false n = absurd (cc)

few_records : (members : Members) (texts : List (List ℕ)) → first_wrong (fields members) ≡ None → texts_at members (codes "records") ≡ Some texts → length texts ≤ MOST_RECORDS
few_records members texts right at =
    let few : few_texts members (codes "records") MOST_RECORDS ≡ true = each_right (fields members) right 11 (codes "records", few_texts members (codes "records") MOST_RECORDS) refl in
    leb-true (length texts) MOST_RECORDS (sym (ap (has (λ (ts : List (List ℕ)). nat_le (length ts) MOST_RECORDS)) at) ∙ few)

-- the plan of a document
pub is_plan : (bytes : List ℕ) (p : Plan) → IsDocument bytes p → IsPlan p
is_plan bytes p d =
    let records = records_fit p.params [] d.head.records p.starts d.starts refl in
    let few : length p.starts ≤ MOST_RECORDS = (let texts = few_records d.members d.head.records d.says.right d.says.records in omega (arith, texts, records.2)) in
    record {
      sizes = d.sizes;
      starts = and_from (nat_le (length p.starts) MOST_RECORDS && list_all (start_fits p.params.clients) p.starts) (are_distinct p.starts)
          (and_from (nat_le (length p.starts) MOST_RECORDS) (list_all (start_fits p.params.clients) p.starts) (le-leb (length p.starts) MOST_RECORDS few) records.0) records.1;
      steps = steps_fit p.params p.faulty [] d.head.steps p.steps d.steps;
    }
