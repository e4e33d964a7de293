-- Records of fewer clients are records of more.
use Rattle.std.proofs.Common.{◌≡◌, ℕ, ◌≤◌, true, ◌&&◌, nat_lt, nat_le, List, [], ◌∷◌, length, refl, arith, rules, IsTrue}
use Rattle.std.specs.List.{list_all}
use Rattle.std.proofs.lemmas.Bool.{and_parts, and_from, ltb-true, lt-ltb}
use Rattle.fw_base.specs.declared.params.Params.{Params}
use Rattle.fw_base.specs.Sizes.{accepted}
use Rattle.fw_op.specs.declared.start.Start.{Start}
use Rattle.fw_store.specs.Store.{are_distinct}
use Rattle.fw_record.specs.Records.{start_fits, starts_fit}
use Rattle.fw_record.proofs.Texts.{fitting_of, fits_of}

all_below : (few more : ℕ) (cs : List ℕ) → few ≤ more → list_all (λ c. nat_lt c few) cs ≡ true → list_all (λ c. nat_lt c more) cs ≡ true
all_below few more [] le h = refl
all_below few more (c ∷ cs) le h =
    let both = and_parts (nat_lt c few) (list_all (λ c. nat_lt c few) cs) h in
    and_from _ _ (lt-ltb c more (omega (arith, ltb-true c few both.0, le))) (all_below few more cs le both.1)

fits_more : (few more : ℕ) (s : Start) → few ≤ more → start_fits few s ≡ true → start_fits more s ≡ true
fits_more few more s le h =
    let f = fitting_of few s h in
    fits_of more s (record { owner = lt-ltb s.owner more (omega (arith, ltb-true s.owner few f.owner, le)); key = f.key; value = f.value; readers = all_below few more s.readers le f.readers; up = f.up })

all_more : (few more : ℕ) (starts : List Start) → few ≤ more → list_all (start_fits few) starts ≡ true → list_all (start_fits more) starts ≡ true
all_more few more [] le h = refl
all_more few more (s ∷ starts) le h =
    let both = and_parts (start_fits few s) (list_all (start_fits few) starts) h in
    and_from _ _ (fits_more few more s le both.0) (all_more few more starts le both.1)

pub starts_fit_more : (few more : ℕ) (starts : List Start) → few ≤ more → starts_fit few starts ≡ true → starts_fit more starts ≡ true
starts_fit_more few more starts le h =
    let a = and_parts (nat_le (length starts) 256 && list_all (start_fits few) starts) (are_distinct starts) h in
    let b = and_parts (nat_le (length starts) 256) (list_all (start_fits few) starts) a.0 in
    and_from _ _ (and_from _ _ b.0 (all_more few more starts le b.1)) a.1

pub clients_most : (p : Params) → IsTrue (accepted p) → p.clients ≤ 8
clients_most p sizes = search rules
